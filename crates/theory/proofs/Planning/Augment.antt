-- Augmentation, stated once: an ordering with document 000's properties (1) to (3), whose links' ends are related by a
-- reflexive, transitive relation, has all its sources, sinks and middle stations on one round trip.
--   sources_of o, sinks_of o   all sources and all sinks of the ordering o, those of its pairs first
--   Properties R o   document 000's properties (1) to (3) of o, with "related by R" for "there is a path"
--   Tied R ls        the start of every link of ls is related to its end
--   Joined R o ms    the links of o through the middle stations ms, in any order, are tied
--   Aboard o ms z    z is a source or a sink of o, or one of the middle stations ms
--   augmentation     any two that are aboard are related;   links_joined   the plan rule's links join their ordering
-- Idea: the route, the middle stations and v(1) again, or without a pair the middle stations and the first of them
-- again, is one list in which every station is related to the next, so any two of it are related. A lone source is
-- related to a paired sink by (2), a lone sink from a paired source by (3), and `backs` lead from lone sinks to the
-- lone sources. The relation is reach, its converse for a network turned round, or reach by other ends of the links.
-- Assumes nothing.
use Prim.Native.Nat.{ℕ, ◌≤◌}
use mathlib.Core.Path.{◌≡◌, refl}
use mathlib.Core.Logic.{◌⊎◌, inl, inr, ⊎_elim}
use mathlib.Core.List.Memᴰ
use mathlib.Core.List.{
  List,
  [],
  ◌∷◌,
  ◌++◌,
  map,
  append_assoc,
  Memᴰ as In,
}
use native.Mathlib.Omega.{arith}
use lib.ListN.{length, take, drop, take-append-drop}
use Rattle.rules.specs.Plan.{
  Couple,
  Ordering,
  Link,
  rings,
  chains,
  backs,
  last_sink,
  first_of,
  middle,
  stations,
  links,
}

-- a relation between zones
abbrev pub Relation : Type 1
Relation = ℕ → ℕ → Type 0

-- v(1), v(2), .. of the pairs
abbrev pub paired_sources : Ordering → List ℕ
paired_sources o = map (λ (c : Couple). c.v) o.pairs

-- w(1), w(2), .. of the pairs
abbrev pub paired_sinks : Ordering → List ℕ
paired_sinks o = map (λ (c : Couple). c.w) o.pairs

-- all sources of an ordering: v(1) .. v(s)
abbrev pub sources_of : Ordering → List ℕ
sources_of o = paired_sources o ++ o.lone_sources

-- all sinks of an ordering: w(1) .. w(t)
abbrev pub sinks_of : Ordering → List ℕ
sinks_of o = paired_sinks o ++ o.lone_sinks

-- document 000's properties of an ordering: (1) `paired`, (2) `lone_source` and (3) `lone_sink`
pub record Properties (R : Relation) (o : Ordering) : Type 0 where
  pub paired : (c : Couple) → In c o.pairs → R c.v c.w
  pub lone_source : (v : ℕ) → In v o.lone_sources → (w : ℕ) × In w (paired_sinks o) × R v w
  pub lone_sink : (w : ℕ) → In w o.lone_sinks → (v : ℕ) × In v (paired_sources o) × R v w

-- the properties hold of a wider relation too
pub properties_more : {R S : Relation} {o : Ordering} → ((a b : ℕ) → R a b → S a b) → Properties R o → Properties S o
properties_more wider k = record {
  paired = λ c m. wider c.v c.w (k.paired c m);
  lone_source = λ v m. ((k.lone_source v m).0, (k.lone_source v m).1, wider v _ (k.lone_source v m).2);
  lone_sink = λ w m. ((k.lone_sink w m).0, (k.lone_sink w m).1, wider _ w (k.lone_sink w m).2);
}

-- the start of every link is related to its end
abbrev pub Tied : Relation → List Link → Type 0
Tied R ls = (l : Link) → In l ls → R l.start l.end

-- every station is related to the next
abbrev pub Linked : Relation → List ℕ → Type 0
Linked R [] = Unit {0}
Linked R (a ∷ []) = Unit {0}
Linked R (a ∷ b ∷ cs) = R a b × Linked R (b ∷ cs)

-- the pairs' sources and sinks as one list: v(1), w(1), v(2), w(2), ..
abbrev pub route : List Couple → List ℕ
route [] = []
route (c ∷ cs) = c.v ∷ c.w ∷ route cs

-- what the round trip takes in: the ordering's sources, its sinks, and the middle stations
pub data Aboard (o : Ordering) (ms : List ℕ) (z : ℕ) : Type 0 where
  a_source : In z (sources_of o) → Aboard o ms z
  a_sink : In z (sinks_of o) → Aboard o ms z
  a_station : In z ms → Aboard o ms z

-- the pairs' sources are on the route
route_source : {z : ℕ} (cs : List Couple) → In z (map (λ (c : Couple). c.v) cs) → In z (route cs)
route_source [] m = m
route_source {z} (d ∷ ds) m =
    ⊎_elim
    (λ (e : z ≡ d.v). Memᴰ.head e)
    (λ n. Memᴰ.tail (Memᴰ.tail (route_source ds n)))
    (Memᴰ.cases_cons m)

-- the pairs' sinks are on the route
route_sink : {z : ℕ} (cs : List Couple) → In z (map (λ (c : Couple). c.w) cs) → In z (route cs)
route_sink [] m = m
route_sink {z} (d ∷ ds) m =
    ⊎_elim
    (λ (e : z ≡ d.w). Memᴰ.tail (Memᴰ.head e))
    (λ n. Memᴰ.tail (Memᴰ.tail (route_sink ds n)))
    (Memᴰ.cases_cons m)

-- the trip's first station: the first pair's source, or the first of the middle stations where there is no pair
route_first : (cs : List Couple) (ms : List ℕ) →
    first_of (map (λ (c : Couple). c.v) cs ++ ms) ≡ first_of (route cs ++ ms)
unfolding first_of
route_first [] ms = refl
route_first (c ∷ cs) ms = refl

module _ (R : Relation) where
  -- a list of stations is linked where its chain is tied
  chain_linked : (xs : List ℕ) → Tied R (chains xs) → Linked R xs
  unfolding chains
  chain_linked [] t = tt
  chain_linked (a ∷ []) t = tt
  chain_linked (a ∷ b ∷ cs) t =
      (t _ (Memᴰ.head refl), chain_linked (b ∷ cs) (λ l m. t l (Memᴰ.tail m)))

  -- the route and what the chain goes on to are linked
  route_linked :
      (cs : List Couple) (ss : List ℕ) → ((c : Couple) → In c cs → R c.v c.w) → Tied R (rings cs) →
      Tied R (chains (last_sink cs ++ ss)) → Linked R (route cs ++ ss)
  unfolding rings last_sink
  route_linked [] ss p r t = chain_linked ss t
  route_linked (c ∷ []) ss p r t = (p c (Memᴰ.head refl), chain_linked (c.w ∷ ss) t)
  route_linked (c ∷ d ∷ ds) ss p r t =
      let rest : Linked R (route (d ∷ ds) ++ ss) =
      route_linked (d ∷ ds) ss (λ e m. p e (Memᴰ.tail m)) (λ l m. r l (Memᴰ.tail m)) t in
      (p c (Memᴰ.head refl), (r _ (Memᴰ.head refl), rest))

  -- what follows the first of a linked list is linked
  linked_tail : (a : ℕ) (xs : List ℕ) → Linked R (a ∷ xs) → Linked R xs
  linked_tail a [] h = tt
  linked_tail a (b ∷ cs) h = h.1

  -- to every lone source a lone sink is related, where there are no fewer of these
  back_source : (ws vs : List ℕ) → length vs ≤ length ws → Tied R (backs ws vs) →
      {v : ℕ} → In v vs → (w : ℕ) × In w ws × R w v
  unfolding backs
  back_source [] [] le t m = absurd (Memᴰ.not-nil m)
  back_source [] (b ∷ vs) le t m = absurd (omega arith)
  back_source (a ∷ ws) [] le t m = absurd (Memᴰ.not-nil m)
  back_source (a ∷ ws) (b ∷ vs) le t {v} m =
      ⊎_elim
      (λ (e : v ≡ b). (a, Memᴰ.head refl, rw e (t _ (Memᴰ.head refl))))
      (λ n.
      let r : (w : ℕ) × In w ws × R w v = back_source ws vs (omega arith) (λ l k. t l (Memᴰ.tail k)) n in
      (r.0, Memᴰ.tail r.1, r.2))
      (Memᴰ.cases_cons m)

  -- every lone sink within the number of lone sources is related to one of these
  back_sink : (ws vs : List ℕ) → Tied R (backs ws vs) →
      {w : ℕ} → In w (take (length vs) ws) → (v : ℕ) × In v vs × R w v
  unfolding backs
  back_sink [] [] t m = absurd (Memᴰ.not-nil m)
  back_sink [] (b ∷ vs) t m = absurd (Memᴰ.not-nil m)
  back_sink (a ∷ ws) [] t m = absurd (Memᴰ.not-nil m)
  back_sink (a ∷ ws) (b ∷ vs) t {w} m =
      ⊎_elim
      (λ (e : w ≡ a). (b, Memᴰ.head refl, rw e (t _ (Memᴰ.head refl))))
      (λ n.
      let r : (v : ℕ) × In v vs × R w v = back_sink ws vs (λ l k. t l (Memᴰ.tail k)) n in
      (r.0, Memᴰ.tail r.1, r.2))
      (Memᴰ.cases_cons m)

module _ (R : Relation) (R_refl : (a : ℕ) → R a a) (R_trans : (a b c : ℕ) → R a b → R b c → R a c) where
  -- the first of a linked list is related to each of it
  linked_from : (a : ℕ) (xs : List ℕ) → Linked R (a ∷ xs) → {x : ℕ} → In x (a ∷ xs) → R a x
  linked_from a [] h {x} m = rw (Memᴰ.eq_of_singleton m) (R_refl a)
  linked_from a (b ∷ cs) h {x} m =
      ⊎_elim
      (λ (e : x ≡ a). rw e (R_refl a))
      (λ n. R_trans a b x h.0 (linked_from b cs h.1 n))
      (Memᴰ.cases_cons m)

  -- each of a linked list is related to the last
  linked_to : (xs : List ℕ) (z : ℕ) → Linked R (xs ++ (z ∷ [])) → {x : ℕ} → In x xs → R x z
  linked_to [] z h m = absurd (Memᴰ.not-nil m)
  linked_to (a ∷ xs) z h {x} m =
      let last : In z (a ∷ (xs ++ (z ∷ []))) = Memᴰ.tail (Memᴰ.append_right xs (Memᴰ.head refl)) in
      ⊎_elim
      (λ (e : x ≡ a). rw e (linked_from a (xs ++ (z ∷ [])) h last))
      (λ n. linked_to xs z (linked_tail R a (xs ++ (z ∷ [])) h) n)
      (Memᴰ.cases_cons m)

  -- any two stations of a linked list that comes back to its first are related
  trip_related : (xs : List ℕ) → Linked R (xs ++ first_of xs) → {x y : ℕ} → In x xs → In y xs → R x y
  unfolding first_of
  trip_related [] h m n = absurd (Memᴰ.not-nil m)
  trip_related (a ∷ xs) h {x} {y} m n =
      R_trans x a y
      (linked_to (a ∷ xs) a h m)
      (linked_from a (xs ++ (a ∷ [])) h (Memᴰ.append_left (a ∷ []) n))

-- the links of an ordering with these middle stations are there: `ring`, `chain` and `back` have related ends; the
-- middle takes in the `surplus` sinks; and there are `enough` sinks, as many as sources or more
pub record Joined (R : Relation) (o : Ordering) (ms : List ℕ) : Type 0 where
  pub ring : Tied R (rings o.pairs)
  pub chain : Tied R (chains (last_sink o.pairs ++ ms ++ first_of (paired_sources o ++ ms)))
  pub back : Tied R (backs o.lone_sinks o.lone_sources)
  pub surplus : (w : ℕ) → In w (drop (length o.lone_sources) o.lone_sinks) → In w ms
  pub enough : length o.lone_sources ≤ length o.lone_sinks

-- the chain of `links` comes back to the first of its own stations: without a pair there is no lone sink either
middle_first : (R : Relation) (cs : List Couple) (vs ws xs : List ℕ) →
    ((w : ℕ) → In w ws → (v : ℕ) × In v (map (λ (c : Couple). c.v) cs) × R v w) →
    first_of (map (λ (c : Couple). c.v) cs ++ xs) ≡
    first_of (map (λ (c : Couple). c.v) cs ++ (drop (length vs) ws ++ xs))
unfolding first_of
middle_first R [] [] [] xs p = refl
middle_first R [] (v ∷ vs) [] xs p = refl
middle_first R [] vs (w ∷ ws) xs p = absurd (Memᴰ.not-nil (p w (Memᴰ.head refl)).1)
middle_first R (c ∷ cs) vs ws xs p = refl

-- the first part of tied links is tied
tied_left : (R : Relation) (ks ls : List Link) → Tied R (ks ++ ls) → Tied R ks
tied_left R ks ls t l m = t l (Memᴰ.append_left ls m)

-- the second part of tied links is tied
tied_right : (R : Relation) (ks ls : List Link) → Tied R (ks ++ ls) → Tied R ls
tied_right R ks ls t l m = t l (Memᴰ.append_right ks m)

-- where the plan rule's links have related ends, the ordering is joined with the plan rule's middle stations
pub links_joined : (R : Relation) (o : Ordering) (xs : List ℕ) → Properties R o →
    length o.lone_sources ≤ length o.lone_sinks → Tied R (links o xs) → Joined R o (middle o xs)
unfolding links stations middle
links_joined R o xs known enough tied =
    let back_links : List Link = backs o.lone_sinks o.lone_sources in
    let later : Tied R (chains (stations o xs) ++ back_links) =
    tied_right R (rings o.pairs) (chains (stations o xs) ++ back_links) tied in
    record {
      ring = tied_left R (rings o.pairs) (chains (stations o xs) ++ back_links) tied;
      chain =
          rw (middle_first R o.pairs o.lone_sources o.lone_sinks xs known.lone_sink) at
          (tied_left R (chains (stations o xs)) back_links later);
      back = tied_right R (chains (stations o xs)) back_links later;
      surplus = λ w m. Memᴰ.append_left xs m;
      enough = enough;
    }

-- the round trip: the pairs' sources and sinks, and the middle stations
abbrev trip : Ordering → List ℕ → List ℕ
trip o ms = route o.pairs ++ ms

module _ (R : Relation) (R_refl : (a : ℕ) → R a a) (R_trans : (a b c : ℕ) → R a b → R b c → R a c)
    (o : Ordering) (ms : List ℕ) (known : Properties R o) (joined : Joined R o ms) where
  -- any two stations of the round trip are related
  trip_round : {x y : ℕ} → In x (trip o ms) → In y (trip o ms) → R x y
  trip_round {x} {y} m n =
      let closed : List ℕ = first_of (paired_sources o ++ ms) in
      let tied : Tied R (chains (last_sink o.pairs ++ (ms ++ closed))) =
      rw (append_assoc (last_sink o.pairs) ms closed) at joined.chain in
      let linked : Linked R (route o.pairs ++ (ms ++ closed)) =
      route_linked R o.pairs (ms ++ closed) known.paired joined.ring tied in
      let round : Linked R (trip o ms ++ first_of (trip o ms)) =
      rw (← route_first o.pairs ms, append_assoc (route o.pairs) ms closed) linked in
      trip_related R R_refl R_trans (trip o ms) round m n

  -- a pair's source is on the round trip
  trip_source : {z : ℕ} → In z (paired_sources o) → In z (trip o ms)
  trip_source m = Memᴰ.append_left ms (route_source o.pairs m)

  -- a pair's sink is on the round trip
  trip_sink : {z : ℕ} → In z (paired_sinks o) → In z (trip o ms)
  trip_sink m = Memᴰ.append_left ms (route_sink o.pairs m)

  -- a middle station is on the round trip
  trip_station : {z : ℕ} → In z ms → In z (trip o ms)
  trip_station m = Memᴰ.append_right (route o.pairs) m

  -- a lone sink has a lone source of its place, or is a middle station
  sink_cases : {w : ℕ} → In w o.lone_sinks →
      In w (take (length o.lone_sources) o.lone_sinks) ⊎ In w ms
  sink_cases {w} m =
      let count : ℕ = length o.lone_sources in
      let split : In w (take count o.lone_sinks ++ drop count o.lone_sinks) =
      rw (take-append-drop count o.lone_sinks) m in
      ⊎_elim
      (λ (k : In w (take count o.lone_sinks)). inl k)
      (λ k. inr (joined.surplus w k))
      (Memᴰ.append_cases (take count o.lone_sinks) split)

  -- a lone source is related to a station of the round trip
  source_onto : {v : ℕ} → In v o.lone_sources → (y : ℕ) × In y (trip o ms) × R v y
  source_onto {v} m =
      let r : (w : ℕ) × In w (paired_sinks o) × R v w = known.lone_source v m in
      (r.0, trip_sink r.1, r.2)

  -- a lone sink is related to a station of the round trip
  sink_onto : {w : ℕ} → In w o.lone_sinks → (y : ℕ) × In y (trip o ms) × R w y
  sink_onto {w} m = ⊎_elim back (λ (k : In w ms). (w, trip_station k, R_refl w)) (sink_cases m)
    where
      back : In w (take (length o.lone_sources) o.lone_sinks) → (y : ℕ) × In y (trip o ms) × R w y
      back k =
          let b : (v : ℕ) × In v o.lone_sources × R w v =
          back_sink R o.lone_sinks o.lone_sources joined.back k in
          let r : (y : ℕ) × In y (trip o ms) × R b.0 y = source_onto b.1 in
          (r.0, r.1, R_trans w b.0 r.0 b.2 r.2)

  -- whoever is aboard is related to a station of the round trip
  aboard_onto : {z : ℕ} → Aboard o ms z → (y : ℕ) × In y (trip o ms) × R z y
  aboard_onto {z} (a_source m) =
      ⊎_elim
      (λ (k : In z (paired_sources o)). (z, trip_source k, R_refl z))
      source_onto
      (Memᴰ.append_cases (paired_sources o) m)
  aboard_onto {z} (a_sink m) =
      ⊎_elim
      (λ (k : In z (paired_sinks o)). (z, trip_sink k, R_refl z))
      sink_onto
      (Memᴰ.append_cases (paired_sinks o) m)
  aboard_onto {z} (a_station m) = (z, trip_station m, R_refl z)

  -- every station of the round trip is related to every lone sink
  trip_to_sink : {x w : ℕ} → In x (trip o ms) → In w o.lone_sinks → R x w
  trip_to_sink {x} {w} n m =
      let r : (v : ℕ) × In v (paired_sources o) × R v w = known.lone_sink w m in
      R_trans x r.0 w (trip_round n (trip_source r.1)) r.2

  -- every station of the round trip is related to every lone source
  trip_to_source : {x v : ℕ} → In x (trip o ms) → In v o.lone_sources → R x v
  trip_to_source {x} {v} n m =
      let b : (w : ℕ) × In w o.lone_sinks × R w v =
      back_source R o.lone_sinks o.lone_sources joined.enough joined.back m in
      R_trans x b.0 v (trip_to_sink n b.1) b.2

  -- every station of the round trip is related to whoever is aboard
  trip_to_aboard : {x z : ℕ} → In x (trip o ms) → Aboard o ms z → R x z
  trip_to_aboard {x} {z} n (a_source m) =
      ⊎_elim
      (λ (k : In z (paired_sources o)). trip_round n (trip_source k))
      (trip_to_source n)
      (Memᴰ.append_cases (paired_sources o) m)
  trip_to_aboard {x} {z} n (a_sink m) =
      ⊎_elim
      (λ (k : In z (paired_sinks o)). trip_round n (trip_sink k))
      (trip_to_sink n)
      (Memᴰ.append_cases (paired_sinks o) m)
  trip_to_aboard n (a_station m) = trip_round n (trip_station m)

  -- augmentation: any two of the ordering's sources, sinks and middle stations are related
  pub augmentation : {a b : ℕ} → Aboard o ms a → Aboard o ms b → R a b
  augmentation {a} {b} m n =
      let r : (y : ℕ) × In y (trip o ms) × R a y = aboard_onto m in
      R_trans a r.0 b r.2 (trip_to_aboard r.1 n)
