-- The links that an ordering gives: how many they are, and that each joins two distinct stations.
--   Clear P o xs     the stations satisfy P, no sink and no component alone stands twice, and no source is one of them
--   Joins P a b      a and b satisfy P and are distinct
--   links_count      there are p + (t - p) + q links, where there is a pair or a component alone
--   links_join       each link joins two distinct stations
-- The links are counted part by part: p - 1 rings, one chain link fewer than stations, and a back for each lone
-- source. The stations of the chain are without repeats where there is a pair; where there is none they are
-- x(1) .. x(q), x(1), and q is at least two. Assumes nothing.
use Prim.Native.Nat.{ℕ, ◌+◌, ◌-◌, ◌≤◌, min}
use mathlib.Core.Path.{◌≡◌, refl, sym, subst⁻¹}
use mathlib.Core.Logic.{◌⊎◌, inl, inr, ⊎_elim, ◌≢◌}
use mathlib.Core.List.Memᴰ
use mathlib.Core.List.{
  List,
  [],
  ◌∷◌,
  ◌++◌,
  map,
  Memᴰ as In,
}
use native.Mathlib.Omega.{arith}
use lib.Seq.{drop-nil}
use lib.ListN.{length, drop, length-append, length-drop, length-map}
use Rattle.rules.specs.Plan.{
  Couple,
  Ordering,
  Link,
  ring,
  chain,
  back,
  rings,
  chains,
  backs,
  last_sink,
  first_of,
  middle,
  stations,
  links,
}
use Rattle.theory.proofs.Ground.Counting.{Distinct, distinct_append, distinct_split, distinct_drop, drop_in}
use Rattle.theory.proofs.Planning.Augment.{Relation, Tied, Linked, paired_sources, paired_sinks}
use Rattle.theory.proofs.Planning.Augment.{sources_of, sinks_of}

-- p - 1 rings
rings_count : (cs : List Couple) → length (rings cs) ≡ length cs - 1
unfolding rings
rings_count [] = omega arith
rings_count (a ∷ []) = omega arith
rings_count (a ∷ b ∷ cs) = omega (arith, rings_count (b ∷ cs))

-- one chain link fewer than stations
chains_count : (zs : List ℕ) → length (chains zs) ≡ length zs - 1
unfolding chains
chains_count [] = omega arith
chains_count (a ∷ []) = omega arith
chains_count (a ∷ b ∷ cs) = omega (arith, chains_count (b ∷ cs))

-- a back for each place that both lists have
backs_count : (ws vs : List ℕ) → length (backs ws vs) ≡ min (length ws) (length vs)
unfolding backs
backs_count [] vs = omega arith
backs_count (w ∷ ws) [] = omega arith
backs_count (w ∷ ws) (v ∷ vs) = omega (arith, backs_count ws vs)

-- one last sink, where there is a pair
last_sink_count : (cs : List Couple) → length (last_sink cs) ≡ min 1 (length cs)
unfolding last_sink
last_sink_count [] = omega arith
last_sink_count (a ∷ []) = omega arith
last_sink_count (a ∷ b ∷ cs) = omega (arith, last_sink_count (b ∷ cs))

-- one first, where there is any
first_of_count : (zs : List ℕ) → length (first_of zs) ≡ min 1 (length zs)
unfolding first_of
first_of_count [] = omega arith
first_of_count (a ∷ zs) = omega arith

-- where there is a pair or a component alone, and no more lone sources than lone sinks: p + (t - p) + q links
pub links_count : (o : Ordering) (xs : List ℕ)
    → length o.lone_sources ≤ length o.lone_sinks
    → 1 ≤ length o.pairs + length xs
    → length (links o xs) ≡ length o.pairs + length o.lone_sinks + length xs
unfolding links
links_count o xs le some_one =
    simp
    (length-append, rings_count, chains_count, backs_count, last_sink_count, first_of_count, length-drop, length-map)
    (omega arith)

-- two distinct stations
abbrev pub Joins : (ℕ → Type 0) → Relation
Joins P a b = P a × P b × (a ≢ b)

-- links one after the other are tied where both lists are
tied_append : (R : Relation) (ks ls : List Link) → Tied R ks → Tied R ls → Tied R (ks ++ ls)
tied_append R ks ls f g l m = ⊎_elim (f l) (g l) (Memᴰ.append_cases ks m)

-- no links are tied
tied_none : (R : Relation) → Tied R []
tied_none R l m = absurd (Memᴰ.not-nil m)

-- a link before others is tied where it and they are
tied_cons : (R : Relation) (k : Link) (ls : List Link) → R k.start k.end → Tied R ls → Tied R (k ∷ ls)
tied_cons R k ls r f l m =
    ⊎_elim
    (λ (e : l ≡ k). subst⁻¹ (λ (j : Link). R j.start j.end) e r)
    (λ (n : In l ls). f l n)
    (Memᴰ.cases_cons m)

-- the rings are tied where each sink of a pair is related to each source of one
rings_tied : (R : Relation) (cs : List Couple)
    → ((c d : Couple) → In c cs → In d cs → R c.w d.v) → Tied R (rings cs)
unfolding rings
rings_tied R [] h = tied_none R
rings_tied R (a ∷ []) h = tied_none R
rings_tied R (a ∷ b ∷ cs) h =
    tied_cons R (record { start = a.w; end = b.v; why = ring }) (rings (b ∷ cs))
    (h a b (Memᴰ.head refl) (Memᴰ.tail (Memᴰ.head refl)))
    (rings_tied R (b ∷ cs) (λ c d m n. h c d (Memᴰ.tail m) (Memᴰ.tail n)))

-- the backs are tied where each lone sink is related to each lone source
backs_tied : (R : Relation) (ws vs : List ℕ) → ((w v : ℕ) → In w ws → In v vs → R w v) → Tied R (backs ws vs)
unfolding backs
backs_tied R [] vs h = tied_none R
backs_tied R (w ∷ ws) [] h = tied_none R
backs_tied R (w ∷ ws) (v ∷ vs) h =
    tied_cons R (record { start = w; end = v; why = back }) (backs ws vs)
    (h w v (Memᴰ.head refl) (Memᴰ.head refl))
    (backs_tied R ws vs (λ a b m n. h a b (Memᴰ.tail m) (Memᴰ.tail n)))

-- the chain is tied where its list of stations is linked
linked_chains : (R : Relation) (zs : List ℕ) → Linked R zs → Tied R (chains zs)
unfolding chains
linked_chains R [] h = tied_none R
linked_chains R (a ∷ []) h = tied_none R
linked_chains R (a ∷ b ∷ cs) h =
    tied_cons R (record { start = a; end = b; why = chain }) (chains (b ∷ cs)) h.0 (linked_chains R (b ∷ cs) h.1)

-- stations without repeats are linked by distinct steps
distinct_linked : (P : ℕ → Type 0) (zs : List ℕ) → ((z : ℕ) → In z zs → P z) → Distinct zs → Linked (Joins P) zs
distinct_linked P [] all d = tt
distinct_linked P (a ∷ []) all d = tt
distinct_linked P (a ∷ b ∷ cs) all d = (
  (all a (Memᴰ.head refl), all b (Memᴰ.tail (Memᴰ.head refl)), λ e. d.0 (Memᴰ.head e)),
  distinct_linked P (b ∷ cs) (λ z m. all z (Memᴰ.tail m)) d.1,
)

-- the last sink is one of the pairs' sinks
last_sink_in : {z : ℕ} (cs : List Couple) → In z (last_sink cs) → In z (map (λ (c : Couple). c.w) cs)
unfolding last_sink
last_sink_in [] m = m
last_sink_in (a ∷ []) m = m
last_sink_in (a ∷ b ∷ cs) m = Memᴰ.tail (last_sink_in (b ∷ cs) m)

-- the last sink is one only
last_sink_distinct : (cs : List Couple) → Distinct (last_sink cs)
unfolding last_sink
last_sink_distinct [] = tt
last_sink_distinct (a ∷ []) = (λ m. Memᴰ.not-nil m, tt)
last_sink_distinct (a ∷ b ∷ cs) = last_sink_distinct (b ∷ cs)

-- the stations of an ordering as the rule wants them
pub record Clear (P : ℕ → Type 0) (o : Ordering) (xs : List ℕ) : Type 0 where
  pub source_in : (z : ℕ) → In z (sources_of o) → P z
  pub sink_in : (z : ℕ) → In z (sinks_of o) → P z
  pub alone_in : (z : ℕ) → In z xs → P z
  pub sinks_once : Distinct (sinks_of o)
  pub alone_once : Distinct xs
  pub source_no_sink : (z : ℕ) → In z (sources_of o) → In z (sinks_of o) → ⊥
  pub source_not_alone : (z : ℕ) → In z (sources_of o) → In z xs → ⊥
  pub sink_not_alone : (z : ℕ) → In z (sinks_of o) → In z xs → ⊥

-- what the rule wants, besides: a pair, or no lone sink and two components alone
abbrev pub Enough : Ordering → List ℕ → Type 0
Enough o xs = (1 ≤ length o.pairs) ⊎ ((o.lone_sinks ≡ []) × (2 ≤ length xs))

-- then there is a pair or a component alone
pub enough_one : (o : Ordering) (xs : List ℕ) → Enough o xs → 1 ≤ length o.pairs + length xs
enough_one o xs (inl one) = omega arith
enough_one o xs (inr h) = omega arith

-- an ordering of given parts
abbrev ordered : List Couple → List ℕ → List ℕ → Ordering
ordered cs vs ws = record { pairs = cs; lone_sources = vs; lone_sinks = ws }

module _ (P : ℕ → Type 0) (cs : List Couple) (vs ws xs : List ℕ) (k : Clear P (ordered cs vs ws) xs) where
  -- the stations up to the first source
  abbrev front : List ℕ
  front = last_sink cs ++ (drop (length vs) ws ++ xs)

  -- a surplus sink is a lone sink
  surplus_in : {z : ℕ} → In z (drop (length vs) ws) → In z ws
  surplus_in m = drop_in (length vs) ws m

  -- each station up to the first source is a sink or alone
  front_in : {z : ℕ} → In z front → In z (sinks_of (ordered cs vs ws)) ⊎ In z xs
  front_in {z} m =
      ⊎_elim
      (λ (n : In z (last_sink cs)). inl (Memᴰ.append_left ws (last_sink_in cs n)))
      (λ (n : In z (drop (length vs) ws ++ xs)). after n)
      (Memᴰ.append_cases (last_sink cs) m)
    where
      after : In z (drop (length vs) ws ++ xs) → In z (sinks_of (ordered cs vs ws)) ⊎ In z xs
      after n =
          ⊎_elim
          (λ (i : In z (drop (length vs) ws)). inl (Memᴰ.append_right (map (λ (c : Couple). c.w) cs) (surplus_in i)))
          (λ (i : In z xs). inr i)
          (Memᴰ.append_cases (drop (length vs) ws) n)

  -- the stations up to the first source are without repeats
  front_distinct : Distinct front
  front_distinct =
      distinct_append (last_sink cs) (drop (length vs) ws ++ xs) (last_sink_distinct cs)
      (distinct_append (drop (length vs) ws) xs (distinct_drop (length vs) ws once.1) k.alone_once apart)
      (λ z m n. ⊎_elim (λ (i : In z (drop (length vs) ws)). once.2 z (last_sink_in cs m) (surplus_in i))
      (λ (i : In z xs). k.sink_not_alone z (Memᴰ.append_left ws (last_sink_in cs m)) i)
      (Memᴰ.append_cases (drop (length vs) ws) n))
    where
      paired : List ℕ
      paired = map (λ (c : Couple). c.w) cs

      once : Distinct paired × Distinct ws × ((z : ℕ) → In z paired → In z ws → ⊥)
      once = distinct_split paired ws k.sinks_once

      apart : (z : ℕ) → In z (drop (length vs) ws) → In z xs → ⊥
      apart z m n = k.sink_not_alone z (Memᴰ.append_right paired (surplus_in m)) n

  -- the stations up to the first source, and a source, are linked by distinct steps
  front_linked : {v : ℕ} → In v (sources_of (ordered cs vs ws)) → Linked (Joins P) (front ++ (v ∷ []))
  front_linked {v} i =
      distinct_linked P (front ++ (v ∷ [])) all (distinct_append front (v ∷ []) front_distinct one apart)
    where
      one : Distinct (v ∷ [])
      one = (λ m. Memᴰ.not-nil m, tt)

      apart : (z : ℕ) → In z front → In z (v ∷ []) → ⊥
      apart z m n =
          let source : In z (sources_of (ordered cs vs ws)) = Memᴰ.cast (Memᴰ.eq_of_singleton n) i in
          ⊎_elim (k.source_no_sink z source) (k.source_not_alone z source) (front_in m)

      all : (z : ℕ) → In z (front ++ (v ∷ [])) → P z
      all z m =
          ⊎_elim
          (λ (n : In z front). ⊎_elim (k.sink_in z) (k.alone_in z) (front_in n))
          (λ (n : In z (v ∷ [])). k.source_in z (Memᴰ.cast (Memᴰ.eq_of_singleton n) i))
          (Memᴰ.append_cases front m)

-- two components alone or more, and the first again, are linked by distinct steps
alone_linked : (P : ℕ → Type 0) (xs : List ℕ) → ((z : ℕ) → In z xs → P z) → Distinct xs → 2 ≤ length xs
    → Linked (Joins P) (xs ++ first_of xs)
unfolding first_of
alone_linked P [] all d two = tt
alone_linked P (x ∷ []) all d two = absurd (omega arith)
alone_linked P (x ∷ y ∷ zs) all d two = (
  (all x (Memᴰ.head refl), all y (Memᴰ.tail (Memᴰ.head refl)), λ e. d.0 (Memᴰ.head e)),
  distinct_linked P (y ∷ zs ++ (x ∷ [])) again
      (distinct_append (y ∷ zs) (x ∷ []) d.1 (λ m. Memᴰ.not-nil m, tt)
      (λ z m n. d.0 (Memᴰ.cast (sym (Memᴰ.eq_of_singleton n)) m))),
)
  where
    again : (z : ℕ) → In z (y ∷ zs ++ (x ∷ [])) → P z
    again z m =
        ⊎_elim
        (λ (n : In z (y ∷ zs)). all z (Memᴰ.tail n))
        (λ (n : In z (x ∷ [])). all z (Memᴰ.head (Memᴰ.eq_of_singleton n)))
        (Memᴰ.append_cases (y ∷ zs) m)

-- the stations of the chain are linked by distinct steps
stations_linked : (P : ℕ → Type 0) (cs : List Couple) (vs ws xs : List ℕ)
    → Clear P (ordered cs vs ws) xs
    → Enough (ordered cs vs ws) xs
    → Linked (Joins P) (stations (ordered cs vs ws) xs)
unfolding stations middle first_of
stations_linked P (c ∷ cs) vs ws xs k enough = front_linked P (c ∷ cs) vs ws xs k (Memᴰ.head refl)
stations_linked P [] vs ws xs k (inl some_pair) = absurd (omega arith)
stations_linked P [] vs ws xs k (inr h) =
    rw (h.0, drop-nil (length vs)) (alone_linked P xs k.alone_in k.alone_once h.1)

-- each link of an ordering joins two distinct stations
pub links_join : (P : ℕ → Type 0) (o : Ordering) (xs : List ℕ)
    → Clear P o xs → Enough o xs → Tied (Joins P) (links o xs)
unfolding links
links_join P o xs k enough =
    tied_append (Joins P) (rings o.pairs) (chains (stations o xs) ++ backs o.lone_sinks o.lone_sources)
    (rings_tied (Joins P) o.pairs (λ c d m n. apart (sink_of m) (source_of n)))
    (tied_append (Joins P) (chains (stations o xs)) (backs o.lone_sinks o.lone_sources)
    (linked_chains (Joins P) (stations o xs)
    (stations_linked P o.pairs o.lone_sources o.lone_sinks xs k enough))
    (backs_tied (Joins P) o.lone_sinks o.lone_sources
    (λ w v m n. apart (Memᴰ.append_right (paired_sinks o) m) (Memᴰ.append_right (paired_sources o) n))))
  where
    apart : {w v : ℕ} → In w (sinks_of o) → In v (sources_of o) → Joins P w v
    apart {w} {v} i j = (k.sink_in w i, k.source_in v j, λ e. k.source_no_sink v j (Memᴰ.cast (sym e) i))

    sink_of : {c : Couple} → In c o.pairs → In c.w (sinks_of o)
    sink_of m = Memᴰ.append_left o.lone_sinks (Memᴰ.map (λ (c : Couple). c.w) m)

    source_of : {c : Couple} → In c o.pairs → In c.v (sources_of o)
    source_of m = Memᴰ.append_left o.lone_sources (Memᴰ.map (λ (c : Couple). c.v) m)
