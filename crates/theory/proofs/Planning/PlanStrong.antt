-- With the plan's links added every zone reaches every zone.
--   pairing_properties   document 000's properties (1) to (3) hold of the ordering of a network
--   pairs_some           there is a pair where there is a source
--   upright_closes       where the links of the rule for s ≤ t have related ends, any two zones are related
--   plan_of_strong, plan_of_upright, plan_of_turned   the plan in each of its three cases
--   plan_strong          the network with its plan's links is strong
-- Idea: every zone reaches a sink or a component alone, and is reached from a source or a component alone; these are
-- all on the round trip of `augmentation`. Where the rule runs on the turned network, the relation is the converse.
-- Assumes nothing.
use Prim.Native.Nat.{ℕ, ◌≤◌}
use mathlib.Core.Path.{◌≡◌, refl, ap, ap₂}
use mathlib.Core.Bool.{Bool, true, false}
use mathlib.Core.Logic.{inl, inr}
use mathlib.Core.List.Memᴰ
use mathlib.Core.List.{List, [], ◌∷◌, map, Memᴰ as In}
use native.Mathlib.Omega.{arith}
use borrow.Author.Tests.{leb-true, leb-false}
use lib.ListN.{length, drop}
use Rattle.rules.specs.Network.{◌⟶◌, Network, Proper, Reach, same, step, Strong, reaches, strong}
use Rattle.rules.specs.Components.{sources, sinks, alone}
use Rattle.rules.specs.Plan.{Link, middle, turned, turned_link, is_upright, upright, ordering, upright_plan, with_links}
use Rattle.rules.specs.Plan.{plan}
use Rattle.theory.proofs.Ground.Bools.{bool_cases}
use Rattle.theory.proofs.Ground.Lists.{in_map}
use Rattle.theory.proofs.Reaching.Reach.{reach_arc, reach_refl, reach_trans, reaches_sound, reaches_complete}
use Rattle.theory.proofs.Reaching.Reach.{strong_sound}
use Rattle.theory.proofs.Reaching.Turned.{turned_proper, turned_reach, turned_sources, turned_sinks}
use Rattle.theory.proofs.Reaching.KindCounts.{source_to_sink, sink_from_source}
use Rattle.theory.proofs.Reaching.KindLaws.{end_kind, start_kind}
use Rattle.theory.proofs.Reaching.Down.{down, up}
use Rattle.theory.proofs.Ground.Shuffled.{shuffled_in, in_shuffled}
use Rattle.theory.proofs.Planning.Augment.{
  Relation,
  Properties,
  properties_more,
  Tied,
  Aboard,
  a_source,
  a_sink,
  a_station,
  augmentation,
  links_joined,
}
use Rattle.theory.proofs.Planning.Pairing.{
  Made,
  pairing_made,
  made_sources,
  made_sinks,
  made_fits,
  made_source_count,
  made_sink_count,
  made_some,
}

-- links added take no reach away
pub links_keep : {N : Network} {a b : ℕ} (ls : List Link) → Reach N a b → Reach (with_links N ls) a b
links_keep ls (same e) = same e
links_keep ls (step m r) = step (Memᴰ.append_left _ m) (links_keep ls r)

-- the start of a link that is added reaches its end
pub links_tied : (N : Network) (ls : List Link) → Tied (Reach (with_links N ls)) ls
links_tied N ls l m = reach_arc (Memᴰ.append_right N.arcs (in_map (λ (k : Link). k.start ⟶ k.end) m))

-- a list with an element or more has one
some_in : (xs : List ℕ) → 1 ≤ length xs → (x : ℕ) × In x xs
some_in [] h = absurd (omega arith)
some_in (x ∷ xs) h = (x, In.head refl)

module _ {N : Network} (P : Proper N) where
  -- every source reaches some sink, by the test
  pub source_down : (v : ℕ) → In v (sources N) → (w : ℕ) × In w (sinks N) × (reaches N v w ≡ true)
  source_down v m = let d = source_to_sink P m in (d.0, d.1, reaches_complete P d.2)

  -- every sink is reached from some source, by the test
  pub sink_up : (w : ℕ) → In w (sinks N) → (v : ℕ) × In v (sources N) × (reaches N v w ≡ true)
  sink_up w m = let u = sink_from_source P m in (u.0, u.1, reaches_complete P u.2)

  -- the ordering of a network is made by the rule's points 1 and 2
  pub ordering_made : Made (reaches N) (sources N) (sinks N) (ordering N)
  unfolding ordering
  ordering_made = pairing_made (reaches N) (sources N) (sinks N)

  -- document 000's properties (1) to (3) hold of the ordering of a network
  pub pairing_properties : Properties (Reach N) (ordering N)
  pairing_properties =
      properties_more (reaches_sound N) (made_fits (reaches N) ordering_made source_down sink_up)

  -- there is a pair where there is a source
  pub pairs_some : 1 ≤ length (sources N) → 1 ≤ length (ordering N).pairs
  pairs_some h = made_some (reaches N) ordering_made source_down (some_in (sources N) h).1

  -- as many sinks stay without a source as sources without a sink, or more, where s ≤ t
  lone_enough : length (sources N) ≤ length (sinks N) →
      length (ordering N).lone_sources ≤ length (ordering N).lone_sinks
  lone_enough h =
      let s = made_source_count (reaches N) ordering_made in
      let t = made_sink_count (reaches N) ordering_made in
      omega arith

-- a zone is on the round trip of the plan of N, for s ≤ t
abbrev OnTrip : Network → ℕ → Type 0
OnTrip N z = Aboard (ordering N) (middle (ordering N) (alone N)) z

module _ {N : Network} (P : Proper N) where
  -- components alone are on the round trip
  trip_alone : {c : ℕ} → In c (alone N) → OnTrip N c
  unfolding middle
  trip_alone m =
      a_station (Memᴰ.append_right (drop (length (ordering N).lone_sources) (ordering N).lone_sinks) m)

  -- every zone reaches a component that is on the round trip
  trip_below : {z : ℕ} → In z N.zones → (c : ℕ) × OnTrip N c × Reach N z c
  trip_below i =
      let d = down P i in
      elim (end_kind N d.1 d.2) [
        | inl m ↦ (d.0, a_sink (in_shuffled (made_sinks (reaches N) (ordering_made P)) m), d.3)
        | inr m ↦ (d.0, trip_alone m, d.3)
      ]

  -- every zone is reached from a component that is on the round trip
  trip_over : {z : ℕ} → In z N.zones → (c : ℕ) × OnTrip N c × Reach N c z
  trip_over i =
      let u = up P i in
      elim (start_kind N u.1 u.2) [
        | inl m ↦ (u.0, a_source (shuffled_in (made_sources (reaches N) (ordering_made P)) m), u.3)
        | inr m ↦ (u.0, trip_alone m, u.3)
      ]

-- the rule for s ≤ t: in a reflexive, transitive relation that holds wherever reach does and in which the start of
-- each link is related to its end, any two zones are related
pub upright_closes : {N : Network} → Proper N → length (sources N) ≤ length (sinks N) →
    (R : Relation) → ((a : ℕ) → R a a) → ((a b c : ℕ) → R a b → R b c → R a c) → ((a b : ℕ) → Reach N a b → R a b) →
    Tied R (upright_plan N) → (a b : ℕ) → In a N.zones → In b N.zones → R a b
unfolding upright_plan
upright_closes {N} P few R R_refl R_trans wider tied a b i j =
    let o = ordering N in
    let known = properties_more wider (pairing_properties P) in
    let joined = links_joined R o (alone N) known (lone_enough P few) tied in
    let d = trip_below P i in
    let u = trip_over P j in
    let round = augmentation R R_refl R_trans o (middle o (alone N)) known joined d.1 u.1 in
    R_trans a d.0 b (wider a d.0 d.2) (R_trans d.0 u.0 b round (wider u.0 b u.2))

-- the plan by whether the network is strong, and whether s ≤ t
abbrev plan_by : Network → Bool → Bool → List Link
plan_by N is_strong is_up =
    elim is_strong [
      | true ↦ []
      | false ↦ elim is_up [ true ↦ upright_plan N | false ↦ map turned_link (upright_plan (turned N)) ]
    ]

module _ (N : Network) where
  -- the plan of a strong network is empty
  pub plan_of_strong : strong N ≡ true → plan N ≡ []
  unfolding plan
  plan_of_strong e = ap (λ (s : Bool). plan_by N s (is_upright N)) e

  -- the plan of a network that is not strong, for s ≤ t
  pub plan_of_upright : strong N ≡ false → is_upright N ≡ true → plan N ≡ upright_plan N
  unfolding plan
  plan_of_upright e u = ap₂ (λ (s t : Bool). plan_by N s t) e u

  -- the plan of a network that is not strong, for s > t
  pub plan_of_turned : strong N ≡ false → is_upright N ≡ false → plan N ≡ map turned_link (upright_plan (turned N))
  unfolding plan
  plan_of_turned e u = ap₂ (λ (s t : Bool). plan_by N s t) e u

  -- the rule runs on the network itself for s ≤ t
  pub upright_same : is_upright N ≡ true → upright N ≡ N
  unfolding upright
  upright_same u = ap (λ (t : Bool). elim t [ true ↦ N | false ↦ turned N ]) u

  -- the rule runs on the turned network for s > t
  pub upright_other : is_upright N ≡ false → upright N ≡ turned N
  unfolding upright
  upright_other u = ap (λ (t : Bool). elim t [ true ↦ N | false ↦ turned N ]) u

  -- what `is_upright` says of s and t
  pub upright_true : is_upright N ≡ true → length (sources N) ≤ length (sinks N)
  unfolding is_upright
  upright_true u = leb-true (length (sources N)) (length (sinks N)) u

  -- and of the turned network where it says no
  pub upright_false : Proper N → is_upright N ≡ false → length (sources (turned N)) ≤ length (sinks (turned N))
  unfolding is_upright
  upright_false P u =
      let less = leb-false (length (sources N)) (length (sinks N)) u in
      rw (turned_sources P, turned_sinks P) (omega arith)

module _ {N : Network} (P : Proper N) where
  -- the rule for s ≤ t makes the network strong
  upright_strong : is_upright N ≡ true → Strong (with_links N (upright_plan N))
  upright_strong u =
      let M = with_links N (upright_plan N) in
      upright_closes P (upright_true N u) (Reach M) (λ a. reach_refl) (λ a b c. reach_trans)
      (λ a b. links_keep (upright_plan N)) (links_tied N (upright_plan N))

  -- and so, turned round, does the rule for s > t
  turned_round_strong : is_upright N ≡ false → Strong (with_links N (map turned_link (upright_plan (turned N))))
  unfolding turned turned_link
  turned_round_strong u a b i j =
      let ls = map turned_link (upright_plan (turned N)) in
      let M = with_links N ls in
      upright_closes (turned_proper P) (upright_false N P u) (λ x y. Reach M y x) (λ x. reach_refl)
      (λ x y z r s. reach_trans s r) (λ x y r. links_keep ls (turned_reach {N = N} r))
      (λ l m. links_tied N ls (turned_link l) (in_map turned_link m)) b a j i

-- with the plan's links added every zone reaches every zone
pub plan_strong : {N : Network} → Proper N → Strong (with_links N (plan N))
plan_strong {N} P =
    elim (bool_cases (strong N)) [
      | inl e ↦ λ a b i j. links_keep (plan N) (strong_sound N e a b i j)
      | inr e ↦
          elim (bool_cases (is_upright N)) [
            | inl u ↦ rw (plan_of_upright N e u) (upright_strong P u)
            | inr u ↦ rw (plan_of_turned N e u) (turned_round_strong P u)
          ]
    ]

module _ {N : Network} (P : Proper N) where
  -- the network on which the rule runs is proper
  pub upright_proper : Proper (upright N)
  upright_proper =
      elim (bool_cases (is_upright N)) [
        | inl u ↦ rw (upright_same N u) P
        | inr u ↦ rw (upright_other N u) (turned_proper P)
      ]
