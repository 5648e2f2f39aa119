-- The lowest zone that leads to v and back is the name that the rules give v, and a list of all names without repeats
-- is as long as the rules' own.
--   Lowest E v x     x is the lowest zone such that each of x and v leads to the other
--   lowest_name      over arranged rows, x is then v's name
--   listed_count     a list without repeats whose elements are exactly m numbers, all different, has m elements
-- Runs of entries are the rules' reach, which `arranged` shows; the name is the lowest of its component, which `theory`
-- shows. Assumes nothing.
use mathlib.Core.Path.{◌≡◌, refl, sym}
use mathlib.Core.Logic.{inl, inr}
use mathlib.Core.List.Memᴰ
use mathlib.Core.List.{List, Memᴰ as In, map}
use Prim.Native.Nat.{ℕ, ◌≤◌, ◌<◌}
use native.Mathlib.Omega.{arith}
use lib.ListN.{length, length-map}
use Rattle.rules.specs.Lists.{span}
use Rattle.rules.specs.Network.{Arc, network_of, Proper}
use Rattle.rules.specs.Components.{name}
use Rattle.workmap.specs.declared.RowsAt.{RowsAt}
use Rattle.arranged.specs.Rows.{Entry, rows_of}
use Rattle.arranged.specs.Arranged.{Between, ArrangedAt}
use Rattle.memory.proofs.Numbers.{same?, below?}
use Rattle.arranged.proofs.ArrangedLaws.{run_reach, reach_run}
use Rattle.theory.proofs.Ground.Lists.{map_in}
use Rattle.theory.proofs.Ground.Counting.{Distinct, answers_count, ascending_distinct, distinct_map}
use Rattle.theory.proofs.Ground.Ascending.{span_in, in_span, span_ascending, span_length, network_proper}
use Rattle.theory.proofs.Reaching.Components.{Together, together_sym, name_together, name_lowest}
use Rattle.roots.specs.Pass.{Mutual}

-- x is the lowest zone such that each of x and v leads to the other
pub record Lowest (E : ℕ → ℕ → Type 0) (v x : ℕ) : Type 0 where
  pub low : x ≤ v
  pub with : Mutual E x v
  pub least : (t : ℕ) → t < x → Mutual E t v → ⊥

-- the arcs es, between zones, are arranged in w
module _ {w : List ℕ} {R : RowsAt} {es : List Arc} (A : ArrangedAt w R es)
    (W : Between R.zones es) where
  -- The network of the arcs is proper.
  pub arcs_proper : Proper (network_of R.zones es)
  arcs_proper = network_proper R.zones es (λ a b m. (W.tails m, W.heads m))

  -- A zone is one of the network's.
  pub zone_in : {v : ℕ} → v < R.zones → In v (span 0 R.zones)
  zone_in l = in_span 0 R.zones (omega arith) (omega arith)

  -- Zones that lead to each other are in one component.
  mutual_together : {a b : ℕ} → Mutual (Entry (rows_of w R)) a b →
      Together (network_of R.zones es) a b
  mutual_together t = (
    run_reach w R es A t.0,
    run_reach w R es A t.1,
  )

  -- Zones of one component lead to each other.
  together_mutual : {a b : ℕ} → Together (network_of R.zones es) a b →
      Mutual (Entry (rows_of w R)) a b
  together_mutual t = (
    reach_run w R es A W t.0,
    reach_run w R es A W t.1,
  )

  -- The lowest zone that leads to v and back is v's name.
  pub lowest_name : {v x : ℕ} → v < R.zones → Lowest (Entry (rows_of w R)) v x
      → x ≡ name (network_of R.zones es) v
  lowest_name {v} {x} l L =
      let N = network_of R.zones es in
      let in_v = zone_in l in
      let in_x : In x (span 0 R.zones) = zone_in (omega (arith, L.low)) in
      let down : name N v ≤ x = name_lowest arcs_proper in_v in_x (together_sym (mutual_together L.with)) in
      elim (below? (name N v) x) [
        | inl b ↦ absurd (L.least (name N v) b (together_mutual (together_sym (name_together arcs_proper in_v))))
        | inr b ↦ omega arith
      ]

-- m different numbers that are exactly the elements of a list without repeats: the list has m elements.
pub listed_count : (t : ℕ → ℕ) (m : ℕ) (xs : List ℕ) → Distinct xs → ((j : ℕ) → j < m → In (t j) xs)
    → ((x : ℕ) → In x xs → (j : ℕ) × (j < m) × (t j ≡ x)) → ((j k : ℕ) → j < k → k < m → t j ≡ t k → ⊥)
    → m ≡ length xs
listed_count t m xs d from all once =
    let low : length xs ≤ length (span 0 m) = answers_count t xs (span 0 m) d (λ x i.
    let r = all x i in
    (r.0, in_span 0 m (omega arith) (omega (arith, r.1)), r.2)) in
    let high : length (map t (span 0 m)) ≤ length xs = answers_count (λ x. x) (map t (span 0 m)) xs different (λ x i.
    let r = map_in t (span 0 m) i in
    (x, Memᴰ.cast r.2 (from r.0 (omega (arith, span_in 0 m r.1))), refl)) in
    omega (arith, span_length 0 m, length-map (span 0 m) t)
  where
    same : (j k : ℕ) → In j (span 0 m) → In k (span 0 m) → t j ≡ t k → j ≡ k
    same j k a b e = elim (same? j k) [
      | inl q ↦ q
      | inr q ↦ elim (below? j k) [
        | inl l ↦ absurd (once j k l (omega (arith, span_in 0 m b)) e)
        | inr l ↦ absurd (once k j (omega arith) (omega (arith, span_in 0 m a)) (sym e))
      ]
    ]

    different : Distinct (map t (span 0 m))
    different = distinct_map t (span 0 m) same (ascending_distinct (span 0 m) (span_ascending 0 m))
