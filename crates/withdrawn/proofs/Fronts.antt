-- The lowest number that is not withdrawn, in a list of withdrawn numbers that ascends.
--   Front gone i      the first i withdrawn numbers are the numbers below i
--   lowest_found      i is the lowest number that is not withdrawn, where it does not stand at its own index
--   lowest_remains    where some zone of n remains, the lowest number that is not withdrawn is one
-- Each element of a list that ascends is at least its index. So a number that all lower numbers stand before can only
-- stand at its own index. Assumes nothing.
use Prim.Native.Nat.{ℕ, zero, suc, ◌+◌, ◌≤◌, ◌<◌}
use native.Mathlib.Nat.{not-suc-le-zero}
use native.Mathlib.Omega.{arith}
use mathlib.Core.Path.{◌≡◌, subst}
use mathlib.Core.Logic.{inl, inr}
use mathlib.Core.List.{List, [], ◌∷◌, Memᴰ as In}
use lib.ListN.{length, get_or}
use Rattle.rules.specs.Network.{Above, Ascending, remaining}
use Rattle.theory.proofs.Ground.Bools.{true_not_false}
use Rattle.theory.proofs.Withdrawn.Remaining.{true_listed, false_listed, remaining_in, in_remaining}
use Rattle.memory.proofs.Numbers.{below?}
use Rattle.theory.proofs.Ground.Indices.{at_in, in_at}
use Rattle.withdrawn.specs.Withdrawn.{Lowest}

-- an element of a list that ascends from above a number
above_least : (a : ℕ) (xs : List ℕ) (k : ℕ) → Above a xs → k < length xs → a + suc k ≤ get_or xs k 0
above_least a [] k h l = absurd (not-suc-le-zero l)
above_least a (x ∷ xs) zero h l = omega (arith, h.0)
above_least a (x ∷ xs) (suc k) h l = omega (arith, h.0, above_least x xs k h.1 (omega arith))

-- an element of a list that ascends is at least its index
ascending_least : (xs : List ℕ) (k : ℕ) → Ascending xs → k < length xs → k ≤ get_or xs k 0
ascending_least [] k h l = absurd (not-suc-le-zero l)
ascending_least (x ∷ xs) zero h l = omega arith
ascending_least (x ∷ xs) (suc k) h l = omega (arith, above_least x xs k h (omega arith))

-- the first i numbers of the list are the numbers below i
abbrev pub Front : List ℕ → ℕ → Type 0
Front gone i = (j : ℕ) → j < i → get_or gone j 0 ≡ j

-- the list ascends, and begins with the numbers below i
module _ (gone : List ℕ) (A : Ascending gone) (i : ℕ) (l : i ≤ length gone) (F : Front gone i) where
  -- where i stands in the list, it stands at its own index
  own_index : In i gone → (i < length gone) × (get_or gone i 0 ≡ i)
  own_index m =
      let x = in_at m in
      elim (below? x.index i) [
        | inl low ↦ let e = F x.index low in omega (arith, x.is)
        | inr high ↦
            let least = ascending_least gone x.index A x.inside in
            let e : x.index ≡ i = omega (arith, x.is) in
            (omega (arith, x.inside), subst (λ (k : ℕ). get_or gone k 0 ≡ i) e x.is)
      ]

  -- a number that does not is the lowest that is not withdrawn
  pub lowest_found : (i < length gone → get_or gone i 0 ≡ i → ⊥) → Lowest gone i
  lowest_found other =
      record {
        stays = false_listed gone i (λ m. let o = own_index m in other o.0 o.1);
        first =
            λ y h.
            true_listed (subst (λ (k : ℕ). In k gone) (F y h) (at_in gone y (omega arith)));
      }

-- where some zone remains, the lowest number that is not withdrawn is one that does
pub lowest_remains : (n : ℕ) (gone : List ℕ) {z o : ℕ} → In z (remaining n gone) → Lowest gone o →
    In o (remaining n gone)
lowest_remains n gone {z} {o} m L =
    let r = remaining_in n gone m in
    elim (below? z o) [
      | inl low ↦ absurd (true_not_false (L.first z low) r.1)
      | inr high ↦ in_remaining n gone (omega (arith, r.0)) L.stays
    ]
