-- How long the memory stays, and what stands behind the table, after a head was taken.
--   taken_yes, taken_no   the two ways of a head
--   taken_long            the length is kept
--   taken_behind          what stands from the end of row j on is kept
-- The one store goes into row j. Assumes nothing.
use mathlib.Core.Path.{◌≡◌, ap, ◌∙◌}
use mathlib.Core.Logic.{inl, inr}
use mathlib.Core.Bool.{true, false}
use mathlib.Core.List.{List}
use Prim.Native.Nat.{ℕ, ◌+◌, ◌-◌, ◌*◌, ◌≤◌}
use native.Mathlib.Omega.{arith}
use lib.ListN.{length, drop}
use Rattle.theory.proofs.Ground.Bools.{bool_cases}
use Rattle.bits.specs.Bits.{with_bit}
use Rattle.bits.proofs.Tables.{with_bit_long, with_bit_behind}
use Rattle.taking.specs.Taking.{fresh, taken}
use Rattle.taking.proofs.Fresh.{fresh_true}

-- a fresh head is put into row j
pub taken_yes : (w : List ℕ) (first j k : ℕ) → fresh w first j k ≡ true → taken w first j k ≡ with_bit w 8 j (k - first)
unfolding taken
taken_yes w first j k e = rw (e, taken)

-- another leaves the memory as it was
pub taken_no : (w : List ℕ) (first j k : ℕ) → fresh w first j k ≡ false → taken w first j k ≡ w
unfolding taken
taken_no w first j k e = rw (e, taken)

-- taking a head keeps the length
pub taken_long : (w : List ℕ) (first j k : ℕ) → length (taken w first j k) ≡ length w
taken_long w first j k =
    elim (bool_cases (fresh w first j k)) [
      | inl e ↦ ap length (taken_yes w first j k e) ∙ with_bit_long w 8 j (k - first)
      | inr e ↦ ap length (taken_no w first j k e)
    ]

module _ (e : ℕ) where
  -- taking a head keeps what stands behind row j
  pub taken_behind : (w : List ℕ) (first j k : ℕ) → j * 8 + 8 ≤ e → drop e (taken w first j k) ≡ drop e w
  taken_behind w first j k h =
      elim (bool_cases (fresh w first j k)) [
        | inl q ↦
            let low = (fresh_true w first j k q).1.0 in
            ap (drop e) (taken_yes w first j k q) ∙ with_bit_behind e w 8 j (k - first) (omega arith)
        | inr q ↦ ap (drop e) (taken_no w first j k q)
      ]
