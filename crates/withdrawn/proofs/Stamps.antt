-- Stamps at the places of withdrawn numbers.
--   stamped_more     one number more is stamped
-- A number stands among the first k + 1 of a list where it stands among the first k, or is the next. Assumes nothing.
use Prim.Native.Nat.{ℕ, ◌+◌, ◌≤◌, ◌<◌}
use native.Mathlib.Omega.{arith}
use native.Mathlib.Numerals.{add-one}
use mathlib.Core.Path.{◌≡◌, refl, ◌∙◌}
use mathlib.Core.Logic.{inl, inr}
use mathlib.Core.Bool.{Bool, true, false, ◌||◌}
use mathlib.Core.List.{List, [], ◌∷◌, ◌++◌}
use lib.Dec.{eqb}
use lib.ListN.{length, get_or, take, set, length-set}
use lib.Seq.{take-suc, take-set-le, drop-set-lt, get_or-set_same, get_or-set_other}
use borrow.Author.Tests.{eq-eqb, ne_eqb}
use Rattle.rules.specs.Lists.{listed}
use Rattle.theory.proofs.Ground.Bools.{bool_cases}
use Rattle.theory.proofs.Ground.Lists.{any_hit, any_miss}
use Rattle.memory.specs.Regions.{cell}
use Rattle.memory.proofs.Numbers.{same?}
use Rattle.withdrawn.specs.Withdrawn.{stamped, Stamped}

-- a number stands in a list with one element more where it stands in the list, or is that element
listed_end : (xs : List ℕ) (x z : ℕ) → listed (xs ++ (x ∷ [])) z ≡ (eqb z x || listed xs z)
listed_end [] x z = alone (eqb z x)
  where
    alone : (b : Bool) → elim b as (λ c. Bool) [ true ↦ true | false ↦ false ] ≡ (b || false)
    alone true = refl
    alone false = refl
listed_end (y ∷ ys) x z =
    elim (bool_cases (eqb z y)) [
      | inl e ↦ rw (any_hit (eqb z) (ys ++ (x ∷ [])) e, any_hit (eqb z) ys e) (ends (eqb z x))
      | inr e ↦ rw (any_miss (eqb z) (ys ++ (x ∷ [])) e, any_miss (eqb z) ys e) (listed_end ys x z)
    ]
  where
    ends : (b : Bool) → true ≡ (b || true)
    ends true = refl
    ends false = refl

-- the first k numbers are stamped in w', and the next is below n
module _
    (w w' gone : List ℕ)
    (at n k x : ℕ)
    (S : Stamped w w' at n (take k gone) x)
    (fits : at + n ≤ length w)
    (more : k < length gone)
    (low : get_or gone k 0 < n)
  where
    -- the next number
    abbrev next : ℕ
    next = get_or gone k 0

    -- a number stands among the first k + 1 where it is the next, or stands among the first k
    listed_more : (z : ℕ) → listed (take (k + 1) gone) z ≡ (eqb z next || listed (take k gone) z)
    listed_more z = rw (add-one k, take-suc gone k 0 more) (listed_end (take k gone) next z)

    -- what then stands for a number
    next_inside : (z : ℕ) → z < n →
        cell (set w' (at + next) x) at z ≡ stamped (listed (take (k + 1) gone) z) x (cell w at z)
    next_inside z h =
        elim (same? z next) [
          | inl e ↦
              rw (listed_more z, eq-eqb z next e, e)
              (get_or-set_same w' (at + next) x 0 (omega (arith, S.long)))
          | inr e ↦
              rw (listed_more z, ne_eqb z next e)
              (get_or-set_other w' (at + next) (at + z) x 0 (λ q. e (omega arith)) ∙ S.inside z h)
        ]

    -- one number more is stamped
    pub stamped_more : Stamped w (set w' (at + next) x) at n (take (k + 1) gone) x
    stamped_more =
        record {
          inside = next_inside;
          long = length-set w' (at + next) x ∙ S.long;
          below = take-set-le at w' (at + next) x (omega arith) ∙ S.below;
          above = drop-set-lt (at + n) w' (at + next) x (omega arith) ∙ S.above;
        }
