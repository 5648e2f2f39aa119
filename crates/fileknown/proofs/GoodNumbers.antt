-- A good number of at most two groups, by its first byte.
--   good_inside    its first byte is inside
--   good_one       a first byte below 128 is all of it
--   good_more      after another first byte the second is inside too
--   good_two       and the two bytes are all of it
--   good_cases     these four, for the proof of `known`
-- By the groups that stand there: three of them are worth 16,384 or more. Assumes nothing.
use Prim.Native.Nat.{ℕ, ◌+◌, ◌-◌, ◌*◌, ◌≤◌, ◌<◌}
use native.Mathlib.Omega.{arith}
use mathlib.Core.Path.{◌≡◌, ◌∙◌, ap₂}
use mathlib.Core.List.{List}
use lib.ListN.{length, get_or}
use Rattle.rules.specs.Number.{got, number_at}
use Rattle.theory.proofs.Files.NumberLaws.{one, two, three, number_groups}
use Rattle.fileknown.specs.Numbers.{GoodNumber}

module _ {s : List ℕ} {at : ℕ} (p : GoodNumber s at) where
  -- Its first byte is inside.
  pub good_inside : at < length s
  good_inside =
      elim (number_groups s at p.good) [
        | one f h e ↦ f.0
        | two a b f g z h n e ↦ f.0
        | three a b c f g k z h n e ↦ f.0
      ]

  -- A first byte below 128 is all of it.
  pub good_one : get_or s at 0 < 128 → number_at s at ≡ got (get_or s at 0) (at + 1)
  good_one small =
      elim (number_groups s at p.good) [
        | one f h e ↦ p.good ∙ ap₂ got (omega arith) (omega arith)
        | two a b f g z h n e ↦ absurd (omega arith)
        | three a b c f g k z h n e ↦ absurd (omega arith)
      ]

  -- After another first byte the second is inside too.
  pub good_more : 128 ≤ get_or s at 0 → at + 1 < length s
  good_more large =
      elim (number_groups s at p.good) [
        | one f h e ↦ absurd (omega arith)
        | two a b f g z h n e ↦ g.0
        | three a b c f g k z h n e ↦ g.0
      ]

  -- And the two bytes are all of it.
  pub good_two : 128 ≤ get_or s at 0
      → number_at s at ≡ got ((get_or s at 0 - 128) + 128 * get_or s (at + 1) 0) (at + 2)
  good_two large =
      elim (number_groups s at p.good) [
        | one f h e ↦ absurd (omega arith)
        | two a b f g z h n e ↦ p.good ∙ ap₂ got (omega arith) (omega arith)
        | three a b c f g k z h n e ↦ absurd (omega (arith, p.short))
      ]

-- A known number, by its first byte.
pub ruleset good_cases = (good_inside, good_one, good_more, good_two)
