-- Numbers and arcs that a quick look finds plainly good.
--   plain_one    a byte below 128 is a number
--   plain_two    two bytes, the first 128 or more, are a number, where they come out below 16,384
--   plain_arc    two such numbers that are zones, and distinct, are an arc
--   plain_cases  what the proof of `quick_number` cites
-- The second byte goes down by one around 256, so that zero comes out highest: below 16,384 it was 1 to 127.
-- Groups that stand at a place are read there. Assumes nothing.
use Prim.Native.Nat.{ℕ, ◌+◌, ◌-◌, ◌*◌, ◌%◌, ◌≤◌, ◌<◌}
use native.Mathlib.Omega.{arith}
use native.Mathlib.Nat.{mod-add-div, mod-lt}
use mathlib.Core.Path.{◌≡◌, refl}
use mathlib.Core.List.{List}
use lib.Dec.{lit<}
use lib.ListN.{length, get_or}
use borrow.Author.Tests.{lt-leb, ne_eqb}
use Rattle.rules.specs.Network.{◌⟶◌}
use Rattle.rules.specs.Number.{got}
use Rattle.rules.specs.File.{zone_at, arc_at}
use Rattle.theory.proofs.Files.NumberLaws.{one, two, groups_number}
use Rattle.filelook.specs.Looks.{PlainNumber}

-- What goes down by one around 256 is below 256.
pub around_small : (c : ℕ) → (c + 255) % 256 < 256
around_small c = mod-lt (c + 255) (lit< tt)

-- A second byte, by what comes out.
second_byte : (b c : ℕ) → 128 ≤ b → c < 256 → b + 128 * ((c + 255) % 256) < 16384
    → (0 < c) × (c < 128) × (b + 128 * ((c + 255) % 256) ≡ (b - 128) + 128 * c)
second_byte b c large byte short = omega (arith, around_small c, mod-add-div (c + 255) 256)

module _ (s : List ℕ) (at : ℕ) where
  -- A byte below 128 is a number.
  pub plain_one : at < length s → get_or s at 0 < 128 → PlainNumber s at (get_or s at 0) (at + 1)
  plain_one inside small short = groups_number s at (one (inside, refl) small refl)

  -- Two bytes, the first 128 or more, are a number, where they come out below 16,384.
  pub plain_two : at + 1 < length s → 128 ≤ get_or s at 0 → get_or s (at + 1) 0 < 256
      → PlainNumber s at (get_or s at 0 + 128 * ((get_or s (at + 1) 0 + 255) % 256)) (at + 2)
  plain_two inside large byte short =
      let b = get_or s at 0 in
      let c = get_or s (at + 1) 0 in
      let f = second_byte b c large byte short in
      groups_number s at (two (b - 128) c (omega arith, omega arith) (inside, refl) f.0 f.1 f.2 refl)

  -- Two such numbers that are zones, and distinct, are an arc.
  pub plain_arc : {n t mid h next : ℕ} → n ≤ 1024 → t < n → h < n → (t ≡ h → ⊥)
      → PlainNumber s at t mid → PlainNumber s mid h next → arc_at s n at ≡ got (t ⟶ h) next
  unfolding zone_at arc_at
  plain_arc {n} {t} {h} few tail head apart first second =
      rw (first (omega arith), lt-leb n t tail, second (omega arith), lt-leb n h head, ne_eqb t h apart)

-- A number that a quick look finds.
pub ruleset plain_cases = (around_small, plain_one, plain_two)
