-- When a head is fresh: it is of the block, and not in the row.
--   fresh_inside    a number of the block
--   fresh_true      what a fresh number is
-- By the tests that `fresh` is made of. Assumes nothing.
use mathlib.Core.Path.{◌≡◌}
use mathlib.Core.Bool.{true, false, not, ◌&&◌}
use mathlib.Core.List.{List}
use Prim.Native.Nat.{ℕ, ◌-◌, ◌≤◌, ◌<◌}
use borrow.Author.Tests.{le-leb, lt-ltb, leb-true, ltb-true}
use lib.Dec.{leb, ltb}
use Rattle.theory.proofs.Ground.Bools.{and_true, not_true}
use Rattle.bits.specs.Bits.{bit_in}
use Rattle.taking.specs.Taking.{fresh}

module _ (w : List ℕ) (first j k : ℕ) where
  -- a number of the block is fresh where it is not in row j
  pub fresh_inside : first ≤ k → k - first < 128 → not (bit_in w 8 j (k - first)) ≡ fresh w first j k
  unfolding fresh
  fresh_inside l h = rw (le-leb first k l, lt-ltb (k - first) 128 h)

  -- what a fresh number is
  pub fresh_true : fresh w first j k ≡ true → (first ≤ k) × ((k - first < 128) × (bit_in w 8 j (k - first) ≡ false))
  unfolding fresh
  fresh_true h =
      let t = and_true (leb first k && ltb (k - first) 128) (not (bit_in w 8 j (k - first))) h in
      let s = and_true (leb first k) (ltb (k - first) 128) t.0 in
      (leb-true first k s.0, (ltb-true (k - first) 128 s.1, not_true (bit_in w 8 j (k - first)) t.1))
