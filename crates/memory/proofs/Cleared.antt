-- Clearing the front of a memory.
--   cleared_length    the memory is as long as it was
--   cleared_behind    what lies behind the front is as it was
--   cleared_front     the front is zeros
--   cleared_back      memories that agree behind the front are equal once it is cleared
--   front_zero        where a front is zeros, each of its elements is zero
-- `cleared k w` is k zeros and what lies behind them in w. Assumes nothing.
use mathlib.Core.Path.{◌≡◌, sym, ap, ◌∙◌}
use mathlib.Core.List.{List, ◌++◌}
use Prim.Native.Nat.{ℕ, ◌≤◌, ◌<◌}
use native.Mathlib.Omega.{arith}
use lib.ListN.{length, get_or, take, drop, replicate, length-append, length-drop, length-replicate, get_or-replicate}
use lib.Seq.{take_at, drop_at, get_or-take}
use Rattle.rules.specs.Lists.{cleared}

-- clearing keeps the length
pub cleared_length : (k : ℕ) (w : List ℕ) → k ≤ length w → length (cleared k w) ≡ length w
cleared_length k w h = simp (length-append, length-replicate, length-drop) (omega arith)

-- clearing keeps what lies behind
pub cleared_behind : (k : ℕ) (w : List ℕ) → drop k (cleared k w) ≡ drop k w
cleared_behind k w = drop_at (replicate k 0) (drop k w) k (length-replicate k 0)

-- the cleared part is zeros
pub cleared_front : (k : ℕ) (w : List ℕ) → take k (cleared k w) ≡ replicate k 0
cleared_front k w = take_at (replicate k 0) (drop k w) k (length-replicate k 0)

-- memories that agree behind the cleared part are equal once it is cleared
pub cleared_back : (k : ℕ) (w w' : List ℕ) → drop k w' ≡ drop k w → cleared k w' ≡ cleared k w
cleared_back k w w' e = ap (λ (l : List ℕ). replicate k 0 ++ l) e

-- where a front is zeros, each of its elements is zero
pub front_zero : (k : ℕ) (w : List ℕ) → take k w ≡ replicate k 0 → (i : ℕ) → i < k → get_or w i 0 ≡ 0
front_zero k w zeros i h =
    sym (get_or-take k w i 0 h) ∙ ap (λ (l : List ℕ). get_or l i 0) zeros ∙ get_or-replicate k i 0 0 h
