-- How long words with numbers are at most, and the brackets of ++ in them.
--   labelled_length, two_length   a number has at most 20 digits
--   two_parts                     two words with their numbers, before other bytes
-- Assumes nothing.
use Prim.Native.Nat.{ℕ, ◌+◌, ◌≤◌}
use mathlib.Core.Path.{◌≡◌}
use mathlib.Core.List.{List, ◌++◌, append_assoc}
use native.Mathlib.Omega.{arith}
use lib.ListN.{length, length-append}
use Rattle.rules.specs.Text.{decimal}
use Rattle.buffer.specs.Words.{labelled, two}
use Rattle.buffer.proofs.Decimal.{decimal_most}

-- two words with their numbers, before other bytes
pub two_parts : (w : List ℕ) (m : ℕ) (v : List ℕ) (n : ℕ) (rest : List ℕ)
    → two w m v n ++ rest ≡ w ++ (decimal m ++ (v ++ (decimal n ++ rest)))
unfolding two labelled
two_parts w m v n rest = simp append_assoc

-- a word with a number
pub labelled_length : (w : List ℕ) (n : ℕ) → length (labelled w n) ≤ length w + 20
unfolding labelled
labelled_length w n = omega (arith, decimal_most n, length-append w (decimal n))

-- two words with numbers
pub two_length : (w : List ℕ) (m : ℕ) (v : List ℕ) (n : ℕ) → length (two w m v n) ≤ length w + length v + 40
unfolding two
two_length w m v n =
    omega (arith, labelled_length w m, labelled_length v n, length-append (labelled w m) (labelled v n))
