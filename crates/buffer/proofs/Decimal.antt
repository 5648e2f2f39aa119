-- Laws of decimal digits: the last digit of a number stands last, after the digits of its tenth.
--   decimal_is      a number of the machine has the digits that `{}` writes of it
--   decimal_low     a number below ten is one digit
--   decimal_high    any other number is its tenth's digits and then its last digit
--   decimal_length  how long the digits are at most
--   decimal_most    the digits of any number are at most twenty
-- The idea: the digits are written before what is written so far, the last one first, so the library's laws are theirs.
-- Assumes nothing.
use Prim.Native.Nat.{ℕ, zero, suc, ◌+◌, ◌/◌, ◌%◌, ◌^◌, ◌≤◌, ◌<◌}
use mathlib.Core.Path.{◌≡◌, ◌∙◌}
use mathlib.Core.Logic.{⊎_elim}
use mathlib.Core.List.{List, [], ◌∷◌, ◌++◌, append-nil}
use native.Mathlib.Omega.{arith}
use lib.ListN.{length}
use borrow.Author.Tests.{lt-ltb, le-ltb}
use Rattle.std.specs.Fmt as shown
use Rattle.std.proofs.lemmas.Bool.{cases_lt}
use Rattle.std.proofs.lemmas.Fmt.{PrependsLastDigit, decimal_from_prepends}
use Rattle.std.proofs.lemmas.Fmt.{decimal_digit, decimal_step, length-decimal-le}
use Rattle.rules.specs.Text.{digits, decimal}

-- the last digit is put before what is written so far
prepends : PrependsLastDigit digits
unfolding digits
prepends =
    record { one = λ k n acc h. rw (lt-ltb n 10 h, digits); more = λ k n acc h. rw (le-ltb n 10 h, digits) }

-- a number of the machine has the digits that the library writes of it
pub decimal_is : (n : ℕ) → n < 2 ^ 64 → decimal n ≡ shown.decimal n
unfolding decimal
decimal_is n h =
    decimal_from_prepends digits prepends 20 n [] h (length-decimal-le 20 n (omega arith) (omega arith) h)
    ∙ append-nil _

-- a number below ten is one digit
pub decimal_low : (n : ℕ) → n < 10 → decimal n ≡ (48 + n) ∷ []
decimal_low n h = decimal_is n (omega arith) ∙ decimal_digit n h

-- any other number is its tenth's digits and then its last digit
pub decimal_high : (n : ℕ) → 10 ≤ n → n < 2 ^ 64 → decimal n ≡ decimal (n / 10) ++ decimal (n % 10)
decimal_high n h l =
    rw (decimal_is n l, decimal_is (n / 10) (omega arith), decimal_low (n % 10) (omega arith)) (decimal_step n h l)

-- a number below 10 ^ k has at most k digits
pub decimal_length : (k n : ℕ) → 0 < k → n < 10 ^ k → n < 2 ^ 64 → length (decimal n) ≤ k
decimal_length k n p h l = rw (decimal_is n l) (length-decimal-le k n p h l)

-- a step writes one digit at most
digits_most : (k n : ℕ) (ds : List ℕ) → length (digits k n ds) ≤ k + length ds
unfolding digits
digits_most zero n ds = omega arith
digits_most (suc k) n ds =
    ⊎_elim
    (λ (h : n < 10). rw (prepends.one k n ds h) (omega arith))
    (λ (h : 10 ≤ n). rw (prepends.more k n ds h) (omega (arith, digits_most k (n / 10) ((48 + n % 10) ∷ ds))))
    (cases_lt n 10)

-- the digits of any number are at most twenty
pub decimal_most : (n : ℕ) → length (decimal n) ≤ 20
unfolding decimal
decimal_most n = omega (arith, digits_most 20 n [])
