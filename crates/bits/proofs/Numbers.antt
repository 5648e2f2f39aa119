-- Bits of numbers, and of the numbers of a list.
--   bit_none    no bit of 0 is set
--   bit_power   2 ^ k has bit k and no other
--   bit_of_or   bitwise or has the bits of both
--   bit_read    how code reads a bit: shift right, keep the lowest
--   one_shifted how code makes a number with one bit: shift 1 left
--   bit_stored  after a store that adds one bit to one number of a list, that bit is set, and any other as it was
-- `bit_power` is by induction on both places, the others by the library's laws of or, shifts and rests.
-- Assumes nothing.
use mathlib.Core.Path.{◌≡◌, refl, sym, ap, ap₂, ◌∙◌}
use mathlib.Core.Bool.{false, ◌&&◌, ◌||◌, or_comm}
use mathlib.Core.List.{List}
use Prim.Native.Nat.{ℕ, zero, suc, ◌*◌, ◌/◌, ◌%◌, ◌^◌, ◌<◌, max}
use native.Mathlib.Nat.{zero-div, div-one, div-eq_of_lt, mul-div-mul_right, mul-mod_left, mul-add-mod_self_right}
use native.Mathlib.Nat.{mod-lt, zero-lt-suc, pow-suc, one-mul}
use native.Mathlib.Decide.{ℕ_discrete}
use native.Mathlib.Omega.{arith}
use borrow.Author.Tests.{eq-eqb, ne_eqb}
use lib.Dec.{eqb, eqb-zero-suc, eqb-suc-zero, eqb-suc-suc, lit<}
use lib.Pow.{pow-lt, shl_exact}
use lib.Bits.{bit_and, bit_or, or_shr, or_step, and_mask}
use lib.ListN.{length, get_or, set}
use lib.Seq.{get_or-set_same, get_or-set_other}
use Rattle.bits.specs.Bits.{bit}

-- no bit of 0 is set
pub bit_none : (j : ℕ) → bit 0 j ≡ false
unfolding bit
bit_none j = ap (λ (n : ℕ). eqb (n % 2) 1) (zero-div (2 ^ j))

-- the lowest bits of two numbers, and the larger of them
larger : (p q : ℕ) → p < 2 → q < 2 → eqb (max p q % 2) 1 ≡ (eqb p 1 || eqb q 1)
larger zero zero h k = refl
larger zero (suc zero) h k = refl
larger (suc zero) zero h k = refl
larger (suc zero) (suc zero) h k = refl
larger zero (suc (suc q)) h k = absurd (omega arith)
larger (suc zero) (suc (suc q)) h k = absurd (omega arith)
larger (suc (suc p)) q h k = absurd (omega arith)

-- the lowest bit of an or
lowest : (x y : ℕ) → eqb (bit_or x y % 2) 1 ≡ (eqb (x % 2) 1 || eqb (y % 2) 1)
lowest x y =
    ap (λ (n : ℕ). eqb (n % 2) 1) (or_step x y)
    ∙ ap (λ (n : ℕ). eqb n 1) (mul-add-mod_self_right (bit_or (x / 2) (y / 2)) 2 (max (x % 2) (y % 2)))
    ∙ larger (x % 2) (y % 2) (mod-lt x (zero-lt-suc 1)) (mod-lt y (zero-lt-suc 1))

-- bitwise or has the bits of both
pub bit_of_or : (a b j : ℕ) → bit (bit_or a b) j ≡ (bit a j || bit b j)
unfolding bit
bit_of_or a b j = ap (λ (n : ℕ). eqb (n % 2) 1) (or_shr a b j) ∙ lowest (a / 2 ^ j) (b / 2 ^ j)

-- 2 ^ k has bit k and no other
bit_power : (k j : ℕ) → bit (2 ^ k) j ≡ eqb j k
unfolding bit
bit_power zero zero = refl
bit_power zero (suc j) =
    ap (λ (n : ℕ). eqb (n % 2) 1)
    (div-eq_of_lt {n = 2 ^ 0} {m = 2 ^ suc j} (pow-lt {i = 0} {j = suc j} (omega arith)))
    ∙ sym (eqb-suc-zero j)
bit_power (suc k) zero =
    ap (λ (n : ℕ). eqb (n % 2) 1) (div-one (2 ^ suc k) ∙ pow-suc 2 k)
    ∙ ap (λ (n : ℕ). eqb n 1) (mul-mod_left (2 ^ k) 2)
    ∙ sym (eqb-zero-suc k)
bit_power (suc k) (suc j) =
    ap₂ (λ (n m : ℕ). eqb (n / m % 2) 1) (pow-suc 2 k) (pow-suc 2 j)
    ∙ ap (λ (n : ℕ). eqb (n % 2) 1) (mul-div-mul_right (2 ^ k) (2 ^ j) (zero-lt-suc 1))
    ∙ bit_power k j
    ∙ sym (eqb-suc-suc j k)

-- how code reads a bit
pub bit_read : (w j : ℕ) → eqb (bit_and (w / 2 ^ j) 1) 1 ≡ bit w j
unfolding bit
bit_read w j = ap (λ (n : ℕ). eqb n 1) (and_mask (w / 2 ^ j) 1)

-- how code makes a number with one bit, in words of k bits
pub one_shifted : (k s : ℕ) → s < k → 1 * 2 ^ s % 2 ^ k ≡ 2 ^ s
one_shifted k s h = shl_exact 1 s k (lit< tt) (omega arith) ∙ one-mul (2 ^ s)

-- after a store that adds bit s to the number at p, that bit is set, and any other is as it was
pub bit_stored : (w : List ℕ) (p s q t : ℕ) → p < length w
    → bit (get_or (set w p (bit_or (get_or w p 0) (2 ^ s))) q 0) t ≡ ((eqb q p && eqb t s) || bit (get_or w q 0) t)
bit_stored w p s q t h =
    elim (ℕ_discrete q p) [
      | yes e ↦
          rw (e, get_or-set_same, bit_of_or, bit_power, eq-eqb p p refl)
          (or_comm (bit (get_or w p 0) t) (eqb t s))
      | no n ↦ rw (get_or-set_other, ne_eqb q p n)
    ]
