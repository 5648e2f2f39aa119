-- The table of bits: its length, what lies behind it, and its bits, once a bit is set and once a row is joined.
--   row_room                             a row lies before the end of the table
--   with_bit_long, with_words_long       the list is as long as it was
--   with_bit_behind, with_words_behind   what lies behind the row is as it was
--   with_bit_bits                        one bit more is set
--   with_words_bits                      the bits of row k are set in row a, and no other is
-- A row's place is its number times its words, so rows do not overlap, and a bit is told by quotient and rest of its
-- number. `with_words` is right for any two rows: what is still to be read was not stored to. Assumes nothing.
use mathlib.Core.Path.{◌≡◌, refl, sym, ap, ap₂, ◌∙◌}
use mathlib.Core.Logic.{◌⊎◌, inl, inr, ◌≢◌}
use mathlib.Core.Bool.{Bool, ◌&&◌, ◌||◌, or-false}
use mathlib.Core.List.{List}
use Prim.Native.Nat.{ℕ, zero, suc, ◌+◌, ◌*◌, ◌/◌, ◌%◌, ◌≤◌, ◌<◌}
use native.Mathlib.Nat.{suc-mul, mul-le-mul_right}
use native.Mathlib.Decide.{ℕ_discrete, dec_lt}
use native.Mathlib.Omega.{arith}
use borrow.Author.Tests.{eqb-true, eq-eqb, ne_eqb}
use lib.Arith.{digits_div, digits_mod, lt_of_le-ne}
use lib.Dec.{eqb}
use lib.Bits.{bit_or}
use lib.ListN.{length, get_or, drop, length-set}
use lib.Seq.{get_or-set_same, get_or-set_other, drop-set-lt}
use Rattle.theory.proofs.Ground.Bools.{bool_agree, and_true, true_and}
use Rattle.bits.specs.Bits.{bit, bit_in, with_bit, with_words}
use Rattle.bits.proofs.Numbers.{bit_of_or, bit_stored}

-- a row lies before the end of the table
pub row_room : (words n a : ℕ) → a < n → a * words + words ≤ n * words
row_room words n a h = rw (suc-mul a words) at (mul-le-mul_right {m = suc a} words h)

-- setting a bit keeps the length
pub with_bit_long : (w : List ℕ) (words a b : ℕ) → length (with_bit w words a b) ≡ length w
unfolding with_bit
with_bit_long w words a b = simp length-set

-- joining rows keeps the length
pub with_words_long : (w : List ℕ) (into from n : ℕ) → length (with_words w into from n) ≡ length w
unfolding with_words
with_words_long w into from zero = refl
with_words_long w into from (suc n) = simp length-set (with_words_long w into from n)

-- setting a bit keeps what lies behind its element
pub with_bit_behind : (e : ℕ) (w : List ℕ) (words a b : ℕ) → a * words + b / 16 < e →
    drop e (with_bit w words a b) ≡ drop e w
unfolding with_bit
with_bit_behind e w words a b h = drop-set-lt e w (a * words + b / 16) _ h

-- joining rows keeps what lies behind the row that is stored to
pub with_words_behind : (e : ℕ) (w : List ℕ) (into from n : ℕ) → into + n ≤ e →
    drop e (with_words w into from n) ≡ drop e w
unfolding with_words
with_words_behind e w into from zero h = refl
with_words_behind e w into from (suc n) h =
    drop-set-lt e (with_words w into from n) (into + n) _ (omega arith)
    ∙ with_words_behind e w into from n (omega arith)

-- two bits of the table are one place of memory exactly when row and bit are the same
same_bit : (words a b c d : ℕ) → b / 16 < words → d / 16 < words
    → (eqb (c * words + d / 16) (a * words + b / 16) && eqb (d % 16) (b % 16)) ≡ (eqb c a && eqb d b)
same_bit words a b c d h k =
    bool_agree
    (λ e.
    let t = and_true (eqb (c * words + d / 16) (a * words + b / 16)) (eqb (d % 16) (b % 16)) e in
    let place = eqb-true (c * words + d / 16) (a * words + b / 16) t.0 in
    let rest = eqb-true (d % 16) (b % 16) t.1 in
    let row : c ≡ a = sym (digits_div c k) ∙ ap (λ (n : ℕ). n / words) place ∙ digits_div a h in
    let word : d / 16 ≡ b / 16 = sym (digits_mod c k) ∙ ap (λ (n : ℕ). n % words) place ∙ digits_mod a h in
    true_and (eq-eqb c a row) (eq-eqb d b (omega arith)))
    (λ e.
    let t = and_true (eqb c a) (eqb d b) e in
    let row = eqb-true c a t.0 in
    let col = eqb-true d b t.1 in
    true_and
    (eq-eqb _ _ (ap₂ (λ (x y : ℕ). x * words + y / 16) row col))
    (eq-eqb _ _ (ap (λ (x : ℕ). x % 16) col)))

-- one bit more is set
pub with_bit_bits : (w : List ℕ) (words a b c d : ℕ) → a * words + b / 16 < length w → b / 16 < words → d / 16 < words
    → bit_in (with_bit w words a b) words c d ≡ ((eqb c a && eqb d b) || bit_in w words c d)
unfolding bit_in with_bit
with_bit_bits w words a b c d room h k =
    bit_stored w (a * words + b / 16) (b % 16) (c * words + d / 16) (d % 16) room
    ∙ ap (λ (t : Bool). t || bit_in w words c d) (same_bit words a b c d h k)

-- joining leaves every other element as it was
with_words_apart : (w : List ℕ) (into from n p : ℕ) → (p < into) ⊎ (into + n ≤ p)
    → get_or (with_words w into from n) p 0 ≡ get_or w p 0
unfolding with_words
with_words_apart w into from zero p h = refl
with_words_apart w into from (suc n) p (inl l) =
    get_or-set_other (with_words w into from n) (into + n) p _ 0 (λ e. omega arith)
    ∙ with_words_apart w into from n p (inl l)
with_words_apart w into from (suc n) p (inr l) =
    get_or-set_other (with_words w into from n) (into + n) p _ 0 (λ e. omega arith)
    ∙ with_words_apart w into from n p (inr (omega arith))

-- joining ors the elements: none that is still to be read was stored to before
with_words_at : (w : List ℕ) (into from n q : ℕ) → q < n → into + n ≤ length w → (into ≤ from) ⊎ (from + n ≤ into)
    → get_or (with_words w into from n) (into + q) 0 ≡ bit_or (get_or w (into + q) 0) (get_or w (from + q) 0)
unfolding with_words
with_words_at w into from zero q h room apart = absurd (omega arith)
with_words_at w into from (suc n) q h room apart =
    elim (ℕ_discrete q n) [
      | yes e ↦
          let place : into + n < length (with_words w into from n) = omega (arith, with_words_long w into from n) in
          rw e (
          get_or-set_same (with_words w into from n) (into + n) _ 0 place
          ∙ ap₂ bit_or
          (with_words_apart w into from n (into + n) (inr (omega arith)))
          (with_words_apart w into from n (from + n) (untouched apart))
          )
      | no ne ↦
          get_or-set_other (with_words w into from n) (into + n) (into + q) _ 0 (λ e. ne (omega arith))
          ∙ with_words_at w into from n q (omega arith) (omega arith) (sooner apart)
    ]
  where
    untouched : (into ≤ from) ⊎ (from + suc n ≤ into) → (from + n < into) ⊎ (into + n ≤ from + n)
    untouched (inl l) = inr (omega arith)
    untouched (inr l) = inl (omega arith)

    sooner : (into ≤ from) ⊎ (from + suc n ≤ into) → (into ≤ from) ⊎ (from + n ≤ into)
    sooner (inl l) = inl l
    sooner (inr l) = inr (omega arith)

-- of two rows one starts at or behind the other's start, or behind its end
rows_apart : (words a k : ℕ) → (a * words ≤ k * words) ⊎ (k * words + words ≤ a * words)
rows_apart words a k =
    elim (dec_lt k a) [
      | yes l ↦ inr (row_room words a k l)
      | no n ↦ inl (mul-le-mul_right words (omega arith))
    ]

-- another row's elements lie before a row or behind it
other_row : (words a c d : ℕ) → c ≢ a → d / 16 < words
    → (c * words + d / 16 < a * words) ⊎ (a * words + words ≤ c * words + d / 16)
other_row words a c d ne k =
    elim (dec_lt c a) [
      | yes l ↦ inl (omega (arith, row_room words a c l))
      | no n ↦
          let l : a < c = lt_of_le-ne (omega arith) (λ e. ne (sym e)) in
          inr (omega (arith, row_room words c a l))
    ]

-- the bits of row k are set in row a, and no other is
pub with_words_bits : (w : List ℕ) (words a k c d : ℕ) → a * words + words ≤ length w → d / 16 < words
    → bit_in (with_words w (a * words) (k * words) words) words c d
    ≡ (bit_in w words c d || (eqb c a && bit_in w words k d))
unfolding bit_in
with_words_bits w words a k c d room h =
    elim (ℕ_discrete c a) [
      | yes e ↦
          rw (e, eq-eqb a a refl) (
          ap (λ (n : ℕ). bit n (d % 16))
          (with_words_at w (a * words) (k * words) words (d / 16) h room (rows_apart words a k))
          ∙ bit_of_or (get_or w (a * words + d / 16) 0) (get_or w (k * words + d / 16) 0) (d % 16)
          )
      | no ne ↦
          rw (ne_eqb c a ne) (
          ap (λ (n : ℕ). bit n (d % 16))
          (with_words_apart w (a * words) (k * words) words (c * words + d / 16) (other_row words a c d ne h))
          ∙ sym (or-false (bit (get_or w (c * words + d / 16) 0) (d % 16)))
          )
    ]
