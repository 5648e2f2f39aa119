-- Laws of the set and of the list that it is filled from, with no code in them.
--   Filling      the words of a set that is being filled: of each number, it is in them or still to come
--   fill_none, fill_turn, fill_all   before the first number, one number more, and past the last
--   one_test     tests that say the same of every number are equal
-- A set is row 0 of a table, so the laws of bits say what setting one does. Assumes nothing.
use mathlib.Core.Path.{◌≡◌, refl, sym, ap, ◌∙◌}
use mathlib.Core.Bool.{Bool, true, false, not, ◌&&◌, ◌||◌}
use mathlib.Core.List.{List, [], ◌∷◌, Memᴰ as In}
use mathlib.Core.Logic.{inl, inr}
use Prim.Native.Nat.{ℕ, ◌+◌, ◌/◌, ◌%◌, ◌≤◌, ◌<◌}
use native.Mathlib.Omega.{arith}
use borrow.Author.Tests.{lt-ltb, le-ltb}
use lib.Dec.{eqb, eqb-suc-zero}
use lib.ListN.{length, get_or, drop, replicate, drop_of_length-le}
use Rattle.std.proofs.lemmas.List.{get_or-replicate, at_drop_more}
use Rattle.std.proofs.lemmas.Bool.{cases_lt}
use Rattle.rules.specs.Lists.{listed}
use Rattle.theory.proofs.Withdrawn.Remaining.{false_listed}
use Rattle.bits.specs.Bits.{bit, bit_in, with_bit}
use Rattle.bits.proofs.Numbers.{bit_none}
use Rattle.bits.proofs.Tables.{with_bit_bits, with_bit_long}
use Rattle.zoneset.specs.Held.{held}

-- of each number below 1,024, it is in the words or among those from place i on, exactly where it is in the list
pub record Filling (ws xs : List ℕ) (i : ℕ) : Type 0 where
  pub long : length ws ≡ 64
  pub all : (z : ℕ) → z < 1024 → (bit_in ws 64 0 z || listed (drop i xs) z) ≡ listed xs z

-- before the first number
pub fill_none : (xs : List ℕ) → Filling (replicate 64 0) xs 0
unfolding bit_in
fill_none xs =
    record {
      long = refl;
      all =
          λ z h.
          ap (λ (n : ℕ). bit n (z % 16) || listed xs z) (get_or-replicate 64 (0 + z / 16) 0 0 (omega arith))
          ∙ ap (λ (b : Bool). b || listed xs z) (bit_none (z % 16));
    }

-- one number more, x
pub fill_turn : {ws xs : List ℕ} {i x : ℕ} → Filling ws xs i → i < length xs → get_or xs i 0 < 1024 → x ≡ get_or xs i 0
    → Filling (with_bit ws 64 0 x) xs (i + 1)
fill_turn {ws} {xs} {i} {x} F inside low e =
    rw e
    (record {
      long = with_bit_long ws 64 0 (get_or xs i 0) ∙ F.long;
      all =
          λ z h.
          ap (λ (b : Bool). b || listed (drop (i + 1) xs) z)
          (with_bit_bits ws 64 0 (get_or xs i 0) 0 z (omega (arith, F.long)) (omega arith) (omega arith))
          ∙ moved (eqb z (get_or xs i 0)) (bit_in ws 64 0 z) (listed (drop (i + 1) xs) z)
          ∙ ap (λ (b : Bool). bit_in ws 64 0 z || b) (sym (at_drop_more (λ ys. listed ys z) xs i 0 inside))
          ∙ F.all z h;
    })
  where
    moved : (t b r : Bool) → ((t || b) || r) ≡ (b || elim t [ true ↦ true | false ↦ r ])
    moved true true r = refl
    moved true false r = refl
    moved false true r = refl
    moved false false r = refl

-- past the last, the set holds the numbers of the list: no word is looked at where the list is empty
pub fill_all : {ws xs : List ℕ} {i : ℕ} → Filling ws xs i → length xs ≤ i → ((z : ℕ) → In z xs → z < 1024)
    → (none : Bool) → none ≡ eqb (length xs) 0 → (z : ℕ) → held (record { words = ws; any = not none }) z ≡ listed xs z
unfolding held
fill_all {ws} {xs} {i} F past low none e z =
    elim (cases_lt z 1024) [
      | inl h ↦
          let rest : drop i xs ≡ [] = drop_of_length-le xs past in
          rw (lt-ltb z 1024 h) (known xs none e (bit_in ws 64 0 z) (sym (rw rest at (F.all z h))))
      | inr h ↦
          rw (le-ltb z 1024 h, false_listed xs z (λ m. omega (arith, low z m)))
          (off (not none) (bit_in ws 64 0 z))
    ]
  where
    off : (a b : Bool) → ((a && false) && b) ≡ false
    off true b = refl
    off false b = refl

    known : (ys : List ℕ) (none : Bool) → none ≡ eqb (length ys) 0 → (b : Bool) → listed ys z ≡ (b || false)
        → ((not none && true) && b) ≡ listed ys z
    known [] none e b f = rw e refl
    known (y ∷ ys) none e true f = rw (e, f, eqb-suc-zero (length ys)) refl
    known (y ∷ ys) none e false f = rw (e, f, eqb-suc-zero (length ys)) refl

-- tests that say the same of every number are one test: so a definition over a test of numbers holds of either
pub one_test : {f g : ℕ → Bool} → ((z : ℕ) → f z ≡ g z) → f ≡ g
one_test h = λ i z. h z i
