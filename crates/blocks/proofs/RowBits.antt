-- What each step of a turn does to the bits of the table.
--   united_bits               the bits of the heads' rows go into row j
--   taken_bits, noted_bits    the bits of the heads that are of the block go into row j
--   place_turned_bits         both: row j is R, from the rows of its heads
-- A bit is named by its row c and its number d, and a component of the block by l = first + d. Assumes nothing.
use mathlib.Core.Path.{◌≡◌, refl, ap, ap₂, ◌∙◌}
use mathlib.Core.Logic.{inl, inr}
use mathlib.Core.Bool.{Bool, true, false, ◌&&◌, ◌||◌, or-false, or_comm}
use mathlib.Core.List.{List, [], ◌∷◌, Memᴰ as In}
use Prim.Native.Nat.{ℕ, ◌+◌, ◌-◌, ◌*◌, ◌/◌, ◌≤◌, ◌<◌}
use native.Mathlib.Omega.{arith}
use borrow.Author.Tests.{eqb-true, eq-eqb, ne_eqb, not-false}
use lib.Dec.{eqb}
use lib.ListN.{length}
use Rattle.rules.specs.Lists.{any}
use Rattle.theory.proofs.Ground.Bools.{bool_cases, bool_agree, and_true, or_else, or_true, true_or}
use Rattle.theory.proofs.Ground.Lists.{any_agree}
use Rattle.bits.specs.Bits.{bit_in, with_words}
use Rattle.bits.proofs.Tables.{with_words_long, with_words_bits, with_bit_bits}
use Rattle.theory.proofs.Skeletons.TableStep.{by_one}
use Rattle.uniting.specs.Uniting.{united}
use Rattle.taking.specs.Taking.{fresh, taken}
use Rattle.turning.specs.Steps.{noted, place_turned}
use Rattle.taking.proofs.Fresh.{fresh_inside, fresh_true}
use Rattle.taking.proofs.Taken.{taken_yes, taken_no, taken_long}
use Rattle.uniting.proofs.United.{united_long}

-- two additions to a row are one
fold : (a e b c : Bool) → ((a || (e && b)) || (e && c)) ≡ (a || (e && or_else b c))
fold true e b c = refl
fold false true true c = refl
fold false true false c = refl
fold false false b c = refl

-- with no additions it stays
none : (a e : Bool) → a ≡ (a || (e && false))
none true e = refl
none false true = refl
none false false = refl

-- the bits of the heads' rows go into row j, which is none of them
pub united_bits : (w : List ℕ) (j : ℕ) (ks : List ℕ) (c d : ℕ) → j * 8 + 8 ≤ length w → d < 128
    → ((k : ℕ) → In k ks → k ≡ j → ⊥)
    → bit_in (united w j ks) 8 c d ≡ (bit_in w 8 c d || (eqb c j && any (λ k. bit_in w 8 k d) ks))
unfolding united
united_bits w j [] c d room h other = none (bit_in w 8 c d) (eqb c j)
united_bits w j (k ∷ ks) c d room h other =
    let v = with_words w (j * 8) (k * 8) 8 in
    let low : d / 16 < 8 = omega arith in
    let room' : j * 8 + 8 ≤ length v = omega (arith, with_words_long w (j * 8) (k * 8) 8) in
    united_bits v j ks c d room' h (λ x m. other x (In.tail m))
    ∙ ap₂ (λ (x y : Bool). x || (eqb c j && y))
    (with_words_bits w 8 j k c d room low)
    (any_agree (λ x. bit_in v 8 x d) (λ x. bit_in w 8 x d) ks
    (λ x m. with_words_bits w 8 j k x d room low ∙ alone x (other x (In.tail m))))
    ∙ fold (bit_in w 8 c d) (eqb c j) (bit_in w 8 k d) (any (λ x. bit_in w 8 x d) ks)
  where
    alone : (x : ℕ) → (x ≡ j → ⊥) → (bit_in w 8 x d || (eqb x j && bit_in w 8 k d)) ≡ bit_in w 8 x d
    alone x n = rw (ne_eqb x j n) (or-false (bit_in w 8 x d))

-- the bit of a head that is of the block goes into row j
pub taken_bits : (w : List ℕ) (first j k c d : ℕ) → j * 8 + 8 ≤ length w → d < 128
    → bit_in (taken w first j k) 8 c d ≡ (bit_in w 8 c d || (eqb c j && eqb k (first + d)))
taken_bits w first j k c d room h =
    elim (bool_cases (fresh w first j k)) [
      | inl e ↦
          let f = fresh_true w first j k e in
          let same : eqb d (k - first) ≡ eqb k (first + d) = places f.0 in
          ap (λ (x : List ℕ). bit_in x 8 c d) (taken_yes w first j k e)
          ∙ with_bit_bits w 8 j (k - first) c d (omega (arith, f.1.0)) (omega (arith, f.1.0)) (omega arith)
          ∙ ap (λ (b : Bool). (eqb c j && b) || bit_in w 8 c d) same
          ∙ or_comm (eqb c j && eqb k (first + d)) (bit_in w 8 c d)
      | inr e ↦
          ap (λ (x : List ℕ). bit_in x 8 c d) (taken_no w first j k e)
          ∙ bool_agree
          (λ t. true_or (bit_in w 8 c d) (eqb c j && eqb k (first + d)) (inl t))
          (λ t. elim (or_true (bit_in w 8 c d) (eqb c j && eqb k (first + d)) t) [
            | inl q ↦ q
            | inr q ↦
                let p = and_true (eqb c j) (eqb k (first + d)) q in
                let row = eqb-true c j p.0 in
                let col = eqb-true k (first + d) p.1 in
                let at : k - first ≡ d = omega arith in
                let old : bit_in w 8 j (k - first) ≡ true =
                not-false (bit_in w 8 j (k - first)) (fresh_inside w first j k (omega arith) (omega arith) ∙ e) in
                rw row (rw at at old)
          ])
    ]
  where
    places : first ≤ k → eqb d (k - first) ≡ eqb k (first + d)
    places l =
        bool_agree
        (λ t. let q = eqb-true d (k - first) t in eq-eqb k (first + d) (omega arith))
        (λ t. let q = eqb-true k (first + d) t in eq-eqb d (k - first) (omega arith))

-- the bits of the heads that are of the block go into row j
noted_bits : (w : List ℕ) (first j : ℕ) (ks : List ℕ) (c d : ℕ) → j * 8 + 8 ≤ length w → d < 128
    → bit_in (noted w first j ks) 8 c d ≡ (bit_in w 8 c d || (eqb c j && any (λ k. eqb k (first + d)) ks))
unfolding noted
noted_bits w first j [] c d room h = none (bit_in w 8 c d) (eqb c j)
noted_bits w first j (k ∷ ks) c d room h =
    let room' : j * 8 + 8 ≤ length (taken w first j k) = omega (arith, taken_long w first j k) in
    noted_bits (taken w first j k) first j ks c d room' h
    ∙ ap (λ (x : Bool). x || (eqb c j && any (λ y. eqb y (first + d)) ks)) (taken_bits w first j k c d room h)
    ∙ fold (bit_in w 8 c d) (eqb c j) (eqb k (first + d)) (any (λ y. eqb y (first + d)) ks)

-- whether some element passes the one test or the other
any_or : (p q : ℕ → Bool) (ks : List ℕ) → or_else (any p ks) (any q ks) ≡ any (λ k. q k || p k) ks
any_or p q [] = refl
any_or p q (k ∷ ks) = go (p k) (q k) (any p ks) (any q ks) (any_or p q ks)
  where
    go : (a b x y : Bool) {z : Bool} → or_else x y ≡ z → or_else (or_else a x) (or_else b y) ≡ or_else (b || a) z
    go true true x y e = refl
    go true false x y e = refl
    go false true true y e = refl
    go false true false y e = refl
    go false false x y e = e

-- row j is R, from the rows of its heads
pub place_turned_bits : (w : List ℕ) (first j : ℕ) (ks : List ℕ) (c l : ℕ) → j * 8 + 8 ≤ length w → first ≤ l
    → l - first < 128 → ((k : ℕ) → In k ks → k ≡ j → ⊥)
    → bit_in (place_turned w first j ks) 8 c (l - first)
    ≡ (bit_in w 8 c (l - first) || (eqb c j && by_one (λ k b. bit_in w 8 k (b - first)) ks l))
unfolding place_turned
place_turned_bits w first j ks c l room low h other =
    let room' : j * 8 + 8 ≤ length (united w j ks) = omega (arith, united_long w j ks) in
    let at : first + (l - first) ≡ l = omega arith in
    noted_bits (united w j ks) first j ks c (l - first) room' h
    ∙ ap₂ (λ (x : Bool) (y : ℕ). x || (eqb c j && any (λ k. eqb k y) ks))
    (united_bits w j ks c (l - first) room h other) at
    ∙ fold (bit_in w 8 c (l - first)) (eqb c j) (any (λ k. bit_in w 8 k (l - first)) ks) (any (λ k. eqb k l) ks)
    ∙ ap (λ (x : Bool). bit_in w 8 c (l - first) || (eqb c j && x))
    (any_or (λ k. bit_in w 8 k (l - first)) (λ k. eqb k l) ks)
