-- The numbers of a file one after the other: which number begins at a place.
--   Begins s k p         the k-th number of the file begins at the place p: the zone count is number 0, the arc count
--                        number 1, the tail of arc i number 2 + 2 i and its head number 3 + 2 i
--   Numbered s k p v     the k-th number begins at p, and is v
--   Within s k at p      the place p is in the k-th number, which begins at `at`: up to p each byte of it says that
--                        another group follows
--   ends_before s p      how many of the bytes before p are below 128, and so end a number
--   begins_inside        a number begins within the bytes, or where they end
--   begins_count         where the k-th number begins, k numbers end before;   within_count   and within it, too
--   CountedTo s p       the place p is in the number whose index is counted so;   within_counted, begins_counted
-- Of the bytes of a number the last is below 128, and no other. Assumes nothing.
use Prim.Native.Nat.{ℕ, zero, suc, ◌+◌, ◌-◌, ◌<◌, ◌≤◌}
use native.Mathlib.Omega.{arith}
use native.Mathlib.Nat.{add-zero}
use native.Mathlib.Numerals.{add-one}
use mathlib.Core.Path.{◌≡◌, refl, sym, ◌∙◌, ap}
use mathlib.Core.Bool.{Bool}
use mathlib.Core.List.{List, [], ◌∷◌}
use lib.ListN.{length, get_or, take, length-append}
use lib.Seq.{take-suc}
use lib.Dec.{ltb}
use borrow.Author.Tests.{lt-ltb, le-ltb}
use Rattle.rules.specs.Lists.{keep}
use Rattle.rules.specs.Number.{got, number_at}
use Rattle.theory.proofs.Ground.Lists.{keep_hit, keep_miss, keep_append}
use Rattle.theory.proofs.Files.NumberLaws.{Groups, one, two, three, number_groups}

-- the k-th number of a file begins at a place
pub data Begins (s : List ℕ) : ℕ → ℕ → Type 0 where
  first : Begins s 0 0
  next : {k l at v end : ℕ} → Begins s k at → number_at s at ≡ got v end → l ≡ k + 1 → Begins s l end

-- the k-th number begins at p, and is v
pub record Numbered (s : List ℕ) (k p v : ℕ) : Type 0 where
  pub begins : Begins s k p
  pub end : ℕ
  pub reads : number_at s p ≡ got v end

-- the place p is in the k-th number, which begins at `at`: each byte before p says that another group follows
pub record Within (s : List ℕ) (k at p : ℕ) : Type 0 where
  pub begins : Begins s k at
  pub from : at ≤ p
  pub before : (i : ℕ) → at ≤ i → i < p → 128 ≤ get_or s i 0

-- a byte that ends a number
abbrev ends : ℕ → Bool
ends b = ltb b 128

-- how many of the bytes before a place are below 128, and so end a number
abbrev pub ends_before : List ℕ → ℕ → ℕ
ends_before s p = length (keep ends (take p s))

-- the place p is in the number of the file before which as many numbers come as bytes below 128 stand before p
abbrev pub CountedTo : List ℕ → ℕ → Type 0
CountedTo s p = (at : ℕ) × Within s (ends_before s p) at p

module _ (s : List ℕ) where
  -- one place further, the byte that is passed may count too
  passed : (p : ℕ) → p < length s → ends_before s (p + 1) ≡ ends_before s p + length (keep ends (get_or s p 0 ∷ []))
  passed p inside =
      ap (ends_before s) (add-one p)
      ∙ ap (λ (l : List ℕ). length (keep ends l)) (take-suc s p 0 inside)
      ∙ ap length (keep_append ends (take p s) (get_or s p 0 ∷ []))
      ∙ length-append (keep ends (take p s)) (keep ends (get_or s p 0 ∷ []))

  -- a byte that ends a number counts
  passed_last : (p : ℕ) → p < length s → get_or s p 0 < 128 → ends_before s (p + 1) ≡ ends_before s p + 1
  passed_last p inside small =
      passed p inside
      ∙ ap (λ (l : List ℕ). ends_before s p + length l)
      (keep_hit ends {x = get_or s p 0} [] (lt-ltb (get_or s p 0) 128 small))

  -- one that says that another group follows does not
  passed_more : (p : ℕ) → p < length s → 128 ≤ get_or s p 0 → ends_before s (p + 1) ≡ ends_before s p
  passed_more p inside large =
      passed p inside
      ∙ ap (λ (l : List ℕ). ends_before s p + length l)
      (keep_miss ends {x = get_or s p 0} [] (le-ltb (get_or s p 0) 128 large))
      ∙ add-zero (ends_before s p)

  -- bytes that all say that another group follows: none counts
  passed_all : (at d : ℕ) → at + d ≤ length s → ((i : ℕ) → at ≤ i → i < at + d → 128 ≤ get_or s i 0)
      → ends_before s (at + d) ≡ ends_before s at
  passed_all at zero fits more = ap (ends_before s) (add-zero at)
  passed_all at (suc d) fits more =
      ap (ends_before s) (let e : at + suc d ≡ at + d + 1 = omega arith in e)
      ∙ passed_more (at + d) (omega arith) (more (at + d) (omega arith) (omega arith))
      ∙ passed_all at d (omega arith) (λ i low high. more i low (omega arith))

  -- of the bytes of a number the last counts, and no other
  number_ends : (at : ℕ) {v end : ℕ} → number_at s at ≡ got v end → ends_before s end ≡ ends_before s at + 1
  number_ends at e = go (number_groups s at e)
    where
      go : {v end : ℕ} → Groups s at v end → ends_before s end ≡ ends_before s at + 1
      go (one b small m) = rw m (passed_last at b.0 (omega (arith, b.1)))
      go (two a b f g some small n m) =
          let last = passed_last (at + 1) g.0 (omega (arith, g.1)) in
          let more = passed_more at f.0 (omega (arith, f.1)) in
          ap (ends_before s) (m ∙ sym (let e : at + 1 + 1 ≡ at + 2 = omega arith in e))
          ∙ last ∙ ap (λ (k : ℕ). k + 1) more
      go (three a b c f g h some small n m) =
          let last = passed_last (at + 2) h.0 (omega (arith, h.1)) in
          let more = passed_more (at + 1) g.0 (omega (arith, g.1)) in
          let first = passed_more at f.0 (omega (arith, f.1)) in
          ap (ends_before s) (m ∙ sym (let e : at + 2 + 1 ≡ at + 3 = omega arith in e))
          ∙ last
          ∙ ap (λ (k : ℕ). ends_before s k + 1) (sym (let e : at + 1 + 1 ≡ at + 2 = omega arith in e))
          ∙ ap (λ (k : ℕ). k + 1) (more ∙ first)

  -- a number that is read ends within the bytes
  number_inside : (at : ℕ) {v end : ℕ} → number_at s at ≡ got v end → end ≤ length s
  number_inside at e = go (number_groups s at e)
    where
      go : {v end : ℕ} → Groups s at v end → end ≤ length s
      go (one b small m) = omega (arith, b.0)
      go (two a b f g some small n m) = omega (arith, g.0)
      go (three a b c f g h some small n m) = omega (arith, h.0)

  -- so a number begins within them, or where they end
  pub begins_inside : {k p : ℕ} → Begins s k p → p ≤ length s
  begins_inside first = omega arith
  begins_inside (next {at = at} b e l) = number_inside at e

  -- where the k-th number begins, k numbers end before
  pub begins_count : {k p : ℕ} → Begins s k p → ends_before s p ≡ k
  begins_count first = refl
  begins_count (next {at = at} b e l) = number_ends at e ∙ ap (λ (k : ℕ). k + 1) (begins_count b) ∙ sym l

  -- and within it, too
  pub within_count : {k at p : ℕ} → Within s k at p → p ≤ length s → ends_before s p ≡ k
  within_count {k} {at} {p} W fits =
      let place : p ≡ at + (p - at) = omega (arith, W.from) in
      ap (ends_before s) place
      ∙ passed_all at (p - at) (omega arith) (λ i low high. W.before i low (omega arith))
      ∙ begins_count W.begins

  -- its place is counted to
  pub within_counted : {k at p : ℕ} → Within s k at p → p ≤ length s → CountedTo s p
  within_counted {k} {at} W fits = (at, rw (within_count W fits) W)

  -- and where a number begins, it is in that number
  pub begins_within : {k p : ℕ} → Begins s k p → Within s k p p
  begins_within b = record { begins = b; from = omega arith; before = λ i low high. absurd (omega arith) }

  -- so that place is counted to, too
  pub begins_counted : {k p : ℕ} → Begins s k p → CountedTo s p
  begins_counted b = within_counted (begins_within b) (begins_inside b)
