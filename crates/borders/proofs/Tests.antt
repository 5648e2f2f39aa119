-- Tests over lists, one element at a time.
--   raised_one    what `any` says of a list and one element more, as 1 or 0
--   keep_keep     what passes two tests, one after the other, passes both
--   keep_put, keep_skip   what passes a test among one number more, where it passes and where it does not
--   keep_few      no more pass than there are
--   yes_zero, yes_one   a test's 1 or 0, compared;   both_ways   two tests, either way round
-- Assumes nothing.
use mathlib.Core.Path.{◌≡◌, refl, sym, ap, ◌∙◌}
use mathlib.Core.Logic.{inl, inr}
use mathlib.Core.Bool.{Bool, true, false, not, ◌&&◌}
use mathlib.Core.List.{List, [], ◌∷◌, ◌++◌, append-nil}
use Prim.Native.Nat.{ℕ, ◌+◌, ◌≤◌}
use lib.Dec.{eqb}
use lib.ListN.{length}
use Rattle.rules.specs.Lists.{any, keep, span}
use Rattle.rules.specs.Answers.{yes_number}
use Rattle.theory.proofs.Ground.Bools.{bool_cases}
use Rattle.theory.proofs.Ground.Lists.{any_hit, any_miss, keep_hit, keep_miss, keep_append}
use Rattle.theory.proofs.Ground.Counting.{keep_length}
use Rattle.theory.proofs.Ground.Ascending.{span_length}
use Rattle.theory.proofs.Ground.Ascending.{span_more}
use Rattle.borders.specs.Borders.{raised}

-- A test's 1 or 0 is raised to 1, or kept.
raised_true : (b : Bool) → raised b 1 ≡ 1
raised_true true = refl
raised_true false = refl

-- What `any` says of a list, raised by one element more, is what it says of both.
pub raised_one : {A : Type 0} (p : A → Bool) (xs : List A) (x : A)
    → raised (p x) (yes_number (any p xs)) ≡ yes_number (any p (xs ++ (x ∷ [])))
raised_one p [] x = go (p x) refl
  where
    go : (b : Bool) → p x ≡ b → raised (p x) 0 ≡ yes_number (any p (x ∷ []))
    go true e = rw (any_hit p [] e, e)
    go false e = rw (any_miss p [] e, e)
raised_one p (y ∷ ys) x = elim (bool_cases (p y)) [
  | inl e ↦ rw (any_hit p ys e, any_hit p (ys ++ (x ∷ [])) e) (raised_true (p x))
  | inr e ↦ rw (any_miss p ys e, any_miss p (ys ++ (x ∷ [])) e) (raised_one p ys x)
]

-- What passes two tests, one after the other, passes both.
pub keep_keep : {A : Type 0} (p q : A → Bool) (xs : List A) → keep q (keep p xs) ≡ keep (λ x. p x && q x) xs
keep_keep p q [] = refl
keep_keep p q (x ∷ xs) = elim (bool_cases (p x)) [
  | inl e ↦ ap (keep q) (keep_hit p xs e) ∙ elim (bool_cases (q x)) [
    | inl f ↦ keep_hit q (keep p xs) f
        ∙ ap (λ ys. x ∷ ys) (keep_keep p q xs)
        ∙ sym (keep_hit (λ x. p x && q x) xs (rw (e, f)))
    | inr f ↦ keep_miss q (keep p xs) f
        ∙ keep_keep p q xs
        ∙ sym (keep_miss (λ x. p x && q x) xs (rw (e, f)))
  ]
  | inr e ↦ ap (keep q) (keep_miss p xs e)
      ∙ keep_keep p q xs
      ∙ sym (keep_miss (λ x. p x && q x) xs (rw e))
]

-- A test's 1 or 0 is 0 where the test says no.
pub yes_zero : (b : Bool) → eqb (yes_number b) 0 ≡ not b
yes_zero true = refl
yes_zero false = refl

-- A test's 1 or 0 is 1 where the test says yes.
pub yes_one : (b : Bool) → eqb (yes_number b) 1 ≡ b
yes_one true = refl
yes_one false = refl

-- One test after the other, either way round.
pub both_ways : (a b : Bool) → (not a && b) ≡ (b && not a)
both_ways true true = refl
both_ways true false = refl
both_ways false true = refl
both_ways false false = refl

-- Among one number more that passes a test, it comes last.
pub keep_put : (p : ℕ → Bool) (z : ℕ) → p z ≡ true → keep p (span 0 (z + 1)) ≡ keep p (span 0 z) ++ (z ∷ [])
keep_put p z e =
    ap (keep p) (span_more z)
    ∙ keep_append p (span 0 z) (z ∷ [])
    ∙ ap (λ (zs : List ℕ). keep p (span 0 z) ++ zs) (keep_hit p [] e)

-- Among one number more that does not pass, the same pass.
pub keep_skip : (p : ℕ → Bool) (z : ℕ) → p z ≡ false → keep p (span 0 (z + 1)) ≡ keep p (span 0 z)
keep_skip p z e =
    ap (keep p) (span_more z)
    ∙ keep_append p (span 0 z) (z ∷ [])
    ∙ ap (λ (zs : List ℕ). keep p (span 0 z) ++ zs) (keep_miss p [] e)
    ∙ append-nil (keep p (span 0 z))

-- No more pass than there are.
pub keep_few : (p : ℕ → Bool) (z n : ℕ) → length (keep p (span z n)) ≤ n
keep_few p z n = rw (span_length z n) at (keep_length p (span z n))
