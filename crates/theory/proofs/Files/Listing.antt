-- The list of withdrawn numbers: LIST and NONE.
--   Rising n low xs     the numbers ascend, the first is at least low, and all are below n
--   list_rises, rises_list   LIST is not said exactly of such a list
--   list_place          where it is said: the first k numbers are such a list and the first k + 1 are not
--   rising_ascending, rising_below, ascending_rising   such a list from 0 on: it ascends, and all are below n; and back
--   some_remains, remains_some   NONE is not said exactly where a zone remains
--   none_count          of a list that passed LIST: it is said exactly where the list is as long as the zone count
-- A test that does not fail is one fact; the tests of a list go one after the other. Assumes nothing.
use Prim.Native.Nat.{ℕ, suc, ◌+◌, ◌≤◌, ◌<◌}
use native.Mathlib.Omega.{arith}
use mathlib.Core.Path.{◌≡◌, refl, sym, ap, ◌∙◌, subst}
use mathlib.Core.Logic.{inl, inr}
use mathlib.Core.List.Memᴰ
use mathlib.Core.List.{List, [], ◌∷◌, Memᴰ as In}
use mathlib.Core.Option.{none, some}
use mathlib.Core.Bool.{true, false, not, ◌||◌}
use lib.Dec.{eqb, leb, ltb}
use lib.ListN.{length, take}
use borrow.Author.Tests.{leb-false, ltb-false, eqb-true, lt-leb, le-ltb, eq-eqb}
use Rattle.rules.specs.declared.TroubleKind.TheVariants.{ZoneList}
use Rattle.rules.specs.declared.Trouble.{Trouble}
use Rattle.rules.specs.Lists.{span, every, listed}
use Rattle.rules.specs.Answers.{refusal}
use Rattle.rules.specs.Network.{Above, Ascending, remaining}
use Rattle.rules.specs.Calls.{first_trouble, list_tests}
use Rattle.theory.proofs.Ground.Bools.{bool_agree, or_false, true_not_false, true_unless, false_unless}
use Rattle.theory.proofs.Ground.Lists.{every_true, every_false, keep_in, in_keep}
use Rattle.theory.proofs.Ground.Ascending.{in_span, span_ascending, span_length}
use Rattle.theory.proofs.Ground.Counting.{answers_count, ascending_distinct}
use Rattle.theory.proofs.Withdrawn.Remaining.{listed_true, true_listed, stays, remaining_in}
use Rattle.theory.proofs.Files.Troubles.{passes, pass, fails_or, none_not_some}

-- the numbers ascend, the first is at least low, and all are below n
abbrev pub Rising : ℕ → ℕ → List ℕ → Type 0
Rising n low [] = Unit {0}
Rising n low (x ∷ xs) = (low ≤ x) × (x < n) × Rising n (suc x) xs

-- what the test of one number says
number_good : (n low x : ℕ) → (leb n x || ltb x low) ≡ false → (low ≤ x) × (x < n)
number_good n low x e =
    let p = or_false (leb n x) (ltb x low) e in
    (ltb-false x low p.1, leb-false n x p.0)

-- and back
good_number : (n low x : ℕ) → low ≤ x → x < n → (leb n x || ltb x low) ≡ false
good_number n low x l h = rw (lt-leb n x h, le-ltb x low l)

-- a list of which LIST is not said rises
pub list_rises : (n i low : ℕ) (xs : List ℕ) → first_trouble (list_tests n i low xs) ≡ none → Rising n low xs
list_rises n i low [] e = tt
list_rises n i low (x ∷ xs) e =
    let p = passes (leb n x || ltb x low) _ _ e in
    let g = number_good n low x p.0 in
    (g.0, g.1, list_rises n (suc i) (suc x) xs p.1)

-- of a list that rises LIST is not said
pub rises_list : (n i low : ℕ) (xs : List ℕ) → Rising n low xs → first_trouble (list_tests n i low xs) ≡ none
rises_list n i low [] h = refl
rises_list n i low (x ∷ xs) h =
    pass (leb n x || ltb x low) _ (good_number n low x h.0 h.1) (rises_list n (suc i) (suc x) xs h.2)

-- where LIST is said of a list, and at which index
pub record Breaks (n i low : ℕ) (xs : List ℕ) (r : Trouble) : Type 0 where
  pub index : ℕ
  pub inside : index < length xs
  pub says : r ≡ refusal ZoneList (i + index)
  pub good_so_far : Rising n low (take index xs)
  pub not_further : Rising n low (take (suc index) xs) → ⊥

-- LIST is said at the first index up to which the list does not rise
pub list_place : (n i low : ℕ) (xs : List ℕ) (r : Trouble)
    → first_trouble (list_tests n i low xs) ≡ some r → Breaks n i low xs r
list_place n i low [] r e = absurd (none_not_some refl e)
list_place n i low (x ∷ xs) r e =
    elim (fails_or (leb n x || ltb x low) _ _ e) [
      | inl b ↦
          let z : i ≡ i + 0 = omega arith in
          record {
            index = 0;
            inside = omega arith;
            says = sym b.1 ∙ ap (refusal ZoneList) z;
            good_so_far = tt;
            not_further = λ h. true_not_false b.0 (good_number n low x h.0 h.1);
          }
      | inr b ↦
          let g = number_good n low x b.0 in
          let s = list_place n (suc i) (suc x) xs r b.1 in
          let z : suc i + s.index ≡ i + suc s.index = omega arith in
          record {
            index = suc s.index;
            inside = omega (arith, s.inside);
            says = s.says ∙ ap (refusal ZoneList) z;
            good_so_far = (g.0, g.1, s.good_so_far);
            not_further = λ h. s.not_further h.2;
          }
    ]

-- a list that rises from above a number ascends from above it
rising_above : (n a : ℕ) (xs : List ℕ) → Rising n (suc a) xs → Above a xs
rising_above n a [] h = tt
rising_above n a (x ∷ xs) h = (h.0, rising_above n x xs h.2)

-- a list that rises ascends
pub rising_ascending : (n low : ℕ) (xs : List ℕ) → Rising n low xs → Ascending xs
rising_ascending n low [] h = tt
rising_ascending n low (x ∷ xs) h = rising_above n x xs h.2

-- a number of a list that rises is below n
pub rising_below : (n low : ℕ) (xs : List ℕ) {z : ℕ} → Rising n low xs → In z xs → z < n
rising_below n low [] h m = elim m [ ]
rising_below n low (x ∷ xs) h m =
    elim (Memᴰ.cases_cons m) [ inl e ↦ rw e h.1 | inr k ↦ rising_below n (suc x) xs h.2 k ]

-- a list that ascends from above a number, with numbers below n, rises
above_rising : (n a : ℕ) (xs : List ℕ) → Above a xs → ((z : ℕ) → In z xs → z < n) → Rising n (suc a) xs
above_rising n a [] h l = tt
above_rising n a (x ∷ xs) h l =
    (h.0, l x (In.head refl), above_rising n x xs h.1 (λ z m. l z (In.tail m)))

-- a list that ascends, with numbers below n, rises
pub ascending_rising : (n : ℕ) (xs : List ℕ) → Ascending xs → ((z : ℕ) → In z xs → z < n) → Rising n 0 xs
ascending_rising n [] h l = tt
ascending_rising n (x ∷ xs) h l =
    (omega arith, l x (In.head refl), above_rising n x xs h (λ z m. l z (In.tail m)))

module _ (n : ℕ) (gone : List ℕ) where
  -- where NONE is not said, a zone remains
  pub some_remains : every (listed gone) (span 0 n) ≡ false → (z : ℕ) × In z (remaining n gone)
  some_remains e =
      let r = every_false (listed gone) (span 0 n) e in
      (r.0, in_keep (stays gone) r.1 (ap not r.2))

  -- and back
  pub remains_some : {z : ℕ} → In z (remaining n gone) → every (listed gone) (span 0 n) ≡ false
  remains_some {z} i =
      false_unless (every (listed gone) (span 0 n))
      (λ e.
      true_not_false (every_true (listed gone) e (keep_in (stays gone) (span 0 n) i).0) (remaining_in n gone i).1)

  module _ (R : Rising n 0 gone) where
    -- a withdrawn number is one of the numbers below n
    inside : (z : ℕ) → In z gone → In z (span 0 n)
    inside z m = let l = rising_below n 0 gone R m in in_span 0 n (omega arith) (omega arith)

    -- there are no more of them
    few : length gone ≤ length (span 0 n)
    few =
        answers_count (λ x. x) gone (span 0 n) (ascending_distinct gone (rising_ascending n 0 gone R))
        (λ z m. (z, inside z m, refl))

    -- where all numbers are withdrawn, the list is as long as the zone count
    all_long : every (listed gone) (span 0 n) ≡ true → length gone ≡ n
    all_long e =
        let l : length (span 0 n) ≤ length gone =
        answers_count (λ x. x) (span 0 n) gone (ascending_distinct (span 0 n) (span_ascending 0 n))
        (λ z m. (z, listed_true gone z (every_true (listed gone) e m), refl))
        in
        omega (arith, l, few, span_length 0 n)

    -- where some number is not, it is shorter
    some_short : every (listed gone) (span 0 n) ≡ false → length gone < n
    some_short f =
        let r = every_false (listed gone) (span 0 n) f in
        let l : suc (length gone) ≤ length (span 0 n) =
        answers_count (λ x. x) (r.0 ∷ gone) (span 0 n)
        (λ m. true_not_false (true_listed m) r.2, ascending_distinct gone (rising_ascending n 0 gone R))
        (λ z m. (
          z,
          elim (Memᴰ.cases_cons m) [
            | inl q ↦ subst (λ (y : ℕ). In y (span 0 n)) (sym q) r.1
            | inr k ↦ inside z k
          ],
          refl,
        ))
        in
        omega (arith, l, span_length 0 n)

    -- NONE is said exactly where the list is as long as the zone count
    pub none_count : every (listed gone) (span 0 n) ≡ eqb (length gone) n
    none_count =
        bool_agree
        (λ e. eq-eqb (length gone) n (all_long e))
        (λ e.
        true_unless (every (listed gone) (span 0 n))
        (λ f. let q = eqb-true (length gone) n e in omega (arith, some_short f)))
