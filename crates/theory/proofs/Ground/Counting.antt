-- Counting: how long lists are that answer for one another.
--   Distinct xs     no element stands twice in xs
--   answers_count   a list without repeats whose every element some element of ys answers for is no longer than ys
--   fewer_keep      where p implies q, and somewhere q holds and p does not, fewer pass p than q
-- The idea of `answers_count`: take the answer of the first element out of ys; whatever answers for another element is
-- still there, since the two elements differ. Assumes nothing.
use Prim.Native.Nat.{ℕ, zero, suc, ◌<◌, ◌≤◌}
use mathlib.Core.Path.{◌≡◌, refl, sym, ap, ◌∙◌}
use mathlib.Core.Bool.{Bool, true, false, false≢true}
use mathlib.Core.Logic.{◌⊎◌, inl, inr, ⊎_elim}
use mathlib.Core.List.Memᴰ
use mathlib.Core.List.{
  List,
  [],
  ◌∷◌,
  ◌++◌,
  map,
  Memᴰ as In,
}
use native.Mathlib.Omega.{arith}
use lib.ListN.{length, drop}
use Rattle.rules.specs.Lists.{keep}
use Rattle.rules.specs.Network.{Above, Ascending}
use Rattle.theory.proofs.Ground.Lists.{keep_in}

-- no element stands twice in the list
abbrev pub Distinct : {A : Type 0} → List A → Type 0
Distinct [] = Unit {0}
Distinct (x ∷ xs) = (In x xs → ⊥) × Distinct xs

module _ {A : Type 0} where
  -- a list with one place of y taken out: one shorter, and every element other than y is still there
  pub take_out : {y : A} {ys : List A} → In y ys
      → (rest : List A) × (length ys ≡ suc (length rest)) × ((z : A) → In z ys → (z ≡ y) ⊎ In z rest)
  take_out {y} (In.head {x = x} {xs = xs} e) =
      (xs, refl, λ z m. ⊎_elim (λ (d : z ≡ x). inl (d ∙ sym e)) (λ (k : In z xs). inr k) (Memᴰ.cases_cons m))
  take_out {y} (In.tail {x = x} {xs = xs} m) =
      let r = take_out m in
      (x ∷ r.0, ap suc r.1, λ z n. still z r.0 (r.2 z) (Memᴰ.cases_cons n))
    where
      found : (z : A) (rest : List A) → (z ≡ y) ⊎ In z rest → (z ≡ y) ⊎ In z (x ∷ rest)
      found z rest (inl e) = inl e
      found z rest (inr k) = inr (In.tail k)

      still : (z : A) (rest : List A)
          → (In z xs → (z ≡ y) ⊎ In z rest) → (z ≡ x) ⊎ In z xs → (z ≡ y) ⊎ In z (x ∷ rest)
      still z rest below (inl e) = inr (In.head e)
      still z rest below (inr n) = found z rest (below n)

-- a list without repeats whose every element is f of some element of ys is no longer than ys
pub answers_count : {A B : Type 0} (f : B → A) (xs : List A) (ys : List B)
    → Distinct xs
    → ((x : A) → In x xs → (y : B) × In y ys × (f y ≡ x))
    → length xs ≤ length ys
answers_count f [] ys d h = omega arith
answers_count {A} {B} f (x ∷ xs) ys d h =
    let short : length xs ≤ length out.0 = answers_count f xs out.0 d.1 left in
    omega (arith, out.1)
  where
    mine : (y : B) × In y ys × (f y ≡ x)
    mine = h x (In.head refl)

    out : (rest : List B)
        × (length ys ≡ suc (length rest))
        × ((z : B) → In z ys → (z ≡ mine.0) ⊎ In z rest)
    out = take_out mine.1

    other : (z : A) → In z xs → (y : B) → f y ≡ z
        → (y ≡ mine.0) ⊎ In y out.0 → (u : B) × In u out.0 × (f u ≡ z)
    other z m y e (inl same) = absurd (d.0 (Memᴰ.cast (sym mine.2 ∙ ap f (sym same) ∙ e) m))
    other z m y e (inr k) = (y, k, e)

    left : (z : A) → In z xs → (u : B) × In u out.0 × (f u ≡ z)
    left z m = let a = h z (In.tail m) in other z m a.0 a.2 (out.2 a.0 a.1)

module _ {A : Type 0} where
  -- one step of `keep`: x before ys where its test says so
  abbrev kept : Bool → A → List A → List A
  kept b x ys = elim b [ true ↦ x ∷ ys | false ↦ ys ]

  -- no more elements pass a test than there are
  pub keep_length : (p : A → Bool) (xs : List A) → length (keep p xs) ≤ length xs
  keep_length p [] = omega arith
  keep_length p (x ∷ xs) = go (p x) (keep_length p xs)
    where
      go : (b : Bool) → length (keep p xs) ≤ length xs → length (kept b x (keep p xs)) ≤ suc (length xs)
      go true h = omega arith
      go false h = omega arith

  -- what a test keeps of a list without repeats is without repeats
  pub keep_distinct : (p : A → Bool) (xs : List A) → Distinct xs → Distinct (keep p xs)
  keep_distinct p [] d = tt
  keep_distinct p (x ∷ xs) d = go (p x) (keep_distinct p xs d.1)
    where
      go : (b : Bool) → Distinct (keep p xs) → Distinct (kept b x (keep p xs))
      go true h = (λ m. d.0 (keep_in p xs m).0, h)
      go false h = h

  -- where p implies q, no more pass p than q
  pub keep_no_more : (p q : A → Bool) (xs : List A)
      → ((x : A) → In x xs → p x ≡ true → q x ≡ true)
      → length (keep p xs) ≤ length (keep q xs)
  keep_no_more p q [] imp = omega arith
  keep_no_more p q (x ∷ xs) imp =
      go (p x) (q x) (imp x (In.head refl)) (keep_no_more p q xs (λ y m. imp y (In.tail m)))
    where
      go : (b c : Bool) → (b ≡ true → c ≡ true) → length (keep p xs) ≤ length (keep q xs)
          → length (kept b x (keep p xs)) ≤ length (kept c x (keep q xs))
      go true true f h = omega arith
      go true false f h = absurd (false≢true (f refl))
      go false true f h = omega arith
      go false false f h = h

  -- where p implies q, and somewhere q holds and p does not, fewer pass p than q
  pub fewer_keep : (p q : A → Bool) (xs : List A)
      → ((x : A) → In x xs → p x ≡ true → q x ≡ true)
      → {y : A} → In y xs → p y ≡ false → q y ≡ true → length (keep p xs) < length (keep q xs)
  fewer_keep p q [] imp m py qy = absurd (Memᴰ.not-nil m)
  fewer_keep p q (x ∷ xs) imp {y} m py qy =
      ⊎_elim
      (λ (e : y ≡ x). here (p x) (q x) (rw (← e) py) (rw (← e) qy) (keep_no_more p q xs rest))
      (λ (k : In y xs). there (p x) (q x) (imp x (In.head refl)) (fewer_keep p q xs rest k py qy))
      (Memᴰ.cases_cons m)
    where
      rest : (z : A) → In z xs → p z ≡ true → q z ≡ true
      rest z k = imp z (In.tail k)

      here : (b c : Bool) → b ≡ false → c ≡ true → length (keep p xs) ≤ length (keep q xs)
          → length (kept b x (keep p xs)) < length (kept c x (keep q xs))
      here b c px qx h = rw (px, qx) (omega arith)

      there : (b c : Bool) → (b ≡ true → c ≡ true) → length (keep p xs) < length (keep q xs)
          → length (kept b x (keep p xs)) < length (kept c x (keep q xs))
      there true true f h = omega arith
      there true false f h = absurd (false≢true (f refl))
      there false true f h = omega arith
      there false false f h = h

  -- two lists without repeats and with nothing in common are, one after the other, without repeats
  pub distinct_append : (xs ys : List A) → Distinct xs → Distinct ys
      → ((x : A) → In x xs → In x ys → ⊥) → Distinct (xs ++ ys)
  distinct_append [] ys d e apart = e
  distinct_append (x ∷ xs) ys d e apart = (
    λ m. ⊎_elim d.0 (apart x (In.head refl)) (Memᴰ.append_cases xs m),
    distinct_append xs ys d.1 e (λ y k. apart y (In.tail k)),
  )

  -- of two lists that are without repeats one after the other, each is, and they have nothing in common
  pub distinct_split : (xs ys : List A) → Distinct (xs ++ ys)
      → Distinct xs × Distinct ys × ((x : A) → In x xs → In x ys → ⊥)
  distinct_split [] ys d = (tt, d, λ x m n. Memᴰ.not-nil m)
  distinct_split (x ∷ xs) ys d =
      let r = distinct_split xs ys d.1 in
      ((λ m. d.0 (Memᴰ.append_left ys m), r.0), r.1, λ y m n. apart y n (r.2 y) (Memᴰ.cases_cons m))
    where
      apart : (y : A) → In y ys → (In y xs → In y ys → ⊥) → (y ≡ x) ⊎ In y xs → ⊥
      apart y n f (inl e) = d.0 (Memᴰ.append_right xs (Memᴰ.cast (sym e) n))
      apart y n f (inr m) = f m n

  -- what is left of a list when its first elements are dropped was in the list
  pub drop_in : {x : A} (n : ℕ) (xs : List A) → In x (drop n xs) → In x xs
  drop_in zero xs m = m
  drop_in (suc n) [] m = m
  drop_in (suc n) (y ∷ ys) m = In.tail (drop_in n ys m)

  -- what is left of a list without repeats when its first elements are dropped is without repeats
  pub distinct_drop : (n : ℕ) (xs : List A) → Distinct xs → Distinct (drop n xs)
  distinct_drop zero xs d = d
  distinct_drop (suc n) [] d = tt
  distinct_drop (suc n) (y ∷ ys) d = distinct_drop n ys d.1

-- the images of a list without repeats under a map that is injective on the list are without repeats
pub distinct_map : {A B : Type 0} (f : A → B) (xs : List A)
    → ((x y : A) → In x xs → In y xs → f x ≡ f y → x ≡ y) → Distinct xs → Distinct (map f xs)
distinct_map f [] inj d = tt
distinct_map {A} {B} f (x ∷ xs) inj d = (
  λ m. apart (Memᴰ.of_map f xs m),
  distinct_map f xs (λ y z k l. inj y z (In.tail k) (In.tail l)) d.1,
)
  where
    apart : (a : A) × In a xs × (f a ≡ f x) → ⊥
    apart r = d.0 (Memᴰ.cast (inj x r.0 (In.head refl) (In.tail r.1) (sym r.2)) r.1)

-- every number of a list that ascends from above a is above a
pub above_less : {a x : ℕ} (xs : List ℕ) → Above a xs → In x xs → a < x
above_less [] h m = absurd (Memᴰ.not-nil m)
above_less {a} {x} (y ∷ ys) h m =
    ⊎_elim (λ (e : x ≡ y). rw e h.0) (λ k. let l = above_less ys h.1 k in omega arith) (Memᴰ.cases_cons m)

-- a list that ascends from above a is without repeats
above_distinct : (a : ℕ) (xs : List ℕ) → Above a xs → Distinct xs
above_distinct a [] h = tt
above_distinct a (x ∷ xs) h = (λ m. let l = above_less xs h.1 m in omega arith, above_distinct x xs h.1)

-- a list that ascends is without repeats
pub ascending_distinct : (xs : List ℕ) → Ascending xs → Distinct xs
ascending_distinct [] h = tt
ascending_distinct (x ∷ xs) h = (λ m. let l = above_less xs h m in omega arith, above_distinct x xs h)
