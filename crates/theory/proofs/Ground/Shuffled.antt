-- Lists with the same elements in another order.
--   Taken x xs rest   rest is xs with one place of x taken out
--   Shuffled xs ys    ys is xs in another order: the first of xs is taken out of ys, and so on with what is left
-- Shuffled lists have the same elements and the same length, and the one is without repeats where the other is.
-- Assumes nothing.
use Prim.Native.Nat.{suc}
use mathlib.Core.Path.{◌≡◌, refl, sym, ap, ◌∙◌}
use mathlib.Core.Logic.{◌⊎◌, inl, inr, ⊎_elim}
use mathlib.Core.List.Memᴰ
use mathlib.Core.List.{
  List,
  [],
  ◌∷◌,
  ◌++◌,
  Memᴰ as In,
}
use lib.ListN.{length}
use Rattle.theory.proofs.Ground.Counting.{Distinct}

module _ {A : Type 0} where
  -- rest is xs with one place of x taken out
  pub data Taken (x : A) : List A → List A → Type 0 where
    here : {xs : List A} → Taken x (x ∷ xs) xs
    there : {a : A} {xs rest : List A} → Taken x xs rest → Taken x (a ∷ xs) (a ∷ rest)

  -- ys is xs in another order
  pub data Shuffled : List A → List A → Type 0 where
    none : Shuffled [] []
    next : {x : A} {xs ys rest : List A} → Taken x ys rest → Shuffled xs rest → Shuffled (x ∷ xs) ys

  -- an element may be taken out of the middle
  pub taken_middle : {x : A} (xs ys : List A) → Taken x (xs ++ (x ∷ ys)) (xs ++ ys)
  taken_middle [] ys = here
  taken_middle (a ∷ xs) ys = there (taken_middle xs ys)

  -- what is taken out was in the list
  pub taken_self : {x : A} {xs rest : List A} → Taken x xs rest → In x xs
  taken_self here = In.head refl
  taken_self (there t) = In.tail (taken_self t)

  -- what is left was in the list
  pub taken_in : {x y : A} {xs rest : List A} → Taken x xs rest → In y rest → In y xs
  taken_in here m = In.tail m
  taken_in {y} (there {a} t) m =
      ⊎_elim
      (λ (e : y ≡ a). In.head e)
      (λ n. In.tail (taken_in t n))
      (Memᴰ.cases_cons m)

  -- what was in the list is taken out or left
  pub taken_cases : {x y : A} {xs rest : List A} → Taken x xs rest → In y xs → (y ≡ x) ⊎ In y rest
  taken_cases here m = Memᴰ.cases_cons m
  taken_cases {x} {y} (there {a} {xs} {rest} t) m =
      ⊎_elim
      (λ (e : y ≡ a). inr (In.head e))
      (λ n. ⊎_elim (λ (e : y ≡ x). inl e) (λ (k : In y rest). inr (In.tail k)) (taken_cases t n))
      (Memᴰ.cases_cons m)

  -- one fewer is left
  pub taken_length : {x : A} {xs rest : List A} → Taken x xs rest → length xs ≡ suc (length rest)
  taken_length here = refl
  taken_length (there t) = ap suc (taken_length t)

  -- out of a list without repeats: what is left is without repeats, and what is taken is no more in it
  pub taken_distinct : {x : A} {xs rest : List A} → Taken x xs rest → Distinct xs → Distinct (x ∷ rest)
  taken_distinct here d = d
  taken_distinct {x} (there {a} {xs} {rest} t) d =
      let r : Distinct (x ∷ rest) = taken_distinct t d.1 in (
        λ m. ⊎_elim (λ (e : x ≡ a). d.0 (Memᴰ.cast (sym e) (taken_self t))) r.0 (Memᴰ.cases_cons m),
        (λ m. d.0 (taken_in t m), r.1),
      )

  -- and back: put into a list without repeats that it is not in
  pub distinct_taken : {x : A} {xs rest : List A} → Taken x xs rest → Distinct (x ∷ rest) → Distinct xs
  distinct_taken here d = d
  distinct_taken {x} (there {a} {xs} {rest} t) d = (
    λ m. ⊎_elim (λ (e : a ≡ x). d.0 (In.head (sym e))) d.1.0 (taken_cases t m),
    distinct_taken t (λ m. d.0 (In.tail m), d.1.1),
  )

  -- a list is itself in another order
  pub shuffled_refl : (xs : List A) → Shuffled xs xs
  shuffled_refl [] = none
  shuffled_refl (x ∷ xs) = next here (shuffled_refl xs)

  -- each element of the first list is in the second
  pub shuffled_in : {x : A} {xs ys : List A} → Shuffled xs ys → In x xs → In x ys
  shuffled_in none m = m
  shuffled_in {x} (next {x = a} t s) m =
      ⊎_elim
      (λ (e : x ≡ a). Memᴰ.cast e (taken_self t))
      (λ n. taken_in t (shuffled_in s n))
      (Memᴰ.cases_cons m)

  -- each element of the second list is in the first
  pub in_shuffled : {x : A} {xs ys : List A} → Shuffled xs ys → In x ys → In x xs
  in_shuffled none m = m
  in_shuffled {x} (next {x = a} t s) m =
      ⊎_elim
      (λ (e : x ≡ a). In.head e)
      (λ n. In.tail (in_shuffled s n))
      (taken_cases t m)

  -- both lists have one length
  pub shuffled_length : {xs ys : List A} → Shuffled xs ys → length xs ≡ length ys
  shuffled_length none = refl
  shuffled_length (next t s) = ap suc (shuffled_length s) ∙ sym (taken_length t)

  -- the second list is without repeats where the first is
  pub shuffled_distinct : {xs ys : List A} → Shuffled xs ys → Distinct xs → Distinct ys
  shuffled_distinct none d = d
  shuffled_distinct (next t s) d =
      distinct_taken t (λ m. d.0 (in_shuffled s m), shuffled_distinct s d.1)

  -- the first list is without repeats where the second is
  pub distinct_shuffled : {xs ys : List A} → Shuffled xs ys → Distinct ys → Distinct xs
  distinct_shuffled none d = d
  distinct_shuffled {xs} {ys} (next {x} {rest = rest} t s) d =
      let r : Distinct (x ∷ rest) = taken_distinct t d in
      (λ m. r.0 (shuffled_in s m), distinct_shuffled s r.1)
