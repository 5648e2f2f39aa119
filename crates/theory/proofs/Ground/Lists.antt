-- Laws of the rules' tests on lists, each as what the test's value says of the elements.
--   any_true, true_any, any_false, false_any          some element passes
--   every_true, true_every, every_false               every element passes
--   keep_in, in_keep, keep_all, keep_none, keep_append   the elements kept
--   first_true, first_none                            the first element that passes
--   any_agree, every_agree, keep_agree, first_agree   tests that agree on a list give the same
--   map_in, in_map, any_map                           the elements of a mapped list
-- The lemmas ending in -hit and -miss say what one step of a test does where its element passes or does not; the rest
-- is by induction on the list, or on the place of an element. Assumes nothing.
use mathlib.Core.Path.{◌≡◌, refl, sym, ◌∙◌, ap, ap₂}
use mathlib.Core.Logic.{inl, inr}
use mathlib.Core.Bool.{Bool, true, false, false≢true, true≢false}
use mathlib.Core.List.Memᴰ
use mathlib.Core.List.{List, [], ◌∷◌, ◌++◌, map, Memᴰ as In}
use Rattle.rules.specs.Lists.{keep, any, every, first}
use Rattle.theory.proofs.Ground.Bools.{bool_cases, true_not_false, false_unless}

module _ {A : Type 0} (p : A → Bool) where
  -- the test `any` stops at an element that passes
  pub any_hit : {x : A} (xs : List A) → p x ≡ true → any p (x ∷ xs) ≡ true
  any_hit xs e = rw (e, any)

  -- the test `any` goes past an element that does not pass
  pub any_miss : {x : A} (xs : List A) → p x ≡ false → any p (x ∷ xs) ≡ any p xs
  any_miss xs e = rw (e, any)

  -- the test `every` goes past an element that passes
  pub every_hit : {x : A} (xs : List A) → p x ≡ true → every p (x ∷ xs) ≡ every p xs
  every_hit xs e = rw (e, every)

  -- the test `every` stops at an element that does not pass
  pub every_miss : {x : A} (xs : List A) → p x ≡ false → every p (x ∷ xs) ≡ false
  every_miss xs e = rw (e, every)

  -- an element that passes is kept in front
  pub keep_hit : {x : A} (xs : List A) → p x ≡ true → keep p (x ∷ xs) ≡ x ∷ keep p xs
  keep_hit xs e = rw (e, keep)

  -- an element that does not pass is left out
  pub keep_miss : {x : A} (xs : List A) → p x ≡ false → keep p (x ∷ xs) ≡ keep p xs
  keep_miss xs e = rw (e, keep)

  -- what is kept of two lists, one behind the other, is what is kept of each
  pub keep_append : (xs ys : List A) → keep p (xs ++ ys) ≡ keep p xs ++ keep p ys
  keep_append [] ys = refl
  keep_append (x ∷ xs) ys = join (keep p (xs ++ ys)) (keep p xs) (keep p ys) (keep_append xs ys) (p x)
    where
      join : (ks ls ms : List A) → ks ≡ ls ++ ms → (t : Bool)
          → elim t as (λ c. List A) [ true ↦ x ∷ ks | false ↦ ks ]
          ≡ elim t as (λ c. List A) [ true ↦ x ∷ ls | false ↦ ls ] ++ ms
      join ks ls ms e true = ap {B = List A} (λ l. x ∷ l) e
      join ks ls ms e false = e

  -- an element in front that passes is the first
  pub first_hit : (d : A) {x : A} (xs : List A) → p x ≡ true → first p d (x ∷ xs) ≡ x
  first_hit d xs e = rw (e, first)

  -- an element in front that does not pass is not the first
  pub first_miss : (d : A) {x : A} (xs : List A) → p x ≡ false → first p d (x ∷ xs) ≡ first p d xs
  first_miss d xs e = rw (e, first)

  -- where some element passes, here is one
  pub any_true : (xs : List A) → any p xs ≡ true → (x : A) × In x xs × (p x ≡ true)
  any_true [] e = absurd (false≢true e)
  any_true (x ∷ xs) e =
      elim (bool_cases (p x)) [
        | inl h ↦ (x, In.head refl, h)
        | inr h ↦ let r = any_true xs (sym (any_miss xs h) ∙ e) in (r.0, In.tail r.1, r.2)
      ]

  -- an element that passes makes the test true
  pub true_any : {x : A} {xs : List A} → In x xs → p x ≡ true → any p xs ≡ true
  true_any (In.head {xs = ys} e) h = any_hit ys (ap p (sym e) ∙ h)
  true_any (In.tail {x = y} {xs = ys} m) h =
      elim (bool_cases (p y)) [ inl g ↦ any_hit ys g | inr g ↦ any_miss ys g ∙ true_any m h ]

  -- where none passes, a given one does not
  pub any_false : {x : A} {xs : List A} → any p xs ≡ false → In x xs → p x ≡ false
  any_false {x} e m = false_unless (p x) (λ h. true_not_false (true_any m h) e)

  -- where no element passes, the test is false
  pub false_any : (xs : List A) → ((x : A) → In x xs → p x ≡ false) → any p xs ≡ false
  false_any [] h = refl
  false_any (x ∷ xs) h =
      any_miss xs (h x (In.head refl)) ∙ false_any xs (λ y m. h y (In.tail m))

  -- where every element passes, a given one does
  pub every_true : {x : A} {xs : List A} → every p xs ≡ true → In x xs → p x ≡ true
  every_true e (In.head {x = y} {xs = ys} q) =
      elim (bool_cases (p y)) [ inl g ↦ ap p q ∙ g | inr g ↦ absurd (true_not_false e (every_miss ys g)) ]
  every_true e (In.tail {x = y} {xs = ys} m) =
      elim (bool_cases (p y)) [
        | inl g ↦ every_true (sym (every_hit ys g) ∙ e) m
        | inr g ↦ absurd (true_not_false e (every_miss ys g))
      ]

  -- where each element passes, the test is true
  pub true_every : (xs : List A) → ((x : A) → In x xs → p x ≡ true) → every p xs ≡ true
  true_every [] h = refl
  true_every (x ∷ xs) h =
      every_hit xs (h x (In.head refl)) ∙ true_every xs (λ y m. h y (In.tail m))

  -- where not every element passes, here is one that does not
  pub every_false : (xs : List A) → every p xs ≡ false → (x : A) × In x xs × (p x ≡ false)
  every_false [] e = absurd (true≢false e)
  every_false (x ∷ xs) e =
      elim (bool_cases (p x)) [
        | inl h ↦ let r = every_false xs (sym (every_hit xs h) ∙ e) in (r.0, In.tail r.1, r.2)
        | inr h ↦ (x, In.head refl, h)
      ]

  -- an element that is kept was there and passes
  pub keep_in : {x : A} (xs : List A) → In x (keep p xs) → In x xs × (p x ≡ true)
  keep_in [] m = elim m [ ]
  keep_in {x} (y ∷ ys) m =
      elim (bool_cases (p y)) [
        | inl h ↦ elim (Memᴰ.cases_cons (rw (keep_hit ys h) at m)) [
          | inl e ↦ (In.head e, ap p e ∙ h)
          | inr n ↦ let r = keep_in ys n in (In.tail r.0, r.1)
        ]
        | inr h ↦ let r = keep_in ys (rw (keep_miss ys h) at m) in (In.tail r.0, r.1)
      ]

  -- an element that passes is kept
  pub in_keep : {x : A} {xs : List A} → In x xs → p x ≡ true → In x (keep p xs)
  in_keep (In.head {xs = ys} e) h = rw (keep_hit ys (ap p (sym e) ∙ h)) (In.head e)
  in_keep (In.tail {x = y} {xs = ys} m) h =
      elim (bool_cases (p y)) [
        | inl g ↦ rw (keep_hit ys g) (In.tail (in_keep m h))
        | inr g ↦ rw (keep_miss ys g) (in_keep m h)
      ]

  -- where some element passes, the first that passes is in the list and passes
  pub first_true : (d : A) {x : A} {xs : List A}
      → In x xs → p x ≡ true → In (first p d xs) xs × (p (first p d xs) ≡ true)
  first_true d (In.head {x = y} {xs = ys} e) h =
      let g : p y ≡ true = ap p (sym e) ∙ h in
      let f = first_hit d ys g in
      (In.head f, ap p f ∙ g)
  first_true d (In.tail {x = y} {xs = ys} m) h =
      elim (bool_cases (p y)) [
        | inl g ↦ let f = first_hit d ys g in (In.head f, ap p f ∙ g)
        | inr g ↦
            let f = first_miss d ys g in
            let r = first_true d m h in
            (In.tail (Memᴰ.cast f r.0), ap p f ∙ r.1)
      ]

  -- where no element passes, the first that passes is the default
  pub first_none : (d : A) (xs : List A) → ((x : A) → In x xs → p x ≡ false) → first p d xs ≡ d
  first_none d [] h = refl
  first_none d (x ∷ xs) h =
      first_miss d xs (h x (In.head refl)) ∙ first_none d xs (λ y m. h y (In.tail m))

  -- a list whose every element passes is kept whole
  pub keep_all : (xs : List A) → ((x : A) → In x xs → p x ≡ true) → keep p xs ≡ xs
  keep_all [] h = refl
  keep_all (x ∷ xs) h =
      keep_hit xs (h x (In.head refl))
      ∙ ap {B = List A} (λ ys. x ∷ ys) (keep_all xs (λ y m. h y (In.tail m)))

  -- of a list with no element that passes, nothing is kept
  pub keep_none : (xs : List A) → ((x : A) → In x xs → p x ≡ false) → keep p xs ≡ []
  keep_none [] h = refl
  keep_none (x ∷ xs) h =
      keep_miss xs (h x (In.head refl)) ∙ keep_none xs (λ y m. h y (In.tail m))

module _ {A : Type 0} (p q : A → Bool) where
  -- tests that agree on a list are passed by some element alike
  pub any_agree : (xs : List A) → ((x : A) → In x xs → p x ≡ q x) → any p xs ≡ any q xs
  any_agree [] h = refl
  any_agree (x ∷ xs) h =
      ap₂
      (λ (b r : Bool). elim b as (λ c. Bool) [ true ↦ true | false ↦ r ])
      (h x (In.head refl))
      (any_agree xs (λ y m. h y (In.tail m)))

  -- tests that agree on a list are passed by every element alike
  pub every_agree : (xs : List A) → ((x : A) → In x xs → p x ≡ q x) → every p xs ≡ every q xs
  every_agree [] h = refl
  every_agree (x ∷ xs) h =
      ap₂
      (λ (b r : Bool). elim b as (λ c. Bool) [ true ↦ r | false ↦ false ])
      (h x (In.head refl))
      (every_agree xs (λ y m. h y (In.tail m)))

  -- tests that agree on a list keep the same elements
  pub keep_agree : (xs : List A) → ((x : A) → In x xs → p x ≡ q x) → keep p xs ≡ keep q xs
  keep_agree [] h = refl
  keep_agree (x ∷ xs) h =
      ap₂
      (λ (b : Bool) (r : List A). elim b as (λ c. List A) [ true ↦ x ∷ r | false ↦ r ])
      (h x (In.head refl))
      (keep_agree xs (λ y m. h y (In.tail m)))

  -- tests that agree on a list have the same first element
  pub first_agree : (d : A) (xs : List A) → ((x : A) → In x xs → p x ≡ q x) → first p d xs ≡ first q d xs
  first_agree d [] h = refl
  first_agree d (x ∷ xs) h =
      ap₂
      (λ (b : Bool) (r : A). elim b as (λ c. A) [ true ↦ x | false ↦ r ])
      (h x (In.head refl))
      (first_agree d xs (λ y m. h y (In.tail m)))

module _ {A B : Type 0} (f : A → B) where
  -- an element of a mapped list comes from an element of the list
  pub map_in : {y : B} (xs : List A) → In y (map f xs) → (x : A) × In x xs × (y ≡ f x)
  map_in [] m = elim m [ ]
  map_in (x ∷ xs) m =
      elim (Memᴰ.cases_cons m) [
        | inl e ↦ (x, In.head refl, e)
        | inr n ↦ let r = map_in xs n in (r.0, In.tail r.1, r.2)
      ]

  -- an element of the list goes into the mapped list
  pub in_map : {x : A} {xs : List A} → In x xs → In (f x) (map f xs)
  in_map (In.head e) = In.head (ap f e)
  in_map (In.tail m) = In.tail (in_map m)

  -- a test over a mapped list is the test of the mapped elements over the list
  pub any_map : (p : B → Bool) (xs : List A) → any p (map f xs) ≡ any (λ x. p (f x)) xs
  any_map p [] = refl
  any_map p (x ∷ xs) =
      ap (λ (r : Bool). elim (p (f x)) as (λ c. Bool) [ true ↦ true | false ↦ r ]) (any_map p xs)
