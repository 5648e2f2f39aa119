-- Laws of a list and the elements that a test p keeps of it, for tests that only elements kept can pass.
--   Within p q xs   every element of xs that passes q passes p
--   any_keep, first_keep, keep_keep   q asked of the elements kept is q asked of all
--   keep_swap       what two tests keep, one after the other, does not depend on their order
--   first_default   the first element that passes is the default where no other element can pass
--   pairs_keep      the pairs of elements kept are the pairs whose two ends pass
-- By induction on the list, by cases on the tests of its first element. Assumes nothing.
use Prim.Native.Nat.{ℕ}
use mathlib.Core.Path.{◌≡◌, refl, sym, ap, ap₂, ◌∙◌}
use mathlib.Core.Logic.{inl, inr}
use mathlib.Core.Bool.{Bool, true, false, ◌&&◌}
use mathlib.Core.List.{List, [], ◌∷◌, ◌++◌, map, flat_map, Memᴰ as In}
use Rattle.rules.specs.Lists.{keep, any, first}
use Rattle.rules.specs.Network.{Arc, ◌⟶◌}
use Rattle.rules.specs.Skeleton.{pairs_of}
use Rattle.theory.proofs.Ground.Bools.{bool_cases, true_not_false, false_unless}
use Rattle.theory.proofs.Ground.Lists.{any_miss, first_hit, first_miss, keep_hit, keep_miss, keep_append}

-- every element of the list that passes q passes p
abbrev pub Within : {A : Type 0} → (A → Bool) → (A → Bool) → List A → Type 0
Within {A} p q xs = (x : A) → In x xs → q x ≡ true → p x ≡ true

module _ {A : Type 0} (p q : A → Bool) where
  -- an element that does not pass p does not pass q
  misses : {x : A} {xs : List A} → Within p q (x ∷ xs) → p x ≡ false → q x ≡ false
  misses {x} h e = false_unless (q x) (λ t. true_not_false (h x (In.head refl) t) e)

  -- some element kept passes q exactly when some element does
  pub any_keep : (xs : List A) → Within p q xs → any q (keep p xs) ≡ any q xs
  any_keep [] h = refl
  any_keep (x ∷ xs) h =
      let r : any q (keep p xs) ≡ any q xs = any_keep xs (λ y m. h y (In.tail m)) in
      elim (bool_cases (p x)) [
        | inl e ↦ rw (keep_hit p xs e)
            (ap (λ (t : Bool). elim (q x) as (λ c. Bool) [ true ↦ true | false ↦ t ]) r)
        | inr e ↦ rw (keep_miss p xs e) (r ∙ sym (any_miss q xs (misses h e)))
      ]

  -- the first element kept that passes q is the first element that does
  pub first_keep : (d : A) (xs : List A) → Within p q xs → first q d (keep p xs) ≡ first q d xs
  first_keep d [] h = refl
  first_keep d (x ∷ xs) h =
      let r : first q d (keep p xs) ≡ first q d xs = first_keep d xs (λ y m. h y (In.tail m)) in
      elim (bool_cases (p x)) [
        | inl e ↦ rw (keep_hit p xs e)
            (ap (λ (t : A). elim (q x) as (λ c. A) [ true ↦ x | false ↦ t ]) r)
        | inr e ↦ rw (keep_miss p xs e) (r ∙ sym (first_miss q d xs (misses h e)))
      ]

  -- of the elements kept q keeps what it keeps of all
  pub keep_keep : (xs : List A) → Within p q xs → keep q (keep p xs) ≡ keep q xs
  keep_keep [] h = refl
  keep_keep (x ∷ xs) h =
      let r : keep q (keep p xs) ≡ keep q xs = keep_keep xs (λ y m. h y (In.tail m)) in
      elim (bool_cases (p x)) [
        | inl e ↦ rw (keep_hit p xs e)
            (ap (λ (t : List A). elim (q x) as (λ c. List A) [ true ↦ x ∷ t | false ↦ t ]) r)
        | inr e ↦ rw (keep_miss p xs e) (r ∙ sym (keep_miss q xs (misses h e)))
      ]

  -- what two tests keep, one after the other, does not depend on their order
  pub keep_swap : (xs : List A) → keep q (keep p xs) ≡ keep p (keep q xs)
  keep_swap [] = refl
  keep_swap (x ∷ xs) =
      elim (bool_cases (p x)) [
        | inl e ↦ elim (bool_cases (q x)) [
          | inl f ↦ rw (keep_hit p xs e, keep_hit q xs f, keep_hit q (keep p xs) f, keep_hit p (keep q xs) e)
              (ap {B = List A} (λ t. x ∷ t) (keep_swap xs))
          | inr f ↦ rw (keep_hit p xs e, keep_miss q xs f, keep_miss q (keep p xs) f) (keep_swap xs)
        ]
        | inr e ↦ elim (bool_cases (q x)) [
          | inl f ↦ rw (keep_miss p xs e, keep_hit q xs f, keep_miss p (keep q xs) e) (keep_swap xs)
          | inr f ↦ rw (keep_miss p xs e, keep_miss q xs f) (keep_swap xs)
        ]
      ]

module _ {A : Type 0} (q : A → Bool) where
  -- the first element that passes is the default where no other element can pass
  pub first_default : (d : A) (xs : List A) → ((x : A) → In x xs → q x ≡ true → x ≡ d) → first q d xs ≡ d
  first_default d [] h = refl
  first_default d (x ∷ xs) h =
      elim (bool_cases (q x)) [
        | inl e ↦ first_hit q d xs e ∙ h x (In.head refl) e
        | inr e ↦ first_miss q d xs e ∙ first_default d xs (λ y m. h y (In.tail m))
      ]

module _ (p : ℕ → Bool) where
  -- whether both ends of an arc pass
  abbrev pub ends_pass : Arc → Bool
  ends_pass e = p e.tail && p e.head

  -- the row of a zone that passes, over the zones kept
  row_keep : (a : ℕ) (hs : List ℕ) → p a ≡ true
      → map (λ b. a ⟶ b) (keep p hs) ≡ keep ends_pass (map (λ b. a ⟶ b) hs)
  row_keep a [] t = refl
  row_keep a (h ∷ hs) t =
      elim (bool_cases (p h)) [
        | inl e ↦
            rw (keep_hit p hs e, keep_hit ends_pass {x = a ⟶ h} (map (λ b. a ⟶ b) hs) (rw (t, e)))
            (ap {B = List Arc} (λ r. (a ⟶ h) ∷ r) (row_keep a hs t))
        | inr e ↦
            rw (keep_miss p hs e, keep_miss ends_pass {x = a ⟶ h} (map (λ b. a ⟶ b) hs) (rw (t, e)))
            (row_keep a hs t)
      ]

  -- of the row of a zone that does not pass nothing is kept
  row_none : (a : ℕ) (hs : List ℕ) → p a ≡ false → keep ends_pass (map (λ b. a ⟶ b) hs) ≡ []
  row_none a [] t = refl
  row_none a (h ∷ hs) t =
      keep_miss ends_pass {x = a ⟶ h} (map (λ b. a ⟶ b) hs) (rw t) ∙ row_none a hs t

  -- the rows of zones kept, over zones kept
  rows_keep : (ts hs : List ℕ)
      → flat_map (λ a. map (λ b. a ⟶ b) (keep p hs)) (keep p ts)
      ≡ keep ends_pass (flat_map (λ a. map (λ b. a ⟶ b) hs) ts)
  unfolding flat_map
  rows_keep [] hs = refl
  rows_keep (t ∷ ts) hs =
      elim (bool_cases (p t)) [
        | inl e ↦
            rw (keep_hit p ts e)
            (ap₂ {C = List Arc} (λ (u v : List Arc). u ++ v) (row_keep t hs e) (rows_keep ts hs)
            ∙ sym (keep_append ends_pass (map (λ b. t ⟶ b) hs) (flat_map (λ a. map (λ b. a ⟶ b) hs) ts)))
        | inr e ↦
            rw (keep_miss p ts e)
            (rows_keep ts hs
            ∙ sym
            (keep_append ends_pass (map (λ b. t ⟶ b) hs) (flat_map (λ a. map (λ b. a ⟶ b) hs) ts)
            ∙ ap (λ (u : List Arc). u ++ keep ends_pass (flat_map (λ a. map (λ b. a ⟶ b) hs) ts)) (row_none t hs e)))
      ]

  -- the pairs of zones kept are the pairs whose two ends pass
  pub pairs_keep : (zs : List ℕ) → pairs_of (keep p zs) ≡ keep ends_pass (pairs_of zs)
  unfolding pairs_of flat_map
  pairs_keep zs = rows_keep zs zs
