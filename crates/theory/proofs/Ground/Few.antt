-- Lists with few elements.
--   none_in, length_none   a list with no element, or of length 0, is empty
--   only_in   a list without repeats that has one element only is that element
--   two_in    a list with two different elements has at least two
-- By cases on the list. Assumes nothing.
use Prim.Native.Nat.{◌≤◌}
use mathlib.Core.Path.{◌≡◌, refl, sym, ◌∙◌, ap}
use mathlib.Core.List.Memᴰ
use mathlib.Core.List.{List, [], ◌∷◌, Memᴰ as In}
use native.Mathlib.Omega.{arith}
use lib.ListN.{length}
use Rattle.theory.proofs.Ground.Counting.{Distinct}

module _ {A : Type 0} where
  -- a list with no element is empty
  pub none_in : (xs : List A) → ((x : A) → In x xs → ⊥) → xs ≡ []
  none_in [] h = refl
  none_in (x ∷ xs) h = absurd (h x (In.head refl))

  -- a list of length 0 is empty
  pub length_none : (xs : List A) → length xs ≡ 0 → xs ≡ []
  length_none [] e = refl
  length_none (x ∷ xs) e = absurd (omega arith)

  -- a list without repeats that has one element only is that element
  pub only_in : {x : A} (xs : List A) → Distinct xs → In x xs → ((y : A) → In y xs → y ≡ x) → xs ≡ x ∷ []
  only_in [] d m h = absurd (Memᴰ.not-nil m)
  only_in (y ∷ []) d m h = ap {B = List A} (λ z. z ∷ []) (h y (In.head refl))
  only_in (y ∷ z ∷ zs) d m h =
      absurd (d.0 (In.head (h y (In.head refl) ∙ sym (h z (In.tail (In.head refl))))))

  -- a list with two different elements has at least two
  pub two_in : {x y : A} (xs : List A) → In x xs → In y xs → (x ≡ y → ⊥) → 2 ≤ length xs
  two_in [] m n h = absurd (Memᴰ.not-nil m)
  two_in (z ∷ []) m n h = absurd (h (Memᴰ.eq_of_singleton m ∙ sym (Memᴰ.eq_of_singleton n)))
  two_in (z ∷ w ∷ ws) m n h = omega arith
