-- The elements of a list of numbers by their indices.
--   at_in    what stands at an index is an element;   in_at   every element has an index
-- By induction on the list, or on the place of an element. Assumes nothing.
use Prim.Native.Nat.{ℕ, zero, suc, ◌<◌}
use native.Mathlib.Nat.{not-suc-le-zero}
use native.Mathlib.Omega.{arith}
use mathlib.Core.Path.{◌≡◌, refl, sym}
use mathlib.Core.List.{List, [], ◌∷◌, Memᴰ as In}
use lib.ListN.{length, get_or}

-- an element of a list by its index
pub at_in : (xs : List ℕ) (i : ℕ) → i < length xs → In (get_or xs i 0) xs
at_in [] i h = absurd (not-suc-le-zero h)
at_in (x ∷ xs) zero h = In.head refl
at_in (x ∷ xs) (suc i) h = In.tail (at_in xs i (omega arith))

-- the index of an element of a list
pub record Index (x : ℕ) (xs : List ℕ) : Type 0 where
  pub index : ℕ
  pub inside : index < length xs
  pub is : get_or xs index 0 ≡ x

-- every element has an index
pub in_at : {x : ℕ} {xs : List ℕ} → In x xs → Index x xs
in_at (In.head e) = record { index = 0; inside = omega arith; is = sym e }
in_at (In.tail m) =
    let r = in_at m in
    record { index = suc r.index; inside = omega arith; is = r.is }
