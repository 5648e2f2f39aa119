-- Laws of lists that stand in lent work memory: read, made longer, cut, put together, and kept by changes elsewhere.
--   part_at, part_long, part_more, part_take, part_drop   a part's elements and length, one element more, its front
--                            and its rest
--   holds_at, holds_of       element by element, from the list to the memory and back
--   holds_part               what stands there is held
--   holds_none, holds_snoc   no list at all, and one element more by a store behind the list
--   holds_append             two lists, one behind the other
--   at_below, at_kept        the same up to a place, or from a place on: each element there is the same
--   part_store, part_below, part_kept   what changes elsewhere leaves a part as it is
--   holds_store, holds_apart   ... and a list where it is
-- The idea: each law is one of `take`, `drop` and `set`. Assumes nothing.
use mathlib.Core.Path.{◌≡◌, refl, sym, ap, ◌∙◌}
use mathlib.Core.Logic.{◌⊎◌, ⊎_elim}
use mathlib.Core.List.{List, [], ◌∷◌, ◌++◌}
use Prim.Native.Nat.{ℕ, zero, suc, ◌+◌, ◌-◌, ◌≤◌, ◌<◌}
use native.Mathlib.Nat.{zero-add, suc-add}
use native.Mathlib.Numerals.{add-one}
use native.Mathlib.Omega.{arith}
use lib.ListN.{length, get_or, set, take, drop, length-take, length-drop, length-append}
use lib.Seq.{length-take-le, take-suc, take-nil, ext_get_or}
use lib.Seq.{get_or-take, get_or-drop, drop-set-lt, drop-set-add, take-set-le, take-suc-set, take-take, take-add}
use lib.Seq.{drop-drop}
use Rattle.memory.specs.Regions.{part, Holds}

-- an element of a part is an element of the slice
pub part_at : (w : List ℕ) (a n k : ℕ) → k < n → get_or (take n (drop a w)) k 0 ≡ get_or w (a + k) 0
part_at w a n k h = rw (get_or-take, get_or-drop)

-- a rest of a front is a front of the rest
drop_take : (k n : ℕ) (l : List ℕ) → drop k (take (k + n) l) ≡ take n (drop k l)
drop_take zero n l = ap (λ (i : ℕ). take i l) (zero-add n)
drop_take (suc k) n [] = ap (λ (l : List ℕ). drop (suc k) l) (take-nil (suc k + n)) ∙ sym (take-nil n)
drop_take (suc k) n (x ∷ l) = ap (λ (i : ℕ). drop (suc k) (take i (x ∷ l))) (suc-add k n) ∙ drop_take k n l

-- a part that lies in the memory has its length
pub part_long : (w : List ℕ) (at n : ℕ) → n ≤ length w - at → length (part w at n) ≡ n
part_long w at n fits = length-take-le n (drop at w) (simp length-drop fits)

-- a part that is one element longer
pub part_more : (w : List ℕ) (at n : ℕ) → n < length w - at →
    part w at (n + 1) ≡ part w at n ++ (get_or w (at + n) 0 ∷ [])
part_more w at n fits =
    rw add-one (take-suc (drop at w) n 0 (simp length-drop fits))
    ∙ ap (λ (x : ℕ). part w at n ++ (x ∷ [])) (get_or-drop at w n 0)

-- a front of a part
pub part_take : (w : List ℕ) (at k n : ℕ) → k ≤ n → take k (part w at n) ≡ part w at k
part_take w at k n low = take-take k n (drop at w) low

-- a rest of a part
pub part_drop : (w : List ℕ) (at k n : ℕ) → drop k (part w at (k + n)) ≡ part w (at + k) n
part_drop w at k n = drop_take k n (drop at w) ∙ ap (λ (l : List ℕ). take n l) (drop-drop k at w)

-- a list that stands in the memory is no longer than the memory from there on
pub holds_fits : (w : List ℕ) (at : ℕ) (xs : List ℕ) → Holds w at xs → length xs ≤ length w - at
holds_fits w at xs h =
    omega (arith, sym (length-take (length xs) (drop at w)) ∙ ap length h, length-drop at w)

-- the memory has the list's elements
pub holds_at : (w : List ℕ) (at : ℕ) (xs : List ℕ) → Holds w at xs →
    (i : ℕ) → i < length xs → get_or w (at + i) 0 ≡ get_or xs i 0
holds_at w at xs h i low = sym (part_at w at (length xs) i low) ∙ ap (λ (l : List ℕ). get_or l i 0) h

-- a memory that has the list's elements, and is long enough, holds the list
pub holds_of : (w : List ℕ) (at : ℕ) (xs : List ℕ) → length xs ≤ length w - at →
    ((i : ℕ) → i < length xs → get_or w (at + i) 0 ≡ get_or xs i 0) → Holds w at xs
holds_of w at xs fits same =
    let long : length (part w at (length xs)) ≡ length xs = part_long w at (length xs) fits in
    ext_get_or 0 (part w at (length xs)) xs long
    (λ i low. part_at w at (length xs) i (omega arith) ∙ same i (omega arith))

-- what stands there is held
pub holds_part : (w : List ℕ) (at n : ℕ) → at + n ≤ length w → Holds w at (part w at n)
holds_part w at n fits =
    ap (λ (k : ℕ). part w at k) (part_long w at n (omega arith))

-- no list at all stands everywhere
pub holds_none : (w : List ℕ) (at : ℕ) → Holds w at []
holds_none w at = refl

-- a store right behind the list makes it one element longer
pub holds_snoc : (w : List ℕ) (at : ℕ) (xs : List ℕ) (x : ℕ) → Holds w at xs → at + length xs < length w →
    Holds (set w (at + length xs) x) at (xs ++ (x ∷ []))
holds_snoc w at xs x h fits =
    let long : length (xs ++ (x ∷ [])) ≡ suc (length xs) = simp length-append (omega arith) in
    ap (λ (n : ℕ). part (set w (at + length xs) x) at n) long
    ∙ ap (λ (l : List ℕ). take (suc (length xs)) l) (drop-set-add at w (length xs) x)
    ∙ take-suc-set (drop at w) (length xs) x (simp length-drop (omega arith))
    ∙ ap (λ (l : List ℕ). l ++ (x ∷ [])) h

-- two lists, one behind the other, stand there as one
pub holds_append : (w : List ℕ) (at : ℕ) (xs ys : List ℕ) → Holds w at xs → Holds w (at + length xs) ys →
    Holds w at (xs ++ ys)
holds_append w at xs ys h k =
    ap (λ (n : ℕ). part w at n) (length-append xs ys)
    ∙ take-add (length xs) (length ys) (drop at w)
    ∙ ap (λ (l : List ℕ). take (length xs) (drop at w) ++ take (length ys) l) (drop-drop (length xs) at w)
    ∙ (cc (h, k))

-- the same up to the place n: each part that ends there or before is the same
pub part_below : (w w' : List ℕ) (n at m : ℕ) → at + m ≤ n → take n w' ≡ take n w → part w' at m ≡ part w at m
part_below w w' n at m high same =
    let e : n ≡ at + (n - at) = omega arith in
    let cut : (l : List ℕ) → part l at m ≡ take m (drop at (take n l)) =
    λ (l : List ℕ).
    sym (take-take m (n - at) (drop at l) (omega arith))
    ∙ ap (λ (r : List ℕ). take m r) (sym (drop_take at (n - at) l))
    ∙ ap (λ (i : ℕ). take m (drop at (take i l))) (sym e)
    in
    cut w' ∙ ap (λ (r : List ℕ). take m (drop at r)) same ∙ sym (cut w)

-- the same from the place n on: each part that starts there or behind is the same
pub part_kept : (w w' : List ℕ) (n at m : ℕ) → n ≤ at → drop n w' ≡ drop n w → part w' at m ≡ part w at m
part_kept w w' n at m low same =
    let e : n + (at - n) ≡ at = omega arith in
    let cut : (l : List ℕ) → part l at m ≡ take m (drop (at - n) (drop n l)) =
    λ (l : List ℕ).
    ap (λ (i : ℕ). take m (drop i l)) (sym e) ∙ ap (λ (r : List ℕ). take m r) (sym (drop-drop (at - n) n l))
    in
    cut w' ∙ ap (λ (r : List ℕ). take m (drop (at - n) r)) same ∙ sym (cut w)

-- the same up to the place n: each element before it is the same
pub at_below : (w w' : List ℕ) (n i : ℕ) → i < n → take n w' ≡ take n w → get_or w' i 0 ≡ get_or w i 0
at_below w w' n i low same =
    sym (get_or-take n w' i 0 low) ∙ ap (λ (l : List ℕ). get_or l i 0) same ∙ get_or-take n w i 0 low

-- the same from the place n on: each element there or behind is the same
pub at_kept : (w w' : List ℕ) (n i : ℕ) → n ≤ i → drop n w' ≡ drop n w → get_or w' i 0 ≡ get_or w i 0
at_kept w w' n i high same =
    let e : i ≡ n + (i - n) = omega arith in
    rw e
    (sym (get_or-drop n w' (i - n) 0) ∙ ap (λ (l : List ℕ). get_or l (i - n) 0) same ∙ get_or-drop n w (i - n) 0)

-- a store outside a part leaves it as it is
pub part_store : (w : List ℕ) (at m i x : ℕ) → (i < at) ⊎ (at + m ≤ i) → part (set w i x) at m ≡ part w at m
part_store w at m i x outside =
    ⊎_elim
    (λ (low : i < at). part_kept w (set w i x) at at m (omega arith) (drop-set-lt at w i x low))
    (λ (high : at + m ≤ i). part_below w (set w i x) (at + m) at m (omega arith) (take-set-le (at + m) w i x high))
    outside

-- a store outside the list leaves it where it is
pub holds_store : (w : List ℕ) (at : ℕ) (xs : List ℕ) (i x : ℕ) → (i < at) ⊎ (at + length xs ≤ i) → Holds w at xs →
    Holds (set w i x) at xs
holds_store w at xs i x outside h = part_store w at (length xs) i x outside ∙ h

-- a memory as long that is the same where the list stands holds it too
pub holds_apart : (w w' : List ℕ) (at : ℕ) (xs : List ℕ) → length w' ≡ length w →
    ((i : ℕ) → at ≤ i → i < at + length xs → get_or w' i 0 ≡ get_or w i 0) → Holds w at xs → Holds w' at xs
holds_apart w w' at xs long same h =
    holds_of w' at xs (omega (arith, holds_fits w at xs h))
    (λ i low. same (at + i) (omega arith) (omega arith) ∙ holds_at w at xs h i low)
