-- Copies and fills as stores one behind the other.
--   sets l i xs    the list l after stores of the elements of xs from index i on
--   sets_over      stores from index 0 on leave the result, and past it what was there
--   copied_long    a copy keeps the memory's length
--   copy_front     one element more of a copy to the front of a list
--   paste_sets     elements of a list pasted are stores of them
--   part_stored    a part that was replaced is stores of what replaced it
-- The idea: a list with a part replaced is what lies before the part, the new part, and what lies behind. Assumes
-- nothing.
use mathlib.Core.Path.{◌≡◌, refl, sym, ap, ◌∙◌}
use mathlib.Core.List.{List, [], ◌∷◌, ◌++◌}
use Prim.Native.Nat.{ℕ, ◌+◌, ◌-◌, ◌≤◌, ◌<◌}
use native.Mathlib.Nat.{zero-add}
use native.Mathlib.Omega.{arith}
use lib.ListN.{length, get_or, set, take, drop}
use lib.Seq.{sets, sets-eq, length-sets, paste, length-take-le}
use borrow.Rule.Slice.PartMut.{put_mid}
use Rattle.std.proofs.lemmas.Slice.{put_mid-paste}
use Rattle.std.proofs.lemmas.List.{take_all}
use Rattle.rules.specs.Lists.{over}
use Rattle.theory.proofs.Ground.Storing.{sets_append}
use Rattle.memory.specs.Regions.{part}
use Rattle.memory.proofs.Regions.{part_long, part_more}
use Rattle.memory.specs.Storing.{Copied}

-- stores from index 0 on leave the result, and past it what was there
pub sets_over : (xs l : List ℕ) → length xs ≤ length l → sets l 0 xs ≡ over xs l
sets_over xs l fits =
    sets-eq xs l 0 (omega arith) ∙ ap (λ (k : ℕ). xs ++ drop k l) (zero-add (length xs))

-- a copy keeps the memory's length
pub copied_long : {w w' : List ℕ} {from n to : ℕ} → Copied w w' from n to → length w' ≡ length w
copied_long {w} {w'} {from} {n} {to} C = ap length C.is ∙ length-sets w to (part w from n)

-- one element more of a copy to the front of a list
pub copy_front : (w l l' : List ℕ) (from n : ℕ) → n < length w - from → l' ≡ sets l 0 (part w from n) →
    set l' n (get_or w (from + n) 0) ≡ sets l 0 (part w from (n + 1))
copy_front w l l' from n fits e =
    let long : length (part w from n) ≡ n = part_long w from n (omega arith) in
    let x : ℕ = get_or w (from + n) 0 in
    ap (λ (r : List ℕ). set r n x) e
    ∙ ap (λ (k : ℕ). set (sets l 0 (part w from n)) k x) (sym long ∙ sym (zero-add _))
    ∙ sym (sets_append l 0 (part w from n) (x ∷ []))
    ∙ ap (λ (xs : List ℕ). sets l 0 xs) (sym (part_more w from n fits))

-- n elements of a list pasted are stores of them
pub paste_sets : (w xs : List ℕ) (at n : ℕ) → at + n ≤ length w → n ≤ length xs →
    paste w at xs n ≡ sets w at (take n xs)
paste_sets w xs at n fits enough =
    let long : length (take n xs) ≡ n = length-take-le n xs enough in
    ap (λ (k : ℕ). take at w ++ take n xs ++ drop (at + k) w) (sym long)
    ∙ sym (sets-eq (take n xs) w at (omega arith))

-- a part that was replaced is stores of what replaced it
pub part_stored : (w xs ys : List ℕ) (at n : ℕ) → at + n ≤ length w → ys ≡ xs → n ≡ length xs →
    put_mid at n w ys ≡ sets w at xs
part_stored w xs ys at n fits same long =
    put_mid-paste at n w ys xs n same refl long
    ∙ paste_sets w xs at n fits (omega arith)
    ∙ ap (sets w at) (take_all n xs (omega arith))
