-- A lent list with a result put into it.
--   over_more     one more element of the result: a store at its end
-- Assumes nothing.
use Prim.Native.Nat.{ℕ, ◌<◌}
use native.Mathlib.Numerals.{add-one}
use mathlib.Core.Path.{◌≡◌, sym, ◌∙◌}
use mathlib.Core.List.{List, [], ◌∷◌, ◌++◌}
use lib.ListN.{length, set, length-append}
use lib.Seq.{drop-cons, set-append_seam, append_snoc}
use Rattle.rules.specs.Lists.{over}

-- A store at the end of the result is one more element of it.
pub over_more : (xs old : List ℕ) (v : ℕ) → length xs < length old
    → set (over xs old) (length xs) v ≡ over (xs ++ (v ∷ [])) old
over_more xs old v h =
    rw (drop-cons old (length xs) 0, set-append_seam, length-append)
    (sym (append_snoc xs v _) ∙ rw (add-one (length xs)))
