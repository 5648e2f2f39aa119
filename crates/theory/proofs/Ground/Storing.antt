-- A run of stores into a list, `sets l at vs`.
--   sets_append   storing a list and then another behind it is storing the two joined
--   sets_whole    what is stored from the first place on lies over what was there
--   over_front    a result that was put into a list is the list's front
-- By induction on what is stored. Assumes nothing.
use mathlib.Core.Path.{◌≡◌, sym, ap, ◌∙◌}
use mathlib.Core.List.{List, [], ◌∷◌, ◌++◌}
use Prim.Native.Nat.{ℕ, suc, ◌+◌, ◌≤◌}
use native.Mathlib.Omega.{arith}
use lib.ListN.{length, take, drop, set}
use lib.Seq.{sets, sets-eq, take_at}
use Rattle.rules.specs.Lists.{over}

-- storing a list and then another behind it is storing the two joined
pub sets_append : (l : List ℕ) (at : ℕ) (vs us : List ℕ)
    → sets l at (vs ++ us) ≡ sets (sets l at vs) (at + length vs) us
sets_append l at [] us = ap (λ (n : ℕ). sets l n us) (omega arith)
sets_append l at (v ∷ vs) us =
    sets_append (set l at v) (suc at) vs us
    ∙ ap (λ (n : ℕ). sets (sets (set l at v) (suc at) vs) n us) (omega arith)

-- what is stored from the first place on lies over what was there
pub sets_whole : (l vs : List ℕ) → length vs ≤ length l → sets l 0 vs ≡ over vs l
sets_whole l vs h =
    let e : 0 + length vs ≡ length vs = omega arith in
    rw e at (sets-eq vs l 0 (omega arith))

-- a result that was put into a list is its first elements
pub over_front : {A : Type 0} (xs l : List A) {k : ℕ} → k ≡ length xs → take k (over xs l) ≡ xs
over_front xs l {k} e = take_at xs (drop (length xs) l) k (sym e)
