-- A list in lent work memory that loses one place, and what stands there then.
--   without_below   the list without a place is below what the list is below
--   taken_holds     the memory holds the list without the place
-- The list without a place is the library's `remove`. Assumes nothing.
use mathlib.Core.Path.{sym, ap, ◌∙◌}
use mathlib.Core.Logic.{inl, ⊎_elim}
use mathlib.Core.List.{List}
use Prim.Native.Nat.{ℕ, ◌+◌, ◌≤◌, ◌<◌}
use native.Mathlib.Omega.{arith}
use lib.ListN.{length, get_or}
use Rattle.std.proofs.lemmas.List.Edits.{length-remove, get_or-remove_below, get_or-remove_above}
use Rattle.memory.specs.Regions.{Holds}
use Rattle.memory.proofs.Regions.{holds_of, holds_at, holds_fits}
use Rattle.memory.proofs.Numbers.{below?}
use Rattle.turns.specs.Turn.{TakenOut, without, AllBelow}

-- what is left of a list below n is below n
pub without_below : (n j : ℕ) (xs : List ℕ) → j < length xs → AllBelow n xs → AllBelow n (without j xs)
without_below n j xs h small k l =
    let long = length-remove xs j h in
    ⊎_elim
    (λ (low : k < j). rw (get_or-remove_below xs j 0 k low h) (small k (omega arith)))
    (λ (high : j ≤ k). rw (get_or-remove_above xs j 0 k high h) (small (k + 1) (omega arith)))
    (below? k j)

-- where the list loses a place, the memory holds the list without it
pub taken_holds : (w w' : List ℕ) (at j : ℕ) (xs : List ℕ) → j < length xs → Holds w at xs →
    TakenOut w w' at (length xs) j → Holds w' at (without j xs)
taken_holds w w' at j xs h held T =
    let long = length-remove xs j h in
    holds_of w' at (without j xs) (omega (arith, holds_fits w at xs held, T.long))
    (λ k l.
    ⊎_elim
    (λ (low : k < j).
    T.others (at + k) (inl (omega arith))
    ∙ holds_at w at xs held k (omega arith)
    ∙ sym (get_or-remove_below xs j 0 k low h))
    (λ (high : j ≤ k).
    T.moved k high (omega arith)
    ∙ ap (λ (n : ℕ). get_or w n 0) (omega arith)
    ∙ holds_at w at xs held (k + 1) (omega arith)
    ∙ sym (get_or-remove_above xs j 0 k high h))
    (below? k j))
