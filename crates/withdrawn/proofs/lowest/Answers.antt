-- `lowest` meets its contract: before the place that is found, each number stands at its own index. Assumes nothing.
use Rattle.std.proofs.Common.{◌≡◌, ℕ, ◌+◌, ◌<◌, List, length, get_or, Option, Some, None, MatchOption}
use Rattle.std.proofs.Common.{unwrap_or, rules, arith}
use borrow.Author.Tests.{tests}
use mathlib.Core.Path.{ap, ◌∙◌}
use Rattle.std.specs.List.{HoldsAt, AllWithin, enumerate_from}
use Rattle.std.proofs.lemmas.Iterator.{YieldsList-from_slice, IsFirst-from_position}
use Rattle.std.proofs.lemmas.Iterator.Consumers.{YieldsList-from_enumerate}
use Rattle.std.proofs.lemmas.List.FromFn.{length-enumerate_from, get_or-enumerate_from}
use Rattle.rules.specs.Network.{Ascending}
use Rattle.withdrawn.specs.Withdrawn.{Lowest}
use Rattle.withdrawn.proofs.Fronts.{lowest_found}
use Rattle.withdrawn.proofs.lowest.Goals as goal

-- the number stands at its own index
abbrev Own : ℕ × ℕ → Type 0
Own p = p.1 ≡ p.0

-- it stands at another
abbrev Other : ℕ × ℕ → Type 0
Other p = p.1 ≡ p.0 → ⊥

-- a number with its index
numbered : (xs : List ℕ) (i : ℕ) → i < length xs → get_or (enumerate_from 0 xs) i (0, 0) ≡ (i, get_or xs i 0)
numbered xs i h =
    let e : 0 + i ≡ i = omega arith in
    get_or-enumerate_from 0 xs i (0, 0) h ∙ ap {B = ℕ × ℕ} (λ (n : ℕ). (n, get_or xs i 0)) e

-- the first place whose number stands at another index, or else the length, is the lowest number that is left out
found : (xs : List ℕ) → Ascending xs → (r : Option ℕ) →
    MatchOption r
    (AllWithin Own (enumerate_from 0 xs) 0 (length (enumerate_from 0 xs)))
    (λ i. (i < length (enumerate_from 0 xs)) × HoldsAt Other (enumerate_from 0 xs) i
    × AllWithin Own (enumerate_from 0 xs) 0 i) →
    Lowest xs (unwrap_or r (length xs))
found xs A (Some i) f =
    let low : i < length xs = omega (arith, f.0, length-enumerate_from 0 xs) in
    lowest_found xs A i (omega arith)
    (λ j h. rw (numbered xs j (omega arith)) at (f.2 j (0, 0) (omega arith) h))
    (λ h e. rw (numbered xs i low) at (f.1 (0, 0)) e)
found xs A None f =
    let long = length-enumerate_from 0 xs in
    lowest_found xs A (length xs) (omega arith)
    (λ j h. rw (numbered xs j h) at (f j (0, 0) (omega arith) (omega (arith, long))))
    (λ h e. omega arith)

pub returns : goal.returns
returns c =
    let gone = c.args.gone.now in
    rw c.unwrap_or.ensures
    (found gone c.requires c.position.result
    (IsFirst-from_position _ _ c.position.result Other Own c.position.ensures.ran
    (YieldsList-from_enumerate (YieldsList-from_slice gone cc) cc)
    (λ x q k. search (rules, tests)) (λ x q k. search (rules, tests))))
