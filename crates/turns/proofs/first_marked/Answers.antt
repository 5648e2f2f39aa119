-- `turns::first_marked` meets its contract: each sink has a mark to look at, and a place of the part of the memory that
-- is looked through is one of the memory. Assumes nothing.
use Rattle.std.proofs.Common.{◌≡◌, ℕ, ◌+◌, ◌-◌, ◌≤◌, ◌<◌, List, length, Option, Some, None}
use Rattle.std.proofs.Common.{MatchOption, rules, arith}
use Rattle.std.specs.List.{HoldsAt, AllWithin}
use borrow.Author.Tests.{tests}
use Rattle.std.proofs.lemmas.List.{get_or_default}
use Rattle.std.proofs.lemmas.Iterator.{YieldsList-from_slice, IsFirst-from_position}
use Rattle.std.proofs.lemmas.Iterator.Adapters.{serves_from_places}
use Rattle.memory.specs.Regions.{part}
use Rattle.memory.proofs.Regions.{part_at, part_long}
use Rattle.arranged.specs.Marks.{Marked}
use Rattle.turns.specs.Turn.{Unmarked, FirstMarked}
use Rattle.turns.proofs.first_marked.Goals as goal

-- what a look through the n places finds in the part, it finds in the memory
found : (w : List ℕ) (marks at n count : ℕ) (r : Option ℕ) → n ≡ count → n ≤ length w - at →
    MatchOption r
    (AllWithin (Unmarked w marks) (part w at n) 0 (length (part w at n)))
    (λ i. (i < length (part w at n)) × HoldsAt (Marked w marks) (part w at n) i
    × AllWithin (Unmarked w marks) (part w at n) 0 i) →
    FirstMarked w marks at count r
found w marks at n count (Some i) same fits f =
    let low : i < n = omega (arith, f.0, part_long w at n fits) in (
      omega arith,
      (
        rw (part_at w at n i low) at (f.1 0),
        λ k h. rw (part_at w at n k (omega arith)) at (f.2 k 0 (omega arith) h),
      ),
    )
found w marks at n count None same fits f =
    λ k h. rw (part_at w at n k (omega arith)) at (f k 0 (omega arith) (omega (arith, part_long w at n fits)))

pub position-requires-clause-callable : goal.position-requires-clause-callable
position-requires-clause-callable c =
    let a = c.args in
    let n = a.at + a.count - a.at in
    let row = part a.work.now a.at n in
    serves_from_places
    (YieldsList-from_slice row cc)
    (λ x q k. search (rules, tests))
    (λ x k low e.
    let short : k < n = omega (arith, low, part_long a.work.now a.at n (omega arith)) in
    let place = part_at a.work.now a.at n k short in
    let h : a.marks + x.now < length a.work.now =
    omega (arith, c.requires.marks_in_bounds k (omega arith), get_or_default row k x.now 0 low, e, place)
    in
    search rules)

pub returns : goal.returns
returns c =
    let a = c.args in
    let n = a.at + a.count - a.at in
    found a.work.now a.marks a.at n a.count c.position.result (omega arith) (omega arith)
    (IsFirst-from_position _ _ c.position.result (Marked a.work.now a.marks) (Unmarked a.work.now a.marks)
    c.position.ensures.ran (YieldsList-from_slice (part a.work.now a.at n) cc)
    (λ x q k. search (rules, tests)) (λ x q k. search (rules, tests)))
