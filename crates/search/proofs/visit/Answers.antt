use Rattle.std.proofs.Common.{ℕ, ◌+◌, ◌≤◌, List, get_or, set, refl, arith}
use Rattle.workmap.specs.declared.RowsAt.{RowsAt}
use Rattle.workmap.specs.declared.SearchAt.{SearchAt}
use Rattle.std.specs.Prelude.{Some}
use Rattle.arranged.specs.Marks.{FirstIn}
use Rattle.search.specs.Marking.{Visitable, Visited}
use Rattle.search.proofs.Join.{Join}
use Rattle.search.proofs.Turn.{visit_done, visit_join, visit_more, past}
use Rattle.search.proofs.visit.Goals as goal

-- the row is visited up to a, in w, and a look has found a zone i places further: it gets the mark and joins the queue
joins : {w₀ w : List ℕ} {R : RowsAt} {S : SearchAt} {x from to tail a end : ℕ} → Visitable w₀ R S x from to tail
    → (from ≤ a) × ((a ≤ to) × Visited w₀ w R S x from a tail end) → (i : ℕ) → FirstIn w a to S.marks (Some i)
    → let h = get_or w (a + i) 0 in Join w (set (set w (S.marks + h) x) (S.queue + end) h) S R.zones x end h
joins A V i F = visit_join A V.1.1 V.0 V.1.0 i refl F refl

-- every turn keeps the invariant
pub loop-i-preserved : goal.loop-i-preserved
loop-i-preserved c =
    let V = c.loop-i.invariant in
    let F = c.in-Some.ensures in (
      omega (arith, V.0),
      (
        omega (arith, F.0),
        visit_more c.requires V.1.1 V.0 V.1.0 c.in-Some.i refl F (rw c.from.ensures refl),
      ),
    )

-- what a look goes along are heads of the row, so zones
pub step-requires-clause-entries_below : goal.step-requires-clause-entries_below
step-requires-clause-entries_below c =
    let A = c.requires in
    let V = c.loop-i.invariant in
    λ i h k.
    rw (past A V.1.1 V.0 V.1.0 i (omega (arith, V.0, h)))
    (A.heads i (omega (arith, V.0, h)) k)

pub bounds-work-m : goal.bounds-work-m
bounds-work-m c =
    let J = joins c.requires c.loop-i.invariant c.in-Some.i c.in-Some.ensures in
    omega (arith, J.apart, J.fits, J.zone, c.from.ensures)

pub returns : goal.returns
returns c =
    let V = c.loop-i.invariant in
    visit_done c.requires V.1.1 V.0 V.1.0 c.in_default.ensures
