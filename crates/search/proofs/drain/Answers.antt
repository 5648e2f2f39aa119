use native.Mathlib.Omega.{arith}
use Prim.Native.Nat.{ℕ, ◌+◌, ◌<◌}
use mathlib.Core.List.{List}
use mathlib.Core.Path.{◌≡◌, refl, ◌∙◌}
use lib.ListN.{length, get_or}
use Rattle.workmap.specs.declared.RowsAt.{RowsAt}
use Rattle.workmap.specs.declared.SearchAt.{SearchAt}
use Rattle.memory.specs.Regions.{cell}
use Rattle.search.specs.Marking.{Spreading, Visitable}
use Rattle.search.proofs.Course.{laid_fits, laid_now, tail_few, head_zone, head_visitable, spreading_next}
use Rattle.search.proofs.drain.Goals as goal

-- a search that began at v and has not gone through its queue
module _ {v w : List ℕ} {R : RowsAt} {S : SearchAt} {from x top head tail : ℕ}
    (G : Spreading v w R S from x top head tail) (more : head < tail) where
  -- the place of the queue's zone lies in the work memory
  spot : S.queue + head < length w
  spot = omega (arith, tail_few G more, (laid_fits (laid_now G more)).1)

  -- the zone's row starts and stops in the work memory
  inside : (z : ℕ) → z ≡ cell w S.queue head → R.starts + z + 1 < length w
  inside z is =
      let L = laid_now G more in
      omega (arith, head_zone G more is refl refl, L.order, L.fits)

  -- its row can be visited
  ready : (z : ℕ) → z ≡ cell w S.queue head →
      Visitable w R S x (R.rows + get_or w (R.starts + z) 0) (R.rows + get_or w (R.starts + z + 1) 0) tail
  ready z is = head_visitable G more is refl refl

pub overflow_add-at : goal.overflow_add-at
overflow_add-at c =
    let U = c.requires in
    omega (arith, spot (c.loop-head.invariant.1.1 U.began U.from U.course) c.loop-head-test.true)

pub offset_bounds-work-at : goal.offset_bounds-work-at
offset_bounds-work-at c =
    let U = c.requires in
    omega (arith, spot (c.loop-head.invariant.1.1 U.began U.from U.course) c.loop-head-test.true)

pub bounds-work-at : goal.bounds-work-at
bounds-work-at c =
    let U = c.requires in
    spot (c.loop-head.invariant.1.1 U.began U.from U.course) c.loop-head-test.true

pub bounds-work-rows : goal.bounds-work-rows
bounds-work-rows c =
    let U = c.requires in
    let G = c.loop-head.invariant.1.1 U.began U.from U.course in
    omega (arith, inside G c.loop-head-test.true _ c.from-z.ensures)

pub bounds-work-rows-in-loop-head : goal.bounds-work-rows-in-loop-head
bounds-work-rows-in-loop-head c =
    let U = c.requires in
    let G = c.loop-head.invariant.1.1 U.began U.from U.course in
    omega (arith, inside G c.loop-head-test.true _ c.from-z.ensures)

pub loop-head-smaller : goal.loop-head-smaller
loop-head-smaller c =
    let U = c.requires in
    let G = c.loop-head.invariant.1.1 U.began U.from U.course in
    omega (arith, tail_few G c.loop-head-test.true)

pub loop-head-preserved : goal.loop-head-preserved
loop-head-preserved c =
    let l = c.loop-head in
    let more = c.loop-head-test.true in
    let seen = rw (c.from.ensures, c.from-in-loop-head.ensures) at c.visit-tail.ensures in (
      omega (arith, l.invariant.0, seen.grown),
      (
        seen.kept.long ∙ l.invariant.1.0,
        λ v from G. spreading_next (l.invariant.1.1 v from G) more c.from-z.ensures refl refl seen,
      ),
    )

pub returns : goal.returns
returns c =
    let l = c.loop-head in
    let U = c.requires in
    let G = l.invariant.1.1 U.began U.from U.course in
    let e : l.head ≡ l.tail = omega (arith, c.loop-head-test.false, G.high) in
    record { grown = l.invariant.0; goes_on = rw e at l.invariant.1.1 }

pub visit-tail-requires : goal.visit-tail-requires
visit-tail-requires c =
    let U = c.requires in
    let G = c.loop-head.invariant.1.1 U.began U.from U.course in
    rw (c.from.ensures, c.from-in-loop-head.ensures) (ready G c.loop-head-test.true _ c.from-z.ensures)
