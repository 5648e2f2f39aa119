use native.Mathlib.Omega.{arith}
use mathlib.Core.Path.{◌≡◌, sym, ◌∙◌}
use Rattle.kinds.proofs.Turns.{list_room, list_few, list_skip, list_put}
use Rattle.kinds.proofs.list.Goals as goal
use Rattle.kinds.proofs.list.Goals.{then-of_kind, else-of_kind}

pub of_kind-requires : goal.of_kind-requires
of_kind-requires c = (list_room c.requires c.loop-z.invariant c.loop-z.auto.z-end, c.loop-z-test.true)

-- There is a place for one name more.
pub overflow_add-work : goal.overflow_add-work
overflow_add-work c = omega (arith, list_few c.requires c.loop-z.invariant c.loop-z.auto.z-end)

pub offset_bounds-work-to : goal.offset_bounds-work-to
offset_bounds-work-to c = omega (arith, list_few c.requires c.loop-z.invariant c.loop-z.auto.z-end)

pub bounds-work-to : goal.bounds-work-to
bounds-work-to c = omega (arith, list_few c.requires c.loop-z.invariant c.loop-z.auto.z-end)

pub overflow_add-count : goal.overflow_add-count
overflow_add-count c = omega (arith, list_few c.requires c.loop-z.invariant c.loop-z.auto.z-end)

-- Every turn keeps the invariant.
pub loop-z-preserved : goal.loop-z-preserved
loop-z-preserved c =
    let l = c.loop-z in
    let inside = c.loop-z-test.true in
    elim c.if-of_kind.branch [
      | then-of_kind w ↦ rw (w.work-is, w.count-is)
          (list_put c.requires l.invariant l.auto.z-end inside (sym c.of_kind.ensures ∙ w.if-of_kind.true))
      | else-of_kind w ↦ rw (w.work-is, w.count-is)
          (list_skip c.requires l.invariant l.auto.z-end inside (sym c.of_kind.ensures ∙ w.if-of_kind.false))
    ]

-- What is answered is as the contract says.
pub returns : goal.returns
returns c =
    let e : c.loop-z.z ≡ c.args.at.zones = omega arith in
    rw e at c.loop-z.invariant
