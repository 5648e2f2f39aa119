-- `plan::plan` meets its contract: without a trouble the plan that was laid out is copied out, and the work memory is
-- cleared. Assumes nothing.
use mathlib.Core.Path.{sym}
use Rattle.workmap.proofs.Places.{placed, links_placed}
use Rattle.plan.proofs.Answering.{tests_plannable, plan_done}
use Rattle.theory.proofs.Files.Accepting.{fine_few}
use native.Mathlib.Omega.{arith}
use Rattle.plan.proofs.plan.Goals as goal

-- without a trouble the input passes the tests
pub map_of-m-requires : goal.map_of-m-requires
map_of-m-requires c =
    let p = tests_plannable (sym c.in_ok-plan.ensures) in
    let f = p.ready.ready.fine in
    record { zones_bound = f.accepted.zones_most; arcs_bound = fine_few f }

pub lay-counts-requires : goal.lay-counts-requires
lay-counts-requires c =
    let p = tests_plannable (sym c.in_ok-plan.ensures) in
    rw c.map_of-m.ensures p.ready

-- the columns lie in the memory, and each is as long as the plan is
pub hand_out-requires : goal.hand_out-requires
hand_out-requires c =
    let p = tests_plannable (sym c.in_ok-plan.ensures) in
    let e = c.map_of-m.ensures in
    let b = placed e in
    let l = links_placed e in
    let d = c.lay-counts.ensures in
    let r = p.ready.ready.room in
    record {
      starts = omega arith;
      ends = omega arith;
      whys = omega arith;
      from_room = omega (arith, p.from_room);
      to_room = omega (arith, p.to_room);
      why_room = omega (arith, p.why_room);
    }

pub clear-requires : goal.clear-requires
clear-requires c =
    let p = tests_plannable (sym c.in_ok-plan.ensures) in
    let b = placed c.map_of-m.ensures in
    omega (arith, p.ready.ready.room, c.lay-counts.ensures.long)

pub returns : goal.returns
returns c =
    plan_done c.map_of-m.ensures (sym c.in_ok-plan.ensures) c.lay-counts.ensures
    c.hand_out.ensures c.clear.ensures
