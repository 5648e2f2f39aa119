-- `records::plan_records` meets its contract: without a trouble the records are filled from the plan that was laid
-- out, and the work memory is cleared. Assumes nothing.
use mathlib.Core.Path.{sym}
use Rattle.workmap.proofs.Places.{placed}
use Rattle.records.proofs.Answering.{records_ready, readable, front_filled, records_done}
use Rattle.theory.proofs.Files.Accepting.{fine_few}
use native.Mathlib.Omega.{arith}
use lib.Seq.{length-take-le}
use Rattle.records.proofs.plan_records.Goals as goal

pub returns : goal.returns
returns c =
    let xs = c.args.links.now in
    let p = records_ready (sym c.in_ok-records.ensures) in
    let r = readable c.map_of-m.ensures p.0 p.1 c.lay-counts.ensures in
    records_done {xs = xs} c.map_of-m.ensures (sym c.in_ok-records.ensures) c.lay-counts.ensures
    (front_filled xs c.lay-counts.result.need c.lay-counts.new.work c.map_of-m.result.links r.0 c.fill_links.ensures)
    c.clear.ensures

-- without a trouble the input passes the tests
pub map_of-m-requires : goal.map_of-m-requires
map_of-m-requires c =
    let f = (records_ready (sym c.in_ok-records.ensures)).0.fine in
    record { zones_bound = f.fine.accepted.zones_most; arcs_bound = fine_few f.fine }

pub lay-counts-requires : goal.lay-counts-requires
lay-counts-requires c = rw c.map_of-m.ensures (records_ready (sym c.in_ok-records.ensures)).0

-- the columns lie in the memory, and there are as many records as links
pub fill_links-requires : goal.fill_links-requires
fill_links-requires c =
    let p = records_ready (sym c.in_ok-records.ensures) in
    let r = readable c.map_of-m.ensures p.0 p.1 c.lay-counts.ensures in
    rw (length-take-le c.lay-counts.result.need c.args.links.now r.0) r.1

pub slice_bounds-fill_links-end : goal.slice_bounds-fill_links-end
slice_bounds-fill_links-end c =
    let p = records_ready (sym c.in_ok-records.ensures) in
    (readable c.map_of-m.ensures p.0 p.1 c.lay-counts.ensures).0

pub slice_bounds-fill_links-end-2 : goal.slice_bounds-fill_links-end-2
slice_bounds-fill_links-end-2 c =
    let p = records_ready (sym c.in_ok-records.ensures) in
    let r = readable c.map_of-m.ensures p.0 p.1 c.lay-counts.ensures in
    sym (length-take-le c.lay-counts.result.need c.args.links.now r.0)

pub clear-requires : goal.clear-requires
clear-requires c =
    let p = records_ready (sym c.in_ok-records.ensures) in
    let b = placed c.map_of-m.ensures in
    omega (arith, p.0.ready.room, c.lay-counts.ensures.long)
