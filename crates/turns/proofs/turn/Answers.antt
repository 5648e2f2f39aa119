-- `turn` meets its contract: the marks are cleared, the search sets them, and the first marked sink is taken
-- out. The marks are those of a search from cleared marks, so that the look along the sinks stays within the memory.
-- Assumes nothing.
use mathlib.Core.Path.{refl}
use Prim.Native.Nat.{◌+◌}
use lib.ListN.{get_or}
use Rattle.turns.proofs.TurnLaws.{searchable, lookable, turned_nothing, turned_found}
use Rattle.turns.proofs.turn.Goals as goal

pub search-requires : goal.search-requires
search-requires c =
    let a = c.args in
    rw c.fill.ensures
    (searchable a.work.now a.rows a.at a.source a.sinks a.left c.requires)

pub first_marked-requires-clause-marks_in_bounds : goal.first_marked-requires-clause-marks_in_bounds
first_marked-requires-clause-marks_in_bounds c =
    let a = c.args in
    let done = rw c.fill.ensures at c.search.ensures in
    lookable a.work.now a.rows a.at a.source a.sinks a.left c.requires c.search.new.work done

pub returns-in_err-j : goal.returns-in_err-j
returns-in_err-j c =
    let a = c.args in
    let done = rw c.fill.ensures at c.search.ensures in
    rw c.from_residual.ensures
    (turned_nothing a.work.now a.rows a.at a.source a.sinks a.left c.requires c.search.new.work done
    c.in_err-j.ensures)

pub returns : goal.returns
returns c =
    let a = c.args in
    let done = rw c.fill.ensures at c.search.ensures in
    turned_found a.work.now a.rows a.at a.source a.sinks a.left c.requires c.search.new.work done
    c.take_out.new.work c.in_ok-j.j (get_or c.search.new.work (a.sinks + c.in_ok-j.j) 0) c.in_ok-j.ensures refl
    c.take_out.ensures
