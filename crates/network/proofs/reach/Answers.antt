-- `network::reach` meets its contract: a trouble is refused and changes nothing, and without one the search answers.
-- Assumes nothing.
use borrow.Author.Rules.{rules}
use mathlib.Core.Path.{sym}
use Rattle.theory.proofs.Files.Accepting.{fine_few}
use Rattle.network.proofs.Answering.{reach_askable, reach_refused, reach_done}
use Rattle.network.proofs.reach.Goals as goal

pub returns-in_err-reach : goal.returns-in_err-reach
returns-in_err-reach c =
    let a = c.args in
    let n = a.net in
    reach_refused n.zones n.tails.now n.heads.now n.gone.now a.from a.to a.work.now _ c.in_err-reach.field-0.0
    (search rules) (sym c.in_err-reach.ensures)

pub map_of-m-requires : goal.map_of-m-requires
map_of-m-requires c =
    let a = c.args in
    let n = a.net in
    let none = sym c.in_ok-reach.ensures in
    let F =
    (reach_askable n.zones n.tails.now n.heads.now n.gone.now a.from a.to a.work.now none).0.ready.fine
    in
    record { zones_bound = F.accepted.zones_most; arcs_bound = fine_few F }

pub reached-requires : goal.reached-requires
reached-requires c =
    let a = c.args in
    let n = a.net in
    let none = sym c.in_ok-reach.ensures in
    rw c.map_of-m.ensures
    (reach_askable n.zones n.tails.now n.heads.now n.gone.now a.from a.to a.work.now none).0

pub returns : goal.returns
returns c =
    let a = c.args in
    let n = a.net in
    let none = sym c.in_ok-reach.ensures in
    reach_done n.zones n.tails.now n.heads.now n.gone.now a.from a.to a.work.now _ c.reached.result none
    (rw c.map_of-m.ensures at c.reached.ensures)
