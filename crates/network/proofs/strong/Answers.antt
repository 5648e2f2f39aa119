-- `network::strong` meets its contract: a trouble is refused and changes nothing, and without one the search answers.
-- Assumes nothing.
use borrow.Author.Rules.{rules}
use mathlib.Core.Path.{sym}
use Rattle.theory.proofs.Files.Accepting.{fine_few}
use Rattle.network.proofs.Answering.{strong_ready, strong_refused, strong_done}
use Rattle.network.proofs.strong.Goals as goal

pub returns-in_err-strong : goal.returns-in_err-strong
returns-in_err-strong c =
    let n = c.args.net in
    strong_refused n.zones n.tails.now n.heads.now n.gone.now c.args.work.now _ c.in_err-strong.field-0.0
    (search rules) (sym c.in_err-strong.ensures)

pub map_of-m-requires : goal.map_of-m-requires
map_of-m-requires c =
    let n = c.args.net in
    let none = sym c.in_ok-strong.ensures in
    let F = (strong_ready n.zones n.tails.now n.heads.now n.gone.now c.args.work.now none).ready.fine in
    record { zones_bound = F.accepted.zones_most; arcs_bound = fine_few F }

pub joined-requires : goal.joined-requires
joined-requires c =
    let n = c.args.net in
    rw c.map_of-m.ensures
    (strong_ready n.zones n.tails.now n.heads.now n.gone.now c.args.work.now (sym c.in_ok-strong.ensures))

pub returns : goal.returns
returns c =
    let n = c.args.net in
    let passed = sym c.in_ok-strong.ensures in
    strong_done n.zones n.tails.now n.heads.now n.gone.now c.args.work.now _ c.joined.result passed
    (rw c.map_of-m.ensures at c.joined.ensures)
