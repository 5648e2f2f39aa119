-- `body` meets its contract: the refusals are found by the laws that it names, and where there is none the arcs are
-- stored. Assumes nothing.
use native.Mathlib.Omega.{arith}
use Rattle.theory.proofs.Files.FileLaws.{arcs_count}
use Rattle.filebody.proofs.Bodies.{body_ends, answered_got}
use Rattle.filebody.proofs.body.Goals as goal

pub returns : goal.returns
returns c =
    let a = c.args in
    let e = c.in_ok-end.ensures in
    let t = c.store.ensures in
    answered_got
    (body_ends a.file.now a.due.zones a.due.arcs a.due.from.at e.1 (omega arith))
    (arcs_count a.file.now a.due.zones a.due.arcs a.due.from.at e.1)
    (t.tails e.0 _ e.1)
    (t.heads e.0 _ e.1)
