use native.Mathlib.Omega.{arith}
use mathlib.Core.List.{[], ◌∷◌, ◌++◌}
use mathlib.Core.Path.{◌∙◌}
use Rattle.std.proofs.lemmas.Grind.{common_steps}
use Rattle.filepasses.proofs.ArcTurns.{turn_got, turn_bad, turns_over}
use Rattle.filepasses.proofs.FileArcs.scan.Goals as goal

pub returns-in_err-c : goal.returns-in_err-c
returns-in_err-c c =
    let a = c.args in
    let l = c.loop in
    let refused = c.in_err-c.ensures in
    let bad = turn_bad a.s.now a.self.zones a.self.arcs l.counter l.c.at l.invariant.0 _ (omega arith) refused in
    let whole = l.invariant.1 ∙ bad in
    grind (arith, common_steps)

pub loop-preserved : goal.loop-preserved
loop-preserved c =
    let a = c.args in
    let l = c.loop in
    let e = c.in_ok-c.ensures in (
      l.invariant.0 ++ (e.0 ∷ []),
      l.invariant.1 ∙ turn_got a.s.now a.self.zones a.self.arcs l.counter l.c.at l.invariant.0 _ _ (omega arith) e.1,
    )

pub returns : goal.returns
returns c =
    let a = c.args in
    let l = c.loop in
    let over = turns_over a.s.now a.self.zones a.self.arcs l.counter l.c.at l.invariant.0 (omega arith) in
    (l.invariant.0, l.invariant.1 ∙ over)
