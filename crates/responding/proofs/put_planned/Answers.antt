-- `responding::put_planned` meets its contract: PLAN cannot refuse, and what is put for its answer is the plan's
-- lines. Assumes nothing.
use Rattle.responding.proofs.Accepted.{zeros_long, plan_passes}
use Rattle.responding.proofs.Lines.{planned}
use Rattle.responding.proofs.put_planned.Goals as goal

pub returns : goal.returns
returns c =
    let most = zeros_long 1024 in
    let passes = plan_passes _ _ _ _ _ _ _ _ c.requires.fine (zeros_long 28672) most most most in
    rw
    (planned _ _ _ _ _ _ _ passes c.plan-answer.result c.args.page.now c.requires.lines_fit c.plan-answer.ensures).1
    at c.put_answer.ensures

pub put_answer-requires : goal.put_answer-requires
put_answer-requires c =
    let most = zeros_long 1024 in
    (planned _ _ _ _ _ _ _ (plan_passes _ _ _ _ _ _ _ _ c.requires.fine (zeros_long 28672) most most most)
    c.plan-answer.result c.args.page.now c.requires.lines_fit c.plan-answer.ensures).0
