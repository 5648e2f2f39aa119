-- `linkplan_reach` meets its promise: what REACH answers is put, and the work memory is as REACH leaves it.
-- Assumes nothing.
use Rattle.rules.specs.Answers.{reach_told}
use Rattle.clib.proofs.linkplan_reach.Goals as goal

pub returns : goal.returns
returns c =
    record { told = reach_told c.reach.result; kept = c.reach.ensures; answer = c.put_answer.ensures }
