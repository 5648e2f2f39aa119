-- `linkplan_strong` meets its promise: what STRONG answers is put, and the work memory is as STRONG leaves it.
-- Assumes nothing.
use Rattle.rules.specs.Answers.{strong_told}
use Rattle.clib.proofs.linkplan_strong.Goals as goal

pub returns : goal.returns
returns c =
    record { told = strong_told c.strong.result; kept = c.strong.ensures; answer = c.put_answer.ensures }
