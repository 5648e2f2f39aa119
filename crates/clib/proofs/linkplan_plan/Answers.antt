-- `linkplan_plan` meets its promise: what PLAN answers is put, and the lists are as PLAN leaves them. Assumes nothing.
use Rattle.rules.specs.Answers.{plan_told}
use Rattle.clib.proofs.linkplan_plan.Goals as goal

pub returns : goal.returns
returns c =
    record { told = plan_told c.plan.result; kept = c.plan.ensures; answer = c.put_answer.ensures }
