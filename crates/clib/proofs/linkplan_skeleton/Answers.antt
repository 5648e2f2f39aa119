-- `linkplan_skeleton` meets its promise: what SKELETON answers is put, and the lists are as SKELETON leaves them.
-- Assumes nothing.
use Rattle.rules.specs.Answers.{skeleton_told}
use Rattle.clib.proofs.linkplan_skeleton.Goals as goal

pub returns : goal.returns
returns c =
    record { told = skeleton_told c.skeleton.result; kept = c.skeleton.ensures; answer = c.put_answer.ensures }
