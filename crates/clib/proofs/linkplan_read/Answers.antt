-- `linkplan_read` meets its promise: what READ answers is put, and the lists are as READ leaves them. Assumes nothing.
use Rattle.rules.specs.Answers.{read_told}
use Rattle.clib.proofs.linkplan_read.Goals as goal

pub returns : goal.returns
returns c =
    record { told = read_told c.read.result; kept = c.read.ensures; answer = c.put_answer.ensures }
