-- `linkplan_write` meets its promise: what WRITE answers is put, and the file is as WRITE leaves it. Assumes nothing.
use Rattle.rules.specs.Answers.{write_told}
use Rattle.clib.proofs.linkplan_write.Goals as goal

pub returns : goal.returns
returns c =
    record { told = write_told c.write.result; kept = c.write.ensures; answer = c.put_answer.ensures }
