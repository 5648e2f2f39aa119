-- `lines::put_why` meets its contract: each why's word. The answer stands for the edit that makes it false.
-- Assumes nothing.
use Rattle.rules.specs.Text.{word}
use Rattle.lines.proofs.put_why.Goals as goal

pub returns-in-Ring : goal.returns-in-Ring
unfolding word
returns-in-Ring c = rw c.in-Ring.is c.put_bytes.ensures
