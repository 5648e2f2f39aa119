-- `lines::put_link` meets its contract: from, to and why, each after the one before. Assumes nothing.
use Rattle.rules.specs.Text.{word}
use Rattle.buffer.proofs.Puts.{appended_then}
use Rattle.lines.specs.Lines.{line}
use Rattle.lines.proofs.put_link.Goals as goal

pub returns : goal.returns
unfolding line word
returns c = appended_then c.put_number.ensures (appended_then c.put_labelled.ensures c.put_why.ensures)
