-- `lines::put_lines` meets its contract: a line for each link, each after the one before.
-- Assumes nothing.
use Rattle.buffer.specs.Put.{Appended}
use Rattle.lines.specs.Lines.{lines_of}
use Rattle.lines.proofs.put_lines.Given as goal

-- the lines of the first i links are put
abbrev pub invariant-loop-i : goal.invariant-loop-i
invariant-loop-i l = Appended l.initial.page (lines_of l.links.from.now l.links.to.now l.links.why.now l.i) l.page
