-- `list` meets its contract: the first z zones are tried, and a turn tries one more. Assumes nothing.
use Rattle.kinds.specs.Marks.{entered_mark, exited_mark}
use Rattle.kinds.specs.Lists.{Listing}
use Rattle.kinds.proofs.list.Given as goal

-- the names of this kind below z are listed
abbrev pub invariant-loop-z : goal.invariant-loop-z
invariant-loop-z l =
    Listing l.at (entered_mark l.kind) (exited_mark l.kind) l.to l.z l.count l.initial.work l.work
