-- `records::fill_links` meets its contract. The loop's invariant: the records that are gone through are those that
-- came, with the first i stored. Assumes nothing.
use Rattle.std.proofs.Common.{◌≡◌}
use Rattle.columns.specs.Columns.{filled}
use Rattle.records.proofs.fill_links.Given as goal

abbrev pub invariant-loop-i : goal.invariant-loop-i
invariant-loop-i l = l.links ≡ filled l.work l.at l.initial.links l.i
