-- `rings::start_rings` meets its contract: the names below a are noted, and a turn notes one more. Assumes nothing.
use mathlib.Core.Path.{◌≡◌}
use lib.Seq.{sets}
use Rattle.rules.specs.Lists.{span}
use Rattle.rings.proofs.start_rings.Given as goal

abbrev pub invariant-loop-a : goal.invariant-loop-a
invariant-loop-a l = l.work ≡ sets l.initial.work l.at.last (span 0 l.a)
