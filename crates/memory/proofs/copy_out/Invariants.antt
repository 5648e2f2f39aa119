-- `memory::copy_out` meets its contract: the first i elements are copied, and a turn copies one more. Assumes nothing.
use mathlib.Core.Path.{◌≡◌}
use lib.Seq.{sets}
use Rattle.memory.specs.Regions.{part}
use Rattle.memory.proofs.copy_out.Given as goal

abbrev pub invariant-loop-i : goal.invariant-loop-i
invariant-loop-i l = l.out ≡ sets l.initial.out 0 (part l.work l.at l.i)
