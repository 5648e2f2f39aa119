-- `arcs` meets its contract. The loop's invariant: the first trouble of all arcs is that of the arcs from `i` on.
-- Assumes nothing.
use mathlib.Core.Path.{◌≡◌}
use Rattle.rules.specs.Calls.{first_trouble}
use Rattle.zoneset.specs.Held.{held}
use Rattle.intake.proofs.Along.{rest}
use Rattle.intake.proofs.arcs.Given as goal

abbrev pub invariant-loop-i : goal.invariant-loop-i
invariant-loop-i l =
    first_trouble (rest l.net.zones (held l.gone) 0 l.net.tails.now l.net.heads.now)
    ≡ first_trouble (rest l.net.zones (held l.gone) l.i l.net.tails.now l.net.heads.now)
