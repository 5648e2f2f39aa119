-- `scan` meets its contract. The loop's invariant: all arcs are those that were found, with what is ahead at
-- `c`. Assumes nothing.
use Prim.Native.Nat.{◌-◌}
use mathlib.Core.List.{List}
use mathlib.Core.Path.{◌≡◌}
use Rattle.filepasses.proofs.ArcTurns.{ahead}
use Rattle.rules.specs.File.{arcs_at}
use Rattle.rules.specs.Network.{Arc}
use Rattle.filepasses.proofs.FileArcs.scan.Given as goal

abbrev pub invariant-loop : goal.invariant-loop
invariant-loop l =
    (es : List Arc)
    × (arcs_at l.s l.zones l.arcs l.initial.c.at ≡ ahead es (arcs_at l.s l.zones (l.arcs - l.counter) l.c.at))
