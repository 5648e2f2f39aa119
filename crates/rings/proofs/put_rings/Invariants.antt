-- `rings::put_rings` meets its contract: whatever memory the names were first noted in, the zones from z on are passed.
-- Assumes nothing.
use mathlib.Core.Path.{◌≡◌}
use mathlib.Core.List.{List}
use Prim.Native.Nat.{ℕ}
use lib.Seq.{sets}
use Rattle.rules.specs.Lists.{span}
use Rattle.rings.specs.Rings.{RingsLent}
use Rattle.rings.proofs.Passing.{Passing}
use Rattle.rings.proofs.put_rings.Given as goal

abbrev pub invariant-loop-z : goal.invariant-loop-z
invariant-loop-z l =
    (w : List ℕ) → RingsLent w l.at → l.initial.work ≡ sets w l.at.last (span 0 l.at.zones)
    → Passing w l.work l.at l.initial.sink l.sink l.z
