-- What the survey of a network leaves in lent work memory.
--   Surveyed before w m N r   the network N stands in w both ways, where the map m says, and r counts its kinds
use Rattle.std.specs.Prelude.{◌≡◌, List, ℕ, length, drop}
use Rattle.rules.specs.Network.{Network}
use Rattle.rules.specs.Components.{sources, sinks, alone}
use Rattle.workmap.specs.declared.Map.{Map}
use Rattle.kinds.specs.declared.Counts.{Counts}
use Rattle.sides.specs.Standing.{BothWays}

-- the network stands both ways with the names of each kind, r counts them, and past the asked part the memory is as it
-- came
pub record Surveyed (before w : List ℕ) (m : Map) (N : Network) (r : Counts) : Type 0 where
  pub long : length w ≡ length before
  pub beyond : drop m.asked w ≡ drop m.asked before
  pub both_ways : BothWays w m N
  pub sources_are : r.sources ≡ length (sources N)
  pub sinks_are : r.sinks ≡ length (sinks N)
  pub alone_are : r.alone ≡ length (alone N)
