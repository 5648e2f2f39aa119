-- What laying out a plan leaves in lent work memory.
--   counts_with k c               the numbers of the kinds, with the pairs and the links of a connection
--   LaidOut before w m N r       the plan of the network N stands in w in the columns of the map m, and r has its
--                                 numbers
use Rattle.std.specs.Prelude.{◌≡◌, List, ℕ, ◌≤◌, length, drop}
use Rattle.rules.specs.declared.PlanCounts.{PlanCounts}
use Rattle.rules.specs.Network.{Network}
use Rattle.rules.specs.Plan.{plan}
use Rattle.workmap.specs.declared.Map.{Map}
use Rattle.kinds.specs.declared.Counts.{Counts}
use Rattle.sides.specs.Standing.{Columns}
use Rattle.connect.specs.declared.Connection.{Connection}
use Rattle.laying.specs.Figures.{Figures}

-- the numbers of the kinds, with the pairs and the links of a connection
abbrev pub counts_with : Counts → Connection → PlanCounts
counts_with k c =
    record { sources = k.sources; sinks = k.sinks; alone = k.alone; pairs = c.pairs; need = c.need }

-- the plan stands in the memory, r has its numbers, and past the asked part the memory is as it came
pub record LaidOut (before w : List ℕ) (m : Map) (N : Network) (r : PlanCounts) : Type 0 where
  pub figures : Figures N r
  pub links_are : r.need ≡ length (plan N)
  pub few : r.need ≤ m.zones
  pub columns : Columns w m.links (plan N)
  pub long : length w ≡ length before
  pub beyond : drop m.asked w ≡ drop m.asked before
