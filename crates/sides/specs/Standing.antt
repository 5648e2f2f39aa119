-- What stands in lent work memory for the plan rule: arcs in rows, the names of each kind in lists, links in columns.
--   SideStands w R A N    the network N stands in w: its arcs in the rows R, and the names of its kinds in the lists A
--   BothWays w m N        so it is where the map m says, and the arcs stand turned round in its turned rows
--   Columns w L ls         the links ls stand in w in three columns, where L says
-- Every zone of the network has a row. A number that has a row need not be one of its zones: it may be withdrawn.
use mathlib.Core.List.{List, map, Memᴰ as In}
use Rattle.std.specs.Prelude.{ℕ, ◌+◌, ◌≤◌, ◌<◌, length}
use Rattle.rules.specs.Network.{Network, Proper}
use Rattle.rules.specs.Components.{sources, sinks, alone}
use Rattle.rules.specs.Plan.{Link, why_number, turned}
use Rattle.memory.specs.Regions.{Holds}
use Rattle.arranged.specs.Arranged.{ArrangedAt}
use Rattle.workmap.specs.declared.RowsAt.{RowsAt}
use Rattle.workmap.specs.declared.ListsAt.{ListsAt}
use Rattle.workmap.specs.declared.LinksAt.{LinksAt}
use Rattle.workmap.specs.declared.Map.{Map}

-- the network's arcs stand in the rows, and the names of its kinds in the lists
pub record SideStands (w : List ℕ) (R : RowsAt) (A : ListsAt) (N : Network) : Type 0 where
  pub proper : Proper N
  pub numbered : (z : ℕ) → In z N.zones → z < R.zones
  pub arranged : ArrangedAt w R N.arcs
  pub fits : R.rows + length N.arcs ≤ length w
  pub sources_held : Holds w A.sources (sources N)
  pub sinks_held : Holds w A.sinks (sinks N)
  pub alone_held : Holds w A.alone (alone N)

-- the arcs stand in the rows of the map as given, and in its turned rows turned round
pub record BothWays (w : List ℕ) (m : Map) (N : Network) : Type 0 where
  pub given : SideStands w m.rows m.lists N
  pub turned_round : ArrangedAt w m.turned (turned N).arcs
  pub turned_fits : m.turned.rows + length (turned N).arcs ≤ length w

-- the links stand in three columns: where they start, where they end, and the numbers of their whys
pub record Columns (w : List ℕ) (L : LinksAt) (ls : List Link) : Type 0 where
  pub starts_held : Holds w L.from (map (λ (l : Link). l.start) ls)
  pub ends_held : Holds w L.to (map (λ (l : Link). l.end) ls)
  pub whys_held : Holds w L.why (map (λ (l : Link). why_number l.why) ls)
