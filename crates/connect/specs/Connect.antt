-- What connecting the sources and the sinks of a side asks and leaves in lent work memory.
--   Connectable w d s t q N    the network N stands in w on the side d, is not strong, and has s sources, t sinks, no
--                              fewer than sources, and q components alone
--   Connected w w' d N r       the links of the rule for s ≤ t stand in w', in three columns
use Rattle.std.specs.Prelude.{◌≡◌, List, false, ℕ, ◌+◌, ◌≤◌, length, drop}
use Rattle.rules.specs.Network.{Network, strong}
use Rattle.rules.specs.Components.{sources, sinks, alone}
use Rattle.rules.specs.Plan.{ordering, upright_plan}
use Rattle.workmap.specs.declared.Side.{Side}
use Rattle.sides.specs.Standing.{SideStands, Columns}
use Rattle.sides.specs.Sides.{Roomy}
use Rattle.connect.specs.declared.Connection.{Connection}

-- the network stands on the side, is not strong, and has no more sources than sinks
pub record Connectable (w : List ℕ) (d : Side) (s t q : ℕ) (N : Network) : Type 0 where
  pub small : d.rows.zones ≤ 1024
  pub roomy : Roomy d
  pub stands : SideStands w d.rows d.lists N
  pub weak : strong N ≡ false
  pub order : s ≤ t
  pub sources_are : s ≡ length (sources N)
  pub sinks_are : t ≡ length (sinks N)
  pub alone_are : q ≡ length (alone N)

-- the links of the rule for s ≤ t are put, and r counts the pairs and the links; behind the whys the memory is as it
-- was
pub record Connected (w w' : List ℕ) (d : Side) (N : Network) (r : Connection) : Type 0 where
  pub pairs : r.pairs ≡ length (ordering N).pairs
  pub need : r.need ≡ length (upright_plan N)
  pub columns : Columns w' d.links (upright_plan N)
  pub long : length w' ≡ length w
  pub back : drop (d.links.why + d.rows.zones) w' ≡ drop (d.links.why + d.rows.zones) w
