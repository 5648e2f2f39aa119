-- The side on which the plan rule runs, in the rule's words.
--   Roomy d           the places of the side d lie apart from each other, in the order that the rule asks
--   RuleSide m s t d for a network with s sources and t sinks: on d stands the network on which the rule runs, and
--                     its links, put there, are the plan
--   Tallied s t q p r r counts what the links are made of: an ordering with p pairs of s sources and t sinks, and q
--                     components alone
use Rattle.std.specs.Prelude.{◌≡◌, ◌⊎◌, false, List, ℕ, ◌+◌, ◌≤◌, length}
use Rattle.rules.specs.Network.{Network, strong}
use Rattle.rules.specs.Components.{sources, sinks}
use Rattle.rules.specs.Plan.{Ordering, upright, upright_plan, plan}
use Rattle.stations.specs.declared.Counts.{Counts}
use Rattle.stations.specs.Stations.{stations_end}
use Rattle.workmap.specs.declared.Map.{Map}
use Rattle.workmap.specs.declared.Side.{Side}
use Rattle.sides.specs.Standing.{SideStands, BothWays, Columns}

-- marks, queue, then sources and sinks in either order, those alone, the pairs, the lone sources, the whys, the rows;
-- and below them the columns of starts and ends in either order, and the stations
pub record Roomy (d : Side) : Type 0 where
  pub marks_before : d.search.marks + d.rows.zones ≤ d.search.queue
  pub sources_behind : d.search.queue + d.rows.zones ≤ d.lists.sources
  pub sinks_behind : d.search.queue + d.rows.zones ≤ d.lists.sinks
  pub lists_apart :
      (d.lists.sources + d.rows.zones ≤ d.lists.sinks) ⊎ (d.lists.sinks + d.rows.zones ≤ d.lists.sources)
  pub sources_before : d.lists.sources + d.rows.zones ≤ d.pairs.firsts
  pub sinks_before : d.lists.sinks + d.rows.zones ≤ d.lists.alone
  pub alone_before : d.lists.alone + d.rows.zones ≤ d.pairs.firsts
  pub firsts_before : d.pairs.firsts + d.rows.zones ≤ d.pairs.seconds
  pub seconds_before : d.pairs.seconds + d.rows.zones ≤ d.pairs.lone
  pub lone_before : d.pairs.lone + d.rows.zones ≤ d.links.why
  pub whys_before : d.links.why + d.rows.zones ≤ d.rows.starts
  pub from_before : d.links.from + d.rows.zones ≤ d.links.stations
  pub to_before : d.links.to + d.rows.zones ≤ d.links.stations
  pub columns_apart :
      (d.links.from + d.rows.zones ≤ d.links.to) ⊎ (d.links.to + d.rows.zones ≤ d.links.from)
  pub stations_before : stations_end d ≤ d.lists.sinks

-- on the side stands the network on which the rule runs, and its links, put there, are the plan
pub record RuleSide (m : Map) (s t : ℕ) (d : Side) : Type 0 where
  pub roomy : Roomy d
  pub zones : d.rows.zones ≡ m.rows.zones
  pub below : d.links.why + d.rows.zones ≤ m.rows.starts
  pub stands :
      (w : List ℕ) (N : Network) →
      BothWays w m N →
      s ≡ length (sources N) →
      t ≡ length (sinks N) →
      SideStands w d.rows d.lists (upright N)
  pub links :
      (w : List ℕ) (N : Network) →
      strong N ≡ false →
      s ≡ length (sources N) →
      t ≡ length (sinks N) →
      Columns w d.links (upright_plan (upright N)) →
      Columns w m.links (plan N)

-- r has the lengths of the lists of the ordering o, and of the components alone xs
pub record Tally (o : Ordering) (xs : List ℕ) (r : Counts) : Type 0 where
  pub pairs : r.pairs ≡ length o.pairs
  pub sources : r.sources ≡ length o.lone_sources
  pub sinks : r.sinks ≡ length o.lone_sinks
  pub alone : r.alone ≡ length xs

-- r counts any ordering that has p pairs of s sources and t sinks, with q components alone
abbrev pub Tallied : ℕ → ℕ → ℕ → ℕ → Counts → Type 0
Tallied s t q p r =
    (o : Ordering) →
    (xs : List ℕ) →
    p ≡ length o.pairs →
    s ≡ length o.pairs + length o.lone_sources →
    t ≡ length o.pairs + length o.lone_sinks →
    q ≡ length xs →
    Tally o xs r
