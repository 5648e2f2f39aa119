-- What putting the links of an ordering asks and leaves. The ordering's lists stand in work memory, where the counts
-- and the side tell.
--   links_in              the links of what stands in the memory
--   Held                  an ordering stands in the memory: then its links are the links of what stands there
--   Linkable, LinksPut   what putting the links asks and leaves
use Rattle.std.specs.Prelude.{◌≡◌, ◌⊎◌, List, map, ℕ, ◌+◌, ◌≤◌, length, drop}
use Rattle.rules.specs.Plan.{Couple, Ordering, Link, why_number, links}
use Rattle.memory.specs.Regions.{Holds}
use Rattle.workmap.specs.declared.Side.{Side}
use Rattle.stations.specs.declared.Counts.{Counts}
use Rattle.stations.specs.Stations.{ordering_in, alone_in, ListsApart}

-- the links of what stands in the memory
unfoldable pub links_in : List ℕ → Counts → Side → List Link
unfolding links
links_in w n p = links (ordering_in w n p) (alone_in w n p)

-- the ordering o and the zones alone xs stand in the memory, as the counts and the side tell
pub record Held (w : List ℕ) (n : Counts) (p : Side) (o : Ordering) (xs : List ℕ) : Type 0 where
  pub pairs : n.pairs ≡ length o.pairs
  pub sources : n.sources ≡ length o.lone_sources
  pub sinks : n.sinks ≡ length o.lone_sinks
  pub alone : n.alone ≡ length xs
  pub v_held : Holds w p.pairs.firsts (map (λ (a : Couple). a.v) o.pairs)
  pub w_held : Holds w p.pairs.seconds (map (λ (a : Couple). a.w) o.pairs)
  pub sources_held : Holds w p.pairs.lone o.lone_sources
  pub sinks_held : Holds w p.lists.sinks o.lone_sinks
  pub alone_held : Holds w p.lists.alone xs

-- what putting the links asks: starts and ends lie before the stations, one behind the other, and there are no more
-- links than zones
pub record Linkable (w : List ℕ) (n : Counts) (p : Side) : Type 0 where
  pub placed : ListsApart w n p
  pub few : length (links_in w n p) ≤ p.rows.zones
  pub start_before : p.links.from + p.rows.zones ≤ p.links.stations
  pub end_before : p.links.to + p.rows.zones ≤ p.links.stations
  pub apart :
      (p.links.from + p.rows.zones ≤ p.links.to) ⊎ (p.links.to + p.rows.zones ≤ p.links.from)

-- the links are put in their order, and behind the whys the memory is as it was
pub record LinksPut (w w' : List ℕ) (n : Counts) (p : Side) (r : ℕ) : Type 0 where
  pub count : r ≡ length (links_in w n p)
  pub start : Holds w' p.links.from (map (λ (l : Link). l.start) (links_in w n p))
  pub end : Holds w' p.links.to (map (λ (l : Link). l.end) (links_in w n p))
  pub why : Holds w' p.links.why (map (λ (l : Link). why_number l.why) (links_in w n p))
  pub long : length w' ≡ length w
  pub behind : drop (p.links.why + p.rows.zones) w' ≡ drop (p.links.why + p.rows.zones) w
