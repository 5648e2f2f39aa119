-- What the pairing of sources and sinks asks and leaves in lent work memory.
-- The side L says where everything stands; s and t count the sources and the sinks.
--   Pairable w L s t     the sources and the sinks stand in w, and there is room for the pairs and the lone sources
--   Course v w L s t i p the pairing has begun at v, and w holds it after the turns of i sources, with p pairs made
--   PairingUnderway w L s t i p   the same for some v, with a source left
--   Others v w L         what the pairing leaves as it was
--   OrderingStands w L r o      the ordering o stands in w, and r is the number of its pairs
--   Paired v w L s t r   the pairing is done
-- Marks and queue come first. Sources and sinks stand in two regions behind them, in either order. The pairs' sources,
-- the pairs' sinks, the lone sources and the rows follow, in this order. Each region has a place for every zone.
use Rattle.std.specs.Prelude.{◌≡◌, ◌⊎◌, Bool, List, ◌++◌, map, ℕ, ◌+◌, ◌≤◌, ◌<◌, length, get_or, drop}
use Rattle.rules.specs.Network.{Arc, network_of, reaches}
use Rattle.rules.specs.Plan.{Couple, Ordering, pairing}
use Rattle.memory.specs.Regions.{part, Holds}
use Rattle.search.specs.Marking.{Laid}
use Rattle.workmap.specs.declared.Side.{Side}
use Rattle.turns.specs.Turn.{Outside, AllBelow, Along}

-- the sources that stand in the memory
abbrev pub sources_in : List ℕ → Side → ℕ → List ℕ
sources_in w L s = part w L.lists.sources s

-- the sinks that stand in the memory
abbrev pub sinks_in : List ℕ → Side → ℕ → List ℕ
sinks_in w L t = part w L.lists.sinks t

-- which zone reaches which, in the network of the arcs es
abbrev pub reach_in : Side → List Arc → ℕ → ℕ → Bool
reach_in L es = reaches (network_of L.rows.zones es)

-- the rows are laid out, sources and sinks are zones, and the regions lie apart from each other
pub record Pairable (w : List ℕ) (L : Side) (s t : ℕ) : Type 0 where
  pub laid : Laid w L.rows L.search
  pub sources_few : s ≤ L.rows.zones
  pub sinks_few : t ≤ L.rows.zones
  pub sources_small : AllBelow L.rows.zones (sources_in w L s)
  pub sinks_small : AllBelow L.rows.zones (sinks_in w L t)
  pub sources_behind : L.search.queue + L.rows.zones ≤ L.lists.sources
  pub sinks_behind : L.search.queue + L.rows.zones ≤ L.lists.sinks
  pub apart :
      (L.lists.sources + L.rows.zones ≤ L.lists.sinks) ⊎ (L.lists.sinks + L.rows.zones ≤ L.lists.sources)
  pub sources_before : L.lists.sources + L.rows.zones ≤ L.pairs.firsts
  pub sinks_before : L.lists.sinks + L.rows.zones ≤ L.pairs.firsts
  pub firsts_before : L.pairs.firsts + L.rows.zones ≤ L.pairs.seconds
  pub seconds_before : L.pairs.seconds + L.rows.zones ≤ L.pairs.lone
  pub lone_before : L.pairs.lone + L.rows.zones ≤ L.rows.starts

-- the ordering with the pairs cs before its pairs and the sources ls before its lone sources
abbrev pub onto : List Couple → List ℕ → Ordering → Ordering
onto cs ls o =
    record { pairs = cs ++ o.pairs; lone_sources = ls ++ o.lone_sources; lone_sinks = o.lone_sinks }

-- the sources of the pairs
abbrev pub firsts : List Couple → List ℕ
firsts cs = map (λ (c : Couple). c.v) cs

-- the sinks of the pairs
abbrev pub seconds : List Couple → List ℕ
seconds cs = map (λ (c : Couple). c.w) cs

-- behind marks and queue, only the list of sinks and the three lists of the result may differ
pub record Others (v w : List ℕ) (L : Side) : Type 0 where
  pub long : length w ≡ length v
  pub same :
      (i : ℕ) →
      L.search.queue + L.rows.zones ≤ i →
      Outside i L.lists.sinks L.rows.zones →
      (i < L.pairs.firsts) ⊎ (L.pairs.lone + L.rows.zones ≤ i) →
      get_or w i 0 ≡ get_or v i 0

-- a pairing that began at v, after the turns of i sources, with the pairs made, the lone sources and the sinks left
pub record Course (v w : List ℕ) (L : Side) (s t i p : ℕ) : Type 0 where
  pub able : Pairable v L s t
  pub pairs : List Couple
  pub lone : List ℕ
  pub left : List ℕ
  pub turns : i ≤ s
  pub pairs_long : length pairs ≡ p
  pub lone_long : length lone + p ≡ i
  pub left_long : length left + p ≡ t
  pub small : AllBelow L.rows.zones left
  pub others : Others v w L
  pub firsts_held : Holds w L.pairs.firsts (firsts pairs)
  pub seconds_held : Holds w L.pairs.seconds (seconds pairs)
  pub lone_held : Holds w L.pairs.lone lone
  pub left_held : Holds w L.lists.sinks left
  pub so_far :
      (es : List Arc) →
      Along v L.rows es →
      pairing (reach_in L es) (sources_in v L s) (sinks_in v L t)
      ≡ onto pairs lone (pairing (reach_in L es) (drop i (sources_in v L s)) left)

-- a pairing under way, with a source left
pub record PairingUnderway (w : List ℕ) (L : Side) (s t i p : ℕ) : Type 0 where
  pub began : List ℕ
  pub course : Course began w L s t i p
  pub more : i < s

-- the ordering o stands in the memory, and r is the number of its pairs
pub record OrderingStands (w : List ℕ) (L : Side) (r : ℕ) (o : Ordering) : Type 0 where
  pub count : r ≡ length o.pairs
  pub firsts_held : Holds w L.pairs.firsts (firsts o.pairs)
  pub seconds_held : Holds w L.pairs.seconds (seconds o.pairs)
  pub lone_sources_held : Holds w L.pairs.lone o.lone_sources
  pub lone_sinks_held : Holds w L.lists.sinks o.lone_sinks

-- the pairing is done: the memory holds the ordering of any network whose arcs are arranged in the rows, and all
-- behind the lone sources, the rows among it, is as it was
pub record Paired (v w : List ℕ) (L : Side) (s t r : ℕ) : Type 0 where
  pub others : Others v w L
  pub behind : (n : ℕ) → L.pairs.lone + L.rows.zones ≤ n → drop n w ≡ drop n v
  pub ordered :
      (es : List Arc) →
      Along v L.rows es →
      OrderingStands w L r (pairing (reach_in L es) (sources_in v L s) (sinks_in v L t))
