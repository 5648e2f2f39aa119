-- What putting the stations of a chain asks and leaves. The ordering's lists stand in work memory, where the counts
-- and the side tell.
--   couples vs ws            the pairs of a list of sources and a list of sinks
--   ordering_in, alone_in    the ordering and the zones alone that stand in the memory
--   stations_in              its chain's stations
--   first_at, stations_end   where the last station is found; where the stretch for the stations ends
--   ListsApart              the lists lie behind that stretch, and before the whys
--   Stationed                what putting the stations leaves
use Rattle.std.specs.Prelude.{◌≡◌, List, [], ◌∷◌, ℕ, zero, suc, ◌+◌, ◌-◌, ◌≤◌, ◌<◌, length}
use Rattle.std.proofs.lemmas.List.Edits.{sets}
use Rattle.rules.specs.Plan.{Couple, Ordering, stations}
use Rattle.memory.specs.Regions.{part}
use Rattle.workmap.specs.declared.Side.{Side}
use Rattle.stations.specs.declared.Counts.{Counts}

-- the pairs of a list of sources and a list of sinks
abbrev pub couples : List ℕ → List ℕ → List Couple
couples [] ws = []
couples (v ∷ vs) [] = []
couples (v ∷ vs) (w ∷ ws) = record { v = v; w = w } ∷ couples vs ws

-- the ordering that stands in the memory
abbrev pub ordering_in : List ℕ → Counts → Side → Ordering
ordering_in w n p =
    record {
      pairs = couples (part w p.pairs.firsts n.pairs) (part w p.pairs.seconds n.pairs);
      lone_sources = part w p.pairs.lone n.sources;
      lone_sinks = part w p.lists.sinks n.sinks;
    }

-- the zones alone that stand in the memory
abbrev pub alone_in : List ℕ → Counts → Side → List ℕ
alone_in w n p = part w p.lists.alone n.alone

-- the stations of the chain of what stands in the memory
unfoldable pub stations_in : List ℕ → Counts → Side → List ℕ
unfolding stations
stations_in w n p = stations (ordering_in w n p) (alone_in w n p)

-- where the last station is found: the first pair's source, or the first zone alone where there is no pair
abbrev pub first_at : ℕ → ℕ → ℕ → ℕ
first_at zero v x = x
first_at (suc k) v x = v

-- where the stretch for the stations ends: it has two elements for every zone
abbrev pub stations_end : Side → ℕ
stations_end p = p.links.stations + (p.rows.zones + p.rows.zones)

-- every list lies in the memory, behind the stretch for the stations, and before the whys; the stretch has room for
-- the stations
pub record ListsApart (w : List ℕ) (n : Counts) (p : Side) : Type 0 where
  pub order : n.sources ≤ n.sinks
  pub room : 2 + (n.sinks - n.sources) + n.alone ≤ p.rows.zones + p.rows.zones
  pub v_apart : stations_end p ≤ p.pairs.firsts
  pub w_apart : stations_end p ≤ p.pairs.seconds
  pub sources_apart : stations_end p ≤ p.pairs.lone
  pub sinks_apart : stations_end p ≤ p.lists.sinks
  pub alone_apart : stations_end p ≤ p.lists.alone
  pub v_fits : p.pairs.firsts + n.pairs < p.links.why
  pub w_fits : p.pairs.seconds + n.pairs ≤ p.links.why
  pub sources_fit : p.pairs.lone + n.sources ≤ p.links.why
  pub sinks_fit : p.lists.sinks + n.sinks ≤ p.links.why
  pub alone_fit : p.lists.alone + n.alone ≤ p.links.why
  pub why_fits : p.links.why + p.rows.zones ≤ length w

-- the stations are put, and nothing else is changed
pub record Stationed (w w' : List ℕ) (n : Counts) (p : Side) (r : ℕ) : Type 0 where
  pub count : r ≡ length (stations_in w n p)
  pub is : w' ≡ sets w p.links.stations (stations_in w n p)
