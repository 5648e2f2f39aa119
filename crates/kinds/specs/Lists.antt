-- What listing the names of each kind asks for and leaves in lent work memory, at the places k and l that the map
-- names.
--   Listable k to w          names may be put from `to` on: apart from what is noted and from the zones' names
--   Listing k x y to z r w w'   the names of one kind among the first z zones stand from `to` on, and r counts them
--   Apart k l                all regions lie apart
--   Nameable k l ts hs w     the kinds may be found, and there is room for their lists
--   Withdrawable n es gone   withdrawn numbers may be left out: they are zones, and at no arc
--   Listed k l N r w w'      the names of each kind stand in w', and r counts them
use Rattle.std.specs.Prelude.{◌≡◌, ◌⊎◌, ℕ, ◌+◌, ◌≤◌, ◌<◌, length, drop}
use mathlib.Core.List.{List, Memᴰ as In}
use Rattle.std.proofs.lemmas.List.Edits.{sets}
use Rattle.rules.specs.Lists.{span, keep}
use Rattle.rules.specs.Network.{Arc, Network, network_of}
use Rattle.rules.specs.Components.{name, sources, sinks, alone}
use Rattle.rules.specs.Calls.{arcs_of}
use Rattle.theory.proofs.Withdrawn.Remaining.{Free}
use Rattle.workmap.specs.declared.KindsAt.{KindsAt}
use Rattle.workmap.specs.declared.ListsAt.{ListsAt}
use Rattle.memory.specs.Regions.{cell, Holds}
use Rattle.arranged.specs.Arranged.{Between}
use Rattle.kinds.specs.declared.Counts.{Counts}
use Rattle.borders.specs.Borders.{KindsRoom, own_kind}

-- names may be put from `to` on: between what is noted and the zones' names, or behind them
pub record Listable (k : KindsAt) (to : ℕ) (w : List ℕ) : Type 0 where
  pub room : KindsRoom k w
  pub fits : to + k.zones ≤ length w
  pub apart : ((k.exited + k.zones ≤ to) × (to + k.zones ≤ k.names)) ⊎ (k.names + k.zones ≤ to)

-- the names of the kind that x and y tell, of the first z zones, stand from `to` on, and r counts them; nothing else is
-- changed
pub record Listing (k : KindsAt) (x y to z r : ℕ) (w w' : List ℕ) : Type 0 where
  pub memory : w' ≡ sets w to (keep (own_kind k x y w) (span 0 z))
  pub count : r ≡ length (keep (own_kind k x y w) (span 0 z))

-- the regions lie apart, in this order
pub record Apart (k : KindsAt) (l : ListsAt) : Type 0 where
  pub entered_low : k.entered + k.zones ≤ k.exited
  pub exited_low : k.exited + k.zones ≤ l.sources
  pub sources_low : l.sources + k.zones ≤ k.names
  pub names_low : k.names + k.zones ≤ l.sinks
  pub sinks_low : l.sinks + k.zones ≤ l.alone

-- each zone's name stands in the memory, what is entered and left is not noted yet, and there is room for the lists
pub record Nameable (k : KindsAt) (l : ListsAt) (ts hs w : List ℕ) : Type 0 where
  pub small : k.zones ≤ 1024
  pub apart : Apart k l
  pub fits : l.alone + k.zones ≤ length w
  pub pairs : length ts ≡ length hs
  pub between : Between k.zones (arcs_of ts hs)
  pub named : (v : ℕ) → v < k.zones → cell w k.names v ≡ name (network_of k.zones (arcs_of ts hs)) v
  pub entered_clear : (c : ℕ) → c < k.zones → cell w k.entered c ≡ 0
  pub exited_clear : (c : ℕ) → c < k.zones → cell w k.exited c ≡ 0

-- the withdrawn numbers are below n, and no arc has one of them as an end
pub record Withdrawable (n : ℕ) (es : List Arc) (gone : List ℕ) : Type 0 where
  pub below : (z : ℕ) → In z gone → z < n
  pub free : Free es gone

-- the names of each kind stand in w', ascending, and r counts them; behind them the memory is as it was
pub record Listed (k : KindsAt) (l : ListsAt) (N : Network) (r : Counts) (w w' : List ℕ) : Type 0 where
  pub long : length w' ≡ length w
  pub back : drop (l.alone + k.zones) w' ≡ drop (l.alone + k.zones) w
  pub sources_are : r.sources ≡ length (sources N)
  pub sinks_are : r.sinks ≡ length (sinks N)
  pub alone_are : r.alone ≡ length (alone N)
  pub sources_held : Holds w' l.sources (sources N)
  pub sinks_held : Holds w' l.sinks (sinks N)
  pub alone_held : Holds w' l.alone (alone N)
