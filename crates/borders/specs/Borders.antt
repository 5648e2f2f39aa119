-- What noting the components' kinds asks for and leaves in lent work memory, at the places k that the map names.
--   ends_apart f a b c   the zone a has the name c and the zone b has another, where f gives the names
--   comes, goes          the arc e comes into the component c from another; it goes out of c to another
--   KindsRoom k w        names and regions lie in the memory, and each zone's name is a zone
--   Noted, Marking       the memory after one arc; after the first i arcs
--   Markable             the arcs can be noted
--   own_kind k x y w z   z is a name, with x where it stands that it is entered and y where it stands that it is left
use Rattle.std.specs.Prelude.{◌≡◌, Bool, true, false, not, ◌&&◌, List, ℕ, ◌+◌, ◌≤◌, ◌<◌, eqb, length, take, drop}
use Rattle.rules.specs.Lists.{any}
use Rattle.rules.specs.Network.{Arc}
use Rattle.rules.specs.Calls.{arcs_of}
use Rattle.rules.specs.Answers.{yes_number}
use Rattle.workmap.specs.declared.KindsAt.{KindsAt}
use Rattle.memory.specs.Regions.{cell}
use Rattle.arranged.specs.Arranged.{Between}

-- the zone a has the name c, and the zone b has another
abbrev pub ends_apart : (ℕ → ℕ) → ℕ → ℕ → ℕ → Bool
ends_apart f a b c = eqb (f a) c && not (eqb (f b) c)

-- the arc comes into the component c from another
abbrev pub comes : (ℕ → ℕ) → ℕ → Arc → Bool
comes f c e = ends_apart f e.head e.tail c

-- the arc goes out of the component c to another
abbrev pub goes : (ℕ → ℕ) → ℕ → Arc → Bool
goes f c e = ends_apart f e.tail e.head c

-- what stands at a place after a test: 1 where it passed, else what stood there
abbrev pub raised : Bool → ℕ → ℕ
raised true x = 1
raised false x = x

-- behind the two regions the memory is as it was
pub record Around (k : KindsAt) (w w' : List ℕ) : Type 0 where
  pub long : length w' ≡ length w
  pub back : drop (k.exited + k.zones) w' ≡ drop (k.exited + k.zones) w

-- the two regions lie apart, before the names, and all in the memory; each zone has a zone as its name
pub record KindsRoom (k : KindsAt) (w : List ℕ) : Type 0 where
  pub small : k.zones ≤ 1024
  pub entered_low : k.entered + k.zones ≤ k.exited
  pub exited_low : k.exited + k.zones ≤ k.names
  pub fits : k.names + k.zones ≤ length w
  pub zone : (v : ℕ) → v < k.zones → cell w k.names v < k.zones

-- one arc is noted: at the name of each end, where the names differ
pub record Noted (k : KindsAt) (tail head : ℕ) (w w' : List ℕ) : Type 0 where
  pub around : Around k w w'
  pub entered : (c : ℕ) → c < k.zones
      → cell w' k.entered c ≡ raised (ends_apart (cell w k.names) head tail c) (cell w k.entered c)
  pub exited : (c : ℕ) → c < k.zones
      → cell w' k.exited c ≡ raised (ends_apart (cell w k.names) tail head c) (cell w k.exited c)

-- the first i arcs are noted
pub record Marking (k : KindsAt) (es : List Arc) (i : ℕ) (w w' : List ℕ) : Type 0 where
  pub around : Around k w w'
  pub entered : (c : ℕ) → c < k.zones
      → cell w' k.entered c ≡ yes_number (any (comes (cell w k.names) c) (take i es))
  pub exited : (c : ℕ) → c < k.zones
      → cell w' k.exited c ≡ yes_number (any (goes (cell w k.names) c) (take i es))

-- the arcs of ts and hs are between zones, the memory has room, and the two regions are clear
pub record Markable (k : KindsAt) (ts hs w : List ℕ) : Type 0 where
  pub room : KindsRoom k w
  pub pairs : length ts ≡ length hs
  pub between : Between k.zones (arcs_of ts hs)
  pub entered_clear : (c : ℕ) → c < k.zones → cell w k.entered c ≡ 0
  pub exited_clear : (c : ℕ) → c < k.zones → cell w k.exited c ≡ 0

-- z is a name, with x in the region of what is entered and y in the region of what is left
abbrev pub own_kind : KindsAt → ℕ → ℕ → List ℕ → ℕ → Bool
own_kind k x y w z =
    eqb (cell w k.names z) z && (eqb (cell w k.entered z) x && eqb (cell w k.exited z) y)
