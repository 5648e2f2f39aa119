-- What `name_all` asks for and leaves, in terms of the rules. Everything stands where the map m says.
--   Lent w m ts hs         the arcs of the tail list ts and the head list hs are arranged in w, both ways, and what
--                          stands before them from the tops on is clear
--   Components w w' m N k  w' holds the names of the network N, which has k components
use Rattle.std.specs.Prelude.{◌≡◌, ℕ, ◌≤◌, ◌<◌, length, get_or, take, drop}
use mathlib.Core.List.{List, Memᴰ as In}
use Rattle.rules.specs.Network.{Network, Reach}
use Rattle.rules.specs.Components.{name, names}
use Rattle.rules.specs.Calls.{arcs_of}
use Rattle.workmap.specs.declared.Map.{Map}
use Rattle.memory.specs.Regions.{cell}
use Rattle.arranged.specs.Arranged.{ArrangedAt}
use Rattle.arranged.specs.Ready.{Readyable}

-- the network passes its tests, its arcs are arranged in w, as they are and turned round, and what stands between the
-- tops and the rows' starts is clear
pub record Lent (w : List ℕ) (m : Map) (ts hs : List ℕ) : Type 0 where
  pub ready : Readyable m ts hs w
  pub rows : ArrangedAt w m.rows (arcs_of ts hs)
  pub turned : ArrangedAt w m.turned (arcs_of hs ts)
  pub clear : (i : ℕ) → m.names.tops ≤ i → i < m.rows.starts → get_or w i 0 ≡ 0

-- every zone's name stands in w', and the k names of all components, each once and in topological order: no name
-- reaches one that stands before it; before the tops and from the rows' starts on the memory is as it was
pub record Components (w w' : List ℕ) (m : Map) (N : Network) (k : ℕ) : Type 0 where
  pub long : length w' ≡ length w
  pub front : take m.names.tops w' ≡ take m.names.tops w
  pub back : drop m.rows.starts w' ≡ drop m.rows.starts w
  pub named : (v : ℕ) → v < m.zones → cell w' m.names.names v ≡ name N v
  pub count : k ≡ length (names N)
  pub top : (j : ℕ) → j < k → In (cell w' m.names.tops j) (names N)
  pub listed : (c : ℕ) → In c (names N) → (j : ℕ) × (j < k) × (cell w' m.names.tops j ≡ c)
  pub once : (i j : ℕ) → i < j → j < k → cell w' m.names.tops i ≡ cell w' m.names.tops j → ⊥
  pub sorted : (i j : ℕ) → i < j → j < k
      → Reach N (cell w' m.names.tops j) (cell w' m.names.tops i) → ⊥
