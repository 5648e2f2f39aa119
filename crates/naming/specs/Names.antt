-- What the contracts of the naming say of lent work memory, at the places K: names, the lowest zone of each root, and
-- behind them the roots, of `zones` elements each.
use Rattle.std.specs.Prelude.{◌≡◌, ◌⊎◌, List, ℕ, ◌+◌, ◌≤◌, ◌<◌, length, get_or, take, drop, set}
use Rattle.workmap.specs.declared.NamesAt.{NamesAt}
use Rattle.memory.specs.Regions.{cell}
use Rattle.naming.specs.Naming.{Naming}

-- x was noted at `at`; or nothing was, and now x, which is v, is
abbrev pub RootNoted : List ℕ → List ℕ → ℕ → ℕ → ℕ → Type 0
RootNoted w w' at v x =
    ((get_or w at 0 ≡ x + 1) × (w' ≡ w)) ⊎ ((get_or w at 0 ≡ 0) × ((x ≡ v) × (w' ≡ set w at (v + 1))))

-- the regions lie one behind the other, inside the memory; nothing is noted, and every zone has a root
pub record ZonesNameable (w : List ℕ) (zones : ℕ) (K : NamesAt) : Type 0 where
  pub small : zones ≤ 1024
  pub apart : K.names + zones ≤ K.low
  pub before : K.low + zones ≤ K.roots
  pub fits : K.roots + zones ≤ length w
  pub clear : (r : ℕ) → r < zones → cell w K.low r ≡ 0
  pub root : (v : ℕ) → v < zones → (0 < cell w K.roots v) × (cell w K.roots v ≤ zones)

-- the zones below v have their names
pub record ZonesNamed (w w' : List ℕ) (zones : ℕ) (K : NamesAt) (v : ℕ) : Type 0 where
  pub long : length w' ≡ length w
  pub front : take K.names w' ≡ take K.names w
  pub back : drop K.roots w' ≡ drop K.roots w
  pub naming : Naming (cell w K.roots) (cell w' K.low) (cell w' K.names) zones v
