-- What noting the places of the components asks for and leaves.
--   PlacesNotable w at k    the k names stand in w in their order, each a zone and none twice
--   PlacesNoted w w' at j   the first j of them have their places, and stand in their order a second time
use Rattle.std.specs.Prelude.{◌≡◌, List, ℕ, ◌+◌, ◌≤◌, ◌<◌, length, get_or, drop}
use Rattle.workmap.specs.declared.PlacesAt.{PlacesAt}
use Rattle.memory.specs.Regions.{cell}

-- the regions lie one behind the other, and the k names are zones, none twice
pub record PlacesNotable (w : List ℕ) (at : PlacesAt) (k : ℕ) : Type 0 where
  pub small : at.zones ≤ 1024
  pub few : k ≤ at.zones
  pub spots_low : at.spots + at.zones ≤ at.tops
  pub tops_low : at.tops + at.zones ≤ at.names
  pub names_low : at.names + at.zones ≤ at.order
  pub fits : at.order + at.zones ≤ length w
  pub zone : (j : ℕ) → j < k → cell w at.tops j < at.zones
  pub once : (i j : ℕ) → i < j → j < k → cell w at.tops i ≡ cell w at.tops j → ⊥

-- the first j names have their places and stand in their order a second time; what lies between is as it was, and so is
-- what lies behind
pub record PlacesNoted (w w' : List ℕ) (at : PlacesAt) (j : ℕ) : Type 0 where
  pub spot : (i : ℕ) → i < j → cell w' at.spots (cell w at.tops i) ≡ i
  pub order : (i : ℕ) → i < j → cell w' at.order i ≡ cell w at.tops i
  pub long : length w' ≡ length w
  pub kept : (i : ℕ) → at.tops ≤ i → i < at.order → get_or w' i 0 ≡ get_or w i 0
  pub high : drop (at.order + at.zones) w' ≡ drop (at.order + at.zones) w
