-- The arcs of the rings, from the zones' names, and what putting them asks and leaves.
--   next_round name zs a   what comes next in the ring named a: the first of the zones zs with that name, or a itself
--   ring_arc z b           the ring's arc out of z, to b; none where z is alone, and comes next after itself
--   rings_of name zs       the rings' arcs out of the zones zs, from the last on
--   RingsLent w R         the names lie in the memory, are zones, and lie behind the lowest zones
--   RingPut, RingsPut    the arc out of one zone is put; those out of all zones are
-- In `rings_of` zs are the zones from some zone on, so what stands behind a zone are those above it.
use Rattle.std.specs.Prelude.{◌≡◌, true, false, List, [], ◌∷◌, ◌++◌, ℕ, ◌+◌, ◌≤◌, ◌<◌, eqb, length, set, take, drop}
use Rattle.rules.specs.Lists.{span, first}
use Rattle.rules.specs.Network.{Arc, ◌⟶◌}
use Rattle.workmap.specs.declared.RingsAt.{RingsAt}
use Rattle.memory.specs.Regions.{cell}
use Rattle.arcsink.specs.declared.ArcSink.{ArcSink}
use Rattle.arcsink.specs.Sink.{SinkPut}

-- what comes next in the ring named a: the first of the zones with that name, or a where there is none
abbrev pub next_round : (ℕ → ℕ) → List ℕ → ℕ → ℕ
next_round name zs a = first (λ u. eqb (name u) a) a zs

-- the ring's arc out of z, to b; a zone alone has none
unfoldable pub ring_arc : ℕ → ℕ → List Arc
ring_arc z b = elim (eqb b z) [ true ↦ [] | false ↦ (z ⟶ b) ∷ [] ]

-- the rings' arcs out of the zones, from the last on
unfoldable pub rings_of : (ℕ → ℕ) → List ℕ → List Arc
unfolding ring_arc
rings_of name [] = []
rings_of name (z ∷ zs) = rings_of name zs ++ ring_arc z (next_round name zs (name z))

-- the names lie in the memory, behind the lowest zones, and are zones
pub record RingsLent (w : List ℕ) (R : RingsAt) : Type 0 where
  pub small : R.zones ≤ 1024
  pub apart : R.last + R.zones ≤ R.names
  pub fits : R.names + R.zones ≤ length w
  pub named : (v : ℕ) → v < R.zones → cell w R.names v < R.zones

-- the arc out of z is put, to the lowest zone of its component so far, and z is noted as the lowest
pub record RingPut (w w' : List ℕ) (R : RingsAt) (z : ℕ) (s s' : ArcSink) : Type 0 where
  pub arc : SinkPut s s' (ring_arc z (cell w R.last (cell w R.names z)))
  pub noted : w' ≡ set w (R.last + cell w R.names z) z

-- the arcs of all rings are put; before and behind the lowest zones the memory is as it was
pub record RingsPut (w w' : List ℕ) (R : RingsAt) (s s' : ArcSink) : Type 0 where
  pub arcs : SinkPut s s' (rings_of (cell w R.names) (span 0 R.zones))
  pub long : length w' ≡ length w
  pub low : take R.last w' ≡ take R.last w
  pub high : drop (R.last + R.zones) w' ≡ drop (R.last + R.zones) w
