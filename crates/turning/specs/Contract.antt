-- What the contracts of a turn say of lent memory.
--   RowNoted ..          all heads of a component were taken
--   PlaceTurned ..       the component has had its turn
use Rattle.std.specs.Prelude.{◌≡◌, List, ℕ}
use Rattle.memory.specs.Regions.{cell}
use Rattle.arcsink.specs.declared.ArcSink.{ArcSink}
use Rattle.arcsink.specs.Sink.{SinkPut}
use Rattle.uniting.specs.declared.Block.{Block}
use Rattle.uniting.specs.Uniting.{row_heads}
use Rattle.turning.specs.Steps.{noted, noted_arcs, place_turned, place_arcs}

-- all heads of component j were taken
pub record RowNoted (w w' : List ℕ) (b : Block) (j : ℕ) (s s' : ArcSink) : Type 0 where
  pub memory : w' ≡ noted w b.first j (row_heads w b j)
  pub put : SinkPut s s' (noted_arcs (cell w b.tops) w b.first j (row_heads w b j))

-- component j has had its turn
pub record PlaceTurned (w w' : List ℕ) (b : Block) (j : ℕ) (s s' : ArcSink) : Type 0 where
  pub memory : w' ≡ place_turned w b.first j (row_heads w b j)
  pub put : SinkPut s s' (place_arcs (cell w b.tops) w b.first j (row_heads w b j))
