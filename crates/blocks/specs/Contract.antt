-- What the contracts of the blocks say of lent memory.
--   PlacesTurned ..   the places before e have had their turns
--   BlockDone ..      one block is done: its arcs are put
--   CrossingsPut ..   all are
use Rattle.std.specs.Prelude.{◌≡◌, List, ℕ, ◌*◌, length, drop}
use Rattle.workmap.specs.declared.TableAt.{TableAt}
use Rattle.memory.specs.Regions.{cell}
use Rattle.arcsink.specs.declared.ArcSink.{ArcSink}
use Rattle.arcsink.specs.Sink.{SinkPut}
use Rattle.uniting.specs.declared.Block.{Block}
use Rattle.uniting.specs.Uniting.{row_heads}
use Rattle.blocks.specs.Sweeps.{places_turned, places_arcs, block_arcs, crossing_arcs}

-- the places before e have had their turns
pub record PlacesTurned (w w' : List ℕ) (b : Block) (e : ℕ) (s s' : ArcSink) : Type 0 where
  pub memory : w' ≡ places_turned w b.first (row_heads w b) e e
  pub put : SinkPut s s' (places_arcs (cell w b.tops) w b.first (row_heads w b) e e)

-- one block is done: its arcs are put, and only the table changed
pub record BlockDone (w w' : List ℕ) (b : Block) (s s' : ArcSink) : Type 0 where
  pub long : length w' ≡ length w
  pub behind : drop (b.places * 8) w' ≡ drop (b.places * 8) w
  pub put : SinkPut s s' (block_arcs (cell w b.tops) w b.places b.first (row_heads w b))

-- all blocks are done: the arcs that cross are put, and only the table changed
pub record CrossingsPut (w w' : List ℕ) (at : TableAt) (n : ℕ) (s s' : ArcSink) : Type 0 where
  pub long : length w' ≡ length w
  pub behind : drop (n * 8) w' ≡ drop (n * 8) w
  pub put : SinkPut s s' (crossing_arcs w at n)
