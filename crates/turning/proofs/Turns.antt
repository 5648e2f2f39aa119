-- The turn of one component: U, then R, over the names and rows that stand behind the table.
--   turn_laid, turn_room   what R asks for, once U is there
--   turn_end               and what both leave
-- U stores in row j only, so names and rows are those that were there before it. Assumes nothing.
use mathlib.Core.Path.{◌≡◌, ap, ap₂, ◌∙◌}
use mathlib.Core.List.{List}
use Prim.Native.Nat.{ℕ, ◌*◌, ◌<◌}
use lib.ListN.{length, drop}
use Rattle.memory.specs.Regions.{cell}
use Rattle.arcsink.specs.declared.ArcSink.{ArcSink}
use Rattle.arcsink.specs.Sink.{SinkFit}
use Rattle.bits.proofs.Tables.{row_room}
use Rattle.uniting.specs.declared.Block.{Block}
use Rattle.uniting.specs.Uniting.{united}
use Rattle.turning.specs.Steps.{noted, noted_arcs, place_turned, place_arcs}
use Rattle.uniting.specs.Uniting.{row_heads, BlockLaid}
use Rattle.turning.specs.Contract.{RowNoted, PlaceTurned}
use Rattle.uniting.proofs.United.{united_long, united_behind}
use Rattle.uniting.proofs.Behind.{tops_kept, rows_kept, laid_kept}

module _ {w : List ℕ} {b : Block} (L : BlockLaid w b) (j : ℕ) (h : j < b.places) (v : List ℕ)
    (q : v ≡ united w j (row_heads w b j)) where
  -- U keeps what stands behind the table
  same : drop (b.places * 8) v ≡ drop (b.places * 8) w
  same =
      ap (drop (b.places * 8)) q
      ∙ united_behind (b.places * 8) w j (row_heads w b j) (row_room 8 b.places j h)

  -- the row after U
  row_now : row_heads v b j ≡ row_heads w b j
  row_now = ap (λ (f : ℕ → List ℕ). f j) (rows_kept L v same)

  -- names and rows still stand there
  pub turn_laid : BlockLaid v b
  turn_laid = laid_kept L v same (ap length q ∙ united_long w j (row_heads w b j))

  -- the arcs that R puts are those that stay
  arcs_now : noted_arcs (cell v b.tops) v b.first j (row_heads v b j)
      ≡ place_arcs (cell w b.tops) w b.first j (row_heads w b j)
  unfolding place_arcs
  arcs_now =
      ap (λ (f : ℕ → ℕ). noted_arcs f v b.first j (row_heads v b j)) (tops_kept L v same)
      ∙ ap₂ (λ (x ks : List ℕ). noted_arcs (cell w b.tops) x b.first j ks) q row_now

  -- they have room
  pub turn_room : {s : ArcSink} → SinkFit s (place_arcs (cell w b.tops) w b.first j (row_heads w b j)) →
      SinkFit s (noted_arcs (cell v b.tops) v b.first j (row_heads v b j))
  turn_room R = rw arcs_now R

  -- what both leave
  pub turn_end : {u : List ℕ} {s s' : ArcSink} → RowNoted v u b j s s' → PlaceTurned w u b j s s'
  unfolding place_turned
  turn_end D =
      record {
        memory = D.memory ∙ ap₂ (λ (x ks : List ℕ). noted x b.first j ks) q row_now;
        put = rw arcs_now at D.put;
      }
