use native.Mathlib.Omega.{arith}
use Rattle.blocks.proofs.Turns.{places_start, places_laid, places_low, places_room, places_turn}
use Rattle.blocks.proofs.sweep.Goals as goal

pub loop-j-preserved : goal.loop-j-preserved
loop-j-preserved c =
    places_turn c.requires.block_laid c.requires.end_le_places c.loop-j.invariant
    (omega arith) (omega arith) c.turn.ensures

pub loop-j-init : goal.loop-j-init
loop-j-init c =
    let a = c.args in
    places_start a.work.now a.b a.end a.sink.now

pub turn-requires : goal.turn-requires
turn-requires c =
    record {
      block_laid = places_laid c.requires.block_laid c.requires.end_le_places c.loop-j.invariant (omega arith);
      j_lt_places = places_low c.requires.block_laid c.requires.end_le_places c.loop-j.invariant
          (omega arith) (omega arith);
      arcs_fit = places_room c.requires.block_laid c.requires.end_le_places c.loop-j.invariant
          (omega arith) (omega arith) c.requires.arcs_fit;
    }
