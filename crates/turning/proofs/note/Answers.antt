use native.Mathlib.Omega.{arith}
use Rattle.turning.proofs.Noting.{note_laid, note_low, note_room, note_turn, note_end}
use Rattle.turning.proofs.note.Goals as goal

pub loop-at-preserved : goal.loop-at-preserved
loop-at-preserved c =
    note_turn c.requires.block_laid c.requires.j_lt_places c.loop-at.invariant
    (omega arith) c.from-k.result c.from-k.ensures
    c.take.ensures

pub returns : goal.returns
returns c = note_end c.loop-at.invariant (omega arith)

pub take-requires : goal.take-requires
take-requires c =
    record {
      block_laid = note_laid c.requires.block_laid c.requires.j_lt_places c.loop-at.invariant
          (omega arith) c.from-k.result c.from-k.ensures;
      j_and_k_lt_places = (
        c.requires.j_lt_places,
        note_low c.requires.block_laid c.requires.j_lt_places c.loop-at.invariant
            (omega arith) c.from-k.result c.from-k.ensures,
      );
      arcs_fit = note_room c.requires.block_laid c.requires.j_lt_places c.loop-at.invariant
          (omega arith) c.from-k.result c.from-k.ensures
          c.requires.arcs_fit;
    }
