-- `turning::turn` meets its contract: U, then R. Assumes nothing.
use Rattle.turning.proofs.Turns.{turn_laid, turn_room, turn_end}
use Rattle.turning.proofs.turn.Goals as goal

pub returns : goal.returns
returns c =
    let a = c.args in
    turn_end c.requires.block_laid a.j c.requires.j_lt_places c.unite.new.work c.unite.ensures
    c.note.ensures

pub note-requires : goal.note-requires
note-requires c =
    let a = c.args in record {
      block_laid = turn_laid c.requires.block_laid a.j c.requires.j_lt_places c.unite.new.work c.unite.ensures;
      j_lt_places = c.requires.j_lt_places;
      arcs_fit = turn_room c.requires.block_laid a.j c.requires.j_lt_places c.unite.new.work c.unite.ensures
          c.requires.arcs_fit;
    }
