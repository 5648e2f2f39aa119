use native.Mathlib.Omega.{arith}
use Rattle.blocks.proofs.BlockLoops.{blocking_start, blocking_laid, blocking_first, blocking_room}
use Rattle.blocks.proofs.BlockLoops.{blocking_turn, blocking_end}
use Rattle.blocks.proofs.cross.Goals as goal

pub loop-first-preserved : goal.loop-first-preserved
loop-first-preserved c =
    blocking_turn c.requires.block_laid c.loop-first.invariant c.loop-first-test.true
    c.block.ensures

pub returns : goal.returns
returns c = blocking_end c.loop-first.invariant (omega arith)

-- the last block ends behind all places, and no next one is asked for
pub returns-2 : goal.returns-2
returns-2 c =
    blocking_end
    (blocking_turn c.requires.block_laid c.loop-first.invariant c.loop-first-test.true
    c.block.ensures)
    (omega arith)

pub loop-first-init : goal.loop-first-init
loop-first-init c =
    let a = c.args in
    blocking_start a.work.now a.at a.places a.sink.now

pub block-requires : goal.block-requires
block-requires c =
    record {
      block_laid = blocking_laid c.requires.block_laid c.loop-first.invariant c.loop-first-test.true;
      first_le_1024 = blocking_first c.requires.block_laid c.loop-first.invariant c.loop-first-test.true;
      arcs_fit = blocking_room c.requires.block_laid c.loop-first.invariant c.loop-first-test.true
          c.requires.arcs_fit;
    }
