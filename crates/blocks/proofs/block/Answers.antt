-- `blocks::block` meets its contract: a sweep of the cleared table up to the block's end. Assumes nothing.
use Rattle.blocks.proofs.BlockLoops.{block_laid, block_low, block_room, block_done}
use Rattle.blocks.proofs.block.Goals as goal

pub returns : goal.returns
returns c =
    block_done c.requires.block_laid c.min-end.result c.min-end.ensures c.clear.new.work c.clear.ensures
    c.sweep.ensures

pub sweep-requires : goal.sweep-requires
sweep-requires c =
    record {
      block_laid = block_laid c.requires.block_laid c.min-end.result c.min-end.ensures c.clear.new.work
          c.clear.ensures;
      end_le_places = block_low c.requires.block_laid c.min-end.result c.min-end.ensures c.clear.new.work
          c.clear.ensures;
      arcs_fit = block_room c.requires.block_laid c.min-end.result c.min-end.ensures c.clear.new.work
          c.clear.ensures
          c.requires.arcs_fit;
    }
