use native.Mathlib.Omega.{arith}
use Rattle.uniting.proofs.Uniting.{unite_start, unite_rooms, unite_turn, unite_end}
use Rattle.uniting.proofs.unite.Goals as goal

pub loop-at-init : goal.loop-at-init
loop-at-init c =
    unite_start c.requires.block_laid c.args.j c.requires.j_lt_places c.heads_at-from.result c.heads_at-to.result
    c.heads_at-from.ensures c.heads_at-to.ensures

pub loop-at-preserved : goal.loop-at-preserved
loop-at-preserved c =
    unite_turn c.requires.block_laid c.requires.j_lt_places c.loop-at.invariant (omega arith)
    c.from-k.result c.from-k.ensures c.join.new.work c.join.ensures

pub join-requires : goal.join-requires
join-requires c =
    unite_rooms c.requires.block_laid c.requires.j_lt_places c.loop-at.invariant (omega arith)
    c.from-k.result c.from-k.ensures

pub returns : goal.returns
returns c = unite_end c.loop-at.invariant (omega arith)
