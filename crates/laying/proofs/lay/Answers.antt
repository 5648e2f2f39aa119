-- `laying::lay` meets its contract: a strong network has no link, and on any other the rule runs on the side that was
-- picked. Assumes nothing.
use mathlib.Core.Path.{refl}
use Rattle.laying.proofs.Laying.{laid_strong, rule_able, rule_laid}
use Rattle.laying.proofs.lay.Goals as goal

pub returns-then-k-eq1 : goal.returns-then-k-eq1
returns-then-k-eq1 c =
    rw c.counts_with.ensures (laid_strong c.requires c.survey-k.ensures c.if-k-eq1.true refl refl)

pub connect-made-requires : goal.connect-made-requires
connect-made-requires c = (
  _,
  rule_able c.requires c.survey-k.ensures c.if-k-eq1.false c.side_of-side.ensures c.min.ensures c.max.ensures,
)

pub returns : goal.returns
returns c =
    let able =
    rule_able c.requires c.survey-k.ensures c.if-k-eq1.false c.side_of-side.ensures c.min.ensures c.max.ensures
    in
    rw c.counts_with-2.ensures
    (rule_laid c.requires c.survey-k.ensures c.if-k-eq1.false c.side_of-side.ensures (c.connect-made.ensures _ able))
