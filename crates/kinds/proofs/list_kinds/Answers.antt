-- `list_kinds` meets its contract: the arcs are noted, withdrawn zones stamped, and the three lists are put one after
-- the other. Assumes nothing.
use native.Mathlib.Omega.{arith}
use Rattle.kinds.proofs.Rules.{for_marking}
use Rattle.kinds.proofs.Whole.{stamp_fits, first_listable, second_listable, third_listable, listed}
use Rattle.kinds.proofs.list_kinds.Goals as goal

pub mark-requires : goal.mark-requires
mark-requires c = for_marking c.requires.nameable

pub stamp-requires : goal.stamp-requires
stamp-requires c = record {
  within = stamp_fits c.requires.nameable c.mark.ensures;
  gone_below = c.requires.withdrawable.below;
}

pub list-sources-requires : goal.list-sources-requires
list-sources-requires c = first_listable c.requires.nameable c.mark.ensures c.stamp.ensures

pub list-sinks-requires : goal.list-sinks-requires
list-sinks-requires c =
    second_listable c.requires.nameable c.mark.ensures c.stamp.ensures c.list-sources.ensures

pub list-alone-requires : goal.list-alone-requires
list-alone-requires c =
    third_listable c.requires.nameable c.mark.ensures c.stamp.ensures c.list-sources.ensures c.list-sinks.ensures

pub returns : goal.returns
returns c =
    listed c.requires.nameable c.mark.ensures c.stamp.ensures c.requires.withdrawable (omega arith)
    c.list-sources.ensures c.list-sinks.ensures c.list-alone.ensures
