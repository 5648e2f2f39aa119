-- `survey::survey` meets its contract: each step asks for what the ones before it leave. Assumes nothing.
use Rattle.survey.proofs.Surveying.{for_naming, for_leaving_out, for_listing, surveyed}
use Rattle.survey.proofs.survey.Goals as goal

-- where the rows are arranged, the components may be named
pub name_all-requires : goal.name_all-requires
name_all-requires c = (_, (_, for_naming c.requires c.ready.ensures))

-- and where they are named, the kinds may be found and listed
pub list_kinds-requires : goal.list_kinds-requires
list_kinds-requires c =
    let r = c.ready.ensures in
    record {
      nameable = for_listing c.requires r (c.name_all.ensures _ _ (for_naming c.requires r));
      withdrawable = for_leaving_out c.requires r;
    }

pub returns : goal.returns
returns c =
    let r = c.ready.ensures in
    surveyed c.requires r (c.name_all.ensures _ _ (for_naming c.requires r)) c.list_kinds.ensures
