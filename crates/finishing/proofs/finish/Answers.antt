-- `finish` meets its contract: after the copy the search has not begun, and beginning at every zone ends them all.
-- Assumes nothing.
use Rattle.descent.proofs.Keeping.{order_kept_then, ready_kept}
use Rattle.finishing.proofs.Start.{copy_kept, copy_begun}
use Rattle.finishing.proofs.finish.Goals as goal

-- What `begin_all` asks for is so.
pub begin_all-requires : goal.begin_all-requires
begin_all-requires c = record {
  ready = ready_kept c.requires.ready (copy_kept c.requires.ready c.requires.marks_clear c.copy.ensures);
  state = copy_begun c.requires.ready c.requires.marks_clear c.copy.ensures;
}

-- What is answered is as the contract says.
pub returns : goal.returns
returns c =
    let K = copy_kept c.requires.ready c.requires.marks_clear c.copy.ensures in
    (order_kept_then K c.begin_all.ensures.0, c.begin_all.ensures.1)
