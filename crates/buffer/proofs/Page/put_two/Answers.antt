-- `buffer::Page::put_two` meets its contract: the first word and number, and then the second. Assumes nothing.
use Rattle.buffer.specs.Words.{two}
use Rattle.buffer.proofs.Puts.{appended_then}
use Rattle.buffer.proofs.Page.put_two.Goals as goal

pub returns : goal.returns
unfolding two
returns c = appended_then c.put_labelled.ensures c.put_labelled-2.ensures
