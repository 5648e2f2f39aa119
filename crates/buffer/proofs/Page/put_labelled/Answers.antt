-- `buffer::Page::put_labelled` meets its contract: the word, and then the number. Assumes nothing.
use Rattle.buffer.specs.Words.{labelled}
use Rattle.buffer.proofs.Puts.{appended_then}
use Rattle.buffer.proofs.Page.put_labelled.Goals as goal

pub returns : goal.returns
unfolding labelled
returns c = appended_then c.put_bytes.ensures c.put_number.ensures
