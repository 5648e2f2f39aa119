-- `buffer::Page::put_digit` meets its contract: a number below ten is one byte. Assumes nothing.
use Rattle.buffer.proofs.Decimal.{decimal_low}
use Rattle.buffer.proofs.Page.put_digit.Goals as goal

pub put_bytes-requires : goal.put_bytes-requires
put_bytes-requires c = rw (decimal_low c.args.digit c.requires.digit_bound) at c.requires.room

pub returns : goal.returns
returns c = rw (decimal_low c.args.digit c.requires.digit_bound) c.put_bytes.ensures
