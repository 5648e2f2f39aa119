-- `buffer::Page::put_number` meets its contract. It calls itself at a tenth of the number, which is the measure.
-- Assumes nothing.
use Rattle.buffer.proofs.Page.+put_number.Given as goal

-- the number
abbrev pub decreases-put_number : goal.decreases-put_number
decreases-put_number l = l.n
