-- `phrases::put_refusal` meets its contract: two words with their numbers, and the line's end. Assumes nothing.
use Rattle.rules.specs.Text.{word}
use Rattle.buffer.proofs.Puts.{appended_then}
use Rattle.phrases.proofs.PhraseLaws.{refusal_put}
use Rattle.phrases.proofs.put_refusal.Goals as goal

pub returns : goal.returns
unfolding word
returns c =
    rw (refusal_put c.args.t) (appended_then (rw c.from.ensures at c.put_two.ensures) c.put_bytes.ensures)
