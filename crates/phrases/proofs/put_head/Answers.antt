-- `phrases::put_head` meets its contract: five texts, each after the one before. Assumes nothing.
use Rattle.rules.specs.Text.{word}
use Rattle.buffer.proofs.Puts.{appended_then}
use Rattle.phrases.specs.Phrases.{head_text}
use Rattle.phrases.proofs.put_head.Goals as goal

pub returns : goal.returns
unfolding head_text word
returns c =
    appended_then c.put_two.ensures
    (appended_then c.put_two-2.ensures
    (appended_then c.put_two-3.ensures (appended_then c.put_labelled.ensures c.put_bytes.ensures)))
