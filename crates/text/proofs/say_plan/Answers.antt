-- `text::say_plan` meets its contract: the head, the lines of the links and done, each after the one before.
-- Assumes nothing.
use Rattle.rules.specs.Text.{word}
use Rattle.buffer.proofs.Puts.{appended_then}
use Rattle.text.specs.Texts.{plan_text}
use Rattle.text.proofs.say_plan.Goals as goal

pub returns : goal.returns
unfolding plan_text word
returns c = appended_then c.put_head.ensures (appended_then c.put_lines.ensures c.put_bytes.ensures)
