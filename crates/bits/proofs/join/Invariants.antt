-- `bits::join` meets its contract. The loop's invariant: the memory is what it was with `word` elements joined. The
-- plain function goes as the loop goes, so a turn is an unfolding. Assumes nothing.
use mathlib.Core.Path.{◌≡◌}
use Rattle.bits.specs.Bits.{with_words}
use Rattle.bits.proofs.join.Given as goal

abbrev pub invariant-loop-word : goal.invariant-loop-word
invariant-loop-word l = l.work ≡ with_words l.initial.work l.into l.from l.word
