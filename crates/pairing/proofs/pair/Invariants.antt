-- `pair` meets its contract. The loop's invariant: the pairing has gone through the sources up to k.
-- Assumes nothing.
use Rattle.pairing.specs.Pairs.{Course}
use Rattle.pairing.proofs.pair.Given as goal

abbrev pub invariant-loop-k : goal.invariant-loop-k
invariant-loop-k l = Course l.initial.work l.work l.at l.s l.t l.k l.p
