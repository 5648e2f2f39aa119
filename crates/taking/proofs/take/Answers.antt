-- `taking::take` meets its contract, by the two ways of a head. Assumes nothing.
use mathlib.Core.Path.{sym, ◌∙◌}
use native.Mathlib.Omega.{arith}
use Rattle.memory.specs.Regions.{cell}
use Rattle.taking.proofs.Fresh.{fresh_true}
use Rattle.taking.proofs.Taking.{take_skip, take_hit, take_room}
use Rattle.taking.proofs.take.Goals as goal

pub returns-then-is_fresh : goal.returns-then-is_fresh
returns-then-is_fresh c =
    let a = c.args in
    take_hit a.work.now c.set_bit.new.work a.b a.j a.k (sym c.is_fresh.ensures ∙ c.if-is_fresh.true)
    c.set_bit.ensures c.put.ensures

pub returns-else-is_fresh : goal.returns-else-is_fresh
returns-else-is_fresh c =
    let a = c.args in
    take_skip a.work.now a.b a.j a.k a.sink.now (sym c.is_fresh.ensures ∙ c.if-is_fresh.false)

pub put-requires : goal.put-requires
put-requires c =
    let a = c.args in
    take_room (cell a.work.now a.b.tops) a.work.now a.b.first a.j a.k (sym c.is_fresh.ensures ∙ c.if-is_fresh.true)
    c.requires.arcs_fit

pub overflow_sub-bit : goal.overflow_sub-bit
overflow_sub-bit c =
    let a = c.args in
    omega (arith, fresh_true a.work.now a.b.first a.j a.k (sym c.is_fresh.ensures ∙ c.if-is_fresh.true))
