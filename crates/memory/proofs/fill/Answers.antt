-- `memory::fill` meets its contract: the part that is filled is the number n times. Assumes nothing.
use Rattle.std.proofs.Common.{◌≡◌, ◌∙◌, ◌+◌, ◌-◌, ap, sym, arith, replicate}
use Rattle.std.proofs.lemmas.List.{length-replicate}
use Rattle.memory.proofs.Copies.{part_stored}
use Rattle.memory.proofs.Regions.{part_long}
use Rattle.memory.proofs.fill.Goals as goal

pub returns : goal.returns
returns c =
    let a = c.args in
    let n : a.at + a.n - a.at ≡ a.n = omega arith in
    rw n
    (part_stored a.work.now (replicate a.n a.x) _ a.at a.n c.requires
    (c.fill.ensures.after (λ y h. h)
    ∙ ap (λ k. replicate k a.x) (part_long a.work.now a.at _ (omega arith) ∙ n))
    (sym (length-replicate a.n a.x)))
