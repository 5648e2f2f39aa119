-- `memory::copy` meets its contract: what the slice's own method leaves, as stores. Assumes nothing.
use Rattle.std.proofs.Common.{◌≡◌, ◌∙◌, ◌+◌, ◌-◌, arith, drop, length-drop}
use Rattle.memory.proofs.Copies.{paste_sets}
use Rattle.memory.proofs.copy.Goals as goal

pub returns : goal.returns
returns c =
    let a = c.args in
    let n : a.from + a.n - a.from ≡ a.n = omega arith in
    record {
      is =
          rw n at c.copy_within.ensures.after
          ∙ paste_sets a.work.now (drop a.from a.work.now) a.to a.n (omega arith) (simp length-drop (omega arith));
    }
