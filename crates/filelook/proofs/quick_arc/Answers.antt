-- `quick_arc` meets its contract: what comes through all tests is an arc. Assumes nothing.
use native.Mathlib.Omega.{arith}
use Rattle.rules.specs.Network.{◌⟶◌}
use Rattle.filelook.proofs.PlainLaws.{plain_arc}
use Rattle.filelook.proofs.quick_arc.Goals as goal

pub returns : goal.returns
returns c = (
  c.quick_number-tail.result.0 ⟶ c.quick_number-head.result.0,
  plain_arc c.args.s.now c.args.at c.requires
      (omega arith)
      (omega arith)
      (λ e. omega arith)
      c.quick_number-tail.ensures.plain
      c.quick_number-head.ensures.plain,
)
