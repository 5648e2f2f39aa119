-- `bits::set_bit` meets its contract: the shifted 1 is a power of two. Assumes nothing.
use mathlib.Core.Path.{ap}
use Prim.Native.Nat.{ℕ, ◌+◌, ◌*◌, ◌/◌, ◌%◌}
use native.Mathlib.Omega.{arith}
use lib.Bits.{bit_or}
use lib.ListN.{get_or, set}
use Rattle.bits.proofs.Numbers.{one_shifted}
use Rattle.bits.specs.Bits.{with_bit}
use Rattle.bits.proofs.set_bit.Goals as goal

pub returns : goal.returns
unfolding with_bit
returns c =
    let a = c.args in
    let at = a.a * a.words + a.b / 16 in
    ap (λ (m : ℕ). set a.work.now at (bit_or (get_or a.work.now at 0) m))
    (one_shifted 16 (a.b % 16) (omega arith))
