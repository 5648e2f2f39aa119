-- `bits::has_bit` meets its contract: the shifted word's lowest bit is the table's bit. Assumes nothing.
use Prim.Native.Nat.{◌+◌, ◌*◌, ◌/◌, ◌%◌}
use lib.ListN.{get_or}
use Rattle.bits.proofs.Numbers.{bit_read}
use Rattle.bits.specs.Bits.{bit_in}
use Rattle.bits.proofs.has_bit.Goals as goal

pub returns : goal.returns
unfolding bit_in
returns c =
    let a = c.args in
    bit_read (get_or a.work.now (a.a * a.words + a.b / 16) 0) (a.b % 16)
