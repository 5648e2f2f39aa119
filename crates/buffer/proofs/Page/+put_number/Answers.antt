use Prim.Native.Nat.{ℕ}
use mathlib.Core.Path.{ap}
use native.Mathlib.Omega.{arith}
use lib.ListN.{length, length-append}
use Rattle.buffer.proofs.Decimal.{decimal_high}
use Rattle.buffer.proofs.Puts.{appended_then}
use Rattle.buffer.proofs.Page.+put_number.Goals as goal

pub put_number-requires : goal.put_number-requires
put_number-requires t c =
    let n = c.args.n in
    let parts = ap length (decimal_high n c.if-n-lt10.false (omega arith)) in
    (omega arith, omega (arith, length-append {A = ℕ}))

pub put_digit-requires-2-clause-room : goal.put_digit-requires-2-clause-room
put_digit-requires-2-clause-room t c =
    let parts = ap length (decimal_high c.args.n c.if-n-lt10.false (omega arith)) in
    omega (arith, length-append {A = ℕ})

pub returns : goal.returns
returns t c =
    rw (decimal_high c.args.n c.if-n-lt10.false (omega arith))
    (appended_then c.put_number.ensures c.put_digit-2.ensures)
