-- `sweep` meets its contract: the marks stand where the search came, the withdrawn zones are stamped, and no
-- mark is zero then. Assumes nothing.
use native.Mathlib.Omega.{arith}
use mathlib.Core.Path.{◌≡◌}
use mathlib.Core.Bool.{not}
use Prim.Native.Nat.{◌+◌, ◌-◌, ◌≤◌}
use lib.ListN.{length}
use Rattle.strength.proofs.Truth.{says_all, swept}
use Rattle.strength.proofs.sweep.Goals as goal

pub returns : goal.returns
returns c =
    let a = c.args in
    let w = c.stamp.new.work in
    let laid = c.requires.able.laid in
    let n : a.at.marks + a.rows.zones - a.at.marks ≡ a.rows.zones = omega arith in
    let fits : a.at.marks + a.rows.zones ≤ length w =
    omega (arith, laid, c.search.ensures.kept.long, c.stamp.ensures.long)
    in
    let told = says_all w a.at.marks a.rows.zones c.contains.result fits (rw n at c.contains.ensures.cases) in
    swept a.work.now c.search.new.work w a.rows a.at a.from a.gone.now
    (not c.contains.result) laid.apart c.requires.clear c.search.ensures (omega arith)
    c.stamp.ensures told
