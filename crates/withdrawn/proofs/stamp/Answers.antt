use native.Mathlib.Omega.{arith}
use Prim.Native.Nat.{ℕ, ◌<◌}
use mathlib.Core.Path.{◌≡◌}
use mathlib.Core.List.{List, Memᴰ as In}
use lib.ListN.{length, get_or}
use lib.Seq.{get_or-take, get_or-drop}
use Rattle.theory.proofs.Ground.Indices.{at_in}
use Rattle.withdrawn.proofs.Stamps.{stamped_more}
use Rattle.withdrawn.proofs.stamp.Goals as goal

-- each number of the list is below n
low : (gone : List ℕ) (n : ℕ) → ((z : ℕ) → In z gone → z < n) → (k : ℕ) → k < length gone → get_or gone k 0 < n
low gone n below k h = below (get_or gone k 0) (at_in gone k h)

pub loop-zone-preserved : goal.loop-zone-preserved
loop-zone-preserved c =
    let a = c.args in
    let k = c.loop-zone.zone-index in
    let next : c.from.result ≡ get_or a.gone.now k 0 = grind (arith, c.from.ensures, get_or-take, get_or-drop) in
    rw next
    (stamped_more a.work.now c.loop-zone.work a.gone.now a.at a.n k a.mark c.loop-zone.invariant
    c.requires.within (omega arith) (low a.gone.now a.n c.requires.gone_below k (omega arith)))

pub bounds-work-at : goal.bounds-work-at
bounds-work-at c =
    let a = c.args in
    let R = c.requires in
    let k = c.loop-zone.zone-index in
    let next : c.from.result ≡ get_or a.gone.now k 0 = grind (arith, c.from.ensures, get_or-take, get_or-drop) in
    omega (arith, next, low a.gone.now a.n R.gone_below k (omega arith), R.within, c.loop-zone.invariant.long)
