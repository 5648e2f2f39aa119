use native.Mathlib.Omega.{arith}
use Prim.Native.Nat.{◌+◌, ◌-◌, ◌<◌}
use mathlib.Core.Path.{◌≡◌}
use Rattle.workmap.specs.declared.RowsAt.{RowsAt}
use Rattle.roots.specs.Roots.{Collectable, Collecting}
use Rattle.roots.proofs.Collecting.{collect_begun, collect_ended, z_zone, collect_able, collect_turn}
use Rattle.roots.proofs.collect.Goals.{After-from-z}
use Rattle.roots.proofs.collect.Goals as goal

-- The pass as it stands, told at the place of the order that comes next.
prior : (c : After-from-z) (R : RowsAt) →
    let a = c.args in
    let l = c.loop-k in
    Collectable a.work.now R a.turned a.order a.at →
    Collecting a.work.now l.work R a.turned a.order a.at (l.k - 1 + 1) l.tail
prior c R I =
    let e : c.loop-k.k - 1 + 1 ≡ c.loop-k.k = omega (arith, c.loop-k-test.true) in
    rw e (c.loop-k.invariant R I)

-- That place is one of the order.
inside : (c : After-from-z) → c.loop-k.k - 1 < c.args.turned.zones
inside c = omega (arith, c.loop-k-test.true, c.loop-k.auto.k)

-- The invariant holds where the loop begins.
pub loop-k-init : goal.loop-k-init
loop-k-init c = λ R I. collect_begun I

-- Every turn keeps the invariant.
pub loop-k-preserved : goal.loop-k-preserved
loop-k-preserved c =
    let p = (goal.at.loop-k-preserved c).After-from-z in
    λ R I. collect_turn I (inside p) (prior p R I) c.from-z.ensures c.spread-tail.ensures

-- What is answered is as the contract says.
pub returns : goal.returns
returns c =
    let e : c.loop-k.k ≡ 0 = omega (arith, c.loop-k-test.false) in
    λ R I. collect_ended I (rw e at (c.loop-k.invariant R I))

-- The zone that is read is one, so its root number is small.
pub overflow_cast-z : goal.overflow_cast-z
overflow_cast-z c =
    let p = (goal.at.overflow_cast-z c).After-from-z in
    let I = c.requires in
    omega (arith, I.1.laid.small, z_zone I.1 (inside p) (prior p I.0 I.1) c.from-z.ensures)

-- What `spread` asks for is so.
pub spread-tail-requires : goal.spread-tail-requires
spread-tail-requires c =
    let p = (goal.at.spread-tail-requires c).After-from-z in
    let I = c.requires in
    collect_able I.1 (inside p) (prior p I.0 I.1) c.from-z.ensures
