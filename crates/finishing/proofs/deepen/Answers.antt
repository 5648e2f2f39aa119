use native.Mathlib.Omega.{arith}
use mathlib.Core.Path.{◌≡◌, refl}
use Rattle.descent.proofs.Keeping.{order_kept_then, ready_kept}
use Rattle.finishing.proofs.Up.{pop_kept, pop_state}
use Rattle.finishing.proofs.deepen.Goals as goal

-- Every turn keeps the invariant.
pub loop-hi-preserved : goal.loop-hi-preserved
loop-hi-preserved c =
    let v = c.loop-hi.invariant in
    let y = c.descend-hi.ensures in
    let R = ready_kept v.ready y.0.kept in
    record {
      ready = ready_kept R (pop_kept R y.0.state y.0.top y.1 refl);
      kept = order_kept_then (order_kept_then v.kept y.0.kept) (pop_kept R y.0.state y.0.top y.1 refl);
      state = pop_state R y.0.state y.0.top y.1 refl;
    }

-- What is answered is as the contract says.
pub returns : goal.returns
returns c =
    let v = c.loop-hi.invariant in
    let e : c.loop-hi.hi ≡ c.args.rows.zones = omega (arith, v.state.end) in
    (v.kept, rw e at v.state)
