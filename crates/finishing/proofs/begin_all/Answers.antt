use native.Mathlib.Omega.{arith}
use mathlib.Core.Logic.{inl, inr}
use Rattle.memory.proofs.Numbers.{same?}
use Rattle.descent.proofs.Keeping.{order_kept_then, ready_kept}
use Rattle.finishing.proofs.Start.{all_ended}
use Rattle.finishing.proofs.begin_all.Goals as goal

-- Every turn keeps the invariant.
pub loop-r-preserved : goal.loop-r-preserved
loop-r-preserved c =
    let v = c.loop-r.invariant in
    let y = c.begin-lo.ensures in
    record {
      ready = ready_kept v.ready y.kept;
      kept = order_kept_then v.kept y.kept;
      state = y.state;
      marked = λ z h. elim (same? z c.loop-r.r) [
        | inl e ↦ rw e y.first
        | inr e ↦ y.kept.more z (omega arith) (v.marked z (omega arith))
      ];
    }

-- What is answered is as the contract says.
pub returns : goal.returns
returns c =
    let v = c.loop-r.invariant in
    (v.kept, all_ended v.ready v.state (λ z h. v.marked z (omega arith)))
