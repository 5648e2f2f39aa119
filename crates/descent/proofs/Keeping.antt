-- What the first pass keeps of the memory, and what is then still ready.
--   order_kept_then        what two steps keep, both keep together
--   ready_kept             the rows stand behind all that changes, so the memory stays ready
--   spans                  where the regions end
-- Assumes nothing.
use mathlib.Core.Path.{◌∙◌}
use mathlib.Core.List.{List}
use Prim.Native.Nat.{ℕ, ◌+◌, ◌≤◌, ◌<◌}
use native.Mathlib.Omega.{arith}
use lib.ListN.{length}
use Rattle.workmap.specs.declared.RowsAt.{RowsAt}
use Rattle.workmap.specs.declared.OrderAt.{OrderAt}
use Rattle.descent.specs.Memory.{Ready, OrderKept}

-- What two steps keep, both keep together.
pub order_kept_then : {w w' w'' : List ℕ} {R : RowsAt} {O : OrderAt}
    → OrderKept w w' R O → OrderKept w' w'' R O → OrderKept w w'' R O
order_kept_then p q = record {
  long = q.long ∙ p.long;
  front = q.front ∙ p.front;
  back = q.back ∙ p.back;
  more = λ v l m. q.more v l (p.more v l m);
}

-- The memory stays ready.
pub ready_kept : {w w' : List ℕ} {R : RowsAt} {O : OrderAt} → Ready w R O
    → OrderKept w w' R O → Ready w' R O
ready_kept P K = record {
  small = P.small;
  apart = P.apart;
  before = P.before;
  order_before = P.order_before;
  starts_before = P.starts_before;
  inside = omega (arith, P.inside, K.long);
  few = λ z l. rw K.back (P.few z l);
  fits = λ z l. rw (K.back, K.long) (P.fits z l);
  sound = rw K.back P.sound;
}

-- The regions end inside the memory.
pub spans : {w : List ℕ} {R : RowsAt} {O : OrderAt} → Ready w R O
    → (O.seen + R.zones ≤ length w) × ((O.next + R.zones ≤ length w)
    × ((O.order + R.zones ≤ length w) × (R.starts + R.zones < length w)))
spans P = (
  omega (arith, P.apart, P.before, P.order_before, P.starts_before, P.inside),
  (
    omega (arith, P.before, P.order_before, P.starts_before, P.inside),
    (omega (arith, P.order_before, P.starts_before, P.inside), omega (arith, P.starts_before, P.inside)),
  ),
)
