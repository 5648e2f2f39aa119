-- One turn of `deepen` in the memory: the top, whose heads all have marks, goes behind the zones that have ended.
-- One place of the order is stored, and everything else is kept. Assumes nothing.
use mathlib.Core.Path.{◌≡◌, sym, ap, ◌∙◌}
use mathlib.Core.Logic.{inr, ◌≢◌}
use mathlib.Core.List.{List}
use Prim.Native.Nat.{ℕ, ◌+◌, ◌≤◌, ◌<◌}
use native.Mathlib.Omega.{arith}
use lib.ListN.{get_or, set, drop, length-set}
use lib.Seq.{get_or-set_same, get_or-set_other, drop-set-lt, take-set-le}
use Rattle.workmap.specs.declared.RowsAt.{RowsAt}
use Rattle.workmap.specs.declared.OrderAt.{OrderAt}
use Rattle.arranged.specs.Marks.{zeros}
use Rattle.arranged.proofs.Zeros.{zeros_other}
use Rattle.memory.specs.Regions.{cell}
use Rattle.descent.specs.Memory.{Ready, State, OrderKept, Full}
use Rattle.descent.proofs.Keeping.{spans}
use Rattle.finishing.proofs.Pop.{pop}

-- all heads of the top have marks, and the top is stored behind the ended zones
module _ {w w' : List ℕ} {R : RowsAt} {O : OrderAt} {lo hi : ℕ}
    (P : Ready w R O)
    (S : State w R O lo hi) (top : hi < R.zones)
    (F : Full w R O hi) (made : w' ≡ set w (O.order + lo) (cell w O.order hi)) where
  -- The ended zones do not reach into the stack.
  pub pop_low : lo ≤ hi
  pop_low = omega (arith, S.room)

  -- Elsewhere the memory has what it had.
  pop_other : (j : ℕ) → j ≢ O.order + lo → get_or w' j 0 ≡ get_or w j 0
  pop_other j ne = rw made (get_or-set_other w (O.order + lo) j (cell w O.order hi) 0 ne)

  -- The rows are kept.
  pop_back : drop R.starts w' ≡ drop R.starts w
  pop_back = rw made
      (drop-set-lt R.starts w (O.order + lo) (cell w O.order hi) (omega (arith, pop_low, P.order_before)))

  -- As many zones are unseen as before.
  pop_zeros : zeros w' O.seen R.zones ≡ zeros w O.seen R.zones
  pop_zeros = rw made (
      zeros_other w (O.order + lo) (cell w O.order hi) O.seen R.zones
      (inr (omega (arith, P.apart, P.before))))

  -- A turn keeps what the first pass keeps.
  pub pop_kept : OrderKept w w' R O
  pop_kept = record {
    long = rw made (length-set w (O.order + lo) (cell w O.order hi));
    front = rw made
        (take-set-le O.seen w (O.order + lo) (cell w O.order hi) (omega (arith, P.apart, P.before)));
    back = pop_back;
    more = λ v l m e. m (sym (pop_other (O.seen + v) (λ q. omega (arith, P.apart, P.before))) ∙ e);
  }

  -- A turn leaves the memory of the search with its top ended.
  pub pop_state : State w' R O (lo + 1) (hi + 1)
  pop_state = record {
    end = omega arith;
    room = omega (arith, S.room, pop_zeros);
    deep = rw pop_back (pop P.sound (cell w O.seen) (cell w' O.seen) (cell w O.order) (cell w' O.order)
        (λ v. R.rows + cell w O.next v) (λ v. R.rows + cell w' O.next v) S.deep pop_low top
        (λ v l. pop_other (O.seen + v) (λ q. omega (arith, P.apart, P.before)))
        (rw made (get_or-set_same w (O.order + lo) (cell w O.order hi) 0 (omega (arith, pop_low, spans P))))
        (λ j l ne. pop_other (O.order + j) (λ q. ne (omega arith)))
        (λ v l. ap (λ (n : ℕ). R.rows + n) (pop_other (O.next + v) (λ q. omega (arith, P.before))))
        F);
  }
