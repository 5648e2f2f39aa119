-- The search's beginnings and its end in the memory.
--   copy_kept, copy_begun   after the copy of the rows' starts the search has not begun
--   start_state    a zone with no mark is put alone on the stack, by two stores
--   all_ended      all zones have marks, so all have ended
-- Assumes nothing.
use mathlib.Core.Path.{◌≡◌, sym, ap, ◌∙◌}
use mathlib.Core.Logic.{inl, inr, ◌≢◌}
use mathlib.Core.List.{List}
use Prim.Native.Nat.{ℕ, suc, ◌+◌, ◌-◌, ◌≤◌, ◌<◌}
use native.Mathlib.Omega.{arith}
use lib.ListN.{length, get_or, set, drop, length-set}
use lib.Seq.{get_or-set_same, get_or-set_other, get_or-drop, drop-set-lt, take-set-le}
use Rattle.workmap.specs.declared.RowsAt.{RowsAt}
use Rattle.workmap.specs.declared.OrderAt.{OrderAt}
use Rattle.arranged.specs.Rows.{rows_of}
use Rattle.arranged.specs.Marks.{zeros, Marked}
use Rattle.arranged.proofs.Zeros.{zeros_other, zeros_mark, zeros_none, zeros_clear}
use Rattle.descent.specs.Deep.{Deep}
use Rattle.memory.specs.Regions.{cell, part}
use Rattle.memory.specs.Storing.{Copied}
use Rattle.descent.specs.Memory.{Ready, State, OrderKept, Finished}
use Rattle.memory.proofs.Regions.{at_below, part_long, part_at}
use Rattle.memory.proofs.Stores.{take_sets, drop_sets, getD_sets_at, getD_sets_high}
use Rattle.memory.proofs.Copies.{copied_long}
use Rattle.descent.proofs.Keeping.{ready_kept, spans}
use Rattle.descent.proofs.Push.{push}
use Rattle.finishing.proofs.Pop.{deep_begun, deep_stands}

-- The search that has not begun: no mark is set, and every next place is its row's start.
none_begun : {w : List ℕ} {R : RowsAt} {O : OrderAt} → Ready w R O
    → ((v : ℕ) → v < R.zones → cell w O.seen v ≡ 0)
    → ((v : ℕ) → v < R.zones → cell w O.next v ≡ cell w R.starts v)
    → State w R O 0 R.zones
none_begun {w} {R} {O} P clear first = record {
  end = omega arith;
  room = omega (arith, zeros_clear w O.seen R.zones clear);
  deep = deep_begun P.sound (cell w O.seen) (cell w O.order) (λ z. R.rows + cell w O.next z) clear
      (λ z l. ap (λ (n : ℕ). R.rows + n) (first z l ∙ sym (get_or-drop R.starts w z 0)));
}

-- no mark is set, and the rows' starts are copied to the next places
module _ {w w' : List ℕ} {R : RowsAt} {O : OrderAt} (P : Ready w R O)
    (clear : (v : ℕ) → v < R.zones → cell w O.seen v ≡ 0)
    (C : Copied w w' R.starts R.zones O.next) where
  -- All starts are copied.
  starts_long : length (part w R.starts R.zones) ≡ R.zones
  starts_long = part_long w R.starts R.zones (omega (arith, spans P))

  -- What stands behind the next places is as it was.
  copy_behind : (i : ℕ) → O.next + R.zones ≤ i → get_or w' i 0 ≡ get_or w i 0
  copy_behind i l =
      rw C.is (getD_sets_high w O.next (part w R.starts R.zones) i (omega (arith, starts_long)))

  -- The copy keeps what the first pass keeps.
  pub copy_kept : OrderKept w w' R O
  copy_kept = record {
    long = copied_long C;
    front = rw C.is (take_sets w O.next (part w R.starts R.zones) O.seen (omega (arith, P.apart)));
    back = rw C.is (drop_sets w O.next (part w R.starts R.zones) R.starts
        (omega (arith, starts_long, P.before, P.order_before)));
    more = λ v l m. absurd (m (clear v l));
  }

  -- A zone's next place is the start of its row.
  copy_first : (v : ℕ) → v < R.zones → cell w' O.next v ≡ cell w' R.starts v
  copy_first v l =
      rw C.is (getD_sets_at w O.next (part w R.starts R.zones) v
      (omega (arith, starts_long, spans P)) (omega (arith, starts_long)))
      ∙ part_at w R.starts R.zones v l
      ∙ sym (copy_behind (R.starts + v) (omega (arith, P.before, P.order_before)))

  -- After the copy the search has not begun.
  pub copy_begun : State w' R O 0 R.zones
  copy_begun = none_begun (ready_kept P copy_kept)
      (λ v l. at_below w w' O.next (O.seen + v) (omega (arith, P.apart))
      (rw C.is (take_sets w O.next (part w R.starts R.zones) O.next (omega arith))) ∙ clear v l)
      copy_first

-- the zone r has no mark, and gets one and is put alone on the stack
module _ {w w' : List ℕ} {R : RowsAt} {O : OrderAt} {lo r : ℕ} (P : Ready w R O)
    (S : State w R O lo R.zones) (zone : r < R.zones) (free : cell w O.seen r ≡ 0)
    (made : w' ≡ set (set w (O.seen + r) (lo + 1)) (O.order + (R.zones - 1)) r) where
  -- One zone fewer is unseen.
  fewer : suc (zeros w' O.seen R.zones) ≡ zeros w O.seen R.zones
  fewer = rw made (
      ap suc (zeros_other _ (O.order + (R.zones - 1)) r O.seen R.zones
      (inr (omega (arith, P.apart, P.before))))
      ∙ zeros_mark w O.seen R.zones r (lo + 1) (λ e. omega arith) zone (spans P).0 free)

  -- Elsewhere the memory has what it had.
  other : (j : ℕ) → j ≢ O.seen + r → j ≢ O.order + (R.zones - 1) → get_or w' j 0 ≡ get_or w j 0
  other j a b = rw made (
      get_or-set_other (set w (O.seen + r) (lo + 1)) (O.order + (R.zones - 1)) j r 0 b
      ∙ get_or-set_other w (O.seen + r) j (lo + 1) 0 a)

  -- The mark of r is set.
  mark : cell w' O.seen r ≡ lo + 1
  mark = rw made (
      get_or-set_other (set w (O.seen + r) (lo + 1)) (O.order + (R.zones - 1)) (O.seen + r) r 0
      (λ e. omega (arith, P.apart, P.before))
      ∙ get_or-set_same w (O.seen + r) (lo + 1) 0 (omega (arith, spans P)))

  -- The other marks are kept.
  mark_other : (v : ℕ) → v < R.zones → v ≢ r → cell w' O.seen v ≡ cell w O.seen v
  mark_other v l ne = other (O.seen + v) (λ e. ne (omega arith)) (λ e. omega (arith, P.apart, P.before))

  -- r is on the stack.
  put : cell w' O.order (R.zones - 1) ≡ r
  put = rw made (get_or-set_same (set w (O.seen + r) (lo + 1)) (O.order + (R.zones - 1)) r 0
      (simp length-set (omega (arith, spans P))))

  -- The other places of the order are kept.
  put_other : (j : ℕ) → j < R.zones → j ≢ R.zones - 1 → cell w' O.order j ≡ cell w O.order j
  put_other j l ne = other (O.order + j) (λ e. omega (arith, P.apart, P.before)) (λ e. ne (omega arith))

  -- The next places are kept.
  next_same : (v : ℕ) → v < R.zones → R.rows + cell w' O.next v ≡ R.rows + cell w O.next v
  next_same v l = ap (λ (n : ℕ). R.rows + n)
      (other (O.next + v) (λ e. omega (arith, P.apart)) (λ e. omega (arith, P.before)))

  -- The rows are kept.
  back : drop R.starts w' ≡ drop R.starts w
  back = rw made (
      drop-set-lt R.starts (set w (O.seen + r) (lo + 1)) (O.order + (R.zones - 1)) r
      (omega (arith, P.order_before))
      ∙ drop-set-lt R.starts w (O.seen + r) (lo + 1) (omega (arith, P.apart, P.before, P.order_before)))

  -- The beginning keeps what the first pass keeps.
  pub start_kept : OrderKept w w' R O
  start_kept = record {
    long = rw made (simp length-set);
    front = rw made (
        take-set-le O.seen (set w (O.seen + r) (lo + 1)) (O.order + (R.zones - 1)) r
        (omega (arith, P.apart, P.before))
        ∙ take-set-le O.seen w (O.seen + r) (lo + 1) (omega arith));
    back = back;
    more = λ v l m e. m (sym (mark_other v l (λ q. m (ap (cell w O.seen) q ∙ free))) ∙ e);
  }

  -- Not all zones have ended.
  start_room : lo < R.zones
  start_room = omega (arith, fewer, S.room)

  -- What any zone has passed has a mark.
  start_passed : (z i : ℕ) → z < R.zones → R.rows + get_or (drop R.starts w) z 0 ≤ i
      → i < R.rows + cell w' O.next z
      → Marked w' O.seen (get_or (drop R.starts w) (i - R.starts) 0)
  start_passed z i l a b = start_kept.more (get_or (drop R.starts w) (i - R.starts) 0)
      (P.sound.heads z i l a (omega (arith, next_same z l, S.deep.upto z l)))
      (S.deep.passed z i l a (omega (arith, next_same z l)))

  -- The beginning leaves the memory of the search with r on its stack.
  pub start_state : State w' R O lo (R.zones - 1)
  start_state = record {
    end = omega arith;
    room = omega (arith, fewer, S.room);
    deep = rw back (push P.sound (cell w O.seen) (cell w' O.seen) (cell w O.order) (cell w' O.order)
        (λ v. R.rows + cell w O.next v) (λ v. R.rows + cell w' O.next v) S.deep
        (omega arith) (omega (arith, start_room)) (omega arith) zone free (omega (arith, mark))
        mark_other put put_other
        (λ z l. omega (arith, next_same z l, S.deep.from z l))
        (λ z l. omega (arith, next_same z l, S.deep.upto z l))
        start_passed
        (λ j a b. absurd (omega arith)));
  }

-- All zones have marks, so all have ended: the finishing order is whole.
pub all_ended : {w : List ℕ} {R : RowsAt} {O : OrderAt} {lo : ℕ} → Ready w R O
    → State w R O lo R.zones → ((v : ℕ) → v < R.zones → Marked w O.seen v)
    → Finished w R O
all_ended {w} {R} {O} {lo} P S all =
    let e : lo ≡ R.zones = omega (arith, S.room, zeros_none w O.seen R.zones all) in
    let D : Deep (rows_of w R) (cell w O.seen) (cell w O.order) (λ z. R.rows + cell w O.next z)
    R.zones R.zones
    = rw e at S.deep in
    record {
      zone = λ i l. D.zone i (inl l);
      ordered = D.pairs;
      stands = λ v l. deep_stands P.sound (cell w O.seen) (cell w O.order)
          (λ z. R.rows + cell w O.next z) D v l (all v l);
    }
