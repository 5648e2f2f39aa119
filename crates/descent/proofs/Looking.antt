-- A look along the row of the zone at place t of the order, in the memory.
--   z, wa, wb     the zone, its next place and its row's end, as they are read; places count from `rows` on
--   row_at        an element of the rows, read from the part behind the starts
--   z_full        where the look finds nothing, all heads have marks
--   z_advanced    where it finds place i, and the next place is moved on behind it
-- Assumes nothing.
use mathlib.Core.Path.{◌≡◌, refl, sym, ap, ◌∙◌}
use mathlib.Core.Logic.{inr}
use mathlib.Core.List.{List}
use Prim.Native.Nat.{ℕ, ◌+◌, ◌-◌, ◌≤◌, ◌<◌}
use native.Mathlib.Omega.{arith}
use lib.ListN.{length, get_or, set, drop}
use lib.Seq.{get_or-drop}
use Rattle.std.specs.Prelude.{Some, None}
use Rattle.workmap.specs.declared.RowsAt.{RowsAt}
use Rattle.workmap.specs.declared.OrderAt.{OrderAt}
use Rattle.arranged.specs.Marks.{FirstIn}
use Rattle.memory.specs.Regions.{cell}
use Rattle.memory.proofs.Places.{behind}
use Rattle.descent.specs.Memory.{Ready, State, Full, Advanced}

-- An element of the rows, read from the part behind the starts.
pub row_at : {w : List ℕ} {R : RowsAt} {O : OrderAt} → Ready w R O → (i : ℕ) → R.rows ≤ i
    → get_or (drop R.starts w) (i - R.starts) 0 ≡ get_or w i 0
row_at {w} {R} P i l = behind w R.starts i (omega (arith, P.starts_before))

-- place t holds a zone of a deep search's stack, and it, its next place wa and its row's end wb were read
module _ {w : List ℕ} {R : RowsAt} {O : OrderAt} {t : ℕ} (P : Ready w R O)
    (S : (t < R.zones) × ((lo : ℕ) × State w R O lo t)) {z wa wb : ℕ}
    (ez : z ≡ cell w O.order t) (ea : wa ≡ cell w O.next z) (eb : wb ≡ get_or w (R.starts + z + 1) 0) where
  -- It is a zone.
  z_zone : z < R.zones
  z_zone = rw ez (S.1.1.deep.zone t (inr (omega arith, S.0)))

  -- Its row ends at wb.
  stop_is : get_or (drop R.starts w) (z + 1) 0 ≡ wb
  stop_is = get_or-drop R.starts w (z + 1) 0 ∙ ap (λ (n : ℕ). get_or w n 0) (omega arith) ∙ sym eb

  -- Its next place is not before its row's start.
  start_le : get_or (drop R.starts w) z 0 ≤ wa
  start_le = omega (arith, S.1.1.deep.from z z_zone, ea)

  -- Its next place is not behind its row's end.
  pub a_le : wa ≤ wb
  a_le = omega (arith, S.1.1.deep.upto z z_zone, ea, stop_is)

  -- Its row lies in the memory.
  pub b_fits : R.rows + wb ≤ length w
  b_fits = rw stop_is at (P.fits z z_zone)

  -- Its heads are zones.
  pub z_heads : (i : ℕ) → R.rows + wa ≤ i → i < R.rows + wb → get_or w i 0 < R.zones
  z_heads i l h = rw (row_at P i (omega arith)) at
      (P.sound.heads z i z_zone (omega (arith, start_le)) (omega (arith, stop_is)))

  -- Where the look finds nothing, all its heads have marks.
  pub z_full : FirstIn w (R.rows + wa) (R.rows + wb) O.seen None → Full w R O t
  z_full F i = rw (sym ez, sym ea, stop_is) (λ l h. rw (row_at P i (omega arith)) (F i l h))

  -- Where it finds place i, the next place is moved on behind it.
  pub z_advanced : (i : ℕ) → FirstIn w (R.rows + wa) (R.rows + wb) O.seen (Some i) → {w' : List ℕ}
      → w' ≡ set w (O.next + z) (R.rows + wa + i + 1 - R.rows)
      → Advanced w w' R O t (get_or w (R.rows + wa + i) 0)
  z_advanced i F made = record {
    place = R.rows + wa + i;
    low = rw (sym ez, sym ea) (omega arith);
    high = rw (sym ez, stop_is) F.0;
    is = refl;
    free = F.1.0;
    prior = λ k. rw (sym ez, sym ea) (F.1.1 k);
    made = rw (sym ez) made;
  }
