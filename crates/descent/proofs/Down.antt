-- One turn of `descend` in the memory: a look along the row of the stack's top has found h and moved the top's next
-- place on, and h gets its mark and is put on the stack.
--   turn_went     after the stores the memory is that of the search with h on its stack
-- The three stores are a next place, a mark and a place of the order; the regions are told apart by their order in the
-- memory. Assumes nothing.
use mathlib.Core.Path.{◌≡◌, sym, ap, ◌∙◌}
use mathlib.Core.Logic.{inr, ◌≢◌}
use mathlib.Core.List.{List}
use Prim.Native.Nat.{ℕ, suc, ◌+◌, ◌-◌, ◌≤◌, ◌<◌}
use native.Mathlib.Omega.{arith}
use lib.ListN.{length, get_or, set, take, drop, length-set}
use lib.Seq.{get_or-set_same, get_or-set_other, drop-set-lt, take-set-le}
use Rattle.workmap.specs.declared.RowsAt.{RowsAt}
use Rattle.workmap.specs.declared.OrderAt.{OrderAt}
use Rattle.arranged.specs.Marks.{zeros, Marked}
use Rattle.arranged.proofs.Zeros.{zeros_other, zeros_mark}
use Rattle.memory.specs.Regions.{cell}
use Rattle.descent.specs.Memory.{Ready, State, OrderKept, Went, Advanced}
use Rattle.descent.proofs.Keeping.{order_kept_then}
use Rattle.descent.proofs.Push.{deeper}
use Rattle.descent.proofs.Looking.{row_at}

-- a list after three stores
module _ (w : List ℕ) {w' : List ℕ} (p q r x y u : ℕ) (made : w' ≡ set (set (set w p x) q y) r u) where
  -- Its length is the same.
  three_length : length w' ≡ length w
  three_length = rw made (simp length-set)

  -- Elsewhere it has what it had.
  three_other : (j : ℕ) → j ≢ p → j ≢ q → j ≢ r → get_or w' j 0 ≡ get_or w j 0
  three_other j a b c = rw made (
      get_or-set_other (set (set w p x) q y) r j u 0 c
      ∙ get_or-set_other (set w p x) q j y 0 b
      ∙ get_or-set_other w p j x 0 a)

  -- It has what was stored last.
  three_last : r < length w → get_or w' r 0 ≡ u
  three_last h = rw made (get_or-set_same (set (set w p x) q y) r u 0 (simp length-set h))

  -- It has what was stored second, where the third store went elsewhere.
  three_mid : q < length w → q ≢ r → get_or w' q 0 ≡ y
  three_mid h c = rw made (
      get_or-set_other (set (set w p x) q y) r q u 0 c ∙ get_or-set_same (set w p x) q y 0 (simp length-set h))

  -- It has what was stored first, where the later stores went elsewhere.
  three_first : p < length w → p ≢ q → p ≢ r → get_or w' p 0 ≡ x
  three_first h b c = rw made (
      get_or-set_other (set (set w p x) q y) r p u 0 c
      ∙ get_or-set_other (set w p x) q p y 0 b
      ∙ get_or-set_same w p x 0 h)

  -- Behind the stores it is the same.
  three_drop : (n : ℕ) → p < n → q < n → r < n → drop n w' ≡ drop n w
  three_drop n a b c = rw made (
      drop-set-lt n (set (set w p x) q y) r u c ∙ drop-set-lt n (set w p x) q y b ∙ drop-set-lt n w p x a)

  -- Before the stores it is the same.
  three_take : (n : ℕ) → n ≤ p → n ≤ q → n ≤ r → take n w' ≡ take n w
  three_take n a b c = rw made (
      take-set-le n (set (set w p x) q y) r u c ∙ take-set-le n (set w p x) q y b ∙ take-set-le n w p x a)

-- the stack has a top, and the look along its row has found h
module _ {w₀ w w₁ : List ℕ} {R : RowsAt} {O : OrderAt} {lo hi h : ℕ} (P : Ready w R O) (V : Went w₀ w R O lo hi)
    (A : Advanced w w₁ R O hi h) where
  -- the top
  abbrev z : ℕ
  z = cell w O.order hi

  -- The top is a zone.
  z_zone : z < R.zones
  z_zone = V.state.deep.zone hi (inr (omega arith, V.top))

  -- It stands behind the starts that h is at its place.
  head_is : get_or (drop R.starts w) (A.place - R.starts) 0 ≡ h
  head_is = row_at P A.place (omega (arith, A.low)) ∙ A.is

  -- h is a zone.
  pub h_zone : h < R.zones
  h_zone = rw head_is at (P.sound.heads z A.place z_zone (omega (arith, V.state.deep.from z z_zone, A.low)) A.high)

  -- The regions lie one behind the other.
  lay : (O.seen + R.zones ≤ O.next)
      × ((O.next + R.zones ≤ O.order) × ((O.order + R.zones ≤ R.starts) × (R.starts ≤ length w)))
  lay = (P.apart, (P.before, (P.order_before, omega (arith, P.starts_before, P.inside))))

  -- After the first two stores one mark more is set.
  fewer_two : suc
      (zeros (set (set w (O.next + z) (A.place + 1 - R.rows)) (O.seen + h) (lo + (R.zones - hi) + 1))
      O.seen R.zones) ≡ zeros w O.seen R.zones
  fewer_two =
      zeros_mark (set w (O.next + z) (A.place + 1 - R.rows)) O.seen R.zones h
      (lo + (R.zones - hi) + 1)
      (λ e. omega arith) h_zone (simp length-set (omega (arith, lay)))
      (get_or-set_other w (O.next + z) (O.seen + h) (A.place + 1 - R.rows) 0
      (λ e. omega (arith, h_zone, lay)) ∙ A.free)
      ∙ zeros_other w (O.next + z) (A.place + 1 - R.rows) O.seen R.zones (inr (omega (arith, lay)))

  -- There is room for one more on the stack.
  pub room : lo < hi
  room = omega (arith, fewer_two, V.state.room)

  -- h gets its mark, and is put on the stack
  module _ {w' : List ℕ}
      (stored : w' ≡ set (set w₁ (O.seen + h) (lo + (R.zones - hi) + 1)) (O.order + (hi - 1)) h) where
    -- The three stores of a turn.
    made : w' ≡ set
        (set (set w (O.next + z) (A.place + 1 - R.rows)) (O.seen + h) (lo + (R.zones - hi) + 1))
        (O.order + (hi - 1)) h
    made = rw A.made at stored

    -- One mark more is set.
    fewer : suc (zeros w' O.seen R.zones) ≡ zeros w O.seen R.zones
    fewer = rw made (
        ap suc (zeros_other _ (O.order + (hi - 1)) h O.seen R.zones (inr (omega (arith, lay)))) ∙ fewer_two)

    -- Elsewhere the memory has what it had.
    other : (j : ℕ) → j ≢ O.next + z → j ≢ O.seen + h → j ≢ O.order + (hi - 1) → get_or w' j 0 ≡ get_or w j 0
    other = three_other w (O.next + z) (O.seen + h) (O.order + (hi - 1)) _ _ _ made

    -- The new mark says when h was seen.
    mark : cell w' O.seen h ≡ lo + (R.zones - hi) + 1
    mark = three_mid w (O.next + z) (O.seen + h) (O.order + (hi - 1)) _ _ _ made
        (omega (arith, lay, h_zone)) (λ e. omega (arith, lay, h_zone))

    -- The other marks are kept.
    mark_other : (v : ℕ) → v < R.zones → v ≢ h → cell w' O.seen v ≡ cell w O.seen v
    mark_other v l ne = other (O.seen + v) (λ e. omega (arith, lay)) (λ e. ne (omega arith)) (λ e. omega (arith, lay))

    -- h is on the stack.
    put : cell w' O.order (hi - 1) ≡ h
    put = three_last w (O.next + z) (O.seen + h) (O.order + (hi - 1)) _ _ _ made (omega (arith, lay))

    -- The other places of the order are kept.
    put_other : (j : ℕ) → j < R.zones → j ≢ hi - 1 → cell w' O.order j ≡ cell w O.order j
    put_other j l ne = other (O.order + j)
        (λ e. omega (arith, lay, z_zone)) (λ e. omega (arith, lay, h_zone)) (λ e. ne (omega arith))

    -- The top's next place has moved on behind h.
    moved : R.rows + cell w' O.next z ≡ A.place + 1
    moved = rw (three_first w (O.next + z) (O.seen + h) (O.order + (hi - 1)) _ _ _ made
        (omega (arith, lay, z_zone)) (λ e. omega (arith, lay, h_zone)) (λ e. omega (arith, lay, z_zone)))
        (omega (arith, A.low))

    -- The other next places are kept.
    moved_other : (v : ℕ) → v < R.zones → v ≢ z → R.rows + cell w' O.next v ≡ R.rows + cell w O.next v
    moved_other v l ne = ap (λ (n : ℕ). R.rows + n) (other (O.next + v)
        (λ e. ne (omega arith)) (λ e. omega (arith, lay, h_zone)) (λ e. omega (arith, lay)))

    -- The rows are kept.
    back : drop R.starts w' ≡ drop R.starts w
    back = three_drop w (O.next + z) (O.seen + h) (O.order + (hi - 1)) _ _ _ made R.starts
        (omega (arith, lay, z_zone)) (omega (arith, lay, h_zone)) (omega (arith, lay))

    -- A turn keeps what the first pass keeps.
    pub turn_kept : OrderKept w w' R O
    turn_kept = record {
      long = three_length w (O.next + z) (O.seen + h) (O.order + (hi - 1)) _ _ _ made;
      front = three_take w (O.next + z) (O.seen + h) (O.order + (hi - 1)) _ _ _ made O.seen
          (omega (arith, lay)) (omega arith) (omega (arith, lay));
      back = back;
      more = λ v l m e. m (sym (mark_other v l (λ q. m (ap (cell w O.seen) q ∙ A.free))) ∙ e);
    }

    -- The heads before h have marks.
    prior : (k : ℕ) → R.rows + cell w O.next z ≤ k → k < A.place
        → Marked w O.seen (get_or (drop R.starts w) (k - R.starts) 0)
    prior k l m = rw (row_at P k (omega arith)) (A.prior k l m)

    -- A turn leaves the memory of the search with h on its stack.
    turn_state : State w' R O lo (hi - 1)
    turn_state = record {
      end = omega arith;
      room = omega (arith, fewer, V.state.room);
      deep = rw back (deeper P.sound (cell w O.seen) (cell w' O.seen) (cell w O.order) (cell w' O.order)
          (λ v. R.rows + cell w O.next v) (λ v. R.rows + cell w' O.next v) V.state.deep
          (omega (arith, room)) (omega (arith, room))
          V.top A.low A.high head_is prior A.free mark mark_other put put_other moved moved_other);
    }

    -- The stack has a top again, and what was kept until now is kept.
    pub turn_went : Went w₀ w' R O lo (hi - 1)
    turn_went = record { kept = order_kept_then V.kept turn_kept; state = turn_state; top = omega (arith, V.top) }
