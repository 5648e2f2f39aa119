-- The loop that unites the rows of heads: its invariant, with its start, one turn and its end.
--   Uniting w u b j at to     the heads from `at` on, united into row j of what stands there now, give what all heads
--                             of row j give, and behind the table nothing changed
-- What is still to be done is said over what is left of the row, so a turn is an unfolding. Assumes nothing.
use mathlib.Core.Path.{◌≡◌, refl, sym, ap, ◌∙◌}
use mathlib.Core.List.{List}
use Prim.Native.Nat.{ℕ, ◌+◌, ◌*◌, ◌≤◌, ◌<◌}
use native.Mathlib.Omega.{arith}
use lib.ListN.{length, get_or, drop}
use Rattle.memory.specs.Regions.{cell}
use Rattle.bits.specs.Bits.{with_words}
use Rattle.bits.proofs.Tables.{row_room, with_words_long, with_words_behind}
use Rattle.uniting.specs.declared.Block.{Block}
use Rattle.uniting.specs.Uniting.{row_heads, BlockLaid, united}
use Rattle.uniting.proofs.HeadsLeft.{left_of, HeadsLeft, left_all, left_start, left_none, left_more, left_low}
use Rattle.uniting.proofs.HeadsLeft.{left_cons}

-- all heads before `at` are united
pub record Uniting (w u : List ℕ) (b : Block) (j at to : ℕ) : Type 0 where
  pub rest : HeadsLeft w b j at to
  pub long : length u ≡ length w
  pub behind : drop (b.places * 8) u ≡ drop (b.places * 8) w
  pub still : united u j (left_of w at to) ≡ united w j (row_heads w b j)

-- at first none is
pub unite_start : {w : List ℕ} {b : Block} → BlockLaid w b → (j : ℕ) → j < b.places → (from to : ℕ) →
    from ≡ b.rows + cell w b.starts j → to ≡ b.rows + cell w b.starts (j + 1) → Uniting w w b j from to
unite_start {w} {b} L j h from to start end =
    record {
      rest = left_start L j h from to start end;
      long = refl;
      behind = refl;
      still = ap (united w j) (left_all L j h from to start end);
    }

module _ {w u : List ℕ} {b : Block} {j at to : ℕ} (L : BlockLaid w b) (l : j < b.places)
    (T : Uniting w u b j at to) (h : at < to) (k : ℕ) (e : k ≡ get_or u at 0) where
  -- the next head is a place
  pub unite_low : k < b.places
  unite_low = left_low T.rest h L u T.behind k e

  -- both rows lie in the memory
  pub unite_rooms : (j * 8 + 8 ≤ length u) × (k * 8 + 8 ≤ length u)
  unite_rooms = (
    omega (arith, row_room 8 b.places j l, L.tops_behind, L.tops_fit, T.long),
    omega (arith, row_room 8 b.places k unite_low, L.tops_behind, L.tops_fit, T.long),
  )

  -- one head more
  pub unite_turn : (v : List ℕ) → v ≡ with_words u (j * 8) (k * 8) 8 → Uniting w v b j (at + 1) to
  unfolding united
  unite_turn v q =
      record {
        rest = left_more T.rest h;
        long = ap length q ∙ with_words_long u (j * 8) (k * 8) 8 ∙ T.long;
        behind =
            ap (drop (b.places * 8)) q
            ∙ with_words_behind (b.places * 8) u (j * 8) (k * 8) 8 (row_room 8 b.places j l)
            ∙ T.behind;
        still =
            ap (λ (x : List ℕ). united x j (left_of w (at + 1) to)) q
            ∙ ap (united u j) (sym (left_cons T.rest h L u T.behind k e))
            ∙ T.still;
      }

-- all of them
pub unite_end : {w u : List ℕ} {b : Block} {j at to : ℕ} → Uniting w u b j at to → to ≤ at →
    u ≡ united w j (row_heads w b j)
unfolding united
unite_end {w} {u} {b} {j} {at} {to} T h = ap (united u j) (sym (left_none w at to h)) ∙ T.still
