-- What stays where only marks and queue change. `Kept` holds of a store into either, and of one change after another.
--   kept_same, kept_then, kept_marks, kept_queue     nothing, two changes, a store
--   kept_at, kept_rows                               what lies behind the queue is as it was: an element, the rows
--   head_at, start_at, stop_at                       the rows that stand in w, said of w's elements
-- Assumes nothing.
use mathlib.Core.Path.{◌≡◌, refl, ap, ◌∙◌}
use mathlib.Core.List.{List}
use Prim.Native.Nat.{ℕ, ◌+◌, ◌-◌, ◌≤◌, ◌<◌}
use native.Mathlib.Omega.{arith}
use lib.ListN.{get_or, take, drop, set, length-set}
use lib.Seq.{get_or-drop, take-set-le, take-set-lt, drop-set-lt}
use Rattle.memory.proofs.Places.{drop_deeper}
use Rattle.workmap.specs.Map.{row_places}
use Rattle.arranged.specs.Rows.{rows_of}
use Rattle.memory.proofs.Regions.{at_kept}
use Rattle.search.specs.Marking.{Kept}

-- nothing changes
pub kept_same : (w : List ℕ) (marks queue n : ℕ) → Kept w w marks queue n
kept_same w marks queue n = record { long = refl; below = refl; between = refl; above = refl }

-- one change after another
pub kept_then : {w w' w'' : List ℕ} {marks queue n : ℕ} →
    Kept w w' marks queue n → Kept w' w'' marks queue n → Kept w w'' marks queue n
kept_then p q =
    record {
      long = q.long ∙ p.long;
      below = q.below ∙ p.below;
      between = q.between ∙ p.between;
      above = q.above ∙ p.above;
    }

module _ (w : List ℕ) (marks queue n i x : ℕ) (apart : marks + n ≤ queue) where
  -- a store among the marks
  pub kept_marks : marks ≤ i → i < marks + n → Kept w (set w i x) marks queue n
  kept_marks low high =
      record {
        long = length-set w i x;
        below = take-set-le marks w i x low;
        between =
            ap (drop (marks + n)) (take-set-lt queue w i x (omega arith))
            ∙ drop-set-lt (marks + n) (take queue w) i x high;
        above = drop-set-lt (queue + n) w i x (omega arith);
      }

  -- a store into the queue
  pub kept_queue : queue ≤ i → i < queue + n → Kept w (set w i x) marks queue n
  kept_queue low high =
      record {
        long = length-set w i x;
        below = take-set-le marks w i x (omega arith);
        between = ap (drop (marks + n)) (take-set-le queue w i x low);
        above = drop-set-lt (queue + n) w i x high;
      }

module _ (w w' : List ℕ) (marks queue n : ℕ) (K : Kept w w' marks queue n) where
  -- an element behind the queue is as it was
  pub kept_at : (i : ℕ) → queue + n ≤ i → get_or w' i 0 ≡ get_or w i 0
  kept_at i h = at_kept w w' (queue + n) i h K.above

  -- rows behind the queue are as they were
  pub kept_rows : (starts : ℕ) → queue + n ≤ starts → drop starts w' ≡ drop starts w
  kept_rows starts h = drop_deeper w w' (queue + n) starts h K.above

module _ (w : List ℕ) (zones starts rows : ℕ) where
  -- the head at a place of the rows
  pub head_at : (i : ℕ) → starts ≤ i → (rows_of w (row_places zones starts rows)).head i ≡ get_or w i 0
  head_at i h = get_or-drop starts w (i - starts) 0 ∙ ap (λ (k : ℕ). get_or w k 0) (omega arith)

  -- where a row starts
  pub start_at : (z : ℕ) → (rows_of w (row_places zones starts rows)).start z ≡ rows + get_or w (starts + z) 0
  start_at z = ap (λ (k : ℕ). rows + k) (get_or-drop starts w z 0)

  -- where a row stops
  pub stop_at : (z : ℕ) → (rows_of w (row_places zones starts rows)).stop z ≡ rows + get_or w (starts + z + 1) 0
  stop_at z =
      ap (λ (k : ℕ). rows + k) (get_or-drop starts w (z + 1) 0 ∙ ap (λ (k : ℕ). get_or w k 0) (omega arith))
