-- Closed marks: where a zone has a mark, all of its row has.
--   closed_run       a run that begins at a mark never leaves closed marks
--   clear_closed     clear marks are closed
--   searched_clear   after a search from clear marks a run leads to whatever has a mark
-- Assumes nothing.
use mathlib.Core.Path.{sym}
use mathlib.Core.Logic.{⊎_elim}
use mathlib.Core.List.{List}
use Prim.Native.Nat.{ℕ, ◌<◌}
use Rattle.arranged.specs.Rows.{Rows, Sound, Entry, Run, here, further, rows_of}
use Rattle.arranged.specs.Marks.{Marked}
use Rattle.workmap.specs.Map.{row_places, search_places}
use Rattle.search.specs.Marking.{Clear, Closed, Searched}

-- a run that begins at a mark never leaves closed marks
pub closed_run : {G : Rows} → Sound G → (w : List ℕ) (marks : ℕ) → Closed G w marks → {a v : ℕ} → a < G.zones →
    Marked w marks a → Run (Entry G) a v → (v < G.zones) × Marked w marks v
closed_run S w marks C h m here = (h, m)
closed_run S w marks C h m (further {b = b} p e) =
    let r = closed_run S w marks C h m p in
    rw (sym e.is) (
      S.heads b e.at r.0 e.low e.high,
      C b r.0 r.1 e.at e.low e.high,
    )

module _ (w : List ℕ) (zones starts rows marks : ℕ) (clear : Clear w marks zones) where
  -- clear marks are closed
  pub clear_closed : Closed (rows_of w (row_places zones starts rows)) w marks
  clear_closed v h m = absurd (m (clear v h))

  -- after a search from clear marks a run leads to whatever has a mark
  pub searched_clear : (w' : List ℕ) (from stack : ℕ) → Searched w w' (row_places zones starts rows)
      (search_places marks stack) from →
      (v : ℕ) → v < zones → Marked w' marks v → Run (Entry (rows_of w (row_places zones starts rows))) from v
  searched_clear w' from stack S v h m = ⊎_elim (λ o. absurd (o (clear v h))) (λ r. r) (S.sound v h m)
