-- What a search along the rows tells of the network.
--   run_reaches, reaches_run   a run along the rows is a reach, and a reach such a run
--   reached_truth              a mark at b after a search from a: a reaches b
-- Assumes nothing.
use mathlib.Core.Path.{◌≡◌}
use mathlib.Core.List.{List}
use mathlib.Core.Bool.{not}
use Prim.Native.Nat.{ℕ, ◌+◌, ◌<◌}
use native.Mathlib.Omega.{arith}
use lib.Dec.{eqb}
use lib.ListN.{get_or}
use borrow.Author.Tests.{ne_eqb, not-true, eqb-false}
use Rattle.rules.specs.Network.{Reach, reaches}
use Rattle.rules.specs.Calls.{arcs_of, handed}
use Rattle.theory.proofs.Files.Accepting.{Fine, fine_proper}
use Rattle.theory.proofs.Ground.Bools.{bool_agree, false_not}
use Rattle.theory.proofs.Reaching.Reach.{reaches_sound, reaches_complete}
use Rattle.workmap.specs.declared.RowsAt.{RowsAt}
use Rattle.workmap.specs.declared.SearchAt.{SearchAt}
use Rattle.arranged.specs.Rows.{Entry, Run, rows_of}
use Rattle.arranged.specs.Marks.{Marked}
use Rattle.arranged.specs.Arranged.{ArrangedAt}
use Rattle.arranged.proofs.ArrangedLaws.{run_reach, reach_run}
use Rattle.arranged.proofs.ReadyLaws.{arcs_within}
use Rattle.search.specs.Marking.{Clear, Searched}
use Rattle.search.proofs.Closed.{searched_clear}

module _ (n : ℕ) (ts hs : List ℕ) (F : Fine n ts hs) where
  module _ (w : List ℕ) (R : RowsAt) (same : R.zones ≡ n) where
    -- a run along the rows is a reach
    pub run_reaches : ArrangedAt w R (arcs_of ts hs) → {a b : ℕ} → Run (Entry (rows_of w R)) a b →
        Reach (handed n ts hs) a b
    unfolding handed
    run_reaches A r = rw same at (run_reach w R (arcs_of ts hs) A r)

    -- a reach is a run along the rows
    pub reaches_run : ArrangedAt w R (arcs_of ts hs) → {a b : ℕ} → Reach (handed n ts hs) a b →
        Run (Entry (rows_of w R)) a b
    unfolding handed
    reaches_run A r = reach_run w R (arcs_of ts hs) A (rw same (arcs_within n ts hs F)) (rw same r)

  -- a search from a zone along the rows marks another exactly where it reaches it
  pub reached_truth : (w w' : List ℕ) (R : RowsAt) (S : SearchAt) (from to : ℕ) → R.zones ≡ n → to < n →
      ArrangedAt w R (arcs_of ts hs) → Clear w S.marks R.zones →
      Searched w w' R S from →
      not (eqb (get_or w' (S.marks + to) 0) 0) ≡ reaches (handed n ts hs) from to
  reached_truth w w' R S from to same h A clear D =
      let mark = get_or w' (S.marks + to) 0 in
      bool_agree
      (λ e.
      let marked : Marked w' S.marks to = eqb-false mark 0 (not-true _ e) in
      let run =
      searched_clear w R.zones R.starts R.rows S.marks clear w' from S.queue D to (omega arith) marked
      in
      reaches_complete (fine_proper n ts hs F) (run_reaches w R same A run))
      (λ e.
      let m = (D.complete to (reaches_run w R same A (reaches_sound (handed n ts hs) from to e))).1 in
      false_not (ne_eqb mark 0 m))
