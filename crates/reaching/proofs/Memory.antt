-- Searches in work memory in which a network's rows are arranged.
--   arranged_searchable   a search can go along arranged arcs that lie behind its queue
--   rows_searchable       a search can go along the rows
-- Assumes nothing.
use mathlib.Core.Path.{◌≡◌}
use mathlib.Core.List.{List}
use Prim.Native.Nat.{ℕ, ◌+◌, ◌≤◌, ◌<◌}
use native.Mathlib.Omega.{arith}
use lib.ListN.{length}
use Rattle.rules.specs.Network.{Arc}
use Rattle.rules.specs.Calls.{arcs_of}
use Rattle.workmap.specs.declared.RowsAt.{RowsAt}
use Rattle.workmap.specs.declared.SearchAt.{SearchAt}
use Rattle.workmap.specs.declared.Map.{Map}
use Rattle.workmap.proofs.Places.{placed}
use Rattle.arranged.specs.Arranged.{ArrangedAt, Between}
use Rattle.arranged.specs.Ready.{Readyable}
use Rattle.arranged.proofs.ReadyLaws.{arcs_within, rows_fit}
use Rattle.search.specs.Marking.{Clear, Searchable}
use Rattle.search.proofs.Closed.{clear_closed}
use Rattle.search.proofs.Laying.{arranged_laid}

module _ (m : Map) (ts hs w : List ℕ) (A : Readyable m ts hs w) where
  module _ (v : List ℕ) (long : length v ≡ length w) (S : SearchAt) (apart : S.marks + m.zones ≤ S.queue)
      (below : S.queue + m.zones ≤ m.rows.starts) (from : ℕ) (zone : from < m.zones) where
    -- a search can go along arranged arcs that lie behind the queue, in the asked part
    pub arranged_searchable : (R : RowsAt) (es : List Arc) → R.zones ≡ m.zones → Clear v S.marks R.zones →
        ArrangedAt v R es → Between m.zones es → m.rows.starts ≤ R.starts → R.rows + length es ≤ m.asked →
        Searchable v R S from
    arranged_searchable R es same clear B W low high =
        record {
          laid =
              arranged_laid v R.zones R.starts R.rows S.marks S.queue es B (rw same W)
              (omega (arith, A.fine.accepted.zones_most)) (omega arith) (omega arith) (omega (arith, A.room));
          closed = clear_closed v R.zones R.starts R.rows S.marks clear;
          zone = omega arith;
        }

    -- a search can go along the rows
    pub rows_searchable : Clear v S.marks m.rows.zones → ArrangedAt v m.rows (arcs_of ts hs) →
        Searchable v m.rows S from
    rows_searchable clear B =
        let p = placed A.map in
        arranged_searchable m.rows (arcs_of ts hs) p.rows_zones clear B (arcs_within m.zones ts hs A.fine)
        (omega arith) (rows_fit m ts hs w A)
