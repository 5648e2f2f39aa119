-- What the contracts of the second pass say of lent work memory: the roots and the queue at S, behind them the order
-- at O, the rows at R and the turned rows at T. A root number is 0, or one more than the zone that is the root.
--   Collectable        what the pass is handed: no roots yet, a finishing order, and the rows turned round
--   Collecting   the pass when the places from k on of the order are done and the queue ends at `tail`
--   Collected    what the pass leaves
use Rattle.std.specs.Prelude.{◌≡◌, ◌↔◌, List, ℕ, ◌+◌, ◌≤◌, ◌<◌, length}
use Rattle.workmap.specs.declared.RowsAt.{RowsAt}
use Rattle.workmap.specs.declared.SearchAt.{SearchAt}
use Rattle.workmap.specs.declared.OrderAt.{OrderAt}
use Rattle.memory.specs.Regions.{cell}
use Rattle.arranged.specs.Rows.{Sound, Entry, rows_of}
use Rattle.arranged.specs.Marks.{zeros}
use Rattle.search.specs.Marking.{Kept, Laid}
use Rattle.descent.specs.Memory.{Finished}
use Rattle.roots.specs.Pass.{Mutual, Pass, Topo}

-- roots are clear, the order has its property, and the turned rows are the rows turned round
pub record Collectable (w : List ℕ) (R T : RowsAt) (O : OrderAt) (S : SearchAt) : Type 0 where
  pub zones : T.zones ≡ R.zones
  pub laid : Laid w T S
  pub clear : (v : ℕ) → v < T.zones → cell w S.marks v ≡ 0
  pub order_behind : S.queue + T.zones ≤ O.order
  pub order_fits : O.order + T.zones ≤ length w
  pub forward : Sound (rows_of w R)
  pub finished : Finished w R O
  pub turn_to : (a b : ℕ) → Entry (rows_of w R) a b → Entry (rows_of w T) b a
  pub turn_back : (a b : ℕ) → Entry (rows_of w T) b a → Entry (rows_of w R) a b

-- the second pass when the places from k on of the order are done and the queue ends at `tail`
pub record Collecting (w₀ w : List ℕ) (R T : RowsAt) (O : OrderAt) (S : SearchAt) (k tail : ℕ) : Type 0 where
  pub rest : Kept w₀ w S.marks S.queue T.zones
  pub room : tail + zeros w S.marks T.zones ≡ T.zones
  pub pass : Pass (Entry (rows_of w₀ R)) (cell w₀ O.order) (cell w S.marks) T.zones k
  pub topo : Topo (Entry (rows_of w₀ R)) (cell w S.marks) (cell w S.queue) T.zones tail

-- two zones have one root exactly where each leads to the other; the queue lists all zones by component, in
-- topological order; only roots and queue may differ
pub record Collected (w₀ w : List ℕ) (R T : RowsAt) (S : SearchAt) : Type 0 where
  pub rest : Kept w₀ w S.marks S.queue T.zones
  pub root : (v : ℕ) → v < T.zones → (0 < cell w S.marks v) × (cell w S.marks v ≤ T.zones)
  pub same : (u v : ℕ) → u < T.zones → v < T.zones
      → (cell w S.marks u ≡ cell w S.marks v) ↔ Mutual (Entry (rows_of w₀ R)) u v
  pub topo : Topo (Entry (rows_of w₀ R)) (cell w S.marks) (cell w S.queue) T.zones T.zones
