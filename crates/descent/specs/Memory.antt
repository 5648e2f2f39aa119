-- What the contracts of the first pass say of lent work memory, at the places R of the arranged rows and O of the
-- pass: when each zone was seen, next places and the order, of one element for each zone and in this order, and behind
-- them the rows.
--   O.seen    when each zone was seen, 0 where it was not: its mark
--   O.next    for each zone the next place of its row, counted from where the rows begin
--   O.order   the zones that have ended from the left, the stack from the right
use Rattle.std.specs.Prelude.{◌≡◌, List, ℕ, ◌+◌, ◌-◌, ◌≤◌, ◌<◌, length, get_or, set, take, drop, Option, Some, None}
use Rattle.workmap.specs.declared.RowsAt.{RowsAt}
use Rattle.workmap.specs.declared.OrderAt.{OrderAt}
use Rattle.arranged.specs.Rows.{Sound, Entry, rows_of}
use Rattle.arranged.specs.Marks.{zeros, Marked}
use Rattle.memory.specs.Regions.{cell}
use Rattle.descent.specs.Order.{EndedOrdered, InOrder}
use Rattle.descent.specs.Deep.{Deep}

-- the regions lie one behind the other, inside the memory, and the rows are sound
pub record Ready (w : List ℕ) (R : RowsAt) (O : OrderAt) : Type 0 where
  pub small : R.zones ≤ 1024
  pub apart : O.seen + R.zones ≤ O.next
  pub before : O.next + R.zones ≤ O.order
  pub order_before : O.order + R.zones ≤ R.starts
  pub starts_before : R.starts + R.zones < R.rows
  pub inside : R.rows ≤ length w
  pub few : (z : ℕ) → z < R.zones → get_or (drop R.starts w) (z + 1) 0 ≤ 4096
  pub fits : (z : ℕ) → z < R.zones → R.rows + get_or (drop R.starts w) (z + 1) 0 ≤ length w
  pub sound : Sound (rows_of w R)

-- the memory is that of a deep search; what lies between ended zones and stack are as many places as zones are unseen
pub record State (w : List ℕ) (R : RowsAt) (O : OrderAt) (lo hi : ℕ) : Type 0 where
  pub end : hi ≤ R.zones
  pub room : lo + zeros w O.seen R.zones ≡ hi
  pub deep :
      Deep (rows_of w R) (cell w O.seen) (cell w O.order) (λ z. R.rows + cell w O.next z) lo hi

-- only marks, next places and the order may differ, and no mark is cleared
pub record OrderKept (w w' : List ℕ) (R : RowsAt) (O : OrderAt) : Type 0 where
  pub long : length w' ≡ length w
  pub front : take O.seen w' ≡ take O.seen w
  pub back : drop R.starts w' ≡ drop R.starts w
  pub more : (v : ℕ) → v < R.zones → Marked w O.seen v → Marked w' O.seen v

-- the heads of the zone at place r of the order all have marks, from its next place on
abbrev pub Full : List ℕ → RowsAt → OrderAt → ℕ → Type 0
Full w R O r =
    (i : ℕ) →
    R.rows + cell w O.next (cell w O.order r) ≤ i →
    i < R.rows + get_or (drop R.starts w) (cell w O.order r + 1) 0 →
    Marked w O.seen (get_or (drop R.starts w) (i - R.starts) 0)

-- h is the first head with no mark of the zone at place t of the order, from its next place on, which has moved on
-- behind it
pub record Advanced (w w' : List ℕ) (R : RowsAt) (O : OrderAt) (t h : ℕ) : Type 0 where
  pub place : ℕ
  pub low : R.rows + cell w O.next (cell w O.order t) ≤ place
  pub high : place < R.rows + get_or (drop R.starts w) (cell w O.order t + 1) 0
  pub is : get_or w place 0 ≡ h
  pub free : cell w O.seen h ≡ 0
  pub prior : (k : ℕ) → R.rows + cell w O.next (cell w O.order t) ≤ k → k < place
      → Marked w O.seen (get_or w k 0)
  pub made : w' ≡ set w (O.next + cell w O.order t) (place + 1 - R.rows)

-- there is such a head, or nothing has changed and all heads have marks
abbrev pub Advancing : List ℕ → List ℕ → RowsAt → OrderAt → ℕ → Option ℕ → Type 0
Advancing w w' R O t (Some h) = Advanced w w' R O t h
Advancing w w' R O t None = (w' ≡ w) × Full w R O t

-- after going down: the stack's top is at r
pub record Went (w w' : List ℕ) (R : RowsAt) (O : OrderAt) (lo r : ℕ) : Type 0 where
  pub kept : OrderKept w w' R O
  pub state : State w' R O lo r
  pub top : r < R.zones

-- after the search from r: r is seen, and the stack is empty
pub record Begun (w w' : List ℕ) (R : RowsAt) (O : OrderAt) (lo r : ℕ) : Type 0 where
  pub kept : OrderKept w w' R O
  pub state : State w' R O lo R.zones
  pub first : Marked w' O.seen r

-- the finishing order is whole and has its property
pub record Finished (w : List ℕ) (R : RowsAt) (O : OrderAt) : Type 0 where
  pub zone : (i : ℕ) → i < R.zones → cell w O.order i < R.zones
  pub ordered : EndedOrdered (Entry (rows_of w R)) (cell w O.seen) (cell w O.order) R.zones
  pub stands : (v : ℕ) → v < R.zones → InOrder (cell w O.order) R.zones v
