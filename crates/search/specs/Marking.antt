-- What the search over arranged rows asks and leaves in lent work memory: marks, then a queue, then the rows. A search
-- gives a mark x to the zones that it meets, and lists them on the queue behind the `top` zones that stand there.
--   Kept                     only the marks and the queue may differ: two stretches of n elements
--   rows_in w R              the rows that stand in w at the places R
--   Laid                     marks and queue lie before the rows, and every row lies in the memory
--   Clear w marks n          no zone has a mark
--   RowMarked, Closed       all of a zone's row has marks; that is so of every zone that has a mark
--   Searchable, Searched     what a search with the mark 1 and an empty queue asks, and what it leaves: the marks that
--                            were there, and marks exactly where a run of entries leads
--   Queued q f t v           v is q at a place from f up to t
--   Met                      v had no mark and has x, and a run of entries leads to it
--   Spreadable, Spread       what any search asks, and what it leaves
--   Spreading, Underway      a search in the middle: the rows of the zones on the queue before `head` are done
--   Drained                  the queue is gone through to its end
--   Visitable, Visited       one row: its zones without a mark get x and join the queue
-- No mark is 0.
use Rattle.std.specs.Prelude.{◌≡◌, ◌⊎◌, List, ℕ, ◌+◌, ◌≤◌, ◌<◌, length, get_or, take, drop}
use Rattle.std.proofs.Math.Seq.{slice}
use Rattle.workmap.specs.declared.RowsAt.{RowsAt}
use Rattle.workmap.specs.declared.SearchAt.{SearchAt}
use Rattle.memory.specs.Regions.{cell}
use Rattle.arranged.specs.Rows.{Rows, Sound, Entry, Run, rows_of}
use Rattle.arranged.specs.Marks.{Marked, zeros}

-- only the n elements from marks on and the n from queue on may differ
pub record Kept (w w' : List ℕ) (marks queue n : ℕ) : Type 0 where
  pub long : length w' ≡ length w
  pub below : take marks w' ≡ take marks w
  pub between : slice (marks + n) queue w' ≡ slice (marks + n) queue w
  pub above : drop (queue + n) w' ≡ drop (queue + n) w

-- the rows that stand in w at the places R
abbrev pub rows_in : List ℕ → RowsAt → Rows
rows_in w R = rows_of w R

-- the rows lie in the memory, and the marks and the queue lie before them
pub record Laid (w : List ℕ) (R : RowsAt) (S : SearchAt) : Type 0 where
  pub small : R.zones ≤ 1024
  pub apart : S.marks + R.zones ≤ S.queue
  pub before : S.queue + R.zones ≤ R.starts
  pub order : R.starts + R.zones < R.rows
  pub fits : R.rows ≤ length w
  pub ends : (z : ℕ) → z < R.zones → (rows_in w R).stop z ≤ length w
  pub sound : Sound (rows_in w R)

-- no zone has a mark
abbrev pub Clear : List ℕ → ℕ → ℕ → Type 0
Clear w marks n = (v : ℕ) → v < n → get_or w (marks + v) 0 ≡ 0

-- every zone in the row of v has a mark in w
abbrev pub RowMarked : Rows → List ℕ → ℕ → ℕ → Type 0
RowMarked G w marks v = (i : ℕ) → G.start v ≤ i → i < G.stop v → Marked w marks (G.head i)

-- the marks are closed: where a zone has one, all of its row has
abbrev pub Closed : Rows → List ℕ → ℕ → Type 0
Closed G w marks = (v : ℕ) → v < G.zones → Marked w marks v → RowMarked G w marks v

-- what the search asks: the memory is laid out, the marks are closed, and the start is a zone
pub record Searchable (w : List ℕ) (R : RowsAt) (S : SearchAt) (from : ℕ) : Type 0 where
  pub laid : Laid w R S
  pub closed : Closed (rows_in w R) w S.marks
  pub zone : from < R.zones

-- what the search leaves: the marks that were there, and marks exactly where a run of entries leads; they are closed
-- again, and all but marks and queue is as it was
pub record Searched (w w' : List ℕ) (R : RowsAt) (S : SearchAt) (from : ℕ) : Type 0 where
  pub kept : Kept w w' S.marks S.queue R.zones
  pub rows_kept : drop R.starts w' ≡ drop R.starts w
  pub old : (v : ℕ) → v < R.zones → Marked w S.marks v → Marked w' S.marks v
  pub sound :
      (v : ℕ) → v < R.zones → Marked w' S.marks v → Marked w S.marks v ⊎ Run (Entry (rows_in w R)) from v
  pub complete : (v : ℕ) → Run (Entry (rows_in w R)) from v → (v < R.zones) × Marked w' S.marks v
  pub closed : Closed (rows_in w R) w' S.marks

-- v is q at a place from `from` up to `to`
pub record Queued (q : ℕ → ℕ) (from to v : ℕ) : Type 0 where
  pub at : ℕ
  pub low : from ≤ at
  pub high : at < to
  pub is : q at ≡ v

-- v had no mark in w and has x in w', and a run of entries leads to it
pub record Met (w w' : List ℕ) (R : RowsAt) (S : SearchAt) (from x v : ℕ) : Type 0 where
  pub zone : v < R.zones
  pub free : cell w S.marks v ≡ 0
  pub mark : cell w' S.marks v ≡ x
  pub run : Run (Entry (rows_in w R)) from v

-- what a search asks that marks with x: the queue, which holds `top` zones, has room for those without a mark
pub record Spreadable (w : List ℕ) (R : RowsAt) (S : SearchAt) (from x top : ℕ) : Type 0 where
  pub able : Searchable w R S from
  pub some : 0 < x
  pub room : top + zeros w S.marks R.zones ≤ R.zones

-- a search that began at w: from `top` up to `tail` the queue lists the zones that it met, each once and the start
-- first, and those before `head` have rows that are full of marks; marks that were there are as they were
pub record Spreading (w w' : List ℕ) (R : RowsAt) (S : SearchAt) (from x top head tail : ℕ) : Type 0 where
  pub able : Spreadable w R S from x top
  pub kept : Kept w w' S.marks S.queue R.zones
  pub room : tail + zeros w' S.marks R.zones ≡ top + zeros w S.marks R.zones
  pub low : top ≤ head
  pub high : head ≤ tail
  pub first : top < tail → cell w' S.queue top ≡ from
  pub front : (j : ℕ) → j < top → cell w' S.queue j ≡ cell w S.queue j
  pub old : (v : ℕ) → v < R.zones → Marked w S.marks v → cell w' S.marks v ≡ cell w S.marks v
  pub listed :
      (v : ℕ) → v < R.zones → Marked w' S.marks v → Marked w S.marks v ⊎ Queued (cell w' S.queue) top tail v
  pub met : (j : ℕ) → top ≤ j → j < tail → Met w w' R S from x (cell w' S.queue j)
  pub once : (i j : ℕ) → top ≤ i → i < j → j < tail → cell w' S.queue i ≡ cell w' S.queue j → ⊥
  pub done : (j : ℕ) → top ≤ j → j < head → RowMarked (rows_in w R) w' S.marks (cell w' S.queue j)

-- what a search leaves, with the queue's end at r: it has gone through the queue, so the marks are closed again, and
-- each zone that a run of entries leads to has one; where the start had a mark nothing changes
pub record Spread (w w' : List ℕ) (R : RowsAt) (S : SearchAt) (from x top r : ℕ) : Type 0 where
  pub course : Spreading w w' R S from x top r r
  pub idle : Marked w S.marks from → (w' ≡ w) × (r ≡ top)
  pub complete : (v : ℕ) → Run (Entry (rows_in w R)) from v → (v < R.zones) × Marked w' S.marks v
  pub closed : Closed (rows_in w R) w' S.marks

-- some search has met one zone, and has gone through none
pub record Underway (w : List ℕ) (R : RowsAt) (S : SearchAt) (x top : ℕ) : Type 0 where
  pub began : List ℕ
  pub from : ℕ
  pub course : Spreading began w R S from x top top (top + 1)

-- any search that had met one zone has gone through its queue
pub record Drained (w w' : List ℕ) (R : RowsAt) (S : SearchAt) (x top r : ℕ) : Type 0 where
  pub grown : top < r
  pub goes_on : (v : List ℕ) (from : ℕ) → Spreading v w R S from x top top (top + 1)
      → Spreading v w' R S from x top r r

-- a row from place a up to place b can be visited with the queue's end at `tail`
pub record Visitable (w : List ℕ) (R : RowsAt) (S : SearchAt) (x a b tail : ℕ) : Type 0 where
  pub some : 0 < x
  pub apart : S.marks + R.zones ≤ S.queue
  pub before : S.queue + R.zones ≤ a
  pub order : a ≤ b
  pub fits : b ≤ length w
  pub heads : (i : ℕ) → a ≤ i → i < b → get_or w i 0 < R.zones
  pub room : tail + zeros w S.marks R.zones ≤ R.zones

-- the row is visited, and the queue's end is r: each of its zones has a mark, and any search for which runs of entries
-- lead to them has met them
pub record Visited (w w' : List ℕ) (R : RowsAt) (S : SearchAt) (x a b tail r : ℕ) : Type 0 where
  pub kept : Kept w w' S.marks S.queue R.zones
  pub room : r + zeros w' S.marks R.zones ≡ tail + zeros w S.marks R.zones
  pub grown : tail ≤ r
  pub front : (j : ℕ) → j < tail → cell w' S.queue j ≡ cell w S.queue j
  pub all : (i : ℕ) → a ≤ i → i < b → Marked w' S.marks (get_or w i 0)
  pub goes_on : (v : List ℕ) (from top head : ℕ) → Spreading v w R S from x top head tail → head < tail
      → ((i : ℕ) → a ≤ i → i < b → Run (Entry (rows_in v R)) from (get_or w i 0))
      → Spreading v w' R S from x top head r
