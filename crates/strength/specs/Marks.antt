-- What is read off the marks of a search.
--   Everywhere w R from gone   `from` comes to every zone that is not withdrawn, along the rows R
--   Sweepable               what such a search asks: clear marks, and withdrawn numbers that are zones
--   Swept                   a search that says whether it came to every such zone
use Rattle.std.specs.Prelude.{◌≡◌, Bool, true, false, ℕ, ◌<◌}
use mathlib.Core.List.{List, Memᴰ as In}
use Rattle.rules.specs.Lists.{listed}
use Rattle.workmap.specs.declared.RowsAt.{RowsAt}
use Rattle.workmap.specs.declared.SearchAt.{SearchAt}
use Rattle.arranged.specs.Rows.{Entry, Run, rows_of}
use Rattle.search.specs.Marking.{Kept, Clear, Searchable}

-- `from` comes to every zone that is not withdrawn, along the rows in w
abbrev pub Everywhere : List ℕ → RowsAt → ℕ → List ℕ → Type 0
Everywhere w R from gone = (v : ℕ) → v < R.zones → listed gone v ≡ false → Run (Entry (rows_of w R)) from v

-- a search can go from `from`, no zone has a mark, and each withdrawn number has a place for one
pub record Sweepable (w : List ℕ) (R : RowsAt) (S : SearchAt) (from : ℕ) (gone : List ℕ) : Type 0 where
  pub able : Searchable w R S from
  pub clear : Clear w S.marks R.zones
  pub zones : (z : ℕ) → In z gone → z < R.zones

-- the answer says whether `from` comes to every such zone along the rows, and only marks and stack change
pub record Swept (w w' : List ℕ) (R : RowsAt) (S : SearchAt) (from : ℕ) (gone : List ℕ) (b : Bool) : Type 0 where
  pub kept : Kept w w' S.marks S.queue R.zones
  pub yes : b ≡ true → Everywhere w R from gone
  pub no : Everywhere w R from gone → b ≡ true
