-- The arranged rows of a network in lent work memory: the heads, tail by tail, and where each row starts and stops.
--   Rows             rows of heads, as plain functions of zones and places
--   Sound G          every row has an end, and its heads are zones
--   rows_of w R      the rows that stand in w at R
--   Entry G a b      b stands in the row of a
--   Run E a b        a run of entries leads from a to b
-- The rows are a function of `drop R.starts w`, so "the rows are kept" is one equation.
use Rattle.std.specs.Prelude.{◌≡◌, List, ℕ, ◌+◌, ◌-◌, ◌≤◌, ◌<◌, get_or, drop}
use Rattle.workmap.specs.declared.RowsAt.{RowsAt}

-- rows of heads: the row of z stands from place start z up to place stop z
pub record Rows : Type 0 where
  pub zones : ℕ
  pub start : ℕ → ℕ
  pub stop : ℕ → ℕ
  pub head : ℕ → ℕ

-- every row has an end, and its heads are zones
pub record Sound (G : Rows) : Type 0 where
  pub up : (z : ℕ) → z < G.zones → G.start z ≤ G.stop z
  pub heads : (z i : ℕ) → z < G.zones → G.start z ≤ i → i < G.stop z → G.head i < G.zones

-- b stands in the row of a
pub record Entry (G : Rows) (a b : ℕ) : Type 0 where
  pub tail : a < G.zones
  pub at : ℕ
  pub low : G.start a ≤ at
  pub high : at < G.stop a
  pub is : G.head at ≡ b

-- the rows that stand in w: their starts from `starts` on, one more than there are zones, and the heads from `rows` on
abbrev pub rows_of : List ℕ → RowsAt → Rows
rows_of w R =
    record {
      zones = R.zones;
      start = λ z. R.rows + get_or (drop R.starts w) z 0;
      stop = λ z. R.rows + get_or (drop R.starts w) (z + 1) 0;
      head = λ i. get_or (drop R.starts w) (i - R.starts) 0;
    }

-- a run of entries leads from a to b
pub data Run (E : ℕ → ℕ → Type 0) (a : ℕ) : ℕ → Type 0 where
  here : Run E a a
  further : {b c : ℕ} → Run E a b → E b c → Run E a c
