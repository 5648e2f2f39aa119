-- The rows of a block, and U of a component, as functions of the memory: row j of the table, eight elements from j * 8
-- on, has a bit for each of the 128 components of the block.
--   row_heads w b j       the heads of component j, as places, in the memory
--   BlockLaid w b        names and rows of heads stand behind the table, and every head is a place
--   united w j ks         U: the rows of the heads ks go into row j, as the loop goes
use mathlib.Core.List.{List, [], ◌∷◌, Memᴰ as In}
use Rattle.std.specs.Prelude.{ℕ, ◌+◌, ◌-◌, ◌*◌, ◌≤◌, ◌<◌, length}
use Rattle.memory.specs.Regions.{cell, part}
use Rattle.bits.specs.Bits.{with_words}
use Rattle.uniting.specs.declared.Block.{Block}

-- the heads of component j
abbrev pub row_heads : List ℕ → Block → ℕ → List ℕ
row_heads w b j =
    part w (b.rows + cell w b.starts j) (cell w b.starts (j + 1) - cell w b.starts j)

-- names and rows of heads stand behind the table, and every head is a place
pub record BlockLaid (w : List ℕ) (b : Block) : Type 0 where
  pub small : b.places ≤ 1024
  pub tops_behind : b.places * 8 ≤ b.tops
  pub starts_behind : b.places * 8 ≤ b.starts
  pub rows_behind : b.places * 8 ≤ b.rows
  pub tops_fit : b.tops + b.places ≤ length w
  pub starts_fit : b.starts + b.places < length w
  pub up : (j : ℕ) → j < b.places → cell w b.starts j ≤ cell w b.starts (j + 1)
  pub fits : (j : ℕ) → j ≤ b.places → b.rows + cell w b.starts j ≤ length w
  pub heads : (j k : ℕ) → j < b.places → In k (row_heads w b j) → k < b.places

-- U: the rows of the heads go into row j
unfoldable pub united : List ℕ → ℕ → List ℕ → List ℕ
unfolding with_words
united w j [] = w
united w j (k ∷ ks) = united (with_words w (j * 8) (k * 8) 8) j ks
