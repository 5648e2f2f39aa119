-- Names and rows of heads are those of any memory that is the same behind the table.
--   tops_kept, rows_kept, laid_kept   the names, the rows, and that they stand there
-- Names and rows are functions of places, so that they are the same is one path. Assumes nothing.
use mathlib.Core.Path.{◌≡◌, subst, ap₂, ◌∙◌}
use mathlib.Core.List.{List, Memᴰ as In}
use Prim.Native.Nat.{ℕ, ◌+◌, ◌-◌, ◌*◌}
use native.Mathlib.Omega.{arith}
use lib.ListN.{length, drop}
use Rattle.memory.specs.Regions.{cell, part}
use Rattle.memory.proofs.Regions.{at_kept, part_kept}
use Rattle.uniting.specs.declared.Block.{Block}
use Rattle.uniting.specs.Uniting.{row_heads, BlockLaid}

module _ {w : List ℕ} {b : Block} (L : BlockLaid w b) (v : List ℕ)
    (same : drop (b.places * 8) v ≡ drop (b.places * 8) w) where
  -- the names are the same
  pub tops_kept : cell v b.tops ≡ cell w b.tops
  tops_kept = λ i k. at_kept w v (b.places * 8) (b.tops + k) (omega (arith, L.tops_behind)) same i

  -- a start of a row is the same
  start_kept : (j : ℕ) → cell v b.starts j ≡ cell w b.starts j
  start_kept j = at_kept w v (b.places * 8) (b.starts + j) (omega (arith, L.starts_behind)) same

  -- the row of a component is the same
  row_kept : (j : ℕ) → row_heads v b j ≡ row_heads w b j
  row_kept j =
      ap₂ (λ (s t : ℕ). part v (b.rows + s) (t - s)) (start_kept j) (start_kept (j + 1))
      ∙ part_kept w v (b.places * 8) (b.rows + cell w b.starts j)
      (cell w b.starts (j + 1) - cell w b.starts j) (omega (arith, L.rows_behind)) same

  -- the rows are the same
  pub rows_kept : row_heads v b ≡ row_heads w b
  rows_kept = λ i j. row_kept j i

  -- names and rows stand behind the table
  pub laid_kept : length v ≡ length w → BlockLaid v b
  laid_kept long =
      record {
        small = L.small;
        tops_behind = L.tops_behind;
        starts_behind = L.starts_behind;
        rows_behind = L.rows_behind;
        tops_fit = omega (arith, L.tops_fit);
        starts_fit = omega (arith, L.starts_fit);
        up = λ j h. omega (arith, start_kept j, start_kept (j + 1), L.up j h);
        fits = λ j h. omega (arith, start_kept j, L.fits j h);
        heads = λ j k h m. L.heads j k h (subst (λ (xs : List ℕ). In k xs) (row_kept j) m);
      }
