-- What is left of a row of heads, for the two loops that go along it: those from `at` on, up to where it ends.
--   left_of w at to              these heads
--   HeadsLeft w b j at to       they are of row j
--   left_all, left_start         at first all heads of the row are left
--   left_cons, left_more         the first that is left, as it was read, and the others
--   left_low                     it is a place
--   left_none                    where none is left
-- The heads stand behind the table, which alone is stored to. Assumes nothing.
use mathlib.Core.Path.{◌≡◌, sym, subst, ap, ap₂, ◌∙◌}
use mathlib.Core.List.{List, [], ◌∷◌, Memᴰ as In}
use Prim.Native.Nat.{ℕ, suc, ◌+◌, ◌-◌, ◌*◌, ◌≤◌, ◌<◌}
use native.Mathlib.Omega.{arith}
use lib.ListN.{length, get_or, take, drop}
use lib.Seq.{drop-cons}
use Rattle.memory.specs.Regions.{cell, part}
use Rattle.memory.proofs.Regions.{at_kept}
use Rattle.uniting.specs.declared.Block.{Block}
use Rattle.uniting.specs.Uniting.{row_heads, BlockLaid}

-- the heads from `at` on, up to `to`
abbrev pub left_of : List ℕ → ℕ → ℕ → List ℕ
left_of w at to = part w at (to - at)

-- they are of row j
pub record HeadsLeft (w : List ℕ) (b : Block) (j at to : ℕ) : Type 0 where
  pub behind : b.rows ≤ at
  pub fits : to ≤ length w
  pub heads : (k : ℕ) → In k (left_of w at to) → k < b.places

module _ {w : List ℕ} {b : Block} (L : BlockLaid w b) (j : ℕ) (h : j < b.places) (from to : ℕ)
    (start : from ≡ b.rows + cell w b.starts j) (end : to ≡ b.rows + cell w b.starts (j + 1)) where
  -- at first all heads of the row are left
  pub left_all : left_of w from to ≡ row_heads w b j
  left_all =
      let many : to - from ≡ cell w b.starts (j + 1) - cell w b.starts j = omega (arith, L.up j h) in
      ap₂ (λ (s n : ℕ). part w s n) start many

  -- and they are of the row
  pub left_start : HeadsLeft w b j from to
  left_start =
      record {
        behind = omega arith;
        fits = omega (arith, end, L.fits (j + 1) (omega arith));
        heads = λ k m. L.heads j k h (subst (λ (xs : List ℕ). In k xs) left_all m);
      }

-- where none is left
pub left_none : (w : List ℕ) (at to : ℕ) → to ≤ at → left_of w at to ≡ []
left_none w at to h =
    let none : to - at ≡ 0 = omega arith in
    ap (λ (n : ℕ). take n (drop at w)) none

module _ {w : List ℕ} {b : Block} {j at to : ℕ} (S : HeadsLeft w b j at to) (h : at < to) where
  -- the first head that is left, and the others
  left_next : left_of w at to ≡ get_or w at 0 ∷ left_of w (at + 1) to
  left_next =
      let fits = S.fits in
      let more : to - at ≡ suc (to - (at + 1)) = omega arith in
      let on : suc at ≡ at + 1 = omega arith in
      ap (λ (n : ℕ). take n (drop at w)) more
      ∙ ap (take (suc (to - (at + 1)))) (drop-cons w at 0 (omega arith))
      ∙ ap (λ (n : ℕ). get_or w at 0 ∷ take (to - (at + 1)) (drop n w)) on

  -- one less is left
  pub left_more : HeadsLeft w b j (at + 1) to
  left_more =
      record {
        behind = omega (arith, S.behind);
        fits = S.fits;
        heads = λ k m. S.heads k (subst (λ (xs : List ℕ). In k xs) (sym left_next) (In.tail m));
      }

  module _ (L : BlockLaid w b) (u : List ℕ) (same : drop (b.places * 8) u ≡ drop (b.places * 8) w) (k : ℕ)
      (e : k ≡ get_or u at 0) where
    -- a head that is read while the table changes is as it came
    left_read : k ≡ get_or w at 0
    left_read = e ∙ at_kept w u (b.places * 8) at (omega (arith, S.behind, L.rows_behind)) same

    -- and it is a place
    pub left_low : k < b.places
    left_low = S.heads k (subst (λ (xs : List ℕ). In k xs) (sym left_next) (In.head left_read))

    -- what is left begins with it
    pub left_cons : left_of w at to ≡ k ∷ left_of w (at + 1) to
    left_cons = left_next ∙ ap (λ (x : ℕ). x ∷ left_of w (at + 1) to) (sym left_read)
