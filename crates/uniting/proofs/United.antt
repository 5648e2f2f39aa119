-- How long the memory stays, and what stands behind the table, after U.
--   united_long      the length is kept
--   united_behind    what stands from the end of row j on is kept
-- Every store goes into row j. Assumes nothing.
use mathlib.Core.Path.{◌≡◌, refl, ◌∙◌}
use mathlib.Core.List.{List, [], ◌∷◌}
use Prim.Native.Nat.{ℕ, ◌+◌, ◌*◌, ◌≤◌}
use lib.ListN.{length, drop}
use Rattle.bits.specs.Bits.{with_words}
use Rattle.bits.proofs.Tables.{with_words_long, with_words_behind}
use Rattle.uniting.specs.Uniting.{united}

-- U keeps the length
pub united_long : (w : List ℕ) (j : ℕ) (ks : List ℕ) → length (united w j ks) ≡ length w
unfolding united
united_long w j [] = refl
united_long w j (k ∷ ks) =
    united_long (with_words w (j * 8) (k * 8) 8) j ks ∙ with_words_long w (j * 8) (k * 8) 8

module _ (e : ℕ) where
  -- U keeps what stands behind row j
  pub united_behind : (w : List ℕ) (j : ℕ) (ks : List ℕ) → j * 8 + 8 ≤ e → drop e (united w j ks) ≡ drop e w
  unfolding united
  united_behind w j [] h = refl
  united_behind w j (k ∷ ks) h =
      united_behind (with_words w (j * 8) (k * 8) 8) j ks h ∙ with_words_behind e w (j * 8) (k * 8) 8 h
