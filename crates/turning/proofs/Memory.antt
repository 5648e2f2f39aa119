-- How long the memory stays, and what stands behind the table, after a turn.
--   noted_long, place_turned_long       the length is kept
--   noted_behind, place_turned_behind   what stands from the end of row j on is kept
-- Every store goes into row j. Assumes nothing.
use mathlib.Core.Path.{◌≡◌, refl, ◌∙◌}
use mathlib.Core.List.{List, [], ◌∷◌}
use Prim.Native.Nat.{ℕ, ◌+◌, ◌*◌, ◌≤◌}
use lib.ListN.{length, drop}
use Rattle.uniting.specs.Uniting.{united}
use Rattle.uniting.proofs.United.{united_long, united_behind}
use Rattle.taking.specs.Taking.{taken}
use Rattle.taking.proofs.Taken.{taken_long, taken_behind}
use Rattle.turning.specs.Steps.{noted, place_turned}

-- R keeps the length
noted_long : (w : List ℕ) (first j : ℕ) (ks : List ℕ) → length (noted w first j ks) ≡ length w
unfolding noted
noted_long w first j [] = refl
noted_long w first j (k ∷ ks) = noted_long (taken w first j k) first j ks ∙ taken_long w first j k

-- a turn keeps the length
pub place_turned_long : (w : List ℕ) (first j : ℕ) (ks : List ℕ) → length (place_turned w first j ks) ≡ length w
unfolding place_turned
place_turned_long w first j ks = noted_long (united w j ks) first j ks ∙ united_long w j ks

module _ (e : ℕ) where
  -- R keeps what stands behind row j
  noted_behind : (w : List ℕ) (first j : ℕ) (ks : List ℕ) → j * 8 + 8 ≤ e → drop e (noted w first j ks) ≡ drop e w
  unfolding noted
  noted_behind w first j [] h = refl
  noted_behind w first j (k ∷ ks) h =
      noted_behind (taken w first j k) first j ks h ∙ taken_behind e w first j k h

  -- and so does a turn
  pub place_turned_behind : (w : List ℕ) (first j : ℕ) (ks : List ℕ) → j * 8 + 8 ≤ e →
      drop e (place_turned w first j ks) ≡ drop e w
  unfolding place_turned
  place_turned_behind w first j ks h = noted_behind (united w j ks) first j ks h ∙ united_behind e w j ks h
