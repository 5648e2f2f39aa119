-- What is kept of a row of heads.
--   kept_step   its first head where it is fresh, and what is kept behind
-- By the two ways of `fresh`. Assumes nothing.
use mathlib.Core.Path.{◌≡◌, sym, ap}
use mathlib.Core.Logic.{inl, inr}
use mathlib.Core.List.{List, ◌∷◌, ◌++◌}
use Prim.Native.Nat.{ℕ}
use Rattle.theory.proofs.Ground.Bools.{bool_cases}
use Rattle.taking.specs.Taking.{fresh, taken}
use Rattle.taking.proofs.Taken.{taken_no}
use Rattle.taking.proofs.Taking.{taken_heads, heads_yes, heads_no}
use Rattle.turning.specs.Steps.{kept_heads}

module _ (w : List ℕ) (first j k : ℕ) where
  -- what is kept of a row
  pub kept_step : (ks : List ℕ) →
      kept_heads w first j (k ∷ ks) ≡ taken_heads w first j k ++ kept_heads (taken w first j k) first j ks
  unfolding kept_heads
  kept_step ks =
      elim (bool_cases (fresh w first j k)) [
        | inl e ↦ rw (e, kept_heads, heads_yes w first j k e)
        | inr e ↦
            rw (e, kept_heads, heads_no w first j k e)
            (ap (λ (x : List ℕ). kept_heads x first j ks) (sym (taken_no w first j k e)))
      ]
