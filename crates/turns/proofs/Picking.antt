-- What `pick` answers, by places: the first place that passes the test is taken out.
--   pick_hit, pick_miss   the list's first passes, or is left
--   pick_none    where no place passes, nothing is picked
--   pick_some    the first place that passes is picked, and the list without it is left
-- By induction on the list. Assumes nothing.
use mathlib.Core.Path.{◌≡◌, refl, ap, ◌∙◌}
use mathlib.Core.Bool.{Bool, true, false}
use mathlib.Core.List.{List, [], ◌∷◌}
use mathlib.Core.Option.{Option, none, some}
use Prim.Native.Nat.{ℕ, zero, suc, ◌<◌}
use native.Mathlib.Nat.{not-suc-le-zero}
use native.Mathlib.Omega.{arith}
use lib.ListN.{length, get_or}
use Rattle.rules.specs.Plan.{Picked, pick}
use Rattle.turns.specs.Turn.{without}

-- a pick's answer for a list, from its answer for what follows a sink that does not pass
abbrev passed : ℕ → Option Picked → Option Picked
passed x k = elim k [ none ↦ none | some t ↦ some (record { sink = t.sink; rest = x ∷ t.rest }) ]

module _ (p : ℕ → Bool) where
  -- a sink that passes is picked
  pick_hit : (x : ℕ) (xs : List ℕ) → p x ≡ true → pick p (x ∷ xs) ≡ some (record { sink = x; rest = xs })
  unfolding pick
  pick_hit x xs e = rw (e, pick)

  -- a sink that does not pass is left
  pick_miss : (x : ℕ) (xs : List ℕ) → p x ≡ false → pick p (x ∷ xs) ≡ passed x (pick p xs)
  unfolding pick
  pick_miss x xs e = rw (e, pick)

  -- where no place passes the test, nothing is picked
  pub pick_none : (xs : List ℕ) → ((k : ℕ) → k < length xs → p (get_or xs k 0) ≡ false) → pick p xs ≡ none
  unfolding pick
  pick_none [] h = refl
  pick_none (x ∷ xs) h =
      pick_miss x xs (h 0 (omega arith)) ∙ ap (passed x) (pick_none xs (λ k l. h (suc k) (omega arith)))

  -- the first place that passes the test is picked, and the list without it is left
  pub pick_some : (j : ℕ) (xs : List ℕ) → j < length xs → p (get_or xs j 0) ≡ true →
      ((k : ℕ) → k < j → p (get_or xs k 0) ≡ false) →
      pick p xs ≡ some (record { sink = get_or xs j 0; rest = without j xs })
  pick_some j [] l e h = absurd (not-suc-le-zero l)
  pick_some zero (x ∷ xs) l e h = pick_hit x xs e
  pick_some (suc j) (x ∷ xs) l e h =
      pick_miss x xs (h 0 (omega arith))
      ∙ ap (passed x) (pick_some j xs (omega arith) e (λ k m. h (suc k) (omega arith)))
