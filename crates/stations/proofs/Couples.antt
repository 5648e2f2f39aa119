-- The pairs of a list of sources and a list of sinks: their sources, their last sink, and the first of a list.
--   last_sink_drop, first_of_take   the first and the last station
--   couples_v                       the sources of the pairs
-- The idea: each by going through the lists. Assumes nothing.
use mathlib.Core.Path.{◌≡◌, refl, ap, ◌∙◌}
use mathlib.Core.List.{List, [], ◌∷◌, map}
use Prim.Native.Nat.{ℕ, suc, ◌-◌}
use native.Mathlib.Omega.{arith}
use lib.ListN.{length, take, drop}
use Rattle.rules.specs.Plan.{Couple, last_sink, first_of}
use Rattle.stations.specs.Stations.{couples}

-- the last sink of pairs, of which there are some
last_some : (v w : ℕ) (vs ws : List ℕ) → length vs ≡ length ws →
    last_sink (couples (v ∷ vs) (w ∷ ws)) ≡ drop (length ws) (w ∷ ws)
unfolding last_sink
last_some v w [] [] e = refl
last_some v w [] (w' ∷ ws) e = absurd (omega arith)
last_some v w (v' ∷ vs) [] e = absurd (omega arith)
last_some v w (v' ∷ vs) (w' ∷ ws) e = last_some v' w' vs ws (omega arith)

-- the last sink of pairs is what is left of the sinks without all but the last
pub last_sink_drop : (vs ws : List ℕ) → length vs ≡ length ws →
    last_sink (couples vs ws) ≡ drop (length ws - 1) ws
unfolding last_sink
last_sink_drop [] [] e = refl
last_sink_drop [] (w ∷ ws) e = absurd (omega arith)
last_sink_drop (v ∷ vs) [] e = absurd (omega arith)
last_sink_drop (v ∷ vs) (w ∷ ws) e =
    last_some v w vs ws (omega arith)
    ∙ ap (λ (k : ℕ). drop k (w ∷ ws)) {x = length ws} {y = suc (length ws) - 1} (omega arith)

-- the first of a list is its front of one element
pub first_of_take : (xs : List ℕ) → first_of xs ≡ take 1 xs
unfolding first_of
first_of_take [] = refl
first_of_take (a ∷ xs) = refl

-- the sources of pairs
pub couples_v : (vs ws : List ℕ) → length vs ≡ length ws → map (λ (a : Couple). a.v) (couples vs ws) ≡ vs
couples_v [] ws e = refl
couples_v (v ∷ vs) [] e = absurd (omega arith)
couples_v (v ∷ vs) (w ∷ ws) e = ap (λ (l : List ℕ). v ∷ l) (couples_v vs ws (omega arith))
