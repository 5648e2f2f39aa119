-- The table with the places of the order that `components` leaves for numbers, as bits in memory have them: for a loop
-- that goes backwards along the order.
--   Row N top m j ks       ks are the places of the heads of the component at place j
--   top_once, later        no name stands twice, and a head stands behind
--   place_one              R at place j is right where R at every later place is
--   place_crosses          and the arc from the one at j to the one at l stays exactly where l is not in U
-- Assumes nothing.
use Prim.Native.Nat.{ℕ, ◌<◌}
use native.Mathlib.Nat.{eq-or-lt_of_le}
use mathlib.Core.Path.{◌≡◌, sym, ap}
use mathlib.Core.Logic.{◌⊎◌, inl, inr}
use mathlib.Core.List.{List, Memᴰ as In}
use mathlib.Core.Bool.{Bool, not, ◌&&◌}
use lib.Dec.{eqb, ltb}
use borrow.Author.Tests.{ltb-true, ltb-false}
use Rattle.rules.specs.Lists.{any}
use Rattle.rules.specs.Network.{Network, Proper, same}
use Rattle.rules.specs.Skeleton.{crosses}
use Rattle.theory.proofs.Ground.Bools.{bool_cases}
use Rattle.theory.proofs.Skeletons.Gap.{joined_reach}
use Rattle.theory.proofs.Skeletons.SkeletonOrder.{Direct, direct_zone, Ordered}
use Rattle.theory.proofs.Skeletons.TableStep.{beyond, by_one, by_two}
use Rattle.theory.proofs.Skeletons.TableStep.{Heads, step_one, step_crosses}

-- ks are the places of the heads of the component at place j
pub record Row (N : Network) (top : ℕ → ℕ) (m j : ℕ) (ks : List ℕ) : Type 0 where
  pub low : (k : ℕ) → In k ks → k < m
  pub sound : (k : ℕ) → In k ks → Direct N (top j) (top k)
  pub complete : (k : ℕ) → k < m → Direct N (top j) (top k) → In k ks

-- two places stand in one of three ways
three_ways : (i j : ℕ) → (i < j) ⊎ ((j ≡ i) ⊎ (j < i))
three_ways i j =
    elim (bool_cases (ltb i j)) [ inl e ↦ inl (ltb-true i j e) | inr e ↦ inr (eq-or-lt_of_le (ltb-false i j e)) ]

module _ {N : Network} (P : Proper N) {top : ℕ → ℕ} {m : ℕ} (O : Ordered N top m) where
  -- no name stands twice
  pub top_once : (j k : ℕ) → j < m → k < m → top j ≡ top k → j ≡ k
  top_once j k h i e =
      elim (three_ways j k) [
        | inl l ↦ absurd (O.after j k l i (same (sym e)))
        | inr (inl q) ↦ sym q
        | inr (inr l) ↦ absurd (O.after k j l h (same e))
      ]

  -- a head stands behind
  pub later : (j k : ℕ) → j < m → Direct N (top j) (top k) → j < k
  later j k h D =
      elim (three_ways j k) [
        | inl l ↦ l
        | inr (inl q) ↦ absurd (D.other (ap top q))
        | inr (inr l) ↦ absurd (O.after k j l h (joined_reach D.arc))
      ]

  -- a row of places lists the heads
  pub place_heads : (j l : ℕ) (ks : List ℕ) → j < m → l < m → Row N top m j ks → Heads N top j l ks
  place_heads j l ks h i R =
      record {
        start = O.own j h;
        end = O.own l i;
        sound = R.sound;
        complete = λ d D.
            let k = O.all d (direct_zone P D) D.named in
            (k.0, R.complete k.0 k.1 (rw k.2 D), k.2);
        once = λ k n e. top_once k l (R.low k n) i e;
      }

  module _ (j l : ℕ) (ks : List ℕ) (h : j < m) (i : l < m) (R : Row N top m j ks) (T : ℕ → ℕ → Bool)
      (right : (k : ℕ) → j < k → k < m → T k l ≡ beyond N (top k) (top l)) where
    -- the table is right at the heads, which stand behind
    at_heads : (k : ℕ) → In k ks → T k l ≡ beyond N (top k) (top l)
    at_heads k n = right k (later j k h (R.sound k n)) (R.low k n)

    -- R at place j is right where R at every later place is
    pub place_one : by_one T ks l ≡ beyond N (top j) (top l)
    place_one = step_one P (place_heads j l ks h i R) T at_heads

    -- the arc from the one at j to the one at l stays exactly where l is not in U
    pub place_crosses : crosses N (top j) (top l) ≡ (any (λ k. eqb k l) ks && not (by_two T ks l))
    place_crosses = step_crosses P (place_heads j l ks h i R) T at_heads
