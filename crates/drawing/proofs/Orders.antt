-- An order of names, and the rows over it, told by another function that agrees with it at every place.
--   ordered_agree    the order is one by either
--   row_agree        a row of places is one by either
-- Both speak of the places below m only. Assumes nothing.
use mathlib.Core.Path.{◌≡◌, ◌∙◌}
use mathlib.Core.List.{List}
use Prim.Native.Nat.{ℕ, ◌<◌}
use native.Mathlib.Omega.{arith}
use Rattle.rules.specs.Network.{Network}
use Rattle.theory.proofs.Skeletons.SkeletonOrder.{Ordered}
use Rattle.theory.proofs.Skeletons.TablePlaces.{Row}

module _ {N : Network} (top top' : ℕ → ℕ) (m : ℕ) (same : (j : ℕ) → j < m → top' j ≡ top j) where
  -- the order is one by either
  pub ordered_agree : Ordered N top m → Ordered N top' m
  ordered_agree O =
      record {
        own = λ j h. rw (same j h) (O.own j h);
        all = λ c i e. let r = O.all c i e in (r.0, r.1, same r.0 r.1 ∙ r.2);
        after = λ j k l h r. O.after j k l h (rw (same j (omega arith), same k h) at r);
      }

  -- a row of places is one by either
  pub row_agree : (j : ℕ) (ks : List ℕ) → j < m → Row N top m j ks → Row N top' m j ks
  row_agree j ks h R =
      record {
        low = R.low;
        sound = λ k i. rw (same j h, same k (R.low k i)) (R.sound k i);
        complete = λ k l D. R.complete k l (rw (same j h, same k l) at D);
      }
