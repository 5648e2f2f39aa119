-- A stamp where it stands that a zone is entered takes the zone out of every kind.
--   stamped_around     stamps leave the names, and all that lies behind
--   stamped_kinds      of a kind are then those that were of it and are not withdrawn
-- What is noted is 0 or 1, and a stamp is above 1. Assumes nothing.
use mathlib.Core.Path.{◌≡◌, refl, sym, ◌∙◌}
use mathlib.Core.Bool.{Bool, true, false, not, ◌&&◌}
use mathlib.Core.List.{List}
use Prim.Native.Nat.{ℕ, ◌+◌, ◌≤◌, ◌<◌}
use native.Mathlib.Omega.{arith}
use lib.Dec.{eqb}
use borrow.Author.Tests.{ne_eqb}
use Rattle.rules.specs.Lists.{span, keep, listed}
use Rattle.rules.specs.Network.{remaining}
use Rattle.theory.proofs.Ground.Lists.{keep_agree}
use Rattle.theory.proofs.Ground.Ascending.{span_in}
use Rattle.theory.proofs.Withdrawn.Remaining.{stays}
use Rattle.workmap.specs.declared.KindsAt.{KindsAt}
use Rattle.memory.specs.Regions.{cell}
use Rattle.memory.proofs.Places.{drop_deeper}
use Rattle.memory.proofs.Regions.{at_kept}
use Rattle.withdrawn.specs.Withdrawn.{stamped, Stamped}
use Rattle.borders.specs.Borders.{Around, KindsRoom, own_kind}
use Rattle.borders.proofs.Marks.{names_around}
use Rattle.borders.proofs.Tests.{keep_keep}

-- withdrawn zones are stamped with u in w', where it stands that they are entered
module _
    {k : KindsAt}
    {w w' gone : List ℕ}
    {u : ℕ}
    (R : KindsRoom k w)
    (T : Stamped w w' k.entered k.zones gone u)
  where
    -- stamps leave the names, and all that lies behind
    pub stamped_around : Around k w w'
    stamped_around =
        record {
          long = T.long;
          back =
              drop_deeper w w' (k.entered + k.zones) (k.exited + k.zones) (omega (arith, R.entered_low))
              T.above;
        }

    -- what is left is as it was
    exited_same : (z : ℕ) → cell w' k.exited z ≡ cell w k.exited z
    exited_same z =
        at_kept w w' (k.entered + k.zones) (k.exited + z) (omega (arith, R.entered_low)) T.above

    -- a zone is of a kind then where it is not withdrawn and was of the kind
    stamped_kind : 1 < u → (x y z : ℕ) → x ≤ 1 → z < k.zones →
        own_kind k x y w' z ≡ (stays gone z && own_kind k x y w z)
    stamped_kind some x y z low h =
        rw (names_around R stamped_around z, exited_same z, T.inside z h) (by_cases (listed gone z))
      where
        by_cases : (b : Bool) →
            (eqb (cell w k.names z) z
            && (eqb (stamped b u (cell w k.entered z)) x && eqb (cell w k.exited z) y))
            ≡ (not b && own_kind k x y w z)
        by_cases true = rw (ne_eqb u x (λ e. omega arith)) (neither (eqb (cell w k.names z) z))
          where
            neither : (b : Bool) → (b && false) ≡ false
            neither true = refl
            neither false = refl
        by_cases false = refl

    -- of a kind are then those that remain and were of it
    pub stamped_kinds : 1 < u → (x y : ℕ) → x ≤ 1 →
        keep (own_kind k x y w') (span 0 k.zones) ≡ keep (own_kind k x y w) (remaining k.zones gone)
    stamped_kinds some x y low =
        keep_agree (own_kind k x y w') (λ z. stays gone z && own_kind k x y w z) (span 0 k.zones)
        (λ z i. stamped_kind some x y z low (omega (arith, span_in 0 k.zones i)))
        ∙ sym (keep_keep (stays gone) (own_kind k x y w) (span 0 k.zones))
