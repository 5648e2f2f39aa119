-- The network on which the plan rule runs, against the network that was handed in.
--   upright_weak                it is not strong where that is not
--   upright_sources, upright_sinks, upright_alone   it has the lesser number of sources and sinks as sources, the
--                               greater as sinks, and as many components alone
--   upright_links               its links are as many as the plan's
--   pairs_few                   there are no more pairs than sources
-- It is the network itself or the network turned round, so each is by these two cases. Assumes nothing.
use mathlib.Core.Path.{◌≡◌, refl, sym, ap, ◌∙◌}
use mathlib.Core.Logic.{inl, inr}
use mathlib.Core.Bool.{true, false}
use Prim.Native.Nat.{◌≤◌, ◌<◌, min, max}
use native.Mathlib.Omega.{arith}
use lib.ListN.{length, length-map}
use borrow.Author.Tests.{leb-true, leb-false}
use Rattle.rules.specs.Network.{Network, Proper, strong}
use Rattle.rules.specs.Components.{sources, sinks, alone}
use Rattle.rules.specs.Plan.{turned_link, is_upright, upright, upright_plan, turned, plan, plan_pairs}
use Rattle.theory.proofs.Ground.Bools.{bool_cases}
use Rattle.theory.proofs.Reaching.Turned.{turned_proper, turned_sources, turned_sinks, turned_alone, turned_strong}
use Rattle.theory.proofs.Planning.PlanStrong.{plan_of_upright, plan_of_turned, upright_same, upright_other}
use Rattle.theory.proofs.Planning.PlanCount.{sources_split, sinks_split}

-- no more sources than sinks
few_sources : (N : Network) → is_upright N ≡ true → length (sources N) ≤ length (sinks N)
unfolding is_upright
few_sources N u = leb-true (length (sources N)) (length (sinks N)) u

-- more sources than sinks
more_sources : (N : Network) → is_upright N ≡ false → length (sinks N) < length (sources N)
unfolding is_upright
more_sources N u = leb-false (length (sources N)) (length (sinks N)) u

module _ {N : Network} (P : Proper N) where
  -- it is not strong where the network is not
  pub upright_weak : strong N ≡ false → strong (upright N) ≡ false
  upright_weak e =
      elim (bool_cases (is_upright N)) [
        | inl u ↦ rw (upright_same N u) e
        | inr u ↦ rw (upright_other N u) (turned_strong P ∙ e)
      ]

  -- its sources are as many as the lesser of sources and sinks
  pub upright_sources : length (sources (upright N)) ≡ min (length (sources N)) (length (sinks N))
  upright_sources =
      elim (bool_cases (is_upright N)) [
        | inl u ↦ rw (upright_same N u) (omega (arith, few_sources N u))
        | inr u ↦ rw (upright_other N u) (omega (arith, more_sources N u, ap length (turned_sources P)))
      ]

  -- its sinks are as many as the greater of them
  pub upright_sinks : length (sinks (upright N)) ≡ max (length (sources N)) (length (sinks N))
  upright_sinks =
      elim (bool_cases (is_upright N)) [
        | inl u ↦ rw (upright_same N u) (omega (arith, few_sources N u))
        | inr u ↦ rw (upright_other N u) (omega (arith, more_sources N u, ap length (turned_sinks P)))
      ]

  -- as many of its components are alone
  pub upright_alone : length (alone (upright N)) ≡ length (alone N)
  upright_alone =
      elim (bool_cases (is_upright N)) [
        | inl u ↦ rw (upright_same N u) refl
        | inr u ↦ rw (upright_other N u) (ap length (turned_alone P))
      ]

  -- its links are as many as the plan's
  pub upright_links : strong N ≡ false → length (upright_plan (upright N)) ≡ length (plan N)
  upright_links weak =
      elim (bool_cases (is_upright N)) [
        | inl u ↦ rw (upright_same N u) (ap length (sym (plan_of_upright N weak u)))
        | inr u ↦
            rw (upright_other N u)
            (sym (ap length (plan_of_turned N weak u) ∙ length-map (upright_plan (turned N)) turned_link))
      ]

  -- there are no more pairs than sources
  pub pairs_few : plan_pairs N ≤ length (sources N)
  unfolding plan_pairs
  pairs_few =
      elim (bool_cases (is_upright N)) [
        | inl u ↦ rw (upright_same N u) (omega (arith, sources_split P))
        | inr u ↦ rw (upright_other N u) (omega (arith, sinks_split (turned_proper P), ap length (turned_sinks P)))
      ]
