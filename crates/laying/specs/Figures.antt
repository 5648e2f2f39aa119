-- The numbers of a network's plan, and the answer that carries them.
--   Figures N l   l has the numbers of the plan of N: s, t, q, p and the number of links
--   Carried N r   the answer r carries them
use Rattle.std.specs.Prelude.{◌≡◌, length}
use Rattle.rules.specs.declared.PlanCounts.{PlanCounts}
use Rattle.rules.specs.Answers.{done, PlanAnswer, plan_told}
use Rattle.rules.specs.Network.{Network}
use Rattle.rules.specs.Components.{sources, sinks, alone}
use Rattle.rules.specs.Plan.{plan_pairs, plan_need, plan_values}

-- l has the numbers of the plan of N
pub record Figures (N : Network) (l : PlanCounts) : Type 0 where
  pub sources_are : l.sources ≡ length (sources N)
  pub sinks_are : l.sinks ≡ length (sinks N)
  pub alone_are : l.alone ≡ length (alone N)
  pub pairs_are : l.pairs ≡ plan_pairs N
  pub need_is : l.need ≡ plan_need N

-- the answer r carries the numbers of the plan of N
abbrev pub Carried : Network → PlanAnswer → Type 0
Carried N r = plan_told r ≡ done (plan_values N)
