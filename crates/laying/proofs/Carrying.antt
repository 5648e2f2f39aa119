-- An answer with the numbers of a network's plan carries them.
-- The numbers are equal one by one. Assumes nothing.
use Rattle.std.specs.Prelude.{Ok}
use Rattle.rules.specs.declared.PlanCounts.{PlanCounts}
use Rattle.rules.specs.Network.{Network}
use Rattle.laying.specs.Figures.{Figures, Carried}

-- an answer with the numbers of a network's plan carries them
pub carried : {N : Network} {l : PlanCounts} → Figures N l → Carried N (Ok l)
carried F = rw (F.sources_are, F.sinks_are, F.alone_are, F.pairs_are, F.need_is)
