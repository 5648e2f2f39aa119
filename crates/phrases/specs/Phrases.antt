-- The lines above the links over numbers, as they are put.
--   head_text f p       the lines above the links
-- Assumes nothing.
use Rattle.std.specs.Prelude.{ℕ, List, ◌++◌}
use Rattle.rules.specs.declared.FileCounts.{FileCounts}
use Rattle.rules.specs.declared.PlanCounts.{PlanCounts}
use Rattle.rules.specs.Text.{word}
use Rattle.buffer.specs.Words.{labelled, two}

-- the lines above the links: zone and arc counts; s, t, q, p; the number of links
unfoldable pub head_text : FileCounts → PlanCounts → List ℕ
head_text f p =
    two (word "zones ") f.zones (word " arcs ") f.arcs
    ++ (two (word "\nsources ") p.sources (word " sinks ") p.sinks
    ++ (two (word " alone ") p.alone (word " pairs ") p.pairs
    ++ (labelled (word "\nneed ") p.need ++ word "\n")))
