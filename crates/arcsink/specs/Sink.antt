-- What putting arcs into a sink asks and leaves.
--   SinkFit s es      the arcs es have room in the sink s
--   SinkPut s s' es   they are put behind the others, and the two lists are those that were lent
use Rattle.std.specs.Prelude.{◌≡◌, List, ◌+◌, ◌≤◌, length}
use Rattle.rules.specs.Network.{Arc}
use Rattle.memory.specs.Putting.{ArcsPut}
use Rattle.arcsink.specs.declared.ArcSink.{ArcSink}

-- the arcs have room in both lists
pub record SinkFit (s : ArcSink) (es : List Arc) : Type 0 where
  pub tails : s.len + length es ≤ length s.tails.now
  pub heads : s.len + length es ≤ length s.heads.now

-- the arcs are put, and the two lists are those that were lent
pub record SinkPut (s s' : ArcSink) (es : List Arc) : Type 0 where
  pub arcs : ArcsPut s.tails.now s.heads.now s'.tails.now s'.heads.now s.len es s'.len
  pub same_tails : s'.tails.ghost_name ≡ s.tails.ghost_name
  pub same_heads : s'.heads.ghost_name ≡ s.heads.ghost_name
