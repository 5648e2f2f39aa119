-- Arcs that are put into a sink, one behind the other.
--   sink_none, sink_then   no arc, and arcs behind arcs
--   sink_long              the lists stay as long
-- By the laws of what is put into two lists. Assumes nothing.
use mathlib.Core.Path.{◌≡◌, refl, ◌∙◌}
use mathlib.Core.List.{List, [], ◌++◌}
use lib.ListN.{length}
use Rattle.rules.specs.Network.{Arc}
use Rattle.memory.proofs.Puts.{put_none, put_then, put_long}
use Rattle.arcsink.specs.declared.ArcSink.{ArcSink}
use Rattle.arcsink.specs.Sink.{SinkPut}

-- no arc is put
pub sink_none : (s : ArcSink) → SinkPut s s []
sink_none s = record { arcs = put_none s.tails.now s.heads.now s.len; same_tails = refl; same_heads = refl }

-- arcs are put behind arcs
pub sink_then : {s s' s'' : ArcSink} {es fs : List Arc} → SinkPut s s' es → SinkPut s' s'' fs →
    SinkPut s s'' (es ++ fs)
sink_then P Q =
    record {
      arcs = put_then P.arcs Q.arcs;
      same_tails = Q.same_tails ∙ P.same_tails;
      same_heads = Q.same_heads ∙ P.same_heads;
    }

-- the lists stay as long as they were
pub sink_long : {s s' : ArcSink} {es : List Arc} → SinkPut s s' es →
    (length s'.tails.now ≡ length s.tails.now) × (length s'.heads.now ≡ length s.heads.now)
sink_long P = put_long P.arcs
