-- `begin` meets its contract: a zone that has a mark is done already, and one that has none is put on the stack, with
-- its mark, and `deepen` ends it. Assumes nothing.
use mathlib.Core.Path.{refl}
use borrow.Author.Rules.{rules}
use Rattle.descent.proofs.Keeping.{ready_kept}
use Rattle.finishing.proofs.Start.{start_kept, start_state}
use Rattle.finishing.proofs.begin.Goals as goal

-- What `deepen` asks for is so.
pub deepen-requires : goal.deepen-requires
deepen-requires c =
    let s = c.requires in
    record {
      ready = ready_kept s.ready (start_kept s.ready s.r_lt_zones.1 s.r_lt_zones.0 c.if-work-at-ne0.false refl);
      zones_nonzero = (
        search rules,
        start_state s.ready s.r_lt_zones.1 s.r_lt_zones.0 c.if-work-at-ne0.false refl,
      );
    }
