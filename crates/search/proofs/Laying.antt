-- Arranged arcs are laid out for a search.
--   arranged_laid     marks and stack before the rows of arranged arcs, and the rows inside the memory
-- Assumes nothing.
use mathlib.Core.List.{List}
use Prim.Native.Nat.{ℕ, ◌+◌, ◌≤◌}
use native.Mathlib.Omega.{arith}
use lib.ListN.{length}
use Rattle.rules.specs.Network.{Arc}
use Rattle.arranged.specs.Arranged.{Between, ArrangedAt}
use Rattle.arranged.proofs.ArrangedLaws.{arranged_sound, arranged_fits}
use Rattle.workmap.specs.Map.{row_places, search_places}
use Rattle.search.specs.Marking.{Laid}

-- the rows of arranged arcs, with marks and stack before them, are laid out for a search
pub arranged_laid : (w : List ℕ) (zones starts rows marks stack : ℕ) (es : List Arc) →
    ArrangedAt w (row_places zones starts rows) es → Between zones es → zones ≤ 1024 → marks + zones ≤ stack →
    stack + zones ≤ starts → rows + length es ≤ length w → Laid w (row_places zones starts rows)
    (search_places marks stack)
arranged_laid w zones starts rows marks stack es A W small apart below room =
    record {
      small = small;
      apart = apart;
      before = below;
      order = A.order;
      fits = omega arith;
      ends = λ z h. omega (arith, arranged_fits w (row_places zones starts rows) es A z h);
      sound = arranged_sound w (row_places zones starts rows) es A W;
    }
