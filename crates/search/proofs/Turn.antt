-- One row: its zones without a mark get one and join the queue, one a turn.
--   visit_none, visit_more, visit_done     no turn yet, one turn more, and the end of the row, where a look finds none
--   visit_join                             a turn is two stores, for which there is room
-- A turn is one zone met, of any search for which runs of entries lead to the zones of the row. Assumes nothing.
use mathlib.Core.Path.{◌≡◌, refl, sym, ◌∙◌}
use mathlib.Core.Logic.{inl, inr}
use mathlib.Core.List.{List}
use Prim.Native.Nat.{ℕ, ◌+◌, ◌≤◌, ◌<◌}
use native.Mathlib.Omega.{arith}
use lib.ListN.{get_or, set}
use Rattle.workmap.specs.declared.RowsAt.{RowsAt}
use Rattle.workmap.specs.declared.SearchAt.{SearchAt}
use Rattle.arranged.specs.Marks.{Marked, FirstIn}
use Rattle.std.specs.Prelude.{Some, None}
use Rattle.memory.proofs.Numbers.{below?}
use Rattle.search.specs.Marking.{Visitable, Visited}
use Rattle.search.proofs.Keeping.{kept_same, kept_then, kept_at}
use Rattle.search.proofs.Join.{Join, joined_fewer, joined_mark, joined_put_other, joined_more, joined_kept}
use Rattle.search.proofs.Join.{spreading_join}

-- no turn yet
pub visit_none : (w : List ℕ) (R : RowsAt) (S : SearchAt) (x a tail : ℕ) → Visited w w R S x a a tail tail
visit_none w R S x a tail =
    record {
      kept = kept_same w S.marks S.queue R.zones;
      room = refl;
      grown = omega arith;
      front = λ j l. refl;
      all = λ i l h. absurd (omega arith);
      goes_on = λ v from top head G l runs. G;
    }

module _ {w₀ w : List ℕ} {R : RowsAt} {S : SearchAt} {x from to tail a end : ℕ}
    (A : Visitable w₀ R S x from to tail) (D : Visited w₀ w R S x from a tail end) (under : from ≤ a)
    (over : a ≤ to) where
  -- an element past the queue is as it was
  pub past : (i : ℕ) → from ≤ i → get_or w i 0 ≡ get_or w₀ i 0
  past i h = kept_at w₀ w S.marks S.queue R.zones D.kept i (omega (arith, A.before))

  -- the rest of the row has marks: the row is done
  pub visit_done : FirstIn w a to S.marks None → Visited w₀ w R S x from to tail end
  visit_done rest =
      record {
        kept = D.kept;
        room = D.room;
        grown = D.grown;
        front = D.front;
        all = λ i l h. elim (below? i a) [ inl b ↦ D.all i l b | inr b ↦ rw (past i l) at (rest i b h) ];
        goes_on = λ v f top head G l runs. D.goes_on v f top head G l (λ i b c. runs i b (omega arith));
      }

  -- the zone h, found i places behind a, gets the mark and joins the queue
  module _ (i : ℕ) {h : ℕ} {w' : List ℕ} (eh : h ≡ get_or w (a + i) 0) (F : FirstIn w a to S.marks (Some i))
      (made : w' ≡ set (set w (S.marks + h) x) (S.queue + end) h) where
    -- h stood in the row
    was : get_or w₀ (a + i) 0 ≡ h
    was = sym (past (a + i) (omega arith)) ∙ sym eh

    -- the two stores
    pub visit_join : Join w w' S R.zones x end h
    visit_join =
        record {
          some = A.some;
          apart = A.apart;
          fits = omega (arith, A.before, A.order, A.fits, D.kept.long);
          zone = rw was at (A.heads (a + i) (omega arith) F.0);
          free = rw eh F.1.0;
          room = omega (arith, D.room, A.room);
          made = made;
        }

    -- the row up to and with this place has marks
    every : (k : ℕ) → from ≤ k → k < a + i + 1 → Marked w' S.marks (get_or w₀ k 0)
    every k l m = elim (below? k (a + i)) [
      | inl b ↦
          joined_more visit_join (get_or w₀ k 0) (A.heads k l (omega (arith, F.0)))
          (elim (below? k a) [ inl d ↦ D.all k l d | inr d ↦ rw (past k l) at (F.1.1 k d b) ])
      | inr b ↦
          let e : k ≡ a + i = omega arith in
          rw (e, was) (λ z. omega (arith, joined_mark visit_join, A.some))
    ]

    -- one turn more
    pub visit_more : Visited w₀ w' R S x from (a + i + 1) tail (end + 1)
    visit_more =
        record {
          kept = kept_then D.kept (joined_kept visit_join);
          room = omega (arith, joined_fewer visit_join, D.room);
          grown = omega (arith, D.grown);
          front = λ j l. joined_put_other visit_join j (omega (arith, D.grown)) ∙ D.front j l;
          all = every;
          goes_on = λ v f top head G l runs.
              spreading_join (D.goes_on v f top head G l (λ k b c. runs k b (omega arith))) visit_join
              (inr (omega (arith, G.low, D.grown)))
              (rw was at (runs (a + i) (omega arith) (omega arith)));
        }
