-- The second pass in the memory: its start, a turn of `collect`, and its end.
--   w₀, w     the memory as the pass was handed it, and as it is now
--   collect_able    a search can begin at the zone z, at place k of the order
--   collect_turn    the place k of the order is taken: z had a root, or the search from it is done
-- Assumes nothing.
use mathlib.Core.Path.{◌≡◌, refl, sym, ◌∙◌}
use mathlib.Core.Logic.{inl, inr}
use mathlib.Core.List.{List}
use Prim.Native.Nat.{ℕ, pred, ◌+◌, ◌<◌}
use native.Mathlib.Omega.{arith}
use lib.ListN.{drop}
use Rattle.workmap.specs.declared.RowsAt.{RowsAt}
use Rattle.workmap.specs.declared.SearchAt.{SearchAt}
use Rattle.workmap.specs.declared.OrderAt.{OrderAt}
use Rattle.memory.specs.Regions.{cell}
use Rattle.arranged.specs.Rows.{Entry, rows_of}
use Rattle.arranged.specs.Marks.{Marked}
use Rattle.memory.proofs.Numbers.{same?}
use Rattle.arranged.proofs.Zeros.{zeros_none, zeros_clear}
use Rattle.search.specs.Marking.{Closed, Spreadable, Spread}
use Rattle.search.proofs.Keeping.{kept_same, kept_then, kept_at, kept_rows}
use Rattle.search.proofs.Course.{laid_same}
use Rattle.descent.specs.Order.{EndedOrdered}
use Rattle.descent.proofs.Entries.{entry_head}
use Rattle.roots.specs.Roots.{Collectable, Collecting, Collected}
use Rattle.roots.proofs.Turn.{pass_begun, pass_skip, pass_named, pass_ended}
use Rattle.roots.proofs.Taking.{pass_taken, topo_taken, topo_begun}

-- the pass is handed what it asks for
module _ {w₀ : List ℕ} {R T : RowsAt} {O : OrderAt} {S : SearchAt} (I : Collectable w₀ R T O S) where
  -- Nothing is done yet.
  pub collect_begun : Collecting w₀ w₀ R T O S T.zones 0
  collect_begun = record {
    rest = kept_same w₀ S.marks S.queue T.zones;
    room = omega (arith, zeros_clear w₀ S.marks T.zones I.clear);
    pass = pass_begun (cell w₀ O.order) (cell w₀ S.marks)
        (λ u v e. rw I.zones (e.tail, entry_head I.forward e))
        (rw I.zones I.finished.stands) I.clear;
    topo = topo_begun (cell w₀ S.marks) (cell w₀ S.queue) I.clear;
  }

  -- All is done.
  pub collect_ended : {w : List ℕ} {tail : ℕ} → Collecting w₀ w R T O S 0 tail → Collected w₀ w R T S
  collect_ended {w} {tail} C =
      let named = pass_named C.pass in
      let e : tail ≡ T.zones = omega (arith, C.room, zeros_none w S.marks T.zones named) in
      record {
        rest = C.rest;
        root = λ v l.
            let s = C.pass.sound v (pred (cell w S.marks v)) l (omega (arith, named v l)) in
            (omega (arith, named v l), omega (arith, s.0));
        same = pass_ended C.pass;
        topo = rw e at C.topo;
      }

  -- the zone z at place k of the order was read
  module _ {w : List ℕ} {k tail z : ℕ} (inside : k < T.zones) (C : Collecting w₀ w R T O S (k + 1) tail)
      (ez : z ≡ cell w O.order k) where
    -- z is the zone that ended as number k.
    at_k : cell w₀ O.order k ≡ z
    at_k =
        sym (ez ∙ kept_at w₀ w S.marks S.queue T.zones C.rest (O.order + k)
        (omega (arith, I.order_behind)))

    -- z is a zone.
    pub z_zone : z < T.zones
    z_zone = rw (at_k, sym I.zones) at (I.finished.zone k (rw I.zones at inside))

    -- The turned rows are as they were handed.
    turned_same : drop T.starts w ≡ drop T.starts w₀
    turned_same = kept_rows w₀ w S.marks S.queue T.zones C.rest T.starts I.laid.before

    -- An entry of the rows, turned round.
    turn_to : (a b : ℕ) → Entry (rows_of w₀ R) a b → Entry (rows_of w T) b a
    turn_to = rw turned_same I.turn_to

    -- An entry of the turned rows, turned back.
    turn_back : (a b : ℕ) → Entry (rows_of w T) b a → Entry (rows_of w₀ R) a b
    turn_back = rw turned_same I.turn_back

    -- Where a zone has a root, all that lead to it have one.
    closed : Closed (rows_of w T) w S.marks
    closed v l m i a b e =
        m (C.pass.closed ((rows_of w T).head i) v
        (turn_back _ v (record { tail = l; at = i; low = a; high = b; is = refl })) e)

    -- A search can begin at z, with its own number.
    pub collect_able : Spreadable w T S z (z + 1) tail
    collect_able = record {
      able = record {
        laid = laid_same w₀ w T.zones T.starts T.rows S.marks S.queue C.rest.long turned_same
            I.laid;
        closed = closed;
        zone = z_zone;
      };
      some = omega arith;
      room = omega (arith, C.room);
    }

    -- z had a root, and nothing changed.
    skipped : Marked w S.marks z → Collecting w₀ w R T O S k tail
    skipped m = record {
      rest = C.rest;
      room = C.room;
      pass = pass_skip C.pass (λ y. m (rw at_k at y));
      topo = C.topo;
    }

    -- The order has its property.
    ordered : EndedOrdered (Entry (rows_of w₀ R)) (cell w₀ O.seen) (cell w₀ O.order) T.zones
    ordered = rw I.zones I.finished.ordered

    -- z had no root, and the search gave it one.
    took : {w' : List ℕ} {r : ℕ} → cell w S.marks z ≡ 0 → Spread w w' T S z (z + 1) tail r
        → Collecting w₀ w' R T O S k r
    took free D = record {
      rest = kept_then C.rest D.course.kept;
      room = omega (arith, D.course.room, C.room);
      pass = pass_taken I.forward I.zones turn_to turn_back (cell w₀ O.seen) (cell w₀ O.order) ordered
          inside C.pass at_k free D;
      topo = topo_taken I.forward I.zones turn_to turn_back (cell w₀ O.seen) (cell w₀ O.order) ordered
          inside C.pass at_k free D C.topo;
    }

    -- The pass has taken place k, either way.
    pub collect_turn : {w' : List ℕ} {r : ℕ} → Spread w w' T S z (z + 1) tail r → Collecting w₀ w' R T O S k r
    collect_turn D = elim (same? (cell w S.marks z) 0) [
      | inl free ↦ took free D
      | inr m ↦ let s = D.idle m in rw (s.0, s.1) (skipped m)
    ]
