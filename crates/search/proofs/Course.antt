-- The course of a search: its begin, one row of the queue, and its end.
--   laid_same              equal rows are laid alike in memories of one length
--   begun                  the start has its mark and stands on the queue
--   head-.., spreading_next   the row of the zone at `head` is visited
--   spread_ended, spread_same    the queue is gone through: the marks are closed; or the start had a mark
--   spreadable_one, searched     the search with the mark 1 and an empty queue
-- A marked zone had its mark before, or stands on the queue. Where all of the queue is gone through the marks are
-- closed under entries, so a run that begins at a mark never leaves them. Assumes nothing.
use mathlib.Core.Path.{◌≡◌, refl, sym, ◌∙◌}
use mathlib.Core.Logic.{inl, inr}
use mathlib.Core.List.{List}
use Prim.Native.Nat.{ℕ, ◌+◌, ◌≤◌, ◌<◌}
use native.Mathlib.Omega.{arith}
use lib.ListN.{length, get_or, drop, set}
use Rattle.workmap.specs.declared.RowsAt.{RowsAt}
use Rattle.workmap.specs.declared.SearchAt.{SearchAt}
use Rattle.workmap.specs.Map.{row_places, search_places}
use Rattle.memory.specs.Regions.{cell}
use Rattle.arranged.specs.Rows.{Entry, Run, further, here}
use Rattle.arranged.specs.Marks.{Marked}
use Rattle.memory.proofs.Numbers.{same?}
use Rattle.arranged.proofs.Zeros.{zeros_few}
use Rattle.search.specs.Marking.{rows_in, Laid, RowMarked, Closed, Searchable, Searched, Spreadable, Spreading}
use Rattle.search.specs.Marking.{Spread, Visitable, Visited}
use Rattle.search.proofs.Keeping.{kept_rows, head_at, start_at, stop_at}
use Rattle.search.proofs.Closed.{closed_run}
use Rattle.search.proofs.Join.{Join, spreading_none, spreading_join}

-- equal rows are laid alike in memories of one length
pub laid_same : (w w' : List ℕ) (zones starts rows marks queue : ℕ) → length w' ≡ length w →
    drop starts w' ≡ drop starts w → Laid w (row_places zones starts rows) (search_places marks queue) →
    Laid w' (row_places zones starts rows) (search_places marks queue)
laid_same w w' zones starts rows marks queue long same L =
    record {
      small = L.small;
      apart = L.apart;
      before = L.before;
      order = L.order;
      fits = rw long L.fits;
      ends = rw (long, same) L.ends;
      sound = rw same L.sound;
    }

-- marks and queue lie in the memory
pub laid_fits : {w : List ℕ} {R : RowsAt} {S : SearchAt} → Laid w R S →
    (S.marks + R.zones ≤ length w) × (S.queue + R.zones ≤ length w)
laid_fits L = (
  omega (arith, L.apart, L.before, L.order, L.fits),
  omega (arith, L.before, L.order, L.fits),
)

-- the start, which has no mark, gets one and stands on the queue
module _ {w w' : List ℕ} {R : RowsAt} {S : SearchAt} {from x top : ℕ} (A : Spreadable w R S from x top)
    (free : cell w S.marks from ≡ 0)
    (made : w' ≡ set (set w (S.marks + from) x) (S.queue + top) from) where
  -- the two stores
  pub start_join : Join w w' S R.zones x top from
  start_join =
      record {
        some = A.some;
        apart = A.able.laid.apart;
        fits = (laid_fits A.able.laid).1;
        zone = A.able.zone;
        free = free;
        room = A.room;
        made = made;
      }

  -- the search has met it
  pub begun : Spreading w w' R S from x top top (top + 1)
  begun = spreading_join (spreading_none A) start_join (inl refl) here

-- a search that has not gone through its queue, whose zone z at `head` has its row from a up to b
module _ {v w : List ℕ} {R : RowsAt} {S : SearchAt} {from x top head tail : ℕ}
    (G : Spreading v w R S from x top head tail) (more : head < tail) where
  -- the rows are as they were
  pub rows_same : drop R.starts w ≡ drop R.starts v
  rows_same = kept_rows v w S.marks S.queue R.zones G.kept R.starts G.able.able.laid.before

  -- so the memory is laid out still
  pub laid_now : Laid w R S
  laid_now =
      laid_same v w R.zones R.starts R.rows S.marks S.queue G.kept.long rows_same
      G.able.able.laid

  -- the queue has at most all zones
  pub tail_few : tail ≤ R.zones
  tail_few = omega (arith, G.room, G.able.room)

  module _ {z a b : ℕ} (ez : z ≡ cell w S.queue head) (ea : a ≡ R.rows + get_or w (R.starts + z) 0)
      (eb : b ≡ R.rows + get_or w (R.starts + z + 1) 0) where
    -- it is a zone
    pub head_zone : z < R.zones
    head_zone = rw ez (G.met head G.low more).zone

    -- its row starts at a
    start_is : (rows_in w R).start z ≡ a
    start_is = start_at w R.zones R.starts R.rows z ∙ sym ea

    -- its row stops at b
    stop_is : (rows_in w R).stop z ≡ b
    stop_is = stop_at w R.zones R.starts R.rows z ∙ sym eb

    -- the head at a place of its row
    head_is : (i : ℕ) → a ≤ i → (rows_in v R).head i ≡ get_or w i 0
    head_is i h =
        rw rows_same at (head_at w R.zones R.starts R.rows i (omega (arith, laid_now.order)))

    -- its row can be visited
    pub head_visitable : Visitable w R S x a b tail
    head_visitable =
        let L = laid_now in
        record {
          some = G.able.some;
          apart = L.apart;
          before = omega (arith, L.before, L.order);
          order = omega (arith, start_is, stop_is, L.sound.up z head_zone);
          fits = omega (arith, stop_is, L.ends z head_zone);
          heads = λ i l h.
              omega (
                arith,
                L.sound.heads z i head_zone (omega (arith, start_is)) (omega (arith, stop_is)),
                head_at w R.zones R.starts R.rows i (omega (arith, L.order)),
              );
          room = omega (arith, G.room, G.able.room);
        }

    -- its row, as the search began
    row_was : (i : ℕ) → (rows_in v R).start z ≤ i → i < (rows_in v R).stop z → (a ≤ i) × (i < b)
    row_was i l h =
        let s : (rows_in v R).start z ≡ a = rw rows_same at start_is in
        let e : (rows_in v R).stop z ≡ b = rw rows_same at stop_is in
        (omega arith, omega arith)

    -- runs of entries lead to the zones of its row
    runs : (i : ℕ) → a ≤ i → i < b → Run (Entry (rows_in v R)) from (get_or w i 0)
    runs i l h =
        let s : (rows_in v R).start z ≡ a = rw rows_same at start_is in
        let e : (rows_in v R).stop z ≡ b = rw rows_same at stop_is in
        further (rw (sym ez) at (G.met head G.low more).run)
        (record { tail = head_zone; at = i; low = omega arith; high = omega arith; is = head_is i l })

    -- its row is visited
    module _ {w' : List ℕ} {r : ℕ} (D : Visited w w' R S x a b tail r) where
      -- all of its row has marks
      row_full : RowMarked (rows_in v R) w' S.marks (cell w' S.queue head)
      row_full =
          rw (D.front head more ∙ sym ez)
          (λ i l h. rw (head_is i (row_was i l h).0) (D.all i (row_was i l h).0 (row_was i l h).1))

      -- the search goes on with the next zone of the queue
      pub spreading_next : Spreading v w' R S from x top (head + 1) r
      spreading_next =
          let N = D.goes_on v from top head G more runs in
          record {
            able = N.able;
            kept = N.kept;
            room = N.room;
            low = omega (arith, G.low);
            high = omega (arith, D.grown);
            first = N.first;
            front = N.front;
            old = N.old;
            listed = N.listed;
            met = N.met;
            once = N.once;
            done = λ j l m. elim (same? j head) [ inl e ↦ rw e row_full | inr e ↦ N.done j l (omega arith) ];
          }

-- the queue is gone through
module _ {v w : List ℕ} {R : RowsAt} {S : SearchAt} {from x top r : ℕ} (G : Spreading v w R S from x top r r) where
  -- the marks are closed
  closed_end : Closed (rows_in v R) w S.marks
  closed_end u l m = elim (G.listed u l m) [
    | inl o ↦ λ i a b e.
        let h = (rows_in v R).head i in
        let k = G.able.able.closed u l o i a b in
        k (sym (G.old h (G.able.able.laid.sound.heads u i l a b) k) ∙ e)
    | inr s ↦ rw (sym s.is) (G.done s.at s.low s.high)
  ]

  -- the search is done
  pub spread_ended : top < r → Spread v w R S from x top r
  spread_ended l =
      let M = G.met top (omega arith) l in
      let is : cell w S.marks from ≡ x = rw (G.first l) at M.mark in
      record {
        course = G;
        idle = λ m. absurd (m (rw (G.first l) at M.free));
        complete = λ u p.
            closed_run G.able.able.laid.sound w S.marks closed_end G.able.able.zone
            (λ e. omega (arith, G.able.some)) p;
        closed = closed_end;
      }

-- the start has a mark, and nothing changes
pub spread_same : {w : List ℕ} {R : RowsAt} {S : SearchAt} {from x top : ℕ} → Spreadable w R S from x top →
    Marked w S.marks from → Spread w w R S from x top top
spread_same {w} {S = S} A m =
    record {
      course = spreading_none A;
      idle = λ _. (refl, refl);
      complete = λ u p.
          closed_run A.able.laid.sound w S.marks A.able.closed A.able.zone m p;
      closed = A.able.closed;
    }

module _ {w : List ℕ} {R : RowsAt} {S : SearchAt} {from : ℕ} (A : Searchable w R S from) where
  -- the search can mark with 1, on an empty queue
  pub spreadable_one : Spreadable w R S from 1 0
  spreadable_one =
      record { able = A; some = omega arith; room = omega (arith, zeros_few w S.marks R.zones) }

  -- what it leaves, said of the marks alone
  pub searched : {w' : List ℕ} {r : ℕ} → Spread w w' R S from 1 0 r → Searched w w' R S from
  searched {w'} D =
      let G = D.course in
      record {
        kept = G.kept;
        rows_kept =
            kept_rows w w' S.marks S.queue R.zones G.kept R.starts A.laid.before;
        old = λ v l m e. m (sym (G.old v l m) ∙ e);
        sound = λ v l m. elim (G.listed v l m) [
          | inl o ↦ inl o
          | inr s ↦ inr (rw s.is at (G.met s.at s.low s.high).run)
        ];
        complete = D.complete;
        closed = D.closed;
      }
