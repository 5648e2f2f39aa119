-- A search meets a zone: it gets the mark x and is put at the queue's end, by two stores.
--   Join, joined-..    the two stores, and the memory after them
--   spreading_none     a search that has met nothing
--   spreading_join     a search that has met one zone more, to which a run of entries leads
-- The queue's length and the number of zones without a mark add up to what they were. Assumes nothing.
use mathlib.Core.Path.{◌≡◌, refl, sym, ap, ◌∙◌}
use mathlib.Core.Logic.{◌⊎◌, inl, inr, ◌≢◌}
use mathlib.Core.List.{List}
use Prim.Native.Nat.{ℕ, suc, ◌+◌, ◌≤◌, ◌<◌}
use native.Mathlib.Omega.{arith}
use lib.ListN.{length, get_or, set, length-set}
use lib.Seq.{get_or-set_same, get_or-set_other}
use Rattle.workmap.specs.declared.RowsAt.{RowsAt}
use Rattle.workmap.specs.declared.SearchAt.{SearchAt}
use Rattle.memory.specs.Regions.{cell}
use Rattle.arranged.specs.Rows.{Entry, Run}
use Rattle.arranged.specs.Marks.{Marked, zeros}
use Rattle.memory.proofs.Numbers.{same?, below?}
use Rattle.arranged.proofs.Zeros.{zeros_other, zeros_mark}
use Rattle.search.specs.Marking.{Kept, rows_in, RowMarked, Queued, Met, Spreadable, Spreading}
use Rattle.search.proofs.Keeping.{kept_same, kept_then, kept_marks, kept_queue}

-- the zone h has no mark; it gets x and is put on the queue at `tail`
pub record Join (w w' : List ℕ) (S : SearchAt) (zones x tail h : ℕ) : Type 0 where
  pub some : 0 < x
  pub apart : S.marks + zones ≤ S.queue
  pub fits : S.queue + zones ≤ length w
  pub zone : h < zones
  pub free : cell w S.marks h ≡ 0
  pub room : tail + zeros w S.marks zones ≤ zones
  pub made : w' ≡ set (set w (S.marks + h) x) (S.queue + tail) h

module _ {w w' : List ℕ} {S : SearchAt} {zones x tail h : ℕ} (J : Join w w' S zones x tail h) where
  -- the first store leaves one zone fewer without a mark
  fewer_one : suc (zeros (set w (S.marks + h) x) S.marks zones) ≡ zeros w S.marks zones
  fewer_one =
      zeros_mark w S.marks zones h x (λ e. omega (arith, J.some)) J.zone (omega (arith, J.apart, J.fits))
      J.free

  -- there is room on the queue
  pub joined_space : tail < zones
  joined_space = omega (arith, fewer_one, J.room)

  -- both stores leave one zone fewer without a mark
  pub joined_fewer : suc (zeros w' S.marks zones) ≡ zeros w S.marks zones
  joined_fewer =
      rw J.made
      (ap suc
      (zeros_other (set w (S.marks + h) x) (S.queue + tail) h S.marks zones
      (inr (omega (arith, J.zone, J.apart))))
      ∙ fewer_one)

  -- elsewhere the memory has what it had
  other : (j : ℕ) → j ≢ S.marks + h → j ≢ S.queue + tail → get_or w' j 0 ≡ get_or w j 0
  other j p q =
      rw J.made
      (get_or-set_other (set w (S.marks + h) x) (S.queue + tail) j h 0 q
      ∙ get_or-set_other w (S.marks + h) j x 0 p)

  -- h has the mark x
  pub joined_mark : cell w' S.marks h ≡ x
  joined_mark =
      rw J.made
      (get_or-set_other (set w (S.marks + h) x) (S.queue + tail) (S.marks + h) h 0
      (λ e. omega (arith, J.zone, J.apart))
      ∙ get_or-set_same w (S.marks + h) x 0 (omega (arith, J.zone, J.apart, J.fits)))

  -- the other zones keep their marks
  pub joined_mark_other : (v : ℕ) → v < zones → v ≢ h → cell w' S.marks v ≡ cell w S.marks v
  joined_mark_other v l ne = other (S.marks + v) (λ e. ne (omega arith)) (λ e. omega (arith, J.zone, J.apart))

  -- h is at the queue's end
  pub joined_put : cell w' S.queue tail ≡ h
  joined_put =
      rw J.made
      (get_or-set_same (set w (S.marks + h) x) (S.queue + tail) h 0
      (simp length-set (omega (arith, joined_space, J.fits))))

  -- what stood before it on the queue is kept
  pub joined_put_other : (j : ℕ) → j < tail → cell w' S.queue j ≡ cell w S.queue j
  joined_put_other j l = other (S.queue + j) (λ e. omega (arith, J.zone, J.apart)) (λ e. omega arith)

  -- a mark stays a mark
  pub joined_more : (v : ℕ) → v < zones → Marked w S.marks v → Marked w' S.marks v
  joined_more v l m e =
      m (sym (joined_mark_other v l (λ (q : v ≡ h). m (ap (cell w S.marks) q ∙ J.free))) ∙ e)

  -- only marks and queue change
  pub joined_kept : Kept w w' S.marks S.queue zones
  joined_kept =
      rw J.made
      (kept_then
      (kept_marks w S.marks S.queue zones (S.marks + h) x J.apart (omega arith) (omega (arith, J.zone)))
      (kept_queue (set w (S.marks + h) x) S.marks S.queue zones (S.queue + tail) h J.apart (omega arith)
      (omega (arith, joined_space))))

-- a search that has met nothing
pub spreading_none : {w : List ℕ} {R : RowsAt} {S : SearchAt} {from x top : ℕ} → Spreadable w R S from x top →
    Spreading w w R S from x top top top
spreading_none {w} {R} {S} A =
    record {
      able = A;
      kept = kept_same w S.marks S.queue R.zones;
      room = refl;
      low = omega arith;
      high = omega arith;
      first = λ l. absurd (omega arith);
      front = λ j l. refl;
      old = λ v l m. refl;
      listed = λ v l m. inl m;
      met = λ j l m. absurd (omega arith);
      once = λ i j l m k e. omega arith;
      done = λ j l m. absurd (omega arith);
    }

-- the search meets h, to which a run of entries leads: the start, where it has met nothing
module _ {v w w' : List ℕ} {R : RowsAt} {S : SearchAt} {from x top head tail h : ℕ}
    (G : Spreading v w R S from x top head tail) (J : Join w w' S R.zones x tail h)
    (begun : (h ≡ from) ⊎ (top < tail)) (run : Run (Entry (rows_in v R)) from h) where
  -- the start is the first on the queue
  first_now : top < tail + 1 → cell w' S.queue top ≡ from
  first_now l = elim (below? top tail) [
    | inl b ↦ joined_put_other J top b ∙ G.first b
    | inr b ↦
        let e : top ≡ tail = omega (arith, G.low, G.high) in
        rw e (joined_put J ∙ elim begun [ inl q ↦ q | inr q ↦ absurd (omega arith) ])
  ]

  -- a mark that was there is as it was
  old_now : (u : ℕ) → u < R.zones → Marked v S.marks u → cell w' S.marks u ≡ cell v S.marks u
  old_now u l m =
      joined_mark_other J u l (λ (q : u ≡ h). m (sym (G.old u l m) ∙ ap (cell w S.marks) q ∙ J.free))
      ∙ G.old u l m

  -- what has a mark had one, or is on the queue
  listed_now : (u : ℕ) → u < R.zones → Marked w' S.marks u →
      Marked v S.marks u ⊎ Queued (cell w' S.queue) top (tail + 1) u
  listed_now u l m = elim (same? u h) [
    | inl q ↦ inr (record {
      at = tail;
      low = omega (arith, G.low, G.high);
      high = omega arith;
      is = joined_put J ∙ sym q;
    })
    | inr q ↦ elim (G.listed u l (λ e. m (joined_mark_other J u l q ∙ e))) [
      | inl o ↦ inl o
      | inr s ↦ inr (record {
        at = s.at;
        low = s.low;
        high = omega (arith, s.high);
        is = joined_put_other J s.at s.high ∙ s.is;
      })
    ]
  ]

  -- h had no mark where the search began
  was_free : cell v S.marks h ≡ 0
  was_free = elim (same? (cell v S.marks h) 0) [
    | inl e ↦ e
    | inr e ↦ absurd (e (sym (G.old h J.zone e) ∙ J.free))
  ]

  -- a zone that was met is another than h
  met_other : (u : ℕ) → cell w S.marks u ≡ x → u ≢ h
  met_other u is q =
      let e : x ≡ 0 = sym is ∙ ap (cell w S.marks) q ∙ J.free in
      omega (arith, J.some)

  -- the zones on the queue are met, and h is
  met_now : (j : ℕ) → top ≤ j → j < tail + 1 → Met v w' R S from x (cell w' S.queue j)
  met_now j l m = elim (same? j tail) [
    | inl e ↦ rw (e, joined_put J) (record { zone = J.zone; free = was_free; mark = joined_mark J; run = run })
    | inr e ↦
        let b : j < tail = omega arith in
        let M = G.met j l b in
        rw (joined_put_other J j b)
        (record {
          zone = M.zone;
          free = M.free;
          mark = joined_mark_other J (cell w S.queue j) M.zone (met_other _ M.mark) ∙ M.mark;
          run = M.run;
        })
  ]

  -- the queue lists no zone twice
  once_now : (i j : ℕ) → top ≤ i → i < j → j < tail + 1 → cell w' S.queue i ≡ cell w' S.queue j → ⊥
  once_now i j l m k y =
      let a : i < tail = omega arith in
      elim (same? j tail) [
        | inl e ↦
            met_other (cell w S.queue i) (G.met i l a).mark
            (sym (joined_put_other J i a) ∙ y ∙ ap (cell w' S.queue) e ∙ joined_put J)
        | inr e ↦
            let b : j < tail = omega arith in
            G.once i j l m b (sym (joined_put_other J i a) ∙ y ∙ joined_put_other J j b)
      ]

  -- the rows that were full of marks are so
  done_now : (j : ℕ) → top ≤ j → j < head → RowMarked (rows_in v R) w' S.marks (cell w' S.queue j)
  done_now j l m =
      let b : j < tail = omega (arith, G.high) in
      rw (joined_put_other J j b)
      (λ i k n.
      joined_more J ((rows_in v R).head i) (G.able.able.laid.sound.heads _ i (G.met j l b).zone k n)
      (G.done j l m i k n))

  -- the search has met h
  pub spreading_join : Spreading v w' R S from x top head (tail + 1)
  spreading_join =
      record {
        able = G.able;
        kept = kept_then G.kept (joined_kept J);
        room = omega (arith, joined_fewer J, G.room);
        low = G.low;
        high = omega (arith, G.high);
        first = first_now;
        front = λ j l. joined_put_other J j (omega (arith, G.low, G.high)) ∙ G.front j l;
        old = old_now;
        listed = listed_now;
        met = met_now;
        once = once_now;
        done = done_now;
      }
