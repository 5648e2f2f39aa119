-- A place of the order is taken: its zone z has no root, and a search against the arcs gives the number of z to the
-- zones that lead to z.
--   pass_taken    the pass goes on: these zones lead to z by zones without a root, since where a zone has a root all
--                 that lead to it have one
--   topo_taken    the queue is longer by a component, and lists zones by component, in topological order: what came
--                 later was free when what came earlier got its root, and a free zone leads to no zone that has a root
--   topo_begun    the queue is empty
-- Assumes nothing.
use mathlib.Core.Path.{◌≡◌, sym, ap, ◌∙◌}
use mathlib.Core.Logic.{◌⊎◌, inl, inr}
use mathlib.Core.List.{List}
use Prim.Native.Nat.{ℕ, ◌+◌, ◌<◌}
use native.Mathlib.Omega.{arith}
use Rattle.workmap.specs.declared.RowsAt.{RowsAt}
use Rattle.workmap.specs.declared.SearchAt.{SearchAt}
use Rattle.memory.specs.Regions.{cell}
use Rattle.arranged.specs.Rows.{Rows, Sound, Entry, Run, rows_of}
use Rattle.arranged.specs.Marks.{Marked}
use Rattle.memory.proofs.Numbers.{same?, below?}
use Rattle.search.specs.Marking.{Queued, Met, Spread}
use Rattle.descent.specs.Order.{EndedOrdered}
use Rattle.descent.proofs.Entries.{entry_head}
use Rattle.roots.specs.Pass.{Back, Pass, Topo}
use Rattle.roots.proofs.Turn.{turn, pass_after}

-- the search from z is done, in the rows of the arcs turned round; G is the rows of the arcs
module _ {w w' : List ℕ} {T : RowsAt} {S : SearchAt} {G : Rows} (W : Sound G) (zones : T.zones ≡ G.zones)
    (turn_to : (a b : ℕ) → Entry G a b → Entry (rows_of w T) b a)
    (turn_back : (a b : ℕ) → Entry (rows_of w T) b a → Entry G a b) (d order : ℕ → ℕ) {n k z from tail : ℕ}
    (P : EndedOrdered (Entry G) d order n) (inside : k < n)
    (Q : Pass (Entry G) order (cell w S.marks) T.zones (k + 1)) (is : order k ≡ z)
    (free : cell w S.marks z ≡ 0) (D : Spread w w' T S z (z + 1) from tail) where
  -- An entry is between zones.
  entries : (u v : ℕ) → Entry G u v → (u < T.zones) × (v < T.zones)
  entries u v e = rw zones (e.tail, entry_head W e)

  -- A free zone is free, or the search met it.
  new : (v : ℕ) → v < T.zones → cell w S.marks v ≡ 0
      → (cell w' S.marks v ≡ 0) ⊎ Met w w' T S z (z + 1) v
  new v l f = elim (same? (cell w' S.marks v) 0) [
    | inl e ↦ inl e
    | inr e ↦ elim (D.course.listed v l e) [
      | inl o ↦ absurd (o f)
      | inr s ↦ inr (rw s.is at (D.course.met s.at s.low s.high))
    ]
  ]

  -- A free zone to which the search went leads to z by free zones.
  back_of : {v : ℕ} → Run (Entry (rows_of w T)) z v → cell w S.marks v ≡ 0
      → Back (Entry G) (λ c. (c < T.zones) × (cell w S.marks c ≡ 0)) z v
  back_of Run.here f = Back.here
  back_of (Run.further {b = b} {c = c} p e) f =
      let y = turn_back c b e in
      Back.further (back_of p (Q.closed c b y f)) y ((entries c b y).0, f)

  -- A free zone that gets the number of z leads to z by free zones.
  new_back : (v : ℕ) → v < T.zones → cell w S.marks v ≡ 0 → (cell w' S.marks v ≡ 0)
      ⊎ ((cell w' S.marks v ≡ z + 1) × Back (Entry G) (λ c. (c < T.zones) × (cell w S.marks c ≡ 0)) z v)
  new_back v l f = elim (new v l f) [ inl e ↦ inl e | inr M ↦ inr (M.mark, back_of M.run f) ]

  -- z has its own number.
  start : cell w' S.marks z ≡ z + 1
  start = elim (new z D.course.able.able.zone free) [
    | inl e ↦ absurd ((D.complete z Run.here).1 e)
    | inr M ↦ M.mark
  ]

  -- A free zone with an entry to one that gets the number of z gets it too.
  new_more : (b c : ℕ) → cell w S.marks b ≡ 0 → cell w' S.marks b ≡ z + 1 → Entry G c b
      → cell w S.marks c ≡ 0 → cell w' S.marks c ≡ z + 1
  new_more b c f m e g =
      let a = turn_to c b e in
      let marked : Marked w' S.marks b = λ y. omega arith in
      let on : Marked w' S.marks c
      = rw a.is at (D.closed b (entries c b e).1 marked a.at a.low a.high) in
      elim (new c (entries c b e).0 g) [ inl y ↦ absurd (on y) | inr M ↦ M.mark ]

  -- The pass has taken place k.
  pub pass_taken : Pass (Entry G) order (cell w' S.marks) T.zones k
  pass_taken =
      turn d order (cell w S.marks) (cell w' S.marks) P inside entries D.course.able.able.zone Q is free
      D.course.old new_back start new_more

  -- the queue as it was
  module _ (Y : Topo (Entry G) (cell w S.marks) (cell w S.queue) T.zones from) where
    -- A zone that was on the queue keeps its root.
    old_root : (j : ℕ) → j < from → cell w' S.marks (cell w' S.queue j) ≡ cell w S.marks (cell w S.queue j)
    old_root j b =
        rw (D.course.front j b) (D.course.old (cell w S.queue j) (Y.zone j b) (Y.named j b))

    -- The queue holds zones.
    zone_now : (j : ℕ) → j < tail → cell w' S.queue j < T.zones
    zone_now j l = elim (below? j from) [
      | inl b ↦ rw (D.course.front j b) (Y.zone j b)
      | inr b ↦ (D.course.met j b l).zone
    ]

    -- The queue holds zones that have roots.
    named_now : (j : ℕ) → j < tail → cell w' S.marks (cell w' S.queue j) ≡ 0 → ⊥
    named_now j l y = elim (below? j from) [
      | inl b ↦ Y.named j b (sym (old_root j b) ∙ y)
      | inr b ↦ omega (arith, y, (D.course.met j b l).mark)
    ]

    -- The queue holds no zone twice.
    distinct_now : (i j : ℕ) → i < j → j < tail → cell w' S.queue i ≡ cell w' S.queue j → ⊥
    distinct_now i j l m y =
        let front = D.course.front in
        elim (below? j from) [
          | inl b ↦
              let a : i < from = omega arith in
              Y.distinct i j l b (sym (front i a) ∙ y ∙ front j b)
          | inr b ↦ elim (below? i from) [
            | inl a ↦ Y.named i a (ap (cell w S.marks) (sym (front i a) ∙ y) ∙ (D.course.met j b m).free)
            | inr a ↦ D.course.once i j a l m y
          ]
        ]

    -- A zone that has a root is on the queue.
    all_now : (v : ℕ) → v < T.zones → Marked w' S.marks v → Queued (cell w' S.queue) 0 tail v
    all_now v l m = elim (D.course.listed v l m) [
      | inl o ↦
          let s = Y.all v l o in
          record {
            at = s.at;
            low = omega arith;
            high = omega (arith, s.high, D.course.low);
            is = D.course.front s.at s.high ∙ s.is;
          }
      | inr s ↦ record { at = s.at; low = omega arith; high = s.high; is = s.is }
    ]

    -- What came before leads here only within a component.
    after_now : (i j : ℕ) → i < j → j < tail → Run (Entry G) (cell w' S.queue j) (cell w' S.queue i)
        → cell w' S.marks (cell w' S.queue j) ≡ cell w' S.marks (cell w' S.queue i)
    after_now i j l m p =
        let front = D.course.front in
        elim (below? j from) [
          | inl b ↦
              let a : i < from = omega arith in
              let r : Run (Entry G) (cell w S.queue j) (cell w S.queue i) = rw (front i a, front j b) at p in
              old_root j b ∙ Y.after i j l b r ∙ sym (old_root i a)
          | inr b ↦ elim (below? i from) [
            | inl a ↦
                let r : Run (Entry G) (cell w' S.queue j) (cell w S.queue i) = rw (front i a) at p in
                absurd (pass_after Q (D.course.met j b m).free (Y.named i a) r)
            | inr a ↦ (D.course.met j b m).mark ∙ sym (D.course.met i a (omega arith)).mark
          ]
        ]

    -- The queue with a component more.
    pub topo_taken : Topo (Entry G) (cell w' S.marks) (cell w' S.queue) T.zones tail
    topo_taken = record {
      zone = zone_now;
      named = named_now;
      distinct = distinct_now;
      all = all_now;
      after = after_now;
    }

-- The queue is empty, and no zone has a root.
pub topo_begun : {E : ℕ → ℕ → Type 0} (root q : ℕ → ℕ) {zones : ℕ} → ((v : ℕ) → v < zones → root v ≡ 0)
    → Topo E root q zones 0
topo_begun root q clear = record {
  zone = λ j l. absurd (omega arith);
  named = λ j l y. omega arith;
  distinct = λ i j l m y. omega arith;
  all = λ v l m. absurd (m (clear v l));
  after = λ i j l m p. absurd (omega arith);
}
