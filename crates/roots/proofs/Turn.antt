-- The second pass, turn by turn: from the order's property, the free zones that lead to the last free zone of the
-- order are its component.
--   back_sound    what leads to that zone z by free zones is reached from z: of a free zone that z does not reach all
--                 heads were seen before z, and what was found so far was seen no earlier than z
--   turn          the pass takes a place of the order, whose zone z is free
--   pass_begun, pass_skip   nothing is done yet;  the zone at a place has its root already
--   pass_ended    all is done: two zones have one root exactly where each leads to the other
--   pass_after    a free zone leads to no zone that has a root
-- Assumes nothing.
use mathlib.Core.Path.{◌≡◌, sym, ap, ◌∙◌}
use mathlib.Core.Logic.{◌⊎◌, inl, inr, ◌↔◌}
use Prim.Native.Nat.{ℕ, pred, ◌+◌, ◌≤◌, ◌<◌}
use native.Mathlib.Omega.{arith}
use Rattle.arranged.specs.Rows.{Run}
use Rattle.memory.proofs.Numbers.{same?, below?}
use Rattle.descent.specs.Order.{EndedOrdered, InOrder}
use Rattle.descent.proofs.Entries.{run_trans}
use Rattle.roots.specs.Pass.{Back, Mutual, Pass}

-- What leads to z by free zones leads to z.
back_run : {E : ℕ → ℕ → Type 0} {Free : ℕ → Type 0} {z y : ℕ} → Back E Free z y → Run E y z
back_run Back.here = Run.here
back_run (Back.further p e f) = run_trans (Run.further Run.here e) (back_run p)

-- the order has its property up to place n, k is a place in it, and free zones stand no later than at k
module _ {E : ℕ → ℕ → Type 0} (d order : ℕ → ℕ) {n k : ℕ}
    (P : EndedOrdered E d order n) (inside : k < n)
    {Free : ℕ → Type 0} (early : (v : ℕ) → Free v → InOrder order (k + 1) v) where
  -- A free zone with an entry to a zone that was seen no earlier than the one at k was seen no earlier itself, and is
  -- reached from there.
  back_one : (b c : ℕ) → d (order k) ≤ d b → E c b → InOrder order (k + 1) c → (d (order k) ≤ d c) × Run E (order k) c
  back_one b c low e s = elim (below? s.at k) [
    | inl l ↦ rw (sym s.is) (elim (P s.at k l inside) [
      | inl r ↦ r
      | inr r ↦ absurd (omega (arith, r b (rw (sym s.is) at e)))
    ])
    | inr l ↦
        let q : s.at ≡ k = omega (arith, s.low) in
        rw (sym (sym (ap order q) ∙ s.is)) (omega arith, Run.here)
  ]

  -- What leads to the zone at k by free zones is reached from it, and was seen no earlier.
  pub back_sound : {y : ℕ} → Back E Free (order k) y → (d (order k) ≤ d y) × Run E (order k) y
  back_sound Back.here = (omega arith, Run.here)
  back_sound (Back.further {b = b} {c = c} p e f) = back_one b c (back_sound p).0 e (early c f)

-- What a free zone leads to is free.
free_on : {E : ℕ → ℕ → Type 0} (root : ℕ → ℕ) → ((u v : ℕ) → E u v → root u ≡ 0 → root v ≡ 0)
    → {u v : ℕ} → Run E u v → root u ≡ 0 → root v ≡ 0
free_on root closed Run.here h = h
free_on root closed (Run.further p e) h = closed _ _ e (free_on root closed p h)

-- a turn: z, at place k, is free, and root' gives its number to exactly the free zones that lead to it by free zones
module _ {E : ℕ → ℕ → Type 0} (d order root root' : ℕ → ℕ) {n zones k z : ℕ}
    (P : EndedOrdered E d order n) (inside : k < n)
    (entries : (u v : ℕ) → E u v → (u < zones) × (v < zones)) (zone : z < zones)
    (S : Pass E order root zones (k + 1)) (is : order k ≡ z) (free : root z ≡ 0)
    (old : (v : ℕ) → v < zones → (root v ≡ 0 → ⊥) → root' v ≡ root v)
    (new : (v : ℕ) → v < zones → root v ≡ 0
    → (root' v ≡ 0) ⊎ ((root' v ≡ z + 1) × Back E (λ c. (c < zones) × (root c ≡ 0)) z v))
    (start : root' z ≡ z + 1)
    (more : (b c : ℕ) → root b ≡ 0 → root' b ≡ z + 1 → E c b → root c ≡ 0 → root' c ≡ z + 1) where
  -- What is free now was free.
  was_free : (v : ℕ) → v < zones → root' v ≡ 0 → root v ≡ 0
  was_free v l e = elim (same? (root v) 0) [ inl q ↦ q | inr q ↦ absurd (q (sym (old v l q) ∙ e)) ]

  -- Each of z and what is named now leads to the other.
  with_z : (v : ℕ) → Back E (λ c. (c < zones) × (root c ≡ 0)) z v → Mutual E z v
  with_z v b = (
    rw is at (back_sound d order P inside (λ c f. S.taken c f.0 f.1) (rw (sym is) at b)).1,
    back_run b,
  )

  -- What z leads to and leads to z is named now.
  all_z : {v b : ℕ} → Run E z v → Run E v b → root b ≡ 0 → root' b ≡ z + 1 → root' v ≡ z + 1
  all_z p Run.here f m = m
  all_z {b = b} p (Run.further {b = c} q e) f m =
      let g : root c ≡ 0 = free_on root S.closed (run_trans p q) free in
      all_z p q g (more b c f m e g)

  -- A free zone stands before place k.
  taken_now : (v : ℕ) → v < zones → root' v ≡ 0 → InOrder order k v
  taken_now v h e =
      let s = S.taken v h (was_free v h e) in
      elim (below? s.at k) [
        | inl l ↦ record { at = s.at; low = l; is = s.is }
        | inr l ↦
            let q : s.at ≡ k = omega (arith, s.low) in
            let y : z ≡ v = sym is ∙ sym (ap order q) ∙ s.is in
            absurd (omega (arith, start, e, ap root' y))
      ]

  -- A head of a free zone is free.
  closed_now : (u v : ℕ) → E u v → root' u ≡ 0 → root' v ≡ 0
  closed_now u v e h =
      let g = was_free u (entries u v e).0 h in
      let f = S.closed u v e g in
      elim (new v (entries u v e).1 f) [ inl q ↦ q | inr q ↦ absurd (omega (arith, h, more v u f q.0 e g)) ]

  -- A zone and its root lead to each other.
  sound_now : (v r : ℕ) → v < zones → root' v ≡ r + 1 → (r < zones) × ((root' r ≡ r + 1) × Mutual E r v)
  sound_now v r l e = elim (same? (root v) 0) [
    | inl f ↦ elim (new v l f) [
      | inl q ↦ absurd (omega (arith, e, q))
      | inr q ↦ let y : r ≡ z = omega (arith, e, q.0) in rw y (zone, (start, with_z v q.1))
    ]
    | inr f ↦
        let t = S.sound v r l (sym (old v l f) ∙ e) in
        (t.0, (old r t.0 (λ y. absurd (omega (arith, y, t.1.0))) ∙ t.1.0, t.1.1))
  ]

  -- Zones that lead to each other have one root, once one of them has.
  complete_now : (u v : ℕ) → u < zones → v < zones → (root' u ≡ 0 → ⊥) → Mutual E u v → root' v ≡ root' u
  complete_now u v hu hv h t = elim (same? (root u) 0) [
    | inl f ↦ elim (new u hu f) [
      | inl q ↦ absurd (h q)
      | inr q ↦
          let y = with_z u q.1 in
          all_z (run_trans y.0 t.0) (run_trans t.1 y.1) free start ∙ sym q.0
    ]
    | inr f ↦
        let e = S.complete u v hu hv f t in
        old v hv (λ y. f (sym e ∙ y)) ∙ e ∙ sym (old u hu f)
  ]

  -- The pass has taken place k.
  pub turn : Pass E order root' zones k
  turn = record { taken = taken_now; closed = closed_now; sound = sound_now; complete = complete_now }

-- Nothing is done yet: no zone has a root, and every zone stands in the order.
pub pass_begun : {E : ℕ → ℕ → Type 0} (order root : ℕ → ℕ) {zones n : ℕ}
    → ((u v : ℕ) → E u v → (u < zones) × (v < zones)) → ((v : ℕ) → v < zones → InOrder order n v)
    → ((v : ℕ) → v < zones → root v ≡ 0) → Pass E order root zones n
pass_begun order root entries all clear = record {
  taken = λ v h e. all v h;
  closed = λ u v e h. clear v (entries u v e).1;
  sound = λ v r l e. absurd (omega (arith, clear v l));
  complete = λ u v hu hv h t. absurd (h (clear u hu));
}

-- The zone at place k has its root already: the pass has taken the place.
pub pass_skip : {E : ℕ → ℕ → Type 0} {order root : ℕ → ℕ} {zones k : ℕ} → Pass E order root zones (k + 1)
    → (root (order k) ≡ 0 → ⊥) → Pass E order root zones k
pass_skip {order = order} {root = root} {zones = zones} {k = k} S h =
    record { taken = taken_now; closed = S.closed; sound = S.sound; complete = S.complete }
  where
    taken_now : (v : ℕ) → v < zones → root v ≡ 0 → InOrder order k v
    taken_now v l e =
        let s = S.taken v l e in
        elim (below? s.at k) [
          | inl b ↦ record { at = s.at; low = b; is = s.is }
          | inr b ↦
              let q : s.at ≡ k = omega (arith, s.low) in
              absurd (h (ap root (sym (ap order q) ∙ s.is) ∙ e))
        ]

-- Where all places are taken, every zone has a root.
pub pass_named : {E : ℕ → ℕ → Type 0} {order root : ℕ → ℕ} {zones : ℕ} → Pass E order root zones 0
    → (v : ℕ) → v < zones → root v ≡ 0 → ⊥
pass_named S v h e = let s = S.taken v h e in omega (arith, s.low)

-- Where all places are taken, two zones have one root exactly where each leads to the other.
pub pass_ended : {E : ℕ → ℕ → Type 0} {order root : ℕ → ℕ} {zones : ℕ} → Pass E order root zones 0
    → (u v : ℕ) → u < zones → v < zones → (root u ≡ root v) ↔ Mutual E u v
pass_ended {E} {order} {root} {zones} S u v hu hv = (one, λ t. sym (S.complete u v hu hv (pass_named S u hu) t))
  where
    one : root u ≡ root v → Mutual E u v
    one e =
        let a = (S.sound u (pred (root u)) hu (omega (arith, pass_named S u hu))).1.1 in
        let b = (S.sound v (pred (root u)) hv (omega (arith, pass_named S u hu))).1.1 in
        (run_trans a.1 b.0, run_trans b.1 a.0)

-- A free zone leads to no zone that has a root: roots are given in topological order.
pub pass_after : {E : ℕ → ℕ → Type 0} {order root : ℕ → ℕ} {zones k : ℕ} → Pass E order root zones k
    → {z r : ℕ} → root z ≡ 0 → (root r ≡ 0 → ⊥) → Run E z r → ⊥
pass_after {root = root} S e h p = h (free_on root S.closed p e)
