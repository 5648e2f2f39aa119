-- A deep search puts a zone on its stack: the state `Deep` goes from one to the next.
--   push      an unseen zone h, to which every zone of the stack leads, is put on the stack below its top
--   deeper    the same where h is the first unseen head of the top, from the top's next place on
-- The new zone is seen last of all, so all it must keep is easy: what was seen keeps its mark, an ended zone has only
-- seen heads, all earlier than h, and a run to the old top goes on to h by the entry that was met.
-- Assumes nothing.
use mathlib.Core.Path.{◌≡◌, sym, ap, ◌∙◌}
use mathlib.Core.Logic.{◌⊎◌, inl, inr, ◌≢◌}
use Prim.Native.Nat.{ℕ, ◌+◌, ◌-◌, ◌≤◌, ◌<◌}
use native.Mathlib.Omega.{arith}
use Rattle.arranged.specs.Rows.{Rows, Sound, Entry, Run}
use Rattle.memory.proofs.Numbers.{same?, below?}
use Rattle.descent.specs.Order.{Pair}
use Rattle.descent.specs.Deep.{Live, SeenListed, Deep}
use Rattle.descent.proofs.Entries.{entry_head}

-- h, not seen before, is put on the stack at t; d', order' and next' are what is so then
module _ {G : Rows} (W : Sound G) (d d' order order' next next' : ℕ → ℕ) {lo hi t h : ℕ}
    (D : Deep G d order next lo hi) (below : t + 1 ≡ hi) (room : lo ≤ t) (end : hi ≤ G.zones)
    (zone_h : h < G.zones) (free : d h ≡ 0)
    (mark : d' h ≡ lo + (G.zones - hi) + 1) (mark_other : (v : ℕ) → v < G.zones → v ≢ h → d' v ≡ d v)
    (put : order' t ≡ h) (put_other : (j : ℕ) → j < G.zones → j ≢ t → order' j ≡ order j)
    (from' : (z : ℕ) → z < G.zones → G.start z ≤ next' z)
    (upto' : (z : ℕ) → z < G.zones → next' z ≤ G.stop z)
    (passed' : (z i : ℕ) → z < G.zones → G.start z ≤ i → i < next' z → d' (G.head i) ≡ 0 → ⊥)
    (link : (j : ℕ) → hi ≤ j → j < G.zones → Run (Entry G) (order j) h) where
  -- A zone that was seen is another than h, and keeps its mark.
  kept : (v : ℕ) → v < G.zones → (d v ≡ 0 → ⊥) → d' v ≡ d v
  kept v l s = mark_other v l (λ e. s (ap d e ∙ free))

  -- A live place holds a place of the order, and another than t.
  live_old : (i : ℕ) → Live lo hi G.zones i → (i < G.zones) × (i ≢ t)
  live_old i (inl a) = (omega arith, λ e. omega arith)
  live_old i (inr a) = (a.1, λ e. omega arith)

  -- A live place keeps its zone.
  same_zone : (i : ℕ) → Live lo hi G.zones i → order' i ≡ order i
  same_zone i l = put_other i (live_old i l).0 (live_old i l).1

  -- The zone of a live place keeps its mark.
  same_mark : (i : ℕ) → Live lo hi G.zones i → d' (order i) ≡ d (order i)
  same_mark i l = kept (order i) (D.zone i l) (D.seen i l)

  -- A place that is live now is the new one or was live.
  was : (i : ℕ) → Live lo t G.zones i → (i ≡ t) ⊎ Live lo hi G.zones i
  was i (inl a) = inr (inl a)
  was i (inr a) = elim (same? i t) [ inl e ↦ inl e | inr e ↦ inr (inr (omega arith, a.1)) ]

  -- A place that was live is live.
  still : (i : ℕ) → Live lo hi G.zones i → Live lo t G.zones i
  still i (inl a) = inl a
  still i (inr a) = inr (omega arith, a.1)

  -- What an ended zone and a live one had in common they have still.
  pair_kept : (i j : ℕ) → i < lo → Live lo hi G.zones j
      → Pair (Entry G) d (order i) (order j) → Pair (Entry G) d' (order' i) (order' j)
  pair_kept i j l lj p = rw (same_zone i (inl l), same_zone j lj) (
      elim p [
        | inl q ↦ inl (omega (arith, same_mark i (inl l), same_mark j lj, q.0), q.1)
        | inr q ↦ inr (λ v e. omega (arith, kept v (entry_head W e) (D.done i v l e), same_mark j lj, q v e))
      ])

  -- All heads of an ended zone were seen before h.
  pair_new : (i : ℕ) → i < lo → Pair (Entry G) d' (order' i) h
  pair_new i l = rw (same_zone i (inl l)) (inr (λ v a.
      omega (arith, mark, kept v (entry_head W a) (D.done i v l a), D.early v (entry_head W a))))

  -- Live places hold zones.
  zone_now : (i : ℕ) → Live lo t G.zones i → order' i < G.zones
  zone_now i l = elim (was i l) [ inl e ↦ rw (e, put) zone_h | inr a ↦ rw (same_zone i a) (D.zone i a) ]

  -- Live places hold seen zones.
  seen_now : (i : ℕ) → Live lo t G.zones i → d' (order' i) ≡ 0 → ⊥
  seen_now i l z = elim (was i l) [
    | inl e ↦ omega (arith, mark, ap d' (ap order' e ∙ put), z)
    | inr a ↦ D.seen i a (sym (same_mark i a) ∙ sym (ap d' (same_zone i a)) ∙ z)
  ]

  -- No zone was seen later than h.
  early_now : (v : ℕ) → v < G.zones → d' v ≤ lo + (G.zones - t)
  early_now v l = elim (same? v h) [
    | inl e ↦ rw (e, mark) (omega arith)
    | inr e ↦ rw (mark_other v l e) (omega (arith, D.early v l))
  ]

  -- Every seen zone is in a live place.
  listed_now : (v : ℕ) → v < G.zones → (d' v ≡ 0 → ⊥) → SeenListed order' lo t G.zones v
  listed_now v l s = elim (same? v h) [
    | inl e ↦ record { at = t; live = inr (omega arith, omega arith); is = put ∙ sym e }
    | inr e ↦
        let y = D.listed v l (λ q. s (mark_other v l e ∙ q)) in
        record { at = y.at; live = still y.at y.live; is = same_zone y.at y.live ∙ y.is }
  ]

  -- An ended zone and one of the stack have the order's property.
  over_now : (i j : ℕ) → i < lo → t ≤ j → j < G.zones → Pair (Entry G) d' (order' i) (order' j)
  over_now i j l k z = elim (same? j t) [
    | inl e ↦ rw (e, put) (pair_new i l)
    | inr e ↦ let b : hi ≤ j = omega arith in pair_kept i j l (inr (b, z)) (D.over i j l b z)
  ]

  -- A zone of the stack was seen no later than h, and leads to it.
  chain_new : (j : ℕ) → t ≤ j → j < G.zones → (d' (order' j) ≤ d' h) × Run (Entry G) (order' j) h
  chain_new j k z = elim (same? j t) [
    | inl e ↦ rw (e, put) (omega arith, Run.here)
    | inr e ↦
        let b : hi ≤ j = omega arith in
        let live : Live lo hi G.zones j = inr (b, z) in
        rw (same_zone j live) (omega (arith, same_mark j live, mark, D.early (order j) (D.zone j live)), link j b z)
  ]

  -- Down the stack, zones were seen no earlier and are reached.
  chain_now : (i j : ℕ) → t ≤ i → i ≤ j → j < G.zones
      → (d' (order' j) ≤ d' (order' i)) × Run (Entry G) (order' j) (order' i)
  chain_now i j l k z = elim (same? i t) [
    | inl e ↦ rw (e, put) (chain_new j (omega arith) z)
    | inr e ↦
        let a : Live lo hi G.zones i = inr (omega arith, omega arith) in
        let b : Live lo hi G.zones j = inr (omega arith, z) in
        let c = D.chain i j (omega arith) k z in
        rw (same_zone i a, same_zone j b) (omega (arith, same_mark i a, same_mark j b, c.0), c.1)
  ]

  -- All heads of ended zones are seen.
  done_now : (i v : ℕ) → i < lo → Entry G (order' i) v → d' v ≡ 0 → ⊥
  done_now i v l a q =
      let b : Entry G (order i) v = rw (same_zone i (inl l)) at a in
      let s = D.done i v l b in
      s (sym (kept v (entry_head W b) s) ∙ q)

  -- The search with h on its stack.
  pub push : Deep G d' order' next' lo t
  push = record {
    zone = zone_now;
    seen = seen_now;
    early = early_now;
    listed = listed_now;
    pairs = λ i j l k. pair_kept i j (omega arith) (inl k) (D.pairs i j l k);
    over = over_now;
    chain = chain_now;
    done = done_now;
    from = from';
    upto = upto';
    passed = passed';
  }

-- the top goes on from its next place to the place p of its row, whose zone h was not seen, and h is put on the stack
module _ {G : Rows} (W : Sound G) (d d' order order' next next' : ℕ → ℕ) {lo hi t p h : ℕ}
    (D : Deep G d order next lo hi) (below : t + 1 ≡ hi) (room : lo ≤ t) (end : hi < G.zones)
    (low : next (order hi) ≤ p) (high : p < G.stop (order hi)) (is : G.head p ≡ h)
    (prior : (k : ℕ) → next (order hi) ≤ k → k < p → d (G.head k) ≡ 0 → ⊥) (free : d h ≡ 0)
    (mark : d' h ≡ lo + (G.zones - hi) + 1) (mark_other : (v : ℕ) → v < G.zones → v ≢ h → d' v ≡ d v)
    (put : order' t ≡ h) (put_other : (j : ℕ) → j < G.zones → j ≢ t → order' j ≡ order j)
    (moved : next' (order hi) ≡ p + 1)
    (moved_other : (z : ℕ) → z < G.zones → z ≢ order hi → next' z ≡ next z) where
  -- The top is a zone.
  top_zone : order hi < G.zones
  top_zone = D.zone hi (inr (omega arith, end))

  -- The place p lies in the top's row.
  top_from : G.start (order hi) ≤ p
  top_from = omega (arith, D.from (order hi) top_zone)

  -- h is a zone.
  next_zone : h < G.zones
  next_zone = rw is at (W.heads (order hi) p top_zone top_from high)

  -- Every next place is behind its row's start.
  next_from : (z : ℕ) → z < G.zones → G.start z ≤ next' z
  next_from z l = elim (same? z (order hi)) [
    | inl e ↦ rw (e, moved) (omega (arith, top_from))
    | inr e ↦ rw (moved_other z l e) (D.from z l)
  ]

  -- Every next place is at most its row's end.
  next_upto : (z : ℕ) → z < G.zones → next' z ≤ G.stop z
  next_upto z l = elim (same? z (order hi)) [
    | inl e ↦ rw (e, moved) (omega arith)
    | inr e ↦ rw (moved_other z l e) (D.upto z l)
  ]

  -- A zone that was seen is seen.
  seen_still : (v : ℕ) → v < G.zones → (d v ≡ 0 → ⊥) → d' v ≡ 0 → ⊥
  seen_still v l s q = s (sym (mark_other v l (λ e. s (ap d e ∙ free))) ∙ q)

  -- The head at a place of a row, once seen, is seen.
  head_still : (z i : ℕ) → z < G.zones → G.start z ≤ i → i < G.stop z
      → (d (G.head i) ≡ 0 → ⊥) → d' (G.head i) ≡ 0 → ⊥
  head_still z i l a b = seen_still (G.head i) (W.heads z i l a b)

  -- What the top has passed is seen.
  top_passed : (i : ℕ) → G.start (order hi) ≤ i → i < p + 1 → d' (G.head i) ≡ 0 → ⊥
  top_passed i a b = elim (below? i (next (order hi))) [
    | inl c ↦ head_still (order hi) i top_zone a (omega arith) (D.passed (order hi) i top_zone a c)
    | inr c ↦ elim (same? i p) [
      | inl f ↦ rw (f, is, mark) (λ q. omega arith)
      | inr f ↦ head_still (order hi) i top_zone a (omega arith) (prior i c (omega arith))
    ]
  ]

  -- What any zone has passed is seen.
  next_passed : (z i : ℕ) → z < G.zones → G.start z ≤ i → i < next' z → d' (G.head i) ≡ 0 → ⊥
  next_passed z i l a b = elim (same? z (order hi)) [
    | inl e ↦ top_passed i (omega (arith, ap G.start e)) (omega (arith, ap next' e, moved))
    | inr e ↦
        let c : i < next z = omega (arith, moved_other z l e) in
        head_still z i l a (omega (arith, D.upto z l)) (D.passed z i l a c)
  ]

  -- Every zone of the stack leads to h.
  next_link : (j : ℕ) → hi ≤ j → j < G.zones → Run (Entry G) (order j) h
  next_link j l k = Run.further (D.chain hi j (omega arith) l k).1
      (record { tail = top_zone; at = p; low = top_from; high = high; is = is })

  -- The search with h on its stack and the top's next place moved on.
  pub deeper : Deep G d' order' next' lo t
  deeper = push W d d' order order' next next' D below room (omega arith) next_zone free mark mark_other put put_other
      next_from next_upto next_passed next_link
