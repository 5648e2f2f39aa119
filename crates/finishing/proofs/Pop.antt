-- A deep search ends its top, and its start and its end: the state `Deep` goes from one to the next.
--   pop           the top, all of whose heads are seen, ends: it goes from the stack behind the ended zones
--   deep_begun    nothing is seen yet
--   deep_stands   all has ended: every zone stands in the order
-- The top's pairs with the ended zones were known while it was on the stack, and its pairs with what is left on the
-- stack come from the stack's being a run. Assumes nothing.
use mathlib.Core.Path.{◌≡◌, sym, ap, ◌∙◌}
use mathlib.Core.Logic.{inl, inr, ◌≢◌}
use Prim.Native.Nat.{ℕ, ◌+◌, ◌≤◌, ◌<◌}
use native.Mathlib.Omega.{arith}
use Rattle.arranged.specs.Rows.{Rows, Sound, Entry, Run}
use Rattle.memory.proofs.Numbers.{same?, below?}
use Rattle.descent.specs.Order.{Pair, InOrder}
use Rattle.descent.specs.Deep.{Live, SeenListed, Deep}
use Rattle.descent.proofs.Entries.{entry_head}

-- the top ends: all its heads were seen; d', order' and next' are what is so then
module _ {G : Rows} (W : Sound G) (d d' order order' next next' : ℕ → ℕ) {lo hi : ℕ}
    (D : Deep G d order next lo hi) (room : lo ≤ hi) (end : hi < G.zones)
    (same : (v : ℕ) → v < G.zones → d' v ≡ d v)
    (put : order' lo ≡ order hi) (put_other : (j : ℕ) → j < G.zones → j ≢ lo → order' j ≡ order j)
    (next_same : (z : ℕ) → z < G.zones → next' z ≡ next z)
    (full : (i : ℕ) → next (order hi) ≤ i → i < G.stop (order hi) → d (G.head i) ≡ 0 → ⊥) where
  -- The top is a zone.
  top_zone : order hi < G.zones
  top_zone = D.zone hi (inr (omega arith, end))

  -- A place that is live now, but the new one, was live.
  was : (i : ℕ) → i ≢ lo → Live (lo + 1) (hi + 1) G.zones i → Live lo hi G.zones i
  was i e (inl a) = inl (omega arith)
  was i e (inr a) = inr (omega arith, a.1)

  -- A live place is a place of the order.
  live_place : (i : ℕ) → Live lo hi G.zones i → i < G.zones
  live_place i (inl a) = omega arith
  live_place i (inr a) = a.1

  -- Every live place holds what a live place held.
  came : (i : ℕ) → Live (lo + 1) (hi + 1) G.zones i → SeenListed order lo hi G.zones (order' i)
  came i l = elim (same? i lo) [
    | inl e ↦ record { at = hi; live = inr (omega arith, end); is = sym (ap order' e ∙ put) }
    | inr e ↦ record { at = i; live = was i e l; is = sym (put_other i (live_place i (was i e l)) e) }
  ]

  -- Ended zones keep their places.
  put_low : (i : ℕ) → i < lo → order' i ≡ order i
  put_low i l = put_other i (omega arith) (λ e. omega arith)

  -- So do the zones below the top.
  put_high : (i : ℕ) → hi < i → i < G.zones → order' i ≡ order i
  put_high i l k = put_other i k (λ e. omega arith)

  -- What two zones had in common they have still.
  pair_same : (x y : ℕ) → x < G.zones → y < G.zones → Pair (Entry G) d x y → Pair (Entry G) d' x y
  pair_same x y hx hy p = elim p [
    | inl q ↦ inl (omega (arith, same x hx, same y hy, q.0), q.1)
    | inr q ↦ inr (λ v e. omega (arith, same v (entry_head W e), same y hy, q v e))
  ]

  -- All heads of the top were seen.
  top_done : (v : ℕ) → Entry G (order hi) v → d v ≡ 0 → ⊥
  top_done v e q = elim (below? e.at (next (order hi))) [
    | inl l ↦ D.passed (order hi) e.at top_zone e.low l (ap d e.is ∙ q)
    | inr l ↦ full e.at l e.high (ap d e.is ∙ q)
  ]

  -- Live places hold zones.
  zone_now : (i : ℕ) → Live (lo + 1) (hi + 1) G.zones i → order' i < G.zones
  zone_now i l = let y = came i l in rw y.is at (D.zone y.at y.live)

  -- Live places hold seen zones.
  seen_now : (i : ℕ) → Live (lo + 1) (hi + 1) G.zones i → d' (order' i) ≡ 0 → ⊥
  seen_now i l q =
      let y = came i l in
      D.seen y.at y.live (ap d y.is ∙ sym (same (order' i) (zone_now i l)) ∙ q)

  -- What a live place held, a live place holds.
  went : (i : ℕ) → Live lo hi G.zones i → SeenListed order' (lo + 1) (hi + 1) G.zones (order i)
  went i (inl a) = record { at = i; live = inl (omega arith); is = put_low i a }
  went i (inr a) = elim (same? i hi) [
    | inl e ↦ record { at = lo; live = inl (omega arith); is = put ∙ sym (ap order e) }
    | inr e ↦ record { at = i; live = inr (omega arith, a.1); is = put_high i (omega arith) a.1 }
  ]

  -- Every seen zone is in a live place.
  listed_now : (v : ℕ) → v < G.zones → (d' v ≡ 0 → ⊥) → SeenListed order' (lo + 1) (hi + 1) G.zones v
  listed_now v l s =
      let y = D.listed v l (λ q. s (same v l ∙ q)) in
      let z = went y.at y.live in
      record { at = z.at; live = z.live; is = z.is ∙ y.is }

  -- Ended zones have the order's property.
  pairs_now : (i j : ℕ) → i < j → j < lo + 1 → Pair (Entry G) d' (order' i) (order' j)
  pairs_now i j l k =
      let a : i < lo = omega arith in
      elim (same? j lo) [
        | inl e ↦ rw (e, put, put_low i a)
            (pair_same (order i) (order hi) (D.zone i (inl a)) top_zone (D.over i hi a (omega arith) end))
        | inr e ↦
            let b : j < lo = omega arith in
            rw (put_low i a, put_low j b)
            (pair_same (order i) (order j) (D.zone i (inl a)) (D.zone j (inl b)) (D.pairs i j l b))
      ]

  -- An ended zone and one of the stack have it too.
  over_now : (i j : ℕ) → i < lo + 1 → hi + 1 ≤ j → j < G.zones → Pair (Entry G) d' (order' i) (order' j)
  over_now i j l k z =
      let zone_j = D.zone j (inr (omega arith, z)) in
      rw (put_high j (omega arith) z) (
      elim (same? i lo) [
        | inl e ↦ rw (e, put)
            (pair_same (order hi) (order j) top_zone zone_j (inl (D.chain hi j (omega arith) (omega arith) z)))
        | inr e ↦
            let b : i < lo = omega arith in
            rw (put_low i b)
            (pair_same (order i) (order j) (D.zone i (inl b)) zone_j (D.over i j b (omega arith) z))
      ])

  -- Down the stack, zones were seen no earlier and are reached.
  chain_now : (i j : ℕ) → hi + 1 ≤ i → i ≤ j → j < G.zones
      → (d' (order' j) ≤ d' (order' i)) × Run (Entry G) (order' j) (order' i)
  chain_now i j l k z =
      let c = D.chain i j (omega arith) k z in
      let a = same (order i) (D.zone i (inr (omega arith, omega arith))) in
      let b = same (order j) (D.zone j (inr (omega arith, z))) in
      rw (put_high i (omega arith) (omega arith), put_high j (omega arith) z) (omega (arith, c.0, a, b), c.1)

  -- All heads of ended zones are seen.
  done_now : (i v : ℕ) → i < lo + 1 → Entry G (order' i) v → d' v ≡ 0 → ⊥
  done_now i v l a q = elim (same? i lo) [
    | inl e ↦
        let b : Entry G (order hi) v = rw (e, put) at a in
        top_done v b (sym (same v (entry_head W b)) ∙ q)
    | inr e ↦
        let h : i < lo = omega arith in
        let b : Entry G (order i) v = rw (put_low i h) at a in
        D.done i v h b (sym (same v (entry_head W b)) ∙ q)
  ]

  -- What any zone has passed is seen.
  passed_now : (z i : ℕ) → z < G.zones → G.start z ≤ i → i < next' z → d' (G.head i) ≡ 0 → ⊥
  passed_now z i l a b q =
      let h = W.heads z i l a (omega (arith, next_same z l, D.upto z l)) in
      D.passed z i l a (omega (arith, next_same z l)) (sym (same (G.head i) h) ∙ q)

  -- The search with its top ended.
  pub pop : Deep G d' order' next' (lo + 1) (hi + 1)
  pop = record {
    zone = zone_now;
    seen = seen_now;
    early = λ v l. omega (arith, same v l, D.early v l);
    listed = listed_now;
    pairs = pairs_now;
    over = over_now;
    chain = chain_now;
    done = done_now;
    from = λ z l. omega (arith, next_same z l, D.from z l);
    upto = λ z l. omega (arith, next_same z l, D.upto z l);
    passed = passed_now;
  }

module _ {G : Rows} (W : Sound G) (d order next : ℕ → ℕ) where
  -- No place is live while nothing has ended and the stack is empty.
  none_live : (i : ℕ) → Live 0 G.zones G.zones i → ⊥
  none_live i (inl a) = omega arith
  none_live i (inr a) = omega arith

  -- The search that has not begun: nothing is seen, and every next place is its row's start.
  pub deep_begun : ((v : ℕ) → v < G.zones → d v ≡ 0) → ((z : ℕ) → z < G.zones → next z ≡ G.start z)
      → Deep G d order next 0 G.zones
  deep_begun clear first = record {
    zone = λ i l. absurd (none_live i l);
    seen = λ i l q. none_live i l;
    early = λ v l. omega (arith, clear v l);
    listed = λ v l s. absurd (s (clear v l));
    pairs = λ i j l k. absurd (omega arith);
    over = λ i j l k z. absurd (omega arith);
    chain = λ i j l k z. absurd (omega arith);
    done = λ i v l a q. omega arith;
    from = λ z l. omega (arith, first z l);
    upto = λ z l. omega (arith, first z l, W.up z l);
    passed = λ z i l a b q. omega (arith, first z l);
  }

  -- Where all has ended, every zone that was seen stands in the order.
  pub deep_stands : Deep G d order next G.zones G.zones → (v : ℕ) → v < G.zones → (d v ≡ 0 → ⊥)
      → InOrder order G.zones v
  deep_stands D v l s =
      let y = D.listed v l s in
      record { at = y.at; low = elim y.live [ inl a ↦ a | inr a ↦ a.1 ]; is = y.is }
