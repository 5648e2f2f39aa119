-- The pass over the zones, from the last down, on plain lists.
--   start_more             one name more is noted at the start
--   put_followed, put_alone, put_fits   the arc out of a zone that another follows is put, out of one alone none is;
--                          it has room
--   Passing                the zones from z on are passed: their arcs are put, and the lowest of each name is noted
--   passing_start, passing_lent, passing_room, passing_turn   the loop
-- What is noted for a name is what comes next in its ring from the zones passed, so one zone more is one case of
-- `first`. Assumes nothing.
use mathlib.Core.Path.{◌≡◌, sym, ap, ◌∙◌}
use mathlib.Core.Logic.{inl, inr, ◌≢◌}
use mathlib.Core.Bool.{Bool}
use mathlib.Core.List.{List, [], ◌∷◌, ◌++◌}
use Prim.Native.Nat.{ℕ, zero, suc, ◌+◌, ◌-◌, ◌≤◌, ◌<◌}
use native.Mathlib.Nat.{zero-add}
use native.Mathlib.Omega.{arith}
use borrow.Author.Tests.{eq-eqb, ne_eqb}
use lib.ListN.{length, get_or, set, take, drop, length-set, length-append}
use lib.Dec.{eqb}
use lib.Seq.{sets, length-sets, get_or-set_same, get_or-set_other, take-set-le, drop-set-lt}
use Rattle.rules.specs.Lists.{span}
use Rattle.rules.specs.Network.{◌⟶◌}
use Rattle.theory.proofs.Ground.Lists.{first_hit, first_miss}
use Rattle.theory.proofs.Ground.Ascending.{span_length}
use Rattle.theory.proofs.Ground.Ascending.{span_more}
use Rattle.workmap.specs.declared.RingsAt.{RingsAt}
use Rattle.memory.specs.Regions.{cell}
use Rattle.memory.proofs.Numbers.{same?}
use Rattle.memory.proofs.Regions.{at_kept}
use Rattle.memory.proofs.Stores.{sets_more, take_sets, drop_sets, getD_sets_at}
use Rattle.arcsink.specs.declared.ArcSink.{ArcSink}
use Rattle.arcsink.specs.Sink.{SinkFit, SinkPut}
use Rattle.arcsink.proofs.Sinks.{sink_none, sink_then, sink_long}
use Rattle.rings.specs.Rings.{next_round, ring_arc, rings_of, RingsLent, RingPut}

-- one name more is noted at the start
pub start_more : (w u : List ℕ) (at a : ℕ) → u ≡ sets w at (span 0 a) → set u (at + a) a ≡ sets w at (span 0 (a + 1))
start_more w u at a e =
    ap (λ (l : List ℕ). set l (at + a) a) e
    ∙ sets_more w at (span 0 a) a (at + a) (ap (λ (k : ℕ). at + k) (sym (span_length 0 a)))
    ∙ ap (sets w at) (sym (span_more a))

-- a number of a row
span_at : (a n i : ℕ) → i < n → get_or (span a n) i 0 ≡ a + i
span_at a zero i h = absurd (omega arith)
span_at a (suc n) zero h = omega arith
span_at a (suc n) (suc i) h = span_at (suc a) n i (omega arith) ∙ omega arith

-- a zone that another follows has an arc to it
pub ring_one : (z b : ℕ) → (b ≡ z → ⊥) → ring_arc z b ≡ (z ⟶ b) ∷ []
unfolding ring_arc
ring_one z b ne = rw (ne_eqb b z ne, ring_arc)

-- a zone that comes next after itself has none
pub ring_none : (z b : ℕ) → b ≡ z → ring_arc z b ≡ []
unfolding ring_arc
ring_none z b e = rw (eq-eqb b z e, ring_arc)

module _ (w : List ℕ) (R : RingsAt) (z x : ℕ) (name : x ≡ cell w R.names z) where
  -- what is noted for the name of the zone, once the name is read
  same_next : cell w R.last (cell w R.names z) ≡ cell w R.last x
  same_next = ap (cell w R.last) (sym name)

  -- where that is another zone, the arc to it is put
  pub put_followed : (cell w R.last x ≡ z → ⊥) → {s s' : ArcSink} → SinkPut s s' ((z ⟶ cell w R.last x) ∷ [])
      → RingPut w (set w (R.last + x) z) R z s s'
  put_followed other P =
      record {
        arc = rw (same_next, ring_one z (cell w R.last x) other) P;
        noted = ap (λ (k : ℕ). set w (R.last + k) z) name;
      }

  -- where it is the zone, none is put
  pub put_alone : cell w R.last x ≡ z → (s : ArcSink) → RingPut w (set w (R.last + x) z) R z s s
  put_alone own s =
      record {
        arc = rw (same_next, ring_none z (cell w R.last x) own) (sink_none s);
        noted = ap (λ (k : ℕ). set w (R.last + k) z) name;
      }

  -- and it has room
  pub put_fits : (cell w R.last x ≡ z → ⊥) → {s : ArcSink}
      → SinkFit s (ring_arc z (cell w R.last (cell w R.names z))) → SinkFit s ((z ⟶ cell w R.last x) ∷ [])
  put_fits other F = rw (same_next, ring_one z (cell w R.last x) other) at F

-- one zone more, from a zone on
span_next : (n z : ℕ) → 0 < z → z ≤ n → span (z - 1) (n - (z - 1)) ≡ (z - 1) ∷ span z (n - z)
span_next n z some low =
    let more : n - (z - 1) ≡ suc (n - z) = omega arith in
    let up : suc (z - 1) ≡ z = omega arith in
    ap (span (z - 1)) more ∙ ap (λ (k : ℕ). (z - 1) ∷ span k (n - z)) up

module _ (name : ℕ → ℕ) where
  -- the arcs with those out of one zone more
  grown : (n z : ℕ) → 0 < z → z ≤ n
      → rings_of name (span (z - 1) (n - (z - 1)))
      ≡ rings_of name (span z (n - z)) ++ ring_arc (z - 1) (next_round name (span z (n - z)) (name (z - 1)))
  unfolding rings_of
  grown n z some low = ap (rings_of name) (span_next n z some low)

  -- from a higher zone on there are no more arcs
  few : (n z : ℕ) → z ≤ n → length (rings_of name (span z (n - z))) ≤ length (rings_of name (span 0 n))
  few n zero h =
      let all : n - 0 ≡ n = omega arith in
      rw all (omega arith)
  few n (suc z) h =
      let back : suc z - 1 ≡ z = omega arith in
      let more = ap length (grown n (suc z) (omega arith) h) in
      let both = length-append (rings_of name (span (suc z) (n - suc z)))
      (ring_arc (suc z - 1) (next_round name (span (suc z) (n - suc z)) (name (suc z - 1))))
      in
      let less = few n z (omega arith) in
      let same = ap (λ (k : ℕ). length (rings_of name (span k (n - k)))) back in
      omega arith

-- the zones from z on are passed
pub record Passing (w u : List ℕ) (R : RingsAt) (s s' : ArcSink) (z : ℕ) : Type 0 where
  pub below : z ≤ R.zones
  pub arcs : SinkPut s s' (rings_of (cell w R.names) (span z (R.zones - z)))
  pub lowest : (a : ℕ) → a < R.zones
      → cell u R.last a ≡ next_round (cell w R.names) (span z (R.zones - z)) a
  pub long : length u ≡ length w
  pub low : take R.last u ≡ take R.last w
  pub high : drop (R.last + R.zones) u ≡ drop (R.last + R.zones) w

-- at the start no zone is passed, and each name comes next in its ring
pub passing_start : {w : List ℕ} {R : RingsAt} (s : ArcSink) → RingsLent w R
    → Passing w (sets w R.last (span 0 R.zones)) R s s R.zones
unfolding rings_of
passing_start {w} {R} s L =
    let n = R.zones in
    let none : n - n ≡ 0 = omega arith in
    let size = span_length 0 n in
    let room : R.last + length (span 0 n) ≤ length w = omega (arith, size, L.apart, L.fits) in
    record {
      below = omega arith;
      arcs = rw none (sink_none s);
      lowest = λ a h.
          getD_sets_at w R.last (span 0 n) a room (omega arith)
          ∙ span_at 0 n a h
          ∙ zero-add a
          ∙ ap (λ (k : ℕ). next_round (cell w R.names) (span n k) a) (sym none);
      long = length-sets w R.last (span 0 n);
      low = take_sets w R.last (span 0 n) R.last (omega arith);
      high = drop_sets w R.last (span 0 n) (R.last + n) (omega arith);
    }

module _ {w u : List ℕ} {R : RingsAt} {s s' : ArcSink} {z : ℕ} (L : RingsLent w R)
    (P : Passing w u R s s' z) where
  -- the names are as they came
  kept : (v : ℕ) → cell u R.names v ≡ cell w R.names v
  kept v = at_kept w u (R.last + R.zones) (R.names + v) (omega (arith, L.apart)) P.high

  -- one zone more can be passed
  pub passing_lent : RingsLent u R
  passing_lent =
      record {
        small = L.small;
        apart = L.apart;
        fits = omega (arith, L.fits, P.long);
        named = λ v h. omega (arith, kept v, L.named v h);
      }

  module _ (some : 0 < z) where
    -- what is noted for the next zone's name comes next after it
    follower : cell u R.last (cell u R.names (z - 1))
        ≡ next_round (cell w R.names) (span z (R.zones - z)) (cell w R.names (z - 1))
    follower =
        ap (cell u R.last) (kept (z - 1))
        ∙ P.lowest (cell w R.names (z - 1)) (L.named (z - 1) (omega (arith, P.below)))

    -- its arc has room
    pub passing_room : SinkFit s (rings_of (cell w R.names) (span 0 R.zones))
        → SinkFit s' (ring_arc (z - 1) (cell u R.last (cell u R.names (z - 1))))
    passing_room F =
        let f = cell w R.names in
        let n = R.zones in
        let less = few f n (z - 1) (omega (arith, P.below)) in
        let more = ap length (grown f n z some P.below) in
        let both = length-append (rings_of f (span z (n - z)))
        (ring_arc (z - 1) (next_round f (span z (n - z)) (f (z - 1))))
        in
        let same = ap (λ (b : ℕ). length (ring_arc (z - 1) b)) follower in
        let long = sink_long P.arcs in
        record {
          tails = omega (arith, F.tails, P.arcs.arcs.behind, long.0);
          heads = omega (arith, F.heads, P.arcs.arcs.behind, long.1);
        }

    -- one zone more is passed
    pub passing_turn : {u' : List ℕ} {s'' : ArcSink} → RingPut u u' R (z - 1) s' s''
        → Passing w u' R s s'' (z - 1)
    passing_turn Q =
        let f = cell w R.names in
        let n = R.zones in
        let a = cell u R.names (z - 1) in
        let zone : a < n = passing_lent.named (z - 1) (omega (arith, P.below)) in
        let here : R.last + a < length u = omega (arith, L.apart, L.fits, P.long) in
        record {
          below = omega (arith, P.below);
          arcs =
              rw (grown f n z some P.below)
              (sink_then P.arcs (rw follower at Q.arc));
          lowest = λ b h. ap (λ (l : List ℕ). cell l R.last b) Q.noted ∙ noted b h here;
          long = ap length Q.noted ∙ length-set u (R.last + a) (z - 1) ∙ P.long;
          low = ap (take R.last) Q.noted ∙ take-set-le R.last u (R.last + a) (z - 1) (omega arith) ∙ P.low;
          high =
              ap (drop (R.last + n)) Q.noted
              ∙ drop-set-lt (R.last + n) u (R.last + a) (z - 1) (omega arith)
              ∙ P.high;
        }
      where
        -- the zone is the lowest of its name, and the other names have theirs
        noted : (b : ℕ) → b < R.zones → R.last + cell u R.names (z - 1) < length u
            → cell (set u (R.last + cell u R.names (z - 1)) (z - 1)) R.last b
            ≡ next_round (cell w R.names) (span (z - 1) (R.zones - (z - 1))) b
        noted b h here =
            let f = cell w R.names in
            let n = R.zones in
            let a = cell u R.names (z - 1) in
            let zs = span z (n - z) in
            let test : ℕ → Bool = λ v. eqb (f v) b in
            let next = ap (λ (l : List ℕ). next_round f l b) (span_next n z some P.below) in
            elim (same? b a) [
              | inl e ↦
                  ap (λ (k : ℕ). get_or (set u (R.last + a) (z - 1)) (R.last + k) 0) e
                  ∙ get_or-set_same u (R.last + a) (z - 1) 0 here
                  ∙ sym (first_hit test b zs (eq-eqb (f (z - 1)) b (sym (kept (z - 1)) ∙ sym e)))
                  ∙ sym next
              | inr other ↦
                  let off : R.last + b ≢ R.last + a = λ e. other (omega arith) in
                  get_or-set_other u (R.last + a) (R.last + b) (z - 1) 0 off
                  ∙ P.lowest b h
                  ∙ sym (first_miss test b zs (ne_eqb (f (z - 1)) b (λ e. other (sym e ∙ sym (kept (z - 1))))))
                  ∙ sym next
            ]
