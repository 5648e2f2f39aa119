-- The arcs of the rings and those between components, put one behind the other.
--   named_kept       what keeps everything from the components' names on keeps the names
--   rings_asked      the rings' arcs can be put, and have room
--   cross-asked      behind them the arcs between components have room
--   drawn            both together are the skeleton's arcs
-- Assumes nothing.
use mathlib.Core.Path.{◌≡◌, refl, ◌∙◌}
use mathlib.Core.List.{List, ◌++◌}
use Prim.Native.Nat.{ℕ, ◌+◌, ◌*◌, ◌≤◌}
use native.Mathlib.Omega.{arith}
use lib.ListN.{length, drop, length-append}
use Rattle.rules.specs.Lists.{span}
use Rattle.rules.specs.Network.{Arc, ◌⟶◌}
use Rattle.rules.specs.Calls.{handed, asked_work}
use Rattle.theory.proofs.Ground.ArcLists.{arcs_length}
use Rattle.workmap.specs.Map.{names_at, rings_at, table_at}
use Rattle.memory.specs.Regions.{cell}
use Rattle.arcsink.specs.declared.ArcSink.{ArcSink}
use Rattle.arcsink.specs.Sink.{SinkFit}
use Rattle.arcsink.proofs.Sinks.{sink_then, sink_long}
use Rattle.memory.proofs.Regions.{at_kept}
use Rattle.memory.proofs.Places.{drop_deeper}
use Rattle.rings.specs.Rings.{rings_of, RingsLent, RingsPut}
use Rattle.rings.proofs.Following.{rings_in, rings_ends, in_rings, rings_once, rings_short}
use Rattle.sorting.proofs.Parts.{SkeletonParts, whole_twice, whole_short, whole_between}
use Rattle.blocks.specs.Sweeps.{crossing_arcs}
use Rattle.blocks.specs.Contract.{CrossingsPut}
use Rattle.blocks.specs.Crossings.{Crossings}
use Rattle.blocks.proofs.Crossing.{crossings_right}
use Rattle.drawing.specs.Drawing.{Named, Tabled, Drawn}
use Rattle.drawing.proofs.Orders.{ordered_agree}
use Rattle.drawing.proofs.Tables.{name_low, named_proper}

-- what keeps everything from the components' names on keeps the names
pub named_kept : (w w' : List ℕ) (n : ℕ) (ts hs : List ℕ) (k : ℕ) → length w' ≡ length w →
    drop (names_at n).tops w' ≡ drop (names_at n).tops w → Named w n ts hs k → Named w' n ts hs k
named_kept w w' n ts hs k long same N =
    record {
      fine = N.fine;
      room = omega (arith, N.room);
      few = N.few;
      named = λ v h. at_kept w w' (names_at n).tops ((names_at n).names + v) (omega arith) same ∙ N.named v h;
      ordered =
          ordered_agree (cell w (names_at n).tops) (cell w' (names_at n).tops) k
          (λ j h. at_kept w w' (names_at n).tops ((names_at n).tops + j) (omega arith) same) N.ordered;
    }

module _ (w : List ℕ) (n : ℕ) (ts hs : List ℕ) (k : ℕ) (N : Named w n ts hs k) (s : ArcSink)
    (empty : s.len ≡ 0) (tails_room : length ts ≤ length s.tails.now)
    (heads_room : length ts ≤ length s.heads.now) where
  -- the network has as many arcs as tails
  many : length (handed n ts hs).arcs ≡ length ts
  unfolding handed
  many = arcs_length ts hs N.fine.paired

  -- its zones
  zones : (handed n ts hs).zones ≡ span 0 n
  unfolding handed
  zones = refl

  -- the rings' arcs
  abbrev pub ring_arcs : List Arc
  ring_arcs = rings_of (cell w (names_at n).names) (span 0 n)

  -- they can be put
  pub rings_asked : RingsLent w (rings_at n)
  rings_asked =
      record {
        small = N.fine.accepted.zones_most;
        apart = omega arith;
        fits = omega (arith, N.room);
        named = λ v h. name_low w n ts hs k N v h;
      }

  -- and have room
  pub rings_fit : SinkFit s ring_arcs
  rings_fit =
      let short = rings_short (named_proper w n ts hs k N) n zones (cell w (names_at n).names) N.named in
      record { tails = omega (arith, short, many); heads = omega (arith, short, many) }

  -- w₁ is the memory once they are put, w₂ once the network of the components is laid out
  module _ {w₁ : List ℕ} {s₁ : ArcSink} (P : RingsPut w w₁ (rings_at n) s s₁) where
    -- the names are still there
    pub named_then : Named w₁ n ts hs k
    named_then =
        named_kept w w₁ n ts hs k P.long
        (drop_deeper w w₁ ((rings_at n).last + n) (names_at n).tops (omega arith) P.high) N

    module _ {w₂ : List ℕ} (T : Tabled w₁ w₂ n ts hs k) where
      -- the arcs between components
      abbrev pub cross_arcs : List Arc
      cross_arcs = crossing_arcs w₂ (table_at n) k

      -- they are those that cross
      crossing : Crossings (handed n ts hs) cross_arcs
      crossing = crossings_right T.condensed

      -- both together are the skeleton's
      parts : SkeletonParts (handed n ts hs) ring_arcs cross_arcs
      parts =
          let P = named_proper w n ts hs k N in
          let f = cell w (names_at n).names in
          record {
            ring_once = rings_once P n zones f N.named;
            ring_in = rings_in P n zones f N.named;
            in_ring = in_rings P n zones f N.named;
            ring_ends = rings_ends P n zones f N.named;
            cross_once = crossing.once;
            cross_in = crossing.sound;
            in_cross = λ a b i j h. crossing.complete (a ⟶ b) h;
            cross_ends = crossing.ends;
          }

      -- they are no more than the network has
      both_few : length (ring_arcs ++ cross_arcs) ≤ length ts
      both_few = omega (arith, whole_short (named_proper w n ts hs k N) parts n zones, many)

      -- behind the rings' arcs those between components have room
      pub cross_fit : SinkFit s₁ cross_arcs
      cross_fit =
          let long = sink_long P.arcs in
          let both = length-append ring_arcs cross_arcs in
          record {
            tails = omega (arith, P.arcs.arcs.behind, both, both_few, long.0);
            heads = omega (arith, P.arcs.arcs.behind, both, both_few, long.1);
          }

      -- w₃ is the memory once they are put: they are the skeleton's arcs
      pub drawn : {w₃ : List ℕ} {s₂ : ArcSink} → CrossingsPut w₂ w₃ (table_at n) k s₁ s₂ →
          Drawn w w₃ n ts hs s.tails.now s.heads.now s₂.tails.now s₂.heads.now s₂.len
      drawn {w₃} Q =
          let asked = asked_work n (length ts) in
          record {
            arcs = ring_arcs ++ cross_arcs;
            put = rw empty at (sink_then P.arcs Q.put).arcs;
            few = both_few;
            between = whole_between (named_proper w n ts hs k N) parts n zones;
            sorted = whole_twice (named_proper w n ts hs k N) parts n zones;
            long = Q.long ∙ T.long ∙ P.long;
            beyond =
                drop_deeper w₂ w₃ (k * 8) asked (omega (arith, N.few)) Q.behind
                ∙ T.beyond
                ∙ drop_deeper w w₁ ((rings_at n).last + n) asked (omega arith) P.high;
          }

-- the same of lists that are equal
pub drawn_lists : {w w' ts hs ots ohs xs ys xs' ys' : List ℕ} {n r : ℕ} → Drawn w w' n ts hs ots ohs xs' ys' r →
    xs ≡ xs' → ys ≡ ys' → Drawn w w' n ts hs ots ohs xs ys r
drawn_lists D e f = rw (e, f) D
