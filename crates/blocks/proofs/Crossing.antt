-- All blocks together: the arcs that are put are exactly those between components that stay, each once.
--   block_given       what a block's table is computed from, from condensed rows
--   crossings_right   the arcs of all blocks are the arcs that cross, as `Crossings` says: this is for callers
-- A component is of one block only, that of its place divided by 128. Assumes nothing.
use mathlib.Core.Path.{◌≡◌, refl, sym, ap, ◌∙◌}
use mathlib.Core.Logic.{inl, inr}
use mathlib.Core.Bool.{true, false}
use mathlib.Core.List.Memᴰ
use mathlib.Core.List.{List, Memᴰ as In}
use Prim.Native.Nat.{ℕ, zero, suc, ◌+◌, ◌-◌, ◌*◌, ◌/◌, ◌%◌, ◌≤◌, ◌<◌}
use native.Mathlib.Decide.{ℕ_discrete}
use native.Mathlib.Omega.{arith}
use lib.ListN.{length}
use Rattle.rules.specs.Lists.{cleared}
use Rattle.rules.specs.Network.{Arc, ◌⟶◌, Network}
use Rattle.rules.specs.Skeleton.{crosses, skeleton}
use Rattle.theory.proofs.Ground.Counting.{Distinct, distinct_append, answers_count}
use Rattle.theory.proofs.Reaching.Components.{together_zone}
use Rattle.theory.proofs.Skeletons.SkeletonLaws.{crosses_true, in_skeleton_of}
use Rattle.theory.proofs.Skeletons.SkeletonLeast.{skeleton_short}
use Rattle.theory.proofs.Skeletons.SkeletonOrder.{crosses_direct, direct_zone}
use Rattle.theory.proofs.Skeletons.TablePlaces.{later, top_once}
use Rattle.workmap.specs.declared.TableAt.{TableAt}
use Rattle.memory.specs.Regions.{cell}
use Rattle.memory.proofs.Cleared.{cleared_length, cleared_front, front_zero}
use Rattle.bits.specs.Bits.{bit, bit_in}
use Rattle.bits.proofs.Numbers.{bit_none}
use Rattle.bits.proofs.Tables.{row_room}
use Rattle.uniting.specs.Uniting.{row_heads}
use Rattle.blocks.specs.Sweeps.{block_end, block_arcs, all_arcs, blocks_of, block_of, crossing_arcs}
use Rattle.blocks.specs.Crossings.{Condensed, Crossings}
use Rattle.blocks.proofs.TableRight.{BlockGiven}
use Rattle.blocks.proofs.StayingArcs.{Stays, earlier, places_arcs_in, in_places_arcs, places_arcs_distinct}
use Rattle.blocks.proofs.BlockLoops.{end_low, table_room, arcs_in}

-- a cleared table has no bit set
cleared_bits : (w : List ℕ) (n c d : ℕ) → c < n → d < 128 → bit_in (cleared (n * 8) w) 8 c d ≡ false
unfolding bit_in
cleared_bits w n c d h k =
    ap (λ (m : ℕ). bit m (d % 16))
    (front_zero (n * 8) (cleared (n * 8) w) (cleared_front (n * 8) w) (c * 8 + d / 16)
    (omega (arith, row_room 8 n c h)))
    ∙ bit_none (d % 16)

module _ {w : List ℕ} {at : TableAt} {n : ℕ} {N : Network} (C : Condensed w at n N) where
  -- the names
  abbrev top : ℕ → ℕ
  top = cell w at.tops

  -- the rows of heads
  abbrev row : ℕ → List ℕ
  row = row_heads w (block_of at n 0)

  -- what a block's table is computed from
  block_given : (first : ℕ) → BlockGiven N top n row (cleared (n * 8) w) first (block_end n first)
  block_given first =
      record {
        proper = C.proper;
        ordered = C.ordered;
        rows = C.rows_are;
        room = omega (arith, cleared_length (n * 8) w (table_room C.laid), table_room C.laid);
        clear = λ c d h k. cleared_bits w n c d h k;
        low = (end_low n first).0;
        all = (end_low n first).1;
      }

  -- an arc of a block stays
  block_in : (first : ℕ) (x : Arc) → In x (block_arcs top w n first row) → Stays N top n first 0 x
  unfolding block_arcs
  block_in first x i =
      let e = block_end n first in
      earlier (block_given first) (e - e) 0 x (omega arith) (places_arcs_in (block_given first) e (omega arith) x i)

  -- an arc of the first k blocks stays, and its head is of one of them
  all_stays : (k : ℕ) (x : Arc) → In x (arcs_in w at n k) →
      (first : ℕ) × (S : Stays N top n first 0 x) × (S.into < k * 128)
  unfolding all_arcs
  all_stays zero x i = elim i [ ]
  all_stays (suc k) x i =
      elim (Memᴰ.append_cases (arcs_in w at n k) i) [
        | inl a ↦
            let r = all_stays k x a in
            let low = r.2 in
            (r.0, r.1, omega arith)
        | inr a ↦
            let S = block_in (k * 128) x a in
            let low = S.first_low in
            let high = S.inside in
            (k * 128, S, omega arith)
      ]

  -- an arc that crosses is put by the block of its head
  in_block : (k j l : ℕ) → j < n → l < n → l / 128 < k → crosses N (top j) (top l) ≡ true →
      In (top j ⟶ top l) (arcs_in w at n k)
  unfolding all_arcs block_arcs
  in_block zero j l lj ll h c = absurd (omega arith)
  in_block (suc k) j l lj ll h c =
      elim (ℕ_discrete (l / 128) k) [
        | yes q ↦
            let D = crosses_direct (crosses_true C.proper (top j) (top l) c) in
            let jl = later C.proper C.ordered j l lj D in
            let le = (end_low n (k * 128)).1 l ll (omega arith) in
            Memᴰ.append_right (arcs_in w at n k)
            (in_places_arcs (block_given (k * 128)) (block_end n (k * 128)) (omega arith) j l (omega arith)
            (omega arith) ll (omega arith) (omega arith) c)
        | no q ↦ Memᴰ.append_left _ (in_block k j l lj ll (omega (arith, q)) c)
      ]

  -- an arc that crosses is put
  in_all : (x : Arc) → crosses N x.tail x.head ≡ true → In x (arcs_in w at n (blocks_of n))
  in_all x c =
      let K = crosses_true C.proper x.tail x.head c in
      let D = crosses_direct K in
      let z = together_zone C.proper (C.proper.tails D.arc.1) D.arc.2 in
      let t = C.ordered.all x.tail z K.tail_names in
      let h = C.ordered.all x.head (direct_zone C.proper D) D.named in
      let low = h.1 in
      Memᴰ.cast (λ i. record { tail = sym t.2 i; head = sym h.2 i })
      (in_block (blocks_of n) t.0 h.0 t.1 h.1 (omega arith) (rw (t.2, h.2) c))

  -- none stands twice
  all_once : (k : ℕ) → Distinct (arcs_in w at n k)
  unfolding all_arcs block_arcs
  all_once zero = tt
  all_once (suc k) =
      distinct_append (arcs_in w at n k) (block_arcs top w n (k * 128) row) (all_once k)
      (places_arcs_distinct (block_given (k * 128)) (block_end n (k * 128)) (omega arith))
      (λ x a c.
      let r = all_stays k x a in
      let S = r.1 in
      let T = block_in (k * 128) x c in
      let low = r.2 in
      let late = T.first_low in
      let same = top_once C.proper C.ordered S.into T.into S.into_low T.into_low
      (ap (λ (z : Arc). z.head) (sym S.is ∙ T.is)) in
      omega arith)

  -- the arcs of all blocks are the arcs that cross, each once
  pub crossings_right : Crossings N (crossing_arcs w at n)
  unfolding crossing_arcs
  crossings_right =
      record {
        sound = sound;
        complete = in_all;
        once = all_once (blocks_of n);
        ends = ends;
        few = few;
      }
    where
      sound : (x : Arc) → In x (arcs_in w at n (blocks_of n)) → crosses N x.tail x.head ≡ true
      sound x i = let S = (all_stays (blocks_of n) x i).1 in rw S.is S.crossing

      ends : (x : Arc) → In x (arcs_in w at n (blocks_of n)) → In x.tail N.zones × In x.head N.zones
      ends x i =
          let S = (all_stays (blocks_of n) x i).1 in
          rw S.is ((C.ordered.own S.from S.from_low).0, (C.ordered.own S.into S.into_low).0)

      few : length (arcs_in w at n (blocks_of n)) ≤ length N.arcs
      few =
          let count = answers_count (λ (x : Arc). x) (arcs_in w at n (blocks_of n)) (skeleton N)
          (all_once (blocks_of n))
          (λ x i. (
            x,
            in_skeleton_of C.proper (ends x i).0 (ends x i).1
                (inr (crosses_true C.proper x.tail x.head (sound x i))),
            refl,
          )) in
          omega (arith, count, skeleton_short C.proper)
