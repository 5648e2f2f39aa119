-- One block over a cleared table, and the loop over the blocks.
--   end_low                       the block's end is a place, or behind the last
--   block_laid .. block_done      what one block asks of its sweep, and what it leaves
--   Blocking ..                   the first blocks are done, with the loop's start, one turn and its end
-- Names and rows stand behind the table, and a cleared table depends on what stands behind it only: so every block sees
-- what was there at the start. Assumes nothing.
use mathlib.Core.Path.{◌≡◌, refl, ap, ap₂, ◌∙◌}
use mathlib.Core.List.{List, ◌++◌}
use Prim.Native.Nat.{ℕ, zero, suc, ◌+◌, ◌-◌, ◌*◌, ◌≤◌, ◌<◌}
use native.Mathlib.Decide.{ℕ_discrete}
use native.Mathlib.Numerals.{add-one}
use native.Mathlib.Omega.{arith}
use lib.ListN.{length, drop, length-append}
use Rattle.rules.specs.Lists.{cleared}
use Rattle.rules.specs.Network.{Arc}
use Rattle.workmap.specs.declared.TableAt.{TableAt}
use Rattle.memory.specs.Regions.{cell}
use Rattle.arcsink.specs.declared.ArcSink.{ArcSink}
use Rattle.arcsink.specs.Sink.{SinkFit, SinkPut}
use Rattle.memory.proofs.Cleared.{cleared_length, cleared_behind, cleared_back}
use Rattle.arcsink.proofs.Sinks.{sink_none, sink_then, sink_long}
use Rattle.uniting.specs.declared.Block.{Block}
use Rattle.uniting.specs.Uniting.{row_heads, BlockLaid}
use Rattle.uniting.proofs.Behind.{tops_kept, rows_kept, laid_kept}
use Rattle.blocks.specs.Sweeps.{places_arcs, block_end, block_arcs, all_arcs, blocks_of, block_of, crossing_arcs}
use Rattle.blocks.specs.Contract.{PlacesTurned, BlockDone, CrossingsPut}
use Rattle.blocks.proofs.TableRight.{places_turned_long, places_turned_behind}

-- the end is no more than there are places, and every component of the block stands before it
pub end_low : (n first : ℕ) → (block_end n first ≤ n) × ((l : ℕ) → l < n → l - first < 128 → l < block_end n first)
end_low n first = (omega arith, λ l i j. omega arith)

-- the table lies in the memory
pub table_room : {w : List ℕ} {b : Block} → BlockLaid w b → b.places * 8 ≤ length w
table_room L = omega (arith, L.tops_behind, L.tops_fit)

module _ {w : List ℕ} {b : Block} (L : BlockLaid w b) (e : ℕ) (q : e ≡ block_end b.places b.first) (v : List ℕ)
    (c : v ≡ cleared (b.places * 8) w) where
  -- the cleared memory is as long
  long : length v ≡ length w
  long = ap length c ∙ cleared_length (b.places * 8) w (table_room L)

  -- and the same behind the table
  same : drop (b.places * 8) v ≡ drop (b.places * 8) w
  same = ap (drop (b.places * 8)) c ∙ cleared_behind (b.places * 8) w

  -- names and rows stand behind the cleared table
  pub block_laid : BlockLaid v b
  block_laid = laid_kept L v same long

  -- the sweep goes over places
  pub block_low : e ≤ b.places
  block_low = omega (arith, q, (end_low b.places b.first).0)

  -- the arcs of the sweep are those of the block
  arcs_are : places_arcs (cell v b.tops) v b.first (row_heads v b) e e
      ≡ block_arcs (cell w b.tops) w b.places b.first (row_heads w b)
  unfolding block_arcs
  arcs_are =
      ap₂ (λ (f : ℕ → ℕ) (g : ℕ → List ℕ). places_arcs f v b.first g e e) (tops_kept L v same) (rows_kept L v same)
      ∙ ap₂ (λ (x : List ℕ) (k : ℕ). places_arcs (cell w b.tops) x b.first (row_heads w b) k k) c q

  -- they have room
  pub block_room : {s : ArcSink} → SinkFit s (block_arcs (cell w b.tops) w b.places b.first (row_heads w b)) →
      SinkFit s (places_arcs (cell v b.tops) v b.first (row_heads v b) e e)
  block_room R = rw arcs_are R

  -- what the block leaves
  pub block_done : {u : List ℕ} {s s' : ArcSink} → PlacesTurned v u b e s s' → BlockDone w u b s s'
  block_done S =
      record {
        long = ap length S.memory ∙ places_turned_long v b.first (row_heads v b) e e ∙ long;
        behind =
            ap (drop (b.places * 8)) S.memory
            ∙ places_turned_behind (b.places * 8) v b.first (row_heads v b) b.places e e (omega arith)
            block_low (omega arith)
            ∙ same;
        put = rw arcs_are at S.put;
      }

-- fewer blocks leave no more arcs
all_few : (top : ℕ → ℕ) (w : List ℕ) (n : ℕ) (row : ℕ → List ℕ) (m k : ℕ) → m ≤ k →
    length (all_arcs top w n row m) ≤ length (all_arcs top w n row k)
unfolding all_arcs
all_few top w n row m zero h =
    let none : m ≡ 0 = omega arith in
    rw none (omega arith)
all_few top w n row m (suc k) h =
    elim (ℕ_discrete m (suc k)) [
      | yes q ↦ rw q (omega arith)
      | no q ↦
          omega (
            arith,
            all_few top w n row m k (omega (arith, q)),
            length-append (all_arcs top w n row k) (block_arcs top w n (k * 128) row),
          )
    ]

-- the arcs of the first k blocks, as names and rows stand in the memory
abbrev pub arcs_in : List ℕ → TableAt → ℕ → ℕ → List Arc
arcs_in w at n k = all_arcs (cell w at.tops) w n (row_heads w (block_of at n 0)) k

-- the first blocks are done
pub record Blocking (w u : List ℕ) (at : TableAt) (n : ℕ) (s s' : ArcSink) (first : ℕ) : Type 0 where
  pub done : ℕ
  pub start : first ≡ done * 128
  pub low : done ≤ blocks_of n
  pub long : length u ≡ length w
  pub behind : drop (n * 8) u ≡ drop (n * 8) w
  pub put : SinkPut s s' (arcs_in w at n done)

-- at first none is
pub blocking_start : (w : List ℕ) (at : TableAt) (n : ℕ) (s : ArcSink) → Blocking w w at n s s 0
unfolding all_arcs
blocking_start w at n s =
    record { done = 0; start = refl; low = omega arith; long = refl; behind = refl; put = sink_none s }

-- names and rows stand where they do, whichever block it is
block_any : {w : List ℕ} (at : TableAt) (n first : ℕ) → BlockLaid w (block_of at n 0) →
    BlockLaid w (block_of at n first)
block_any at n first L =
    record {
      small = L.small;
      tops_behind = L.tops_behind;
      starts_behind = L.starts_behind;
      rows_behind = L.rows_behind;
      tops_fit = L.tops_fit;
      starts_fit = L.starts_fit;
      up = L.up;
      fits = L.fits;
      heads = L.heads;
    }

module _ {w u : List ℕ} {at : TableAt} {n : ℕ} {s s' : ArcSink} {first : ℕ}
    (L : BlockLaid w (block_of at n 0)) (B : Blocking w u at n s s' first) (h : first < n) where
  -- names and rows still stand behind the table
  pub blocking_laid : BlockLaid u (block_of at n first)
  blocking_laid = block_any at n first (laid_kept L u B.behind B.long)

  -- the block begins at a place
  pub blocking_first : first ≤ 1024
  blocking_first = omega (arith, L.small)

  -- the arcs of this block
  abbrev new : List Arc
  new = block_arcs (cell u at.tops) u n first (row_heads u (block_of at n first))

  -- they are those that names, rows and table at the start give
  arcs_now : new ≡ block_arcs (cell w at.tops) w n (B.done * 128) (row_heads w (block_of at n 0))
  unfolding block_arcs
  arcs_now =
      ap₂ (λ (f : ℕ → ℕ) (g : ℕ → List ℕ). block_arcs f u n first g) (tops_kept L u B.behind)
      (rows_kept L u B.behind)
      ∙ ap₂ (λ (x : List ℕ) (k : ℕ).
      places_arcs (cell w at.tops) x k (row_heads w (block_of at n 0)) (block_end n k) (block_end n k))
      (cleared_back (n * 8) w u B.behind) B.start

  -- the arcs with those of this block
  grown : arcs_in w at n (B.done + 1) ≡ arcs_in w at n B.done ++ new
  unfolding all_arcs
  grown = rw (arcs_now, add-one)

  -- it is one of the blocks
  another : B.done + 1 ≤ blocks_of n
  another = let start = B.start in omega arith

  -- its arcs have room
  pub blocking_room : SinkFit s (crossing_arcs w at n) → SinkFit s' new
  unfolding crossing_arcs
  blocking_room R =
      let few = all_few (cell w at.tops) w n (row_heads w (block_of at n 0)) (B.done + 1) (blocks_of n) another in
      let more = ap length grown in
      let both = length-append (arcs_in w at n B.done) new in
      let long = sink_long B.put in
      record {
        tails = omega (arith, few, more, both, long.0, B.put.arcs.behind, R.tails);
        heads = omega (arith, few, more, both, long.1, B.put.arcs.behind, R.heads);
      }

  -- one block more
  pub blocking_turn : {v : List ℕ} {s'' : ArcSink} → BlockDone u v (block_of at n first) s' s'' →
      Blocking w v at n s s'' (first + 128)
  blocking_turn K =
      record {
        done = B.done + 1;
        start = let start = B.start in omega arith;
        low = another;
        long = K.long ∙ B.long;
        behind = K.behind ∙ B.behind;
        put = rw grown (sink_then B.put K.put);
      }

-- all of them
pub blocking_end : {w u : List ℕ} {at : TableAt} {n : ℕ} {s s' : ArcSink} {first : ℕ} →
    Blocking w u at n s s' first → n ≤ first → CrossingsPut w u at n s s'
unfolding crossing_arcs
blocking_end {n = n} B h =
    let all : B.done ≡ blocks_of n = let start = B.start in let low = B.low in omega arith in
    record { long = B.long; behind = B.behind; put = rw all at B.put }
