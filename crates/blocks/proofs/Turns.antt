-- The loop over the places of a block, from the last on: its invariant, with its start and one turn.
--   TurningPlaces ..   all places but the first `left` have had their turns
-- The plain function goes as the loop goes, so a turn is an unfolding. Assumes nothing.
use mathlib.Core.Path.{◌≡◌, refl, ap, ◌∙◌}
use mathlib.Core.List.{List, ◌++◌}
use Prim.Native.Nat.{ℕ, zero, suc, ◌-◌, ◌*◌, ◌≤◌, ◌<◌}
use native.Mathlib.Decide.{ℕ_discrete}
use native.Mathlib.Omega.{arith}
use lib.ListN.{length, drop, length-append}
use Rattle.rules.specs.Network.{Arc}
use Rattle.memory.specs.Regions.{cell}
use Rattle.arcsink.specs.declared.ArcSink.{ArcSink}
use Rattle.arcsink.specs.Sink.{SinkFit, SinkPut}
use Rattle.arcsink.proofs.Sinks.{sink_none, sink_then, sink_long}
use Rattle.bits.proofs.Tables.{row_room}
use Rattle.uniting.specs.declared.Block.{Block}
use Rattle.turning.specs.Steps.{place_turned, place_arcs}
use Rattle.uniting.specs.Uniting.{row_heads, BlockLaid}
use Rattle.turning.specs.Contract.{PlaceTurned}
use Rattle.turning.proofs.Memory.{place_turned_long, place_turned_behind}
use Rattle.uniting.proofs.Behind.{tops_kept, rows_kept, laid_kept}
use Rattle.blocks.specs.Sweeps.{places_turned, places_arcs}

-- fewer turns leave no more arcs
places_arcs_few : (top : ℕ → ℕ) (w : List ℕ) (first : ℕ) (row : ℕ → List ℕ) (e m k : ℕ) → m ≤ k →
    length (places_arcs top w first row e m) ≤ length (places_arcs top w first row e k)
unfolding places_arcs
places_arcs_few top w first row e m zero h =
    let none : m ≡ 0 = omega arith in
    rw none (omega arith)
places_arcs_few top w first row e m (suc k) h =
    elim (ℕ_discrete m (suc k)) [
      | yes q ↦ rw q (omega arith)
      | no n ↦
          omega (
            arith,
            places_arcs_few top w first row e m k (omega (arith, n)),
            length-append (places_arcs top w first row e k)
                (place_arcs top (places_turned w first row e k) first (e - suc k) (row (e - suc k))),
          )
    ]

-- the arcs of the last m turns before e, as names and rows stand in the memory
abbrev arcs_in : List ℕ → Block → ℕ → ℕ → List Arc
arcs_in w b e m = places_arcs (cell w b.tops) w b.first (row_heads w b) e m

-- all places but the first `left` have had their turns
pub record TurningPlaces (w u : List ℕ) (b : Block) (e : ℕ) (s s' : ArcSink) (left : ℕ) : Type 0 where
  pub low : left ≤ e
  pub long : length u ≡ length w
  pub behind : drop (b.places * 8) u ≡ drop (b.places * 8) w
  pub memory : u ≡ places_turned w b.first (row_heads w b) e (e - left)
  pub put : SinkPut s s' (arcs_in w b e (e - left))

-- at first none has
pub places_start : (w : List ℕ) (b : Block) (e : ℕ) (s : ArcSink) → TurningPlaces w w b e s s e
unfolding places_turned places_arcs
places_start w b e s =
    let none : e - e ≡ 0 = omega arith in
    record {
      low = omega arith;
      long = refl;
      behind = refl;
      memory = rw none;
      put = rw none (sink_none s);
    }

module _ {w u : List ℕ} {b : Block} {e : ℕ} {s s' : ArcSink} {left : ℕ} (L : BlockLaid w b)
    (l : e ≤ b.places) (S : TurningPlaces w u b e s s' left) (h : 0 < left) where
  -- names and rows still stand behind the table
  pub places_laid : BlockLaid u b
  places_laid = laid_kept L u S.behind S.long

  -- the next place, j, is one
  pub places_low : {j : ℕ} → j ≡ left - 1 → j < b.places
  places_low same = omega (arith, S.low)

  -- the turns with this one
  more : e - (left - 1) ≡ suc (e - left)
  more = let low = S.low in omega arith

  -- this one
  here : e - suc (e - left) ≡ left - 1
  here = let low = S.low in omega arith

  -- the arcs of this turn, in terms of the memory at the start
  arcs_now : place_arcs (cell u b.tops) u b.first (left - 1) (row_heads u b (left - 1))
      ≡ place_arcs (cell w b.tops) (places_turned w b.first (row_heads w b) e (e - left)) b.first (left - 1)
      (row_heads w b (left - 1))
  arcs_now =
      ap (λ (f : ℕ → ℕ). place_arcs f u b.first (left - 1) (row_heads u b (left - 1))) (tops_kept L u S.behind)
      ∙ ap (λ (f : ℕ → List ℕ). place_arcs (cell w b.tops) u b.first (left - 1) (f (left - 1)))
      (rows_kept L u S.behind)
      ∙ ap (λ (x : List ℕ). place_arcs (cell w b.tops) x b.first (left - 1) (row_heads w b (left - 1)))
      S.memory

  -- the arcs with those of this turn
  arcs_grown : arcs_in w b e (e - (left - 1))
      ≡ arcs_in w b e (e - left) ++ place_arcs (cell u b.tops) u b.first (left - 1) (row_heads u b (left - 1))
  unfolding places_arcs
  arcs_grown = rw (arcs_now, more, here)

  -- they have room
  pub places_room : {j : ℕ} → j ≡ left - 1 → SinkFit s (arcs_in w b e e) →
      SinkFit s' (place_arcs (cell u b.tops) u b.first j (row_heads u b j))
  places_room same R =
      let few = places_arcs_few (cell w b.tops) w b.first (row_heads w b) e (e - (left - 1)) e (omega arith) in
      let grown = ap length arcs_grown in
      let both = length-append (arcs_in w b e (e - left))
      (place_arcs (cell u b.tops) u b.first (left - 1) (row_heads u b (left - 1))) in
      let long = sink_long S.put in
      rw same
      (record {
        tails = omega (arith, few, grown, both, long.0, S.put.arcs.behind, R.tails);
        heads = omega (arith, few, grown, both, long.1, S.put.arcs.behind, R.heads);
      })

  -- one turn more
  pub places_turn : {j : ℕ} {v : List ℕ} {s'' : ArcSink} → j ≡ left - 1 → PlaceTurned u v b j s' s'' →
      TurningPlaces w v b e s s'' (left - 1)
  unfolding places_turned
  places_turn {v = v} {s'' = s''} same K =
      let T : PlaceTurned u v b (left - 1) s' s'' = rw same at K in
      record {
        low = omega (arith, S.low);
        long = ap length T.memory ∙ place_turned_long u b.first (left - 1) (row_heads u b (left - 1)) ∙ S.long;
        behind =
            ap (drop (b.places * 8)) T.memory
            ∙ place_turned_behind (b.places * 8) u b.first (left - 1) (row_heads u b (left - 1))
            (row_room 8 b.places (left - 1) (places_low refl))
            ∙ S.behind;
        memory =
            T.memory
            ∙ ap (λ (f : ℕ → List ℕ). place_turned u b.first (left - 1) (f (left - 1))) (rows_kept L u S.behind)
            ∙ ap (λ (x : List ℕ). place_turned x b.first (left - 1) (row_heads w b (left - 1))) S.memory
            ∙ rw (more, here);
        put = rw arcs_grown (sink_then S.put T.put);
      }
