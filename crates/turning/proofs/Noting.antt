-- The loop that takes the heads of a row: its invariant, with one turn and its end.
--   Noting ..   the heads of row j from `at` on, taken into what stands there now, give what all of them give, both in
--               the table and in what is kept; what was kept so far is put
-- What is still to be done is said over what is left of the row, so a turn is an unfolding. Assumes nothing.
use mathlib.Core.Path.{◌≡◌, sym, ap, ◌∙◌}
use mathlib.Core.List.{List, ◌∷◌, ◌++◌, map, map-append, append_assoc, append-nil}
use Prim.Native.Nat.{ℕ, ◌+◌, ◌*◌, ◌≤◌, ◌<◌}
use native.Mathlib.Omega.{arith}
use lib.ListN.{length, get_or, drop, length-append, length-map}
use Rattle.rules.specs.Network.{Arc, ◌⟶◌}
use Rattle.memory.specs.Regions.{cell}
use Rattle.arcsink.specs.declared.ArcSink.{ArcSink}
use Rattle.arcsink.specs.Sink.{SinkFit, SinkPut}
use Rattle.arcsink.proofs.Sinks.{sink_then, sink_long}
use Rattle.bits.proofs.Tables.{row_room}
use Rattle.uniting.specs.declared.Block.{Block}
use Rattle.taking.specs.Taking.{taken, taken_arcs}
use Rattle.turning.specs.Steps.{noted, kept_heads, noted_arcs}
use Rattle.uniting.specs.Uniting.{row_heads, BlockLaid}
use Rattle.taking.specs.Taking.{HeadTaken}
use Rattle.turning.specs.Contract.{RowNoted}
use Rattle.taking.proofs.Taken.{taken_long, taken_behind}
use Rattle.uniting.proofs.Behind.{tops_kept, laid_kept}
use Rattle.uniting.proofs.HeadsLeft.{left_of, HeadsLeft, left_none, left_more, left_low}
use Rattle.uniting.proofs.HeadsLeft.{left_cons}
use Rattle.taking.proofs.Taking.{taken_heads, taken_map}
use Rattle.turning.proofs.Kept.{kept_step}

-- the arcs from component j to some others, with their names
abbrev arcs_to : List ℕ → Block → ℕ → List ℕ → List Arc
arcs_to w b j ks = map (λ k. cell w b.tops j ⟶ cell w b.tops k) ks

-- all heads before `at` are taken
pub record Noting (w u : List ℕ) (b : Block) (j : ℕ) (s s' : ArcSink) (at to : ℕ) : Type 0 where
  pub rest : HeadsLeft w b j at to
  pub long : length u ≡ length w
  pub behind : drop (b.places * 8) u ≡ drop (b.places * 8) w
  pub out : List ℕ
  pub memory : noted u b.first j (left_of w at to) ≡ noted w b.first j (row_heads w b j)
  pub still : out ++ kept_heads u b.first j (left_of w at to) ≡ kept_heads w b.first j (row_heads w b j)
  pub put : SinkPut s s' (arcs_to w b j out)

module _ {w u : List ℕ} {b : Block} {j : ℕ} {s s' : ArcSink} {at to : ℕ} (L : BlockLaid w b)
    (l : j < b.places) (T : Noting w u b j s s' at to) (h : at < to) (k : ℕ)
    (e : k ≡ get_or u at 0) where
  -- names and rows still stand behind the table
  pub note_laid : BlockLaid u b
  note_laid = laid_kept L u T.behind T.long

  -- the next head is a place
  pub note_low : k < b.places
  note_low = left_low T.rest h L u T.behind k e

  -- what is left of the row begins with it
  ahead : left_of w at to ≡ k ∷ left_of w (at + 1) to
  ahead = left_cons T.rest h L u T.behind k e

  -- the heads that are kept, with this one
  abbrev more : List ℕ
  more = T.out ++ taken_heads u b.first j k

  -- and those that are still to be kept
  grown : more ++ kept_heads (taken u b.first j k) b.first j (left_of w (at + 1) to)
      ≡ kept_heads w b.first j (row_heads w b j)
  grown =
      append_assoc T.out (taken_heads u b.first j k) _
      ∙ ap (λ (x : List ℕ). T.out ++ x) (sym (kept_step u b.first j k (left_of w (at + 1) to)))
      ∙ ap (λ (x : List ℕ). T.out ++ kept_heads u b.first j x) (sym ahead)
      ∙ T.still

  -- its arc, with the names as they came
  arc_now : taken_arcs (cell u b.tops) u b.first j k ≡ arcs_to w b j (taken_heads u b.first j k)
  arc_now =
      ap (λ (top : ℕ → ℕ). taken_arcs top u b.first j k) (tops_kept L u T.behind)
      ∙ taken_map u b.first j k (cell w b.tops)

  -- there is room for it
  pub note_room : SinkFit s (noted_arcs (cell w b.tops) w b.first j (row_heads w b j)) →
      SinkFit s' (taken_arcs (cell u b.tops) u b.first j k)
  unfolding noted_arcs
  note_room R =
      let f : ℕ → Arc = λ x. cell w b.tops j ⟶ cell w b.tops x in
      let all = ap length grown in
      let one = length-append more (kept_heads (taken u b.first j k) b.first j (left_of w (at + 1) to)) in
      let two = length-append T.out (taken_heads u b.first j k) in
      let arcs = ap length arc_now in
      let new = length-map (taken_heads u b.first j k) f in
      let old = length-map T.out f in
      let whole = length-map (kept_heads w b.first j (row_heads w b j)) f in
      let long = sink_long T.put in
      record {
        tails = omega (arith, all, one, two, arcs, new, old, whole, long.0, R.tails, T.put.arcs.behind);
        heads = omega (arith, all, one, two, arcs, new, old, whole, long.1, R.heads, T.put.arcs.behind);
      }

  -- one head more
  pub note_turn : {v : List ℕ} {s'' : ArcSink} → HeadTaken u v b j k s' s'' →
      Noting w v b j s s'' (at + 1) to
  unfolding noted
  note_turn K =
      record {
        rest = left_more T.rest h;
        long = ap length K.memory ∙ taken_long u b.first j k ∙ T.long;
        behind =
            ap (drop (b.places * 8)) K.memory
            ∙ taken_behind (b.places * 8) u b.first j k (row_room 8 b.places j l)
            ∙ T.behind;
        out = more;
        memory =
            ap (λ (x : List ℕ). noted x b.first j (left_of w (at + 1) to)) K.memory
            ∙ ap (noted u b.first j) (sym ahead)
            ∙ T.memory;
        still =
            ap (λ (x : List ℕ). more ++ kept_heads x b.first j (left_of w (at + 1) to)) K.memory ∙ grown;
        put =
            rw (map-append (λ x. cell w b.tops j ⟶ cell w b.tops x) T.out (taken_heads u b.first j k))
            (sink_then T.put (rw arc_now at K.put));
      }

-- all of them
pub note_end : {w u : List ℕ} {b : Block} {j : ℕ} {s s' : ArcSink} {at to : ℕ} →
    Noting w u b j s s' at to → to ≤ at → RowNoted w u b j s s'
unfolding noted kept_heads noted_arcs
note_end {w} {u} {b} {j} {at = at} {to} T h =
    let none = left_none w at to h in
    let all : T.out ≡ kept_heads w b.first j (row_heads w b j) =
    sym (append-nil T.out) ∙ ap (λ (x : List ℕ). T.out ++ kept_heads u b.first j x) (sym none) ∙ T.still in
    record {
      memory = ap (noted u b.first j) (sym none) ∙ T.memory;
      put = rw all at T.put;
    }
