-- One head is looked at: it is fresh, or it is not.
--   take_skip, take_hit    what is left in both cases
--   take_room              there is room for the arc of a fresh one
--   taken_heads            the head, where it is fresh;   taken_map   the arcs that are taken are those to it
-- By the two ways of `fresh`. Assumes nothing.
use mathlib.Core.Path.{◌≡◌, sym, ◌∙◌}
use mathlib.Core.Logic.{inl, inr}
use mathlib.Core.Bool.{true, false}
use mathlib.Core.List.{List, [], ◌∷◌, map}
use Prim.Native.Nat.{ℕ, ◌-◌}
use Rattle.rules.specs.Network.{◌⟶◌}
use Rattle.theory.proofs.Ground.Bools.{bool_cases}
use Rattle.memory.specs.Regions.{cell}
use Rattle.arcsink.specs.declared.ArcSink.{ArcSink}
use Rattle.arcsink.specs.Sink.{SinkFit, SinkPut}
use Rattle.arcsink.proofs.Sinks.{sink_none}
use Rattle.bits.specs.Bits.{with_bit}
use Rattle.uniting.specs.declared.Block.{Block}
use Rattle.taking.specs.Taking.{fresh, taken_arcs}
use Rattle.taking.specs.Taking.{HeadTaken}
use Rattle.taking.proofs.Taken.{taken_yes, taken_no}

module _ (top : ℕ → ℕ) (w : List ℕ) (first j k : ℕ) where
  -- a fresh head has an arc
  arcs_yes : fresh w first j k ≡ true → taken_arcs top w first j k ≡ (top j ⟶ top k) ∷ []
  unfolding taken_arcs
  arcs_yes e = rw (e, taken_arcs)

  -- another has none
  arcs_no : fresh w first j k ≡ false → taken_arcs top w first j k ≡ []
  unfolding taken_arcs
  arcs_no e = rw (e, taken_arcs)

  -- there is room for the arc of a fresh head
  pub take_room : fresh w first j k ≡ true → {s : ArcSink} →
      SinkFit s (taken_arcs top w first j k) → SinkFit s ((top j ⟶ top k) ∷ [])
  take_room e R = rw (arcs_yes e) at R

-- a head that is not fresh leaves everything as it was
pub take_skip : (w : List ℕ) (b : Block) (j k : ℕ) (s : ArcSink) → fresh w b.first j k ≡ false →
    HeadTaken w w b j k s s
take_skip w b j k s e =
    record {
      memory = sym (taken_no w b.first j k e);
      put = rw (arcs_no (cell w b.tops) w b.first j k e) (sink_none s);
    }

-- a fresh one is marked, and its arc is put
pub take_hit : (w v : List ℕ) (b : Block) (j k : ℕ) → fresh w b.first j k ≡ true →
    v ≡ with_bit w 8 j (k - b.first) → {s s' : ArcSink} →
    SinkPut s s' ((cell w b.tops j ⟶ cell w b.tops k) ∷ []) → HeadTaken w v b j k s s'
take_hit w v b j k e q P =
    record {
      memory = q ∙ sym (taken_yes w b.first j k e);
      put =
          rw (arcs_yes (cell w b.tops) w b.first j k e) P;
    }

-- the head, where it is fresh
unfoldable pub taken_heads : List ℕ → ℕ → ℕ → ℕ → List ℕ
taken_heads w first j k = elim (fresh w first j k) [ true ↦ k ∷ [] | false ↦ [] ]

module _ (w : List ℕ) (first j k : ℕ) where
  -- the head, fresh
  pub heads_yes : fresh w first j k ≡ true → taken_heads w first j k ≡ k ∷ []
  unfolding taken_heads
  heads_yes e = rw (e, taken_heads)

  -- no head, where it is not
  pub heads_no : fresh w first j k ≡ false → taken_heads w first j k ≡ []
  unfolding taken_heads
  heads_no e = rw (e, taken_heads)

  -- the arcs that are taken are those to it
  pub taken_map : (top : ℕ → ℕ) → taken_arcs top w first j k ≡ map (λ h. top j ⟶ top h) (taken_heads w first j k)
  taken_map top =
      elim (bool_cases (fresh w first j k)) [
        | inl e ↦ rw (arcs_yes top w first j k e, heads_yes e)
        | inr e ↦ rw (arcs_no top w first j k e, heads_no e)
      ]
