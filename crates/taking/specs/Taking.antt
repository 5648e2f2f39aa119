-- One head of a component, as functions of the memory: row j of the table, eight elements from j * 8 on, has a bit for
-- each of the 128 components from `first` on.
--   fresh w first j k     k is of the block, and not in row j
--   taken w first j k     k is put into row j where it is fresh
--   taken_arcs ..         the arc from j to k, with their names, where k is fresh
--   HeadTaken ..         one head of a component was taken
-- A head that stands twice is fresh once, so no arc is put twice.
use Rattle.std.specs.Prelude.{◌≡◌, Bool, true, false, not, ◌&&◌, List, [], ◌∷◌, ℕ, ◌-◌, leb, ltb}
use Rattle.rules.specs.Network.{Arc, ◌⟶◌}
use Rattle.memory.specs.Regions.{cell}
use Rattle.arcsink.specs.declared.ArcSink.{ArcSink}
use Rattle.arcsink.specs.Sink.{SinkPut}
use Rattle.bits.specs.Bits.{bit_in, with_bit}
use Rattle.uniting.specs.declared.Block.{Block}

-- k is of the block, and not in row j
unfoldable pub fresh : List ℕ → ℕ → ℕ → ℕ → Bool
unfolding bit_in
fresh w first j k = (leb first k && ltb (k - first) 128) && not (bit_in w 8 j (k - first))

-- k is put into row j where it is fresh
unfoldable pub taken : List ℕ → ℕ → ℕ → ℕ → List ℕ
unfolding fresh with_bit
taken w first j k = elim (fresh w first j k) [ true ↦ with_bit w 8 j (k - first) | false ↦ w ]

-- the arc from j to k, where k is fresh; `top` has the names
unfoldable pub taken_arcs : (ℕ → ℕ) → List ℕ → ℕ → ℕ → ℕ → List Arc
unfolding fresh
taken_arcs top w first j k = elim (fresh w first j k) [ true ↦ (top j ⟶ top k) ∷ [] | false ↦ [] ]

-- the head k of component j was taken
pub record HeadTaken (w w' : List ℕ) (b : Block) (j k : ℕ) (s s' : ArcSink) : Type 0 where
  pub memory : w' ≡ taken w b.first j k
  pub put : SinkPut s s' (taken_arcs (cell w b.tops) w b.first j k)
