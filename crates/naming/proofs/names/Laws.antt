-- One turn of `name_zones` in the memory: the zone v gets its name, and where v is the first with its root it is
-- noted.
--   a     the root number of v, as it is read
--   w'    the memory after `note`
-- Assumes nothing.
use mathlib.Core.Path.{◌≡◌, ap, ◌∙◌}
use mathlib.Core.Logic.{◌⊎◌, inl, inr, ◌≢◌}
use mathlib.Core.List.{List}
use Prim.Native.Nat.{ℕ, ◌+◌, ◌-◌, ◌≤◌, ◌<◌}
use native.Mathlib.Omega.{arith}
use lib.ListN.{length, get_or, set, take, drop, length-set}
use lib.Seq.{get_or-set_same, get_or-set_other, drop-set-lt, take-set-le}
use Rattle.workmap.specs.declared.NamesAt.{NamesAt}
use Rattle.memory.specs.Regions.{cell}
use Rattle.memory.proofs.Regions.{at_kept}
use Rattle.naming.specs.Names.{RootNoted, ZonesNameable, ZonesNamed}
use Rattle.naming.proofs.Noting.{naming_more}

-- the root number of v was read
module _ {w₀ w : List ℕ} {zones v a : ℕ} {K : NamesAt} (R : ZonesNameable w₀ zones K)
    (N : ZonesNamed w₀ w zones K v) (here : v < zones) (ea : a ≡ cell w K.roots v) where
  -- It is what it was.
  root_is : a ≡ cell w₀ K.roots v
  root_is = ea ∙ at_kept w₀ w K.roots (K.roots + v) (omega arith) N.back

  -- It is no 0, and at most the number of zones.
  pub root_some : (0 < a) × (a ≤ zones)
  root_some = (omega (arith, root_is, R.root v here), omega (arith, root_is, R.root v here))

  -- The note of v's root is inside the memory.
  pub place : K.low + (a - 1) < length w
  place = omega (arith, root_some, R.before, R.fits, N.long)

  -- `note` is done and answers x
  module _ {w' : List ℕ} {x : ℕ} (D : RootNoted w w' (K.low + (a - 1)) v x) where
    -- It changes at most the note.
    noted_is : (w' ≡ w) ⊎ (w' ≡ set w (K.low + (a - 1)) (v + 1))
    noted_is = elim D [ inl d ↦ inl d.1 | inr d ↦ inr d.1.1 ]

    -- The memory keeps its length.
    noted_long : length w' ≡ length w
    noted_long = elim noted_is [ inl e ↦ ap length e | inr e ↦ ap length e ∙ simp length-set ]

    -- Elsewhere the memory has what it had.
    noted_other : (j : ℕ) → j ≢ K.low + (a - 1) → get_or w' j 0 ≡ get_or w j 0
    noted_other j ne = elim noted_is [
      | inl e ↦ rw e
      | inr e ↦ rw e (get_or-set_other w (K.low + (a - 1)) j (v + 1) 0 ne)
    ]

    -- x is noted.
    noted_at : get_or w' (K.low + (a - 1)) 0 ≡ x + 1
    noted_at = elim D [
      | inl d ↦ rw d.1 d.0
      | inr d ↦ rw (d.1.1, d.1.0) (get_or-set_same w (K.low + (a - 1)) (v + 1) 0 place)
    ]

    -- What stands from the roots on is kept.
    noted_back : drop K.roots w' ≡ drop K.roots w
    noted_back = elim noted_is [
      | inl e ↦ rw e
      | inr e ↦ rw e (drop-set-lt K.roots w (K.low + (a - 1)) (v + 1) (omega (arith, root_some, R.before)))
    ]

    -- What stands before the names is kept.
    noted_front : take K.names w' ≡ take K.names w
    noted_front = elim noted_is [
      | inl e ↦ rw e
      | inr e ↦ rw e (take-set-le K.names w (K.low + (a - 1)) (v + 1) (omega (arith, R.apart)))
    ]

    -- The zone v has its name.
    pub named_more : ZonesNamed w₀ (set w' (K.names + v) x) zones K (v + 1)
    named_more = record {
      long = length-set w' (K.names + v) x ∙ noted_long ∙ N.long;
      front = take-set-le K.names w' (K.names + v) x (omega arith) ∙ noted_front ∙ N.front;
      back = drop-set-lt K.roots w' (K.names + v) x (omega (arith, R.apart, R.before)) ∙ noted_back ∙ N.back;
      naming = naming_more (cell (set w' (K.names + v) x) K.low) (cell (set w' (K.names + v) x) K.names) N.naming
          (omega (arith, root_is, root_some)) (omega (arith, root_some))
          (get_or-set_same w' (K.names + v) x 0 (omega (arith, noted_long, place, root_some, R.apart)))
          (λ u l. get_or-set_other w' (K.names + v) (K.names + u) x 0 (λ e. omega arith)
          ∙ noted_other (K.names + u) (λ e. omega (arith, R.apart)))
          (get_or-set_other w' (K.names + v) (K.low + (a - 1)) x 0 (λ e. omega (arith, R.apart)) ∙ noted_at)
          (λ s l ne. get_or-set_other w' (K.names + v) (K.low + s) x 0 (λ e. omega (arith, R.apart))
          ∙ noted_other (K.low + s) (λ e. ne (omega arith)))
          (elim D [ inl d ↦ inl d.0 | inr d ↦ inr (d.0, d.1.0) ]);
    }
