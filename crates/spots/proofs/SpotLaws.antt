-- One turn of noting the places of the components, on plain lists.
--   top_low       the next name is a zone, and stands where it stood
--   note_turn     the next name gets its place, and stands in the order a second time
-- No name stands twice, so a place that is noted is not overwritten. Assumes nothing.
use mathlib.Core.Path.{◌≡◌, sym, ap, ◌∙◌}
use mathlib.Core.Logic.{◌≢◌, inl, inr}
use mathlib.Core.List.{List}
use Prim.Native.Nat.{ℕ, ◌+◌, ◌<◌}
use native.Mathlib.Omega.{arith}
use lib.ListN.{length, get_or, set, length-set}
use lib.Seq.{drop-set-lt, get_or-set_same, get_or-set_other}
use Rattle.workmap.specs.declared.PlacesAt.{PlacesAt}
use Rattle.memory.specs.Regions.{cell}
use Rattle.memory.proofs.Numbers.{same?}
use Rattle.spots.specs.Spots.{PlacesNotable, PlacesNoted}

module _ (w₀ : List ℕ) (at : PlacesAt) (k : ℕ) (P : PlacesNotable w₀ at k) (w : List ℕ) (j : ℕ)
    (S : PlacesNoted w₀ w at j) (inside : j < k) where
  -- the next name
  abbrev pub top : ℕ
  top = cell w at.tops j

  -- it stands where it stood
  top_kept : top ≡ cell w₀ at.tops j
  top_kept = S.kept (at.tops + j) (omega arith) (omega (arith, P.few, P.tops_low, P.names_low))

  -- and it is a zone
  top_low : top < at.zones
  top_low = omega (arith, top_kept, P.zone j inside)

  -- the memory with the name's place, and with the name in the order too
  abbrev spotted : List ℕ
  spotted = set w (at.spots + top) j

  abbrev after : List ℕ
  after = set spotted (at.order + j) top

  -- both places lie in the memory
  spot_fits : at.spots + top < length w
  spot_fits = omega (arith, top_low, P.spots_low, P.tops_low, P.names_low, P.fits, S.long)

  order_fits : at.order + j < length spotted
  order_fits = omega (arith, P.few, P.fits, S.long, length-set w (at.spots + top) j)

  -- an element in neither of the two places is as it was
  other : (i : ℕ) → i ≢ at.spots + top → i ≢ at.order + j → get_or after i 0 ≡ get_or w i 0
  other i a b = get_or-set_other spotted (at.order + j) i top 0 b ∙ get_or-set_other w (at.spots + top) i j 0 a

  -- the place of each name so far
  spots_then : (i : ℕ) → i < j + 1 → cell after at.spots (cell w₀ at.tops i) ≡ i
  spots_then i h =
      elim (same? i j) [
        | inl e ↦
            let here : cell after at.spots top ≡ j =
            get_or-set_other spotted (at.order + j) (at.spots + top) top 0
            (λ q. omega (arith, top_low, P.spots_low, P.tops_low, P.names_low))
            ∙ get_or-set_same w (at.spots + top) j 0 spot_fits
            in
            ap (λ (x : ℕ). cell after at.spots (cell w₀ at.tops x)) e
            ∙ ap (cell after at.spots) (sym top_kept)
            ∙ here
            ∙ sym e
        | inr n ↦
            let before : i < j = omega (arith, n) in
            let low : cell w₀ at.tops i < at.zones = P.zone i (omega arith) in
            other (at.spots + cell w₀ at.tops i)
            (λ q. P.once i j before inside (omega (arith, q, top_kept)))
            (λ q. omega (arith, low, P.spots_low, P.tops_low, P.names_low))
            ∙ S.spot i before
      ]

  -- the name of each place so far
  orders_then : (i : ℕ) → i < j + 1 → cell after at.order i ≡ cell w₀ at.tops i
  orders_then i h =
      elim (same? i j) [
        | inl e ↦
            ap (cell after at.order) e
            ∙ get_or-set_same spotted (at.order + j) top 0 order_fits
            ∙ top_kept
            ∙ ap (cell w₀ at.tops) (sym e)
        | inr n ↦
            let before : i < j = omega (arith, n) in
            other (at.order + i)
            (λ q. omega (arith, top_low, P.spots_low, P.tops_low, P.names_low))
            (λ q. omega (arith, before))
            ∙ S.order i before
      ]

  -- the next name gets its place, and stands in the order a second time
  pub note_turn : PlacesNoted w₀ after at (j + 1)
  note_turn =
      record {
        spot = spots_then;
        order = orders_then;
        long = length-set spotted (at.order + j) top ∙ length-set w (at.spots + top) j ∙ S.long;
        kept = λ i l h.
            other i (λ q. omega (arith, top_low, P.spots_low)) (λ q. omega arith) ∙ S.kept i l h;
        high =
            drop-set-lt (at.order + at.zones) spotted (at.order + j) top (omega (arith, P.few))
            ∙ drop-set-lt (at.order + at.zones) w (at.spots + top) j
            (omega (arith, top_low, P.spots_low, P.tops_low, P.names_low))
            ∙ S.high;
      }
