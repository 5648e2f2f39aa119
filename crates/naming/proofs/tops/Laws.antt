-- One turn of `list_names` in the memory: the zone at place n of the queue is listed where it is its own name.
-- Assumes nothing.
use mathlib.Core.Path.{◌≡◌, sym, ap, ◌∙◌}
use mathlib.Core.Logic.{◌≢◌}
use mathlib.Core.List.{List}
use Prim.Native.Nat.{ℕ, ◌+◌, ◌<◌}
use native.Mathlib.Omega.{arith}
use lib.ListN.{length, set, length-set}
use lib.Seq.{get_or-set_same, get_or-set_other, drop-set-lt, take-set-le}
use Rattle.workmap.specs.declared.NamesAt.{NamesAt}
use Rattle.memory.specs.Regions.{cell}
use Rattle.memory.proofs.Regions.{at_kept}
use Rattle.naming.specs.Tops.{TopsListable, TopsListed}
use Rattle.naming.proofs.Picking.{picks_skip, picks_more}

-- place n of the queue comes next
module _ {w₀ w : List ℕ} {zones n m : ℕ} {K : NamesAt} (R : TopsListable w₀ zones K)
    (N : TopsListed w₀ w zones K n m) (here : n < zones) where
  -- It holds what it held.
  at_n : cell w K.queue n ≡ cell w₀ K.queue n
  at_n = at_kept w₀ w K.names (K.queue + n) (omega (arith, R.before)) N.back

  -- The name of its zone is inside the memory.
  pub name_inside : K.names + cell w K.queue n < length w
  name_inside = omega (arith, at_n, R.zone n here, R.before, R.fits, N.long)

  -- The next place of the list is inside the memory.
  top_inside : K.tops + m < length w
  top_inside = omega (arith, R.apart, R.before, R.fits, N.long, N.picks.few)

  -- Its zone has the name that it had.
  name_n : cell w K.names (cell w K.queue n) ≡ cell w₀ K.names (cell w₀ K.queue n)
  name_n = at_kept w₀ w K.names (K.names + cell w K.queue n) (omega arith) N.back ∙ ap (cell w₀ K.names) at_n

  -- A zone with another name is passed over.
  pub listed_skip : cell w K.names (cell w K.queue n) ≢ cell w K.queue n → TopsListed w₀ w zones K (n + 1) m
  listed_skip d = record {
    long = N.long;
    front = N.front;
    back = N.back;
    picks = picks_skip (λ e. d (name_n ∙ e ∙ sym at_n)) N.picks;
  }

  -- A zone that is its own name is listed.
  pub listed_more : cell w K.names (cell w K.queue n) ≡ cell w K.queue n
      → TopsListed w₀ (set w (K.tops + m) (cell w K.queue n)) zones K (n + 1) (m + 1)
  listed_more d = record {
    long = length-set w (K.tops + m) (cell w K.queue n) ∙ N.long;
    front = take-set-le K.tops w (K.tops + m) (cell w K.queue n) (omega arith) ∙ N.front;
    back = drop-set-lt K.names w (K.tops + m) (cell w K.queue n) (omega (arith, R.apart, N.picks.few)) ∙ N.back;
    picks = picks_more (cell (set w (K.tops + m) (cell w K.queue n)) K.tops) (sym name_n ∙ d ∙ at_n)
        (get_or-set_same w (K.tops + m) (cell w K.queue n) 0 top_inside ∙ at_n)
        (λ j l. get_or-set_other w (K.tops + m) (K.tops + j) (cell w K.queue n) 0 (λ e. omega arith)) N.picks;
  }
