-- One zone more is tried for a list of names.
--   kind_kept, room_kept    names that are put leave what was noted, and the zones' names
--   list_room               one more may be tried
--   list_skip, list_put     one more is tried, and it is not of the kind, or it is
--   listable_next, list_same   one list after the other: the second is as if it were the first
-- The idea: what is put lies apart from what the tests read. Assumes nothing.
use mathlib.Core.Path.{◌≡◌, sym, ap, ◌∙◌}
use mathlib.Core.Logic.{inr, ⊎_elim}
use mathlib.Core.Bool.{true, false}
use mathlib.Core.List.{List}
use Prim.Native.Nat.{ℕ, ◌+◌, ◌≤◌, ◌<◌}
use native.Mathlib.Omega.{arith}
use lib.ListN.{length, get_or, set, length-append}
use lib.Seq.{sets, length-sets}
use Rattle.rules.specs.Lists.{span, keep}
use Rattle.theory.proofs.Ground.Lists.{keep_agree}
use Rattle.theory.proofs.Ground.Ascending.{span_in}
use Rattle.workmap.specs.declared.KindsAt.{KindsAt}
use Rattle.memory.specs.Regions.{cell}
use Rattle.memory.proofs.Stores.{getD_sets_low, getD_sets_high, sets_more}
use Rattle.borders.specs.Borders.{KindsRoom, own_kind}
use Rattle.kinds.specs.Lists.{Listable, Listing}
use Rattle.borders.proofs.Tests.{keep_few, keep_put, keep_skip}

-- no more than all zones are put from `to` on
module _ {k : KindsAt} {to : ℕ} {w : List ℕ} (L : Listable k to w) (xs : List ℕ) (few : length xs ≤ k.zones) where
  -- the place lies behind what was noted
  behind_noted : k.exited + k.zones ≤ to
  behind_noted =
      ⊎_elim (λ a. a.0) (λ (b : k.names + k.zones ≤ to). omega (arith, L.room.exited_low)) L.apart

  -- what was noted stays
  noted_kept : (j : ℕ) → j < k.exited + k.zones → get_or (sets w to xs) j 0 ≡ get_or w j 0
  noted_kept j h = getD_sets_low w to xs j (omega (arith, behind_noted))

  -- the zones' names stay
  names_kept : (z : ℕ) → z < k.zones → cell (sets w to xs) k.names z ≡ cell w k.names z
  names_kept z h =
      ⊎_elim
      (λ (a : (k.exited + k.zones ≤ to) × (to + k.zones ≤ k.names)).
      getD_sets_high w to xs (k.names + z) (omega (arith, a.1)))
      (λ (b : k.names + k.zones ≤ to). getD_sets_low w to xs (k.names + z) (omega arith))
      L.apart

  -- the kind of each zone stays
  kind_kept : (x y z : ℕ) → z < k.zones → own_kind k x y (sets w to xs) z ≡ own_kind k x y w z
  kind_kept x y z h =
      rw (
        names_kept z h,
        noted_kept (k.entered + z) (omega (arith, L.room.entered_low)),
        noted_kept (k.exited + z) (omega arith),
      )

  -- the memory keeps its room
  room_kept : KindsRoom k (sets w to xs)
  room_kept =
      record {
        small = L.room.small;
        entered_low = L.room.entered_low;
        exited_low = L.room.exited_low;
        fits = omega (arith, length-sets w to xs, L.room.fits);
        zone = λ v h. rw (names_kept v h) (L.room.zone v h);
      }

-- the first z zones were tried, and what passed stands from `to` on in w'
module _
    {k : KindsAt}
    {x y to z r : ℕ}
    {w w' : List ℕ}
    (L : Listable k to w)
    (S : Listing k x y to z r w w')
    (most : z ≤ k.zones)
  where
    -- no more were put than tried
    so_few : length (keep (own_kind k x y w) (span 0 z)) ≤ z
    so_few = keep_few (own_kind k x y w) 0 z

    -- the memory is as long
    pub list_long : length w' ≡ length w
    list_long = ap length S.memory ∙ length-sets w to (keep (own_kind k x y w) (span 0 z))

    -- one more may be tried
    pub list_room : KindsRoom k w'
    list_room = rw S.memory (room_kept L (keep (own_kind k x y w) (span 0 z)) (omega (arith, so_few)))

    -- no more are counted than tried
    pub list_few : r ≤ z
    list_few = omega (arith, so_few, S.count)

    -- the kind of each zone is as it was
    kind_still : (a b v : ℕ) → v < k.zones → own_kind k a b w' v ≡ own_kind k a b w v
    kind_still a b v h =
        rw S.memory (kind_kept L (keep (own_kind k x y w) (span 0 z)) (omega (arith, so_few)) a b v h)

    -- one more is tried, which is not of the kind
    pub list_skip : z < k.zones → own_kind k x y w' z ≡ false → Listing k x y to (z + 1) r w w'
    list_skip h e₀ =
        let e = keep_skip (own_kind k x y w) z (sym (kind_still x y z h) ∙ e₀) in
        record { memory = rw e S.memory; count = rw e S.count }

    -- one more is tried, which is of the kind
    pub list_put : z < k.zones → own_kind k x y w' z ≡ true →
        Listing k x y to (z + 1) (r + 1) w (set w' (to + r) z)
    list_put h e₀ =
        let xs = keep (own_kind k x y w) (span 0 z) in
        let e = keep_put (own_kind k x y w) z (sym (kind_still x y z h) ∙ e₀) in
        record {
          memory =
              rw e
              (ap (λ (l : List ℕ). set l (to + r) z) S.memory
              ∙ sets_more w to xs z (to + r) (omega (arith, S.count)));
          count = rw e (simp length-append (omega (arith, S.count)));
        }

    -- what is of a kind is so still
    pub list_same : (a b : ℕ) →
        keep (own_kind k a b w') (span 0 k.zones) ≡ keep (own_kind k a b w) (span 0 k.zones)
    list_same a b =
        keep_agree (own_kind k a b w') (own_kind k a b w) (span 0 k.zones)
        (λ v i. kind_still a b v (omega (arith, span_in 0 k.zones i)))

    -- more names may be put behind the zones' names
    pub listable_next : (at : ℕ) → k.names + k.zones ≤ at → at + k.zones ≤ length w → Listable k at w'
    listable_next at low fits =
        record { room = list_room; fits = omega (arith, list_long); apart = inr low }
