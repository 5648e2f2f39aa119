-- The network file (document 01, "The network file" and "When a call says no"; document 02, No. 1).
--   Given              a network as a file holds it: the zone count and the arcs
--   Acceptable g       a network that a call accepts
--   file_bytes g       the file that it is written as
--   file_at s a b      reading the bytes s from left to right to the first trouble, with room for a tails and b heads
-- A file is: zone count, arc count, then tail and head of each arc. Nothing follows.
use Prim.Native.Nat.{ℕ, zero, suc, ◌≤◌, ◌<◌}
use Rattle.std.specs.Prelude.{◌≡◌, Bool, ◌||◌, length, leb, eqb}
use mathlib.Core.List.{List, [], ◌∷◌, ◌++◌, Memᴰ as In}
use Rattle.std.proofs.Math.Dec.{ltb}
use Rattle.rules.specs.declared.TroubleKind.{TroubleKind}
use Rattle.rules.specs.declared.TroubleKind.TheVariants.{Zones, Arcs, Range, SelfArc, Extra, Room, Head}
use Rattle.rules.specs.Answers.{refusal}
use Rattle.rules.specs.Network.{Arc, ◌⟶◌}
use Rattle.rules.specs.Number.{number_bytes, Reading, got, then, unless, number_at}

-- a network as a file holds it: the zone count and the arcs
pub record Given : Type 0 where
  pub zones : ℕ
  pub arcs : List Arc

-- a network that a call accepts: 1 to 1,024 zones, at most 4,096 arcs, and every arc between two different zones
pub record Acceptable (g : Given) : Type 0 where
  pub zones_least : 1 ≤ g.zones
  pub zones_most : g.zones ≤ 1024
  pub arcs_most : length g.arcs ≤ 4096
  pub tails : {a b : ℕ} → In (a ⟶ b) g.arcs → a < g.zones
  pub heads : {a b : ℕ} → In (a ⟶ b) g.arcs → b < g.zones
  pub apart : {a b : ℕ} → In (a ⟶ b) g.arcs → a ≡ b → ⊥

-- tail and head of an arc
unfoldable pub arc_bytes : Arc → List ℕ
unfolding number_bytes
arc_bytes e = number_bytes e.tail ++ number_bytes e.head

-- tail and head of each arc
unfoldable pub arcs_bytes : List Arc → List ℕ
unfolding arc_bytes
arcs_bytes [] = []
arcs_bytes (e ∷ es) = arc_bytes e ++ arcs_bytes es

-- the file that a network is written as
unfoldable pub file_bytes : Given → List ℕ
unfolding number_bytes arcs_bytes
file_bytes g = number_bytes g.zones ++ (number_bytes (length g.arcs) ++ arcs_bytes g.arcs)

-- ZONES: zone count 0 or above 1,024
abbrev pub zones_bad : ℕ → Bool
zones_bad n = eqb n 0 || ltb 1024 n

-- ARCS: arc count above 4,096
abbrev pub arcs_bad : ℕ → Bool
arcs_bad m = ltb 4096 m

module _ (s : List ℕ) where
  -- a zone number: at or above the zone count n it is refused, with the kind k
  unfoldable pub zone_at : TroubleKind → ℕ → ℕ → Reading ℕ
  unfolding number_at
  zone_at k n at = then (number_at s at) λ z next. unless (leb n z) (refusal k at) (got z next)

  -- an arc: its tail, RANGE at the tail; its head, HEAD at the head; and SELF at the head
  unfoldable pub arc_at : ℕ → ℕ → Reading Arc
  unfolding zone_at
  arc_at n at =
      then (zone_at Range n at) λ t mid.
      then (zone_at Head n mid) λ h next. unless (eqb t h) (refusal SelfArc mid) (got (t ⟶ h) next)

  -- m arcs, one after the other
  unfoldable pub arcs_at : ℕ → ℕ → ℕ → Reading (List Arc)
  unfolding arc_at
  arcs_at n zero at = got [] at
  arcs_at n (suc m) at = then (arc_at n at) λ e next. then (arcs_at n m next) λ es end. got (e ∷ es) end

  -- the arcs of a file with zone count n and arc count m, and nothing after them: EXTRA at the first extra byte
  unfoldable pub body_at : ℕ → ℕ → ℕ → Reading Given
  unfolding arcs_at
  body_at n m at =
      then (arcs_at n m at) λ es end.
      unless (ltb end (length s)) (refusal Extra end) (got (record { zones = n; arcs = es }) end)

  module _ (tails_room heads_room : ℕ) where
    -- the arc count, and what follows it: ARCS, then ROOM for a short output list, both at the arc count
    unfoldable pub counted_at : ℕ → ℕ → Reading Given
    unfolding number_at body_at
    counted_at n at =
        then (number_at s at) λ m next.
        unless (arcs_bad m) (refusal Arcs at)
        (unless (ltb tails_room m || ltb heads_room m) (refusal Room at) (body_at n m next))

    -- the whole file: ZONES at the zone count
    unfoldable pub file_at : Reading Given
    unfolding number_at counted_at
    file_at = then (number_at s 0) λ n next. unless (zones_bad n) (refusal Zones 0) (counted_at n next)
