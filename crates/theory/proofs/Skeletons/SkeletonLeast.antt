-- The skeleton has the fewest arcs: no network with the same zones and the same reach has fewer.
--   skeleton_distinct   no arc stands in the skeleton twice
--   ring_next N a       the zone after a in the ring of its component
--   answer N e          the skeleton's arc that an arc e of the network answers for: inside a component the one from
--                       its tail, between two the one between their names
--   answered            every arc of the skeleton is answered for
--   skeleton_short      the skeleton has no more arcs than its network
--   skeleton_least      nor than any network with the same zones and the same reach
-- A ring's arc from a is answered for by the first arc of a run from a to the zone that follows: that run comes back,
-- so its first arc stays inside. Assumes nothing.
use Prim.Native.Nat.{ℕ, ◌<◌, ◌≤◌}
use mathlib.Core.Path.{◌≡◌, sym, ap, ap₂, ◌∙◌}
use mathlib.Core.Logic.{inl, inr, ◌↔◌}
use mathlib.Core.List.Memᴰ
use mathlib.Core.List.{List, [], ◌∷◌, map, flat_map, Memᴰ as In}
use mathlib.Core.Bool.{Bool, true, false}
use lib.Dec.{ltb}
use lib.ListN.{length}
use borrow.Author.Tests.{ltb-true, ltb-false}
use native.Mathlib.Nat.{eq-or-lt_of_le}
use Rattle.rules.specs.Lists.{first}
use Rattle.rules.specs.Network.{Arc, ◌⟶◌, Network, Reach, same, step, Proper}
use Rattle.rules.specs.Components.{together, name}
use Rattle.rules.specs.Skeleton.{pairs_of, follows, in_skeleton, skeleton}
use Rattle.theory.proofs.Ground.Bools.{bool_cases, false_unless}
use Rattle.theory.proofs.Ground.Lists.{first_true}
use Rattle.theory.proofs.Ground.Counting.{
  Distinct,
  answers_count,
  distinct_append,
  distinct_map,
  keep_distinct,
  ascending_distinct,
}
use Rattle.theory.proofs.Reaching.Reach.{reach_arc, reach_trans}
use Rattle.theory.proofs.Reaching.Components.{
  Together,
  together_sound,
  together_complete,
  together_sym,
  together_trans,
  name_agree,
}
use Rattle.theory.proofs.Skeletons.SkeletonLaws.{
  Next,
  Follows,
  Crosses,
  row_in,
  rows_in,
  follows_true,
  true_follows,
  follows_apart,
  follows_together,
  skeleton_ends,
  skeleton_kinds,
}
use Rattle.theory.proofs.Skeletons.SkeletonSame.{skeleton_agree}

-- the rows of two lists without repeats have no arc twice
rows_distinct : (ts hs : List ℕ) → Distinct ts → Distinct hs → Distinct (flat_map (λ a. map (λ b. a ⟶ b) hs) ts)
unfolding flat_map
rows_distinct [] hs d e = tt
rows_distinct (t ∷ ts) hs d e =
    distinct_append (map (λ b. t ⟶ b) hs) (flat_map (λ a. map (λ b. a ⟶ b) hs) ts)
    (distinct_map (λ b. t ⟶ b) hs (λ x y i j q. ap (λ (a : Arc). a.head) q) e)
    (rows_distinct ts hs d.1 e)
    (λ x i j. d.0 (Memᴰ.cast (sym (row_in t hs i).0) (rows_in ts hs j).0))

-- no arc stands in the skeleton twice
pub skeleton_distinct : {N : Network} → Proper N → Distinct (skeleton N)
unfolding skeleton pairs_of flat_map
skeleton_distinct {N} P =
    let d : Distinct N.zones = ascending_distinct N.zones P.ascending in
    keep_distinct (in_skeleton N) (pairs_of N.zones) (rows_distinct N.zones N.zones d d)

-- of two zones that come next after a neither is lower
next_order : {N : Network} {a b c : ℕ} → In b N.zones → Next N a b → Next N a c → b < c → ⊥
next_order {b} j h k l = k.none_between b j h.up l h.mates

-- one zone follows another in the ring
pub follows_one : {N : Network} → Proper N → {a b c : ℕ} → In b N.zones → In c N.zones
    → Follows N a b → Follows N a c → b ≡ c
follows_one {N} P {a} {b} {c} j k (inl h) (inl g) =
    elim (bool_cases (ltb b c)) [
      | inl l ↦ absurd (next_order j h g (ltb-true b c l))
      | inr l ↦ elim (eq-or-lt_of_le (ltb-false b c l)) [
        | inl e ↦ sym e
        | inr m ↦ absurd (next_order k g h m)
      ]
    ]
follows_one {N} P {a} {b} {c} j k (inl h) (inr g) = absurd (g.none_above b j h.up h.mates)
follows_one {N} P {a} {b} {c} j k (inr h) (inl g) = absurd (h.none_above c k g.up g.mates)
follows_one {N} P {a} {b} {c} j k (inr h) (inr g) =
    sym h.lowest ∙ name_agree P j k (together_trans (together_sym h.mates) g.mates) ∙ g.lowest

-- the zone after a in the ring of its component
unfoldable pub ring_next : Network → ℕ → ℕ
unfolding follows
ring_next N a = first (follows N a) a N.zones

-- the zone that follows a is the one after it
next_follows : {N : Network} → Proper N → {a b : ℕ} → In b N.zones → Follows N a b → ring_next N a ≡ b
unfolding ring_next
next_follows {N} P {a} {b} j h =
    let f = first_true (follows N a) a j (true_follows P a b h) in
    follows_one P f.0 j (follows_true P a (first (follows N a) a N.zones) f.1) h

-- the skeleton's arc that an arc of the network answers for, by whether its ends are together
abbrev answer_by : Network → Arc → Bool → Arc
answer_by N e t =
    elim t [ true ↦ e.tail ⟶ ring_next N e.tail | false ↦ name N e.tail ⟶ name N e.head ]

-- the skeleton's arc that an arc of the network answers for
abbrev answer : Network → Arc → Arc
answer N e = answer_by N e (together N e.tail e.head)

-- some arc of the network answers for the arc
abbrev Answered : Network → Arc → Type 0
Answered N x = (y : Arc) × In y N.arcs × (answer N y ≡ x)

-- from a zone that reaches another and is reached from it, an arc leads on in its component
arc_inside : {N : Network} {a b : ℕ} → Together N a b → (a ≡ b → ⊥) → (y : ℕ) × In (a ⟶ y) N.arcs × Together N a y
arc_inside {N} {a} {b} t n = go t.0 t.1 n
  where
    go : {x : ℕ} → Reach N a x → Reach N x a → (a ≡ x → ⊥) → (y : ℕ) × In (a ⟶ y) N.arcs × Together N a y
    go (same e) s n = absurd (n e)
    go (step {b = y} m r) s n = (y, m, (reach_arc m, reach_trans r s))

-- a ring's arc is answered for
ring_answered : {N : Network} → Proper N → {a b : ℕ} → In b N.zones → Follows N a b → Together N a b
    → Answered N (a ⟶ b)
ring_answered {N} P {a} {b} j h t =
    let m = arc_inside t (follows_apart h) in (
      a ⟶ m.0,
      m.1,
      ap (answer_by N (a ⟶ m.0)) (together_complete P m.2) ∙ ap (λ (z : ℕ). a ⟶ z) (next_follows P j h),
    )

-- an arc that crosses is answered for
cross_answered : {N : Network} → Proper N → {a b : ℕ} → In a N.zones → In b N.zones → Crosses N a b
    → Answered N (a ⟶ b)
cross_answered {N} P {a} {b} i j h =
    let e = h.arc.0 in
    let m = h.arc.1 in
    let s = h.arc.2 in
    let t = h.arc.3 in
    let f : together N e.tail e.head ≡ false =
    false_unless (together N e.tail e.head)
    (λ q. h.apart (together_trans (together_sym s) (together_trans (together_sound N e.tail e.head q) t)))
    in (
      e,
      m,
      ap (answer_by N e) f
          ∙ ap₂ ◌⟶◌ (name_agree P (P.tails m) i s ∙ h.tail_names) (name_agree P (P.heads m) j t ∙ h.head_names),
    )

-- every arc of the skeleton is answered for
answered : {N : Network} → Proper N → {x : Arc} → In x (skeleton N) → Answered N x
answered {N} P i =
    let z = skeleton_ends N i in
    elim (skeleton_kinds P i) [
      | inl h ↦ ring_answered P z.1 h (follows_together h)
      | inr h ↦ cross_answered P z.0 z.1 h
    ]

-- the skeleton has no more arcs than its network
pub skeleton_short : {N : Network} → Proper N → length (skeleton N) ≤ length N.arcs
skeleton_short {N} P =
    answers_count (answer N) (skeleton N) N.arcs (skeleton_distinct P) (λ x i. answered P i)

-- the skeleton has no more arcs than any network with the same zones and the same reach
pub skeleton_least : {M N : Network} → Proper M → Proper N → M.zones ≡ N.zones
    → ((a b : ℕ) → In a M.zones → In b M.zones → Reach M a b ↔ Reach N a b)
    → length (skeleton N) ≤ length M.arcs
skeleton_least P Q z r = rw (← skeleton_agree P Q z r) (skeleton_short P)
