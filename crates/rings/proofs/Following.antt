-- The arcs that are put are exactly those of the rings, each once. Of a network N the zones are those below n, and f
-- says their names.
--   rings_in, in_rings   an arc is put exactly where its head follows its tail in the ring of a component
--   rings_ends           both ends are zones
--   rings_once           none is put twice
--   rings_short          they are no more than the arcs of the network
-- What comes next after a zone is the first zone above it with its name: then none lies between. Where there is none
-- above, the zone is the highest, and its name comes next; where that is the zone itself, it is alone. Assumes nothing.
use mathlib.Core.Path.{◌≡◌, refl, sym, ◌∙◌}
use mathlib.Core.Logic.{◌⊎◌, inl, inr}
use mathlib.Core.Bool.{Bool, true}
use mathlib.Core.List.Memᴰ
use mathlib.Core.List.{Memᴰ as In}
use Prim.Native.Nat.{ℕ, zero, suc, ◌+◌, ◌≤◌, ◌<◌}
use native.Mathlib.Nat.{zero-add}
use native.Mathlib.Omega.{arith}
use lib.Dec.{eqb}
use lib.ListN.{length}
use borrow.Author.Tests.{eqb-true, eq-eqb}
use Rattle.rules.specs.Lists.{span, any}
use Rattle.rules.specs.Network.{Arc, ◌⟶◌, Network, Proper}
use Rattle.rules.specs.Components.{name}
use Rattle.rules.specs.Skeleton.{skeleton}
use Rattle.theory.proofs.Ground.Bools.{bool_cases, true_not_false}
use Rattle.theory.proofs.Ground.Lists.{any_true, any_false, first_true, first_none}
use Rattle.theory.proofs.Ground.Ascending.{in_span, span_in, span_ascending, first_lowest}
use Rattle.theory.proofs.Ground.Counting.{Distinct, distinct_append, answers_count}
use Rattle.theory.proofs.Reaching.Components.{Together, together_refl, together_sym, together_zone}
use Rattle.theory.proofs.Reaching.Components.{name_agree, name_apart, name_in, name_lowest, name_name, name_together}
use Rattle.theory.proofs.Skeletons.SkeletonLaws.{Follows, in_skeleton_of}
use Rattle.theory.proofs.Skeletons.SkeletonLeast.{follows_one, skeleton_short}
use Rattle.memory.proofs.Numbers.{same?}
use Rattle.rings.specs.Rings.{next_round, ring_arc, rings_of}
use Rattle.rings.proofs.Passing.{ring_one, ring_none}

module _ {N : Network} (P : Proper N) (n : ℕ) (all : N.zones ≡ span 0 n) (f : ℕ → ℕ)
    (named : (v : ℕ) → v < n → f v ≡ name N v) where
  -- a number below n is a zone
  zone : {v : ℕ} → v < n → In v N.zones
  zone h = rw all (in_span 0 n (omega arith) (omega arith))

  -- and a zone is below n
  below : {v : ℕ} → In v N.zones → v < n
  below i = let r = span_in 0 n (rw all at i) in omega arith

  -- two zones of one component have one name
  same_name : {a b : ℕ} → In a N.zones → In b N.zones → Together N a b → f b ≡ f a
  same_name {a} {b} i j t = named b (below j) ∙ name_agree P j i (together_sym t) ∙ sym (named a (below i))

  -- what comes next after a zone z, of which k zones lie above
  abbrev after : ℕ → ℕ → ℕ
  after z k = next_round f (span (suc z) k) (f z)

  -- either it follows, or it is the zone itself, and none follows
  abbrev Way : ℕ → ℕ → Type 0
  Way z b =
      ((b ≡ z → ⊥) × In b N.zones × Follows N z b)
      ⊎ ((b ≡ z) × ((c : ℕ) → Follows N z c → ⊥))

  -- some zone above has the name: the first follows
  way_next : (z k : ℕ) → z + suc k ≡ n → (x : ℕ) → In x (span (suc z) k) → eqb (f x) (f z) ≡ true → Way z (after z k)
  way_next z k e x i t =
      let zs = span (suc z) k in
      let test : ℕ → Bool = λ u. eqb (f u) (f z) in
      let b = after z k in
      let found = first_true test (f z) i t in
      let place = span_in (suc z) k found.0 in
      let here : In z N.zones = zone (omega arith) in
      let there : In b N.zones = zone (omega arith) in
      let one : name N z ≡ name N b =
      sym (named z (omega arith)) ∙ sym (eqb-true (f b) (f z) found.1) ∙ named b (omega arith)
      in
      inl (
        λ q. omega arith,
        there,
        inl (record {
          up = omega arith;
          mates = name_apart P here there one;
          none_between = λ c j low high t.
              let least = first_lowest test (f z) zs (span_ascending (suc z) k)
              (in_span (suc z) k (omega arith) (let l = below j in omega arith))
              (eq-eqb (f c) (f z) (same_name here j t))
              in
              omega arith;
        }),
      )

  -- no zone above has the name: the zone is the highest
  way_last : (z k : ℕ) → z + suc k ≡ n → ((c : ℕ) → In c N.zones → z < c → Together N z c → ⊥)
      → after z k ≡ name N z → Way z (after z k)
  way_last z k e top q =
      let here : In z N.zones = zone (omega arith) in
      let lowest = name_lowest P here here together_refl in
      elim (same? (after z k) z) [
        | inl own ↦ inr (own, λ c F. alone own here F)
        | inr other ↦
            let ne : name N z ≡ z → ⊥ = λ s. other (q ∙ s) in
            inl (
              other,
              rw q (name_in P here),
              rw q (inr (record {
                down = omega (arith, ne);
                mates = name_together P here;
                lowest = name_name P here;
                none_above = top;
              })),
            )
      ]
    where
      -- a zone that comes next after itself is followed by none
      alone : {c : ℕ} → after z k ≡ z → In z N.zones → Follows N z c → ⊥
      alone {c} own here (inl F) = top c (together_zone P here F.mates) F.up F.mates
      alone {c} own here (inr F) =
          let low = F.down in
          let same : name N z ≡ c = name_agree P here (together_zone P here F.mates) F.mates ∙ F.lowest in
          omega (arith, own, q)

  -- the ways of a zone
  way : (z k : ℕ) → z + suc k ≡ n → Way z (after z k)
  way z k e =
      let zs = span (suc z) k in
      let test : ℕ → Bool = λ u. eqb (f u) (f z) in
      let here : In z N.zones = zone (omega arith) in
      elim (bool_cases (any test zs)) [
        | inl t ↦ let x = any_true test zs t in way_next z k e x.0 x.1 x.2
        | inr t ↦
            way_last z k e
            (λ c j low m.
            true_not_false (eq-eqb (f c) (f z) (same_name here j m))
            (any_false test t (in_span (suc z) k low (let l = below j in omega arith))))
            (first_none test (f z) zs (λ x i. any_false test t i) ∙ named z (omega arith))
      ]

  -- an arc out of a zone starts there, ends at a zone, and follows
  arc_in : (z k : ℕ) → z + suc k ≡ n → (e : Arc) → In e (ring_arc z (after z k))
      → (e.tail ≡ z) × In e.head N.zones × Follows N e.tail e.head
  arc_in z k q e i =
      elim (way z k q) [
        | inl F ↦ elim (Memᴰ.cases_cons (rw (ring_one z (after z k) F.0) at i)) [
          | inl s ↦ rw s (refl, F.1, F.2)
          | inr m ↦ absurd (Memᴰ.not-nil m)
        ]
        | inr F ↦ absurd (Memᴰ.not-nil (rw (ring_none z (after z k) F.0) at i))
      ]

  -- the arcs out of the zones from z on
  all_in : (z k : ℕ) → z + k ≡ n → (e : Arc) → In e (rings_of f (span z k))
      → (z ≤ e.tail) × (e.tail < n) × In e.head N.zones × Follows N e.tail e.head
  unfolding rings_of
  all_in z zero q e i = absurd (Memᴰ.not-nil i)
  all_in z (suc k) q e i =
      elim (Memᴰ.append_cases (rings_of f (span (suc z) k)) i) [
        | inl j ↦
            let r = all_in (suc z) k (omega arith) e j in
            let low = r.0 in
            (omega arith, r.1, r.2, r.3)
        | inr j ↦
            let r = arc_in z k q e j in
            let same = r.0 in
            (omega arith, omega arith, r.1, r.2)
      ]

  -- an arc that follows is among those out of the zones from z on
  in_all : (z k : ℕ) → z + k ≡ n → (a b : ℕ) → z ≤ a → In a N.zones → In b N.zones → Follows N a b
      → In (a ⟶ b) (rings_of f (span z k))
  unfolding rings_of
  in_all z zero q a b low i j F = let l = below i in absurd (omega arith)
  in_all z (suc k) q a b low i j F =
      elim (same? a z) [
        | inr other ↦
            Memᴰ.append_left (ring_arc z (after z k))
            (in_all (suc z) k (omega arith) a b (omega (arith, other)) i j F)
        | inl same ↦ elim (way z k q) [
          | inl G ↦
              let b_is : b ≡ after z k = follows_one P j G.1 (rw same at F) G.2 in
              Memᴰ.append_right (rings_of f (span (suc z) k))
              (rw (same, b_is, ring_one z (after z k) G.0) (Memᴰ.head refl))
          | inr G ↦ absurd (G.1 b (rw same at F))
        ]
      ]

  -- the arc out of one zone stands once
  arc_once : (z k : ℕ) → z + suc k ≡ n → Distinct (ring_arc z (after z k))
  arc_once z k q =
      elim (way z k q) [
        | inl F ↦ rw (ring_one z (after z k) F.0) (Memᴰ.not-nil, tt)
        | inr F ↦ rw (ring_none z (after z k) F.0) tt
      ]

  -- those out of the zones from z on stand once
  all_once : (z k : ℕ) → z + k ≡ n → Distinct (rings_of f (span z k))
  unfolding rings_of
  all_once z zero q = tt
  all_once z (suc k) q =
      distinct_append (rings_of f (span (suc z) k)) (ring_arc z (after z k))
      (all_once (suc z) k (omega arith))
      (arc_once z k q)
      (λ e i j.
      let low = (all_in (suc z) k (omega arith) e i).0 in
      let same = (arc_in z k q e j).0 in
      omega arith)

  -- an arc that is put follows
  pub rings_in : (e : Arc) → In e (rings_of f (span 0 n)) → Follows N e.tail e.head
  rings_in e i = (all_in 0 n (zero-add n) e i).3

  -- its ends are zones
  pub rings_ends : (e : Arc) → In e (rings_of f (span 0 n)) → In e.tail N.zones × In e.head N.zones
  rings_ends e i = let r = all_in 0 n (zero-add n) e i in (zone r.1, r.2)

  -- an arc between zones that follows is put
  pub in_rings : (a b : ℕ) → In a N.zones → In b N.zones → Follows N a b → In (a ⟶ b) (rings_of f (span 0 n))
  in_rings a b i j F = in_all 0 n (zero-add n) a b (omega arith) i j F

  -- none is put twice
  pub rings_once : Distinct (rings_of f (span 0 n))
  rings_once = all_once 0 n (zero-add n)

  -- they are no more than the arcs of the network
  pub rings_short : length (rings_of f (span 0 n)) ≤ length N.arcs
  rings_short =
      let count = answers_count (λ (e : Arc). e) (rings_of f (span 0 n)) (skeleton N) rings_once
      (λ e i. let z = rings_ends e i in (e, in_skeleton_of P z.0 z.1 (inl (rings_in e i)), refl))
      in
      omega (arith, count, skeleton_short P)
