-- A network less zones that no arc touches has the same skeleton.
--   skeleton_passes   both ends of a skeleton's arc pass
--   fewer_skeleton    the skeleton is the same, arc for arc
-- Each test of the rule asks about zones of the components of its two ends, or about zones between; all these pass
-- where the two ends do. And a pair of which an end does not pass is in no ring and in no crossing. Assumes nothing.
use Prim.Native.Nat.{ℕ}
use mathlib.Core.Path.{◌≡◌, ap, ap₂, ◌∙◌}
use mathlib.Core.Logic.{inl, inr}
use mathlib.Core.Bool.{Bool, true, false, not, ◌&&◌}
use mathlib.Core.List.{Memᴰ as In}
use lib.Dec.{eqb, ltb}
use Rattle.rules.specs.Lists.{keep, any}
use Rattle.rules.specs.Network.{Arc, Network, Reach, same, step, Proper, reaches}
use Rattle.rules.specs.Components.{together, is_name}
use Rattle.rules.specs.Skeleton.{
  pairs_of,
  higher,
  follows,
  joined,
  between,
  crosses,
  in_skeleton,
  skeleton,
}
use Rattle.theory.proofs.Ground.Bools.{and_true, true_and, or_else}
use Rattle.theory.proofs.Ground.Lists.{keep_in, in_keep, any_agree, keep_agree}
use Rattle.theory.proofs.Reaching.Reach.{reaches_sound}
use Rattle.theory.proofs.Reaching.Components.{together_sound}
use Rattle.theory.proofs.Skeletons.SkeletonLaws.{
  pairs_in,
  follows_together,
  follows_apart,
  skeleton_kinds,
  Follows,
  Crosses,
}
use Rattle.theory.proofs.Ground.Keeping.{any_keep, keep_keep, ends_pass, pairs_keep}
use Rattle.theory.proofs.Withdrawn.Fewer.{
  fewer,
  Touched,
  reach_passes,
  fewer_reaches,
  fewer_together,
  fewer_is_name,
}

-- the tail of a run between two distinct zones passes
start_passes : {p : ℕ → Bool} {N : Network} → Touched p N → {a b : ℕ} → Reach N a b → (a ≡ b → ⊥) → p a ≡ true
start_passes T (same e) n = absurd (n e)
start_passes T (step m r) n = T.tail_in m

module _ {p : ℕ → Bool} {N : Network} (P : Proper N) (T : Touched p N) where
  -- the test for a higher zone of the component is the same
  fewer_higher : {a : ℕ} → p a ≡ true → (q : ℕ → Bool) → higher (fewer p N) a q ≡ higher N a q
  unfolding higher
  fewer_higher {a} t q =
      any_agree
      (λ c. ltb a c && (q c && together (fewer p N) a c))
      (λ c. ltb a c && (q c && together N a c))
      (keep p N.zones)
      (λ c m. ap (λ (u : Bool). ltb a c && (q c && u)) (fewer_together P T a c))
      ∙ any_keep p (λ c. ltb a c && (q c && together N a c)) N.zones
      (λ c m h.
      reach_passes T
      (together_sound N a c (and_true (q c) (together N a c) (and_true (ltb a c) _ h).1).1).0
      t)

  -- point 1 is the same
  fewer_follows : {a : ℕ} → p a ≡ true → (b : ℕ) → follows (fewer p N) a b ≡ follows N a b
  unfolding follows
  fewer_follows {a} u b =
      let t : together (fewer p N) a b ≡ together N a b = fewer_together P T a b in
      let n : is_name (fewer p N) b ≡ is_name N b = fewer_is_name P T b in
      let h : higher (fewer p N) a (λ c. ltb c b) ≡ higher N a (λ c. ltb c b) = fewer_higher u (λ c. ltb c b) in
      let g : higher (fewer p N) a (λ c. true) ≡ higher N a (λ c. true) = fewer_higher u (λ c. true) in
      λ k.
      elim (not (eqb a b) && t k) [
        | false ↦ false
        | true ↦ elim (ltb a b) [ true ↦ not (h k) | false ↦ n k && not (g k) ]
      ]

  -- the same components are joined by an arc
  fewer_joined : (a b : ℕ) → joined (fewer p N) a b ≡ joined N a b
  unfolding joined
  fewer_joined a b =
      any_agree
      (λ (e : Arc). together (fewer p N) e.tail a && together (fewer p N) e.head b)
      (λ (e : Arc). together N e.tail a && together N e.head b)
      N.arcs
      (λ e m. ap₂ (λ (x y : Bool). x && y) (fewer_together P T e.tail a) (fewer_together P T e.head b))

  -- what lies between is the same
  fewer_between : (a b c : ℕ) → between (fewer p N) a b c ≡ between N a b c
  unfolding between
  fewer_between a b c =
      λ k.
      (not (fewer_together P T a c k) && not (fewer_together P T c b k))
      && (fewer_reaches P T a c k && fewer_reaches P T c b k)

  -- whether something lies between is the same
  fewer_any_between : {a : ℕ} → p a ≡ true → (b : ℕ)
      → any (between (fewer p N) a b) (keep p N.zones) ≡ any (between N a b) N.zones
  unfolding between
  fewer_any_between {a} t b =
      any_agree (between (fewer p N) a b) (between N a b) (keep p N.zones) (λ c m. fewer_between a b c)
      ∙ any_keep p (between N a b) N.zones
      (λ c m h.
      reach_passes T
      (reaches_sound N a c
      (and_true (reaches N a c) (reaches N c b)
      (and_true (not (together N a c) && not (together N c b)) (reaches N a c && reaches N c b) h).1).0)
      t)

  -- point 2 is the same
  fewer_crosses : {a : ℕ} → p a ≡ true → (b : ℕ) → crosses (fewer p N) a b ≡ crosses N a b
  unfolding crosses
  fewer_crosses {a} t b =
      let h : any (between (fewer p N) a b) (keep p N.zones) ≡ any (between N a b) N.zones =
      fewer_any_between t b
      in
      λ k.
      (fewer_is_name P T a k && fewer_is_name P T b k)
      && ((not (fewer_together P T a b k) && fewer_joined a b k) && not (h k))

  -- the rule takes the same arcs
  fewer_in_skeleton : (e : Arc) → p e.tail ≡ true → in_skeleton (fewer p N) e ≡ in_skeleton N e
  unfolding in_skeleton
  fewer_in_skeleton e t = ap₂ or_else (fewer_follows t e.head) (fewer_crosses t e.head)

  -- the tail of an arc of the skeleton passes
  tail_passes : {a b : ℕ} → (r : Follows N a b) → p a ≡ true
  tail_passes r = start_passes T (follows_together r).0 (follows_apart r)

  -- both ends of an arc that crosses pass
  crosses_passes : {a b : ℕ} → Crosses N a b → (p a ≡ true) × (p b ≡ true)
  crosses_passes C =
      let j = C.arc in
      (reach_passes T j.2.0 (T.tail_in j.1), reach_passes T j.3.0 (T.head_in j.1))

  -- both ends of an arc of the skeleton pass
  pub skeleton_passes : {e : Arc} → In e (skeleton N) → (p e.tail ≡ true) × (p e.head ≡ true)
  skeleton_passes m =
      elim (skeleton_kinds P m) [
        | inl h ↦ let t = tail_passes h in (t, reach_passes T (follows_together h).0 t)
        | inr h ↦ crosses_passes h
      ]

  -- the skeleton is the same, arc for arc
  pub fewer_skeleton : skeleton (fewer p N) ≡ skeleton N
  unfolding skeleton
  fewer_skeleton =
      keep_agree (in_skeleton (fewer p N)) (in_skeleton N) (pairs_of (keep p N.zones))
      (λ e m. fewer_in_skeleton e (keep_in p N.zones (pairs_in (keep p N.zones) m).0).1)
      ∙ ap (keep (in_skeleton N)) (pairs_keep p N.zones)
      ∙ keep_keep (ends_pass p) (in_skeleton N) (pairs_of N.zones)
      (λ e m h. let t = skeleton_passes {e = e} (in_keep (in_skeleton N) m h) in true_and t.0 t.1)
