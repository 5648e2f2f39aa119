-- The skeleton depends on the zones and on reach alone.
--   skeleton_agree      networks with the same zones and the same reach have the same skeleton, arc for arc
--   skeleton_decides    networks with the same zones and the same skeleton have the same reach
--   skeleton_skeleton   a skeleton's own skeleton is itself
-- Each test of the rule is the same for two such networks; `crosses` is, as it can be said with reach alone.
-- Assumes nothing.
use Prim.Native.Nat.{ℕ}
use mathlib.Core.Path.{◌≡◌, refl, sym, ap, ap₂, ◌∙◌, subst}
use mathlib.Core.Logic.{◌↔◌}
use mathlib.Core.List.{List, Memᴰ as In}
use mathlib.Core.Bool.{Bool, true, false, not, ◌&&◌}
use lib.Dec.{eqb, ltb}
use Rattle.rules.specs.Lists.{any, keep}
use Rattle.rules.specs.Network.{Arc, Network, Reach, Proper}
use Rattle.rules.specs.Components.{together, is_name}
use Rattle.rules.specs.Skeleton.{pairs_of, higher, follows, between, crosses, in_skeleton, skeleton, skeleton_of}
use Rattle.theory.proofs.Ground.Bools.{or_else}
use Rattle.theory.proofs.Ground.Lists.{keep_agree}
use Rattle.theory.proofs.Skeletons.SkeletonLaws.{pairs_in}
use Rattle.theory.proofs.Skeletons.Gap.{bridges, crosses_reach}
use Rattle.theory.proofs.Skeletons.SkeletonReach.{skeleton_proper, skeleton_reach}
use Rattle.theory.proofs.Skeletons.Alike.{
  Alike,
  in_along,
  reaches_alike,
  together_alike,
  is_name_alike,
  any_alike,
}

module _ {M N : Network} (A : Alike M N) where
  -- the test for a higher zone of the component is the same for both
  higher_alike : {a : ℕ} → In a M.zones → (p : ℕ → Bool) → higher M a p ≡ higher N a p
  unfolding higher
  higher_alike {a} i p =
      any_alike A _ _ (λ c j. ap (λ (t : Bool). ltb a c && (p c && t)) (together_alike A i j))

  -- point 1 is the same for both
  follows_alike : {a b : ℕ} → In a M.zones → In b M.zones → follows M a b ≡ follows N a b
  unfolding follows
  follows_alike {a} {b} i j =
      let t : together M a b ≡ together N a b = together_alike A i j in
      let n : is_name M b ≡ is_name N b = is_name_alike A j in
      let h : higher M a (λ c. ltb c b) ≡ higher N a (λ c. ltb c b) = higher_alike i (λ c. ltb c b) in
      let g : higher M a (λ c. true) ≡ higher N a (λ c. true) = higher_alike i (λ c. true) in
      λ k.
      elim (not (eqb a b) && t k) [
        | false ↦ false
        | true ↦ elim (ltb a b) [ true ↦ not (h k) | false ↦ n k && not (g k) ]
      ]

  -- what lies between is the same for both
  between_alike : {a b c : ℕ} → In a M.zones → In b M.zones → In c M.zones
      → between M a b c ≡ between N a b c
  unfolding between
  between_alike i j l =
      λ k.
      (not (together_alike A i l k) && not (together_alike A l j k))
      && (reaches_alike A i l k && reaches_alike A l j k)

  -- point 2 is the same for both
  crosses_alike : {a b : ℕ} → In a M.zones → In b M.zones → crosses M a b ≡ crosses N a b
  crosses_alike {a} {b} i j =
      let h : any (between M a b) M.zones ≡ any (between N a b) N.zones =
      any_alike A (between M a b) (between N a b) (λ c l. between_alike i j l)
      in
      let m : bridges M a b ≡ bridges N a b =
      λ k.
      (is_name_alike A i k && is_name_alike A j k)
      && ((not (together_alike A i j k) && reaches_alike A i j k) && not (h k))
      in
      crosses_reach A.proper a b ∙ m ∙ sym (crosses_reach A.proper_other a b)

  -- the rule takes the same arcs
  in_skeleton_alike : (e : Arc) → In e.tail M.zones → In e.head M.zones
      → in_skeleton M e ≡ in_skeleton N e
  unfolding in_skeleton
  in_skeleton_alike e i j = ap₂ or_else (follows_alike i j) (crosses_alike i j)

  -- networks that are alike have the same skeleton
  pub skeleton_alike : skeleton M ≡ skeleton N
  unfolding skeleton
  skeleton_alike =
      keep_agree (in_skeleton M) (in_skeleton N) (pairs_of M.zones)
      (λ e m. let z = pairs_in M.zones m in in_skeleton_alike e z.0 z.1)
      ∙ ap (λ (zs : List ℕ). keep (in_skeleton N) (pairs_of zs)) A.zones_same

-- networks with the same zones and the same reach have the same skeleton, arc for arc
pub skeleton_agree : {M N : Network} → Proper M → Proper N → M.zones ≡ N.zones
    → ((a b : ℕ) → In a M.zones → In b M.zones → Reach M a b ↔ Reach N a b) → skeleton M ≡ skeleton N
skeleton_agree P Q z r = skeleton_alike (record { proper = P; proper_other = Q; zones_same = z; reach_same = r })

-- a skeleton and its network are alike
pub skeleton_of_alike : {N : Network} → Proper N → Alike (skeleton_of N) N
skeleton_of_alike P =
    record {
      proper = skeleton_proper P;
      proper_other = P;
      zones_same = refl;
      reach_same = λ a b i j. skeleton_reach P i j;
    }

-- a skeleton's own skeleton is itself
pub skeleton_skeleton : {N : Network} → Proper N → skeleton (skeleton_of N) ≡ skeleton N
skeleton_skeleton P = skeleton_alike (skeleton_of_alike P)

-- what one network reaches by its skeleton, a network with the same zones and the same skeleton reaches
skeleton_carries : {M N : Network} → Proper M → Proper N → M.zones ≡ N.zones → skeleton M ≡ skeleton N
    → {a b : ℕ} → In a M.zones → In b M.zones → Reach M a b → Reach N a b
skeleton_carries {M} {N} P Q z s {a} {b} i j r =
    let both : skeleton_of M ≡ skeleton_of N = λ k. record { zones = z k; arcs = s k } in
    (skeleton_reach Q (in_along z i) (in_along z j)).0
    (subst (λ (S : Network). Reach S a b) both ((skeleton_reach P i j).1 r))

-- networks with the same zones and the same skeleton have the same reach
pub skeleton_decides : {M N : Network} → Proper M → Proper N → M.zones ≡ N.zones → skeleton M ≡ skeleton N
    → (a b : ℕ) → In a M.zones → In b M.zones → Reach M a b ↔ Reach N a b
skeleton_decides P Q z s a b i j = (
  λ r. skeleton_carries P Q z s i j r,
  λ r. skeleton_carries Q P (sym z) (sym s) (in_along z i) (in_along z j) r,
)

-- networks with the same zones and the same skeleton are alike
pub same_skeleton_alike : {M N : Network} → Proper M → Proper N → M.zones ≡ N.zones → skeleton M ≡ skeleton N
    → Alike M N
same_skeleton_alike P Q z s =
    record { proper = P; proper_other = Q; zones_same = z; reach_same = skeleton_decides P Q z s }
