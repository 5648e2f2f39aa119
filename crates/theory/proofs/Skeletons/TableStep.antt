-- The table of who reaches whom among components, one step of it: from the rows of the heads to the row of a component,
-- and which of its arcs stay.
--   Names N a          a names a component
--   beyond N a b       a reaches b, and they are two: what the table is to say of two names
--   by_two T ks b      U: b is in the table at one of the heads ks
--   by_one T ks b      R: b is one of the heads, or in the table at one of them
--   Heads N top j l ks   ks stand for the heads of the component that j stands for
--   first_head         a name that reaches another has a head that reaches it
--   step_one           R of a component is right where R of its heads is
--   step_two           U of a component says that a head of it, not b itself, reaches b
--   step_crosses       an arc between two components stays exactly where its head is not in U
-- A table is a test of two numbers, so that bits in memory are one as well. A run out of a component goes to a head
-- first. That no component reaches itself again by a head is `direct_apart`, so the step needs no order: only that the
-- rows of the heads are right. Assumes nothing.
use Prim.Native.Nat.{ℕ}
use mathlib.Core.Path.{◌≡◌, sym, ap, ◌∙◌}
use mathlib.Core.Logic.{inl, inr}
use mathlib.Core.List.{List, Memᴰ as In}
use mathlib.Core.Bool.{Bool, true, not, ◌&&◌, ◌||◌}
use native.Mathlib.Decide.{ℕ_discrete}
use lib.Dec.{eqb}
use borrow.Author.Tests.{eqb-true, eq-eqb, ne_eqb}
use Rattle.rules.specs.Lists.{any}
use Rattle.rules.specs.Network.{Network, Proper, Reach, same, reaches}
use Rattle.rules.specs.Components.{name}
use Rattle.rules.specs.Skeleton.{crosses}
use Rattle.theory.proofs.Ground.Bools.{bool_agree, and_true, true_and, true_not_false, false_not}
use Rattle.theory.proofs.Ground.Bools.{false_unless, or_true, true_or, not_true}
use Rattle.theory.proofs.Ground.Lists.{any_true, true_any}
use Rattle.theory.proofs.Reaching.Reach.{reach_trans, reaches_sound, reaches_complete}
use Rattle.theory.proofs.Reaching.Components.{together_refl, together_sym}
use Rattle.theory.proofs.Skeletons.SkeletonLaws.{crosses_true, true_crosses}
use Rattle.theory.proofs.Skeletons.Gap.{leaving, joined_reach}
use Rattle.theory.proofs.Skeletons.SkeletonOrder.{Direct, names_equal, direct_apart, first_direct}
use Rattle.theory.proofs.Skeletons.SkeletonOrder.{direct_crosses, crosses_direct, crosses_alone}

-- a names a component
abbrev pub Names : Network → ℕ → Type 0
Names N a = In a N.zones × (name N a ≡ a)

-- a reaches b, and they are two
unfoldable pub beyond : Network → ℕ → ℕ → Bool
unfolding reaches
beyond N a b = not (eqb a b) && reaches N a b

-- U: one of the heads ks reaches b by one arc or more between components
abbrev pub by_two : (ℕ → ℕ → Bool) → List ℕ → ℕ → Bool
by_two T ks b = any (λ k. T k b) ks

-- R: b is one of the heads ks, or one of them reaches it
abbrev pub by_one : (ℕ → ℕ → Bool) → List ℕ → ℕ → Bool
by_one T ks b = any (λ k. eqb k b || T k b) ks

-- what `beyond` says
pub beyond_true : (N : Network) (a b : ℕ) → beyond N a b ≡ true → (a ≡ b → ⊥) × Reach N a b
unfolding beyond
beyond_true N a b h =
    let t = and_true (not (eqb a b)) (reaches N a b) h in
    (λ e. true_not_false (eq-eqb a b e) (not_true (eqb a b) t.0), reaches_sound N a b t.1)

-- where a reaches b, and they are two, `beyond` says so
pub true_beyond : {N : Network} → Proper N → {a b : ℕ} → (a ≡ b → ⊥) → Reach N a b → beyond N a b ≡ true
unfolding beyond
true_beyond P {a} {b} n r = true_and (false_not (ne_eqb a b n)) (reaches_complete P r)

-- a name that reaches another has a head that reaches it
pub first_head : {N : Network} → Proper N → {a b : ℕ} → Names N a → Names N b → (a ≡ b → ⊥) → Reach N a b
    → (d : ℕ) × Direct N a d × Reach N d b
first_head P i j n r =
    first_direct P
    (leaving P r together_refl (λ t. n (names_equal P i.0 j.0 i.1 j.1 (together_sym t))))

-- numbers stand for components by `top`; ks are those of the heads of j, and the table T is right at each of them
pub record Heads (N : Network) (top : ℕ → ℕ) (j l : ℕ) (ks : List ℕ) : Type 0 where
  pub start : Names N (top j)
  pub end : Names N (top l)
  pub sound : (k : ℕ) → In k ks → Direct N (top j) (top k)
  pub complete : (d : ℕ) → Direct N (top j) d → (k : ℕ) × In k ks × (top k ≡ d)
  pub once : (k : ℕ) → In k ks → top k ≡ top l → k ≡ l

module _ {N : Network} (P : Proper N) {top : ℕ → ℕ} {j l : ℕ} {ks : List ℕ} (H : Heads N top j l ks)
    (T : ℕ → ℕ → Bool) (right : (k : ℕ) → In k ks → T k l ≡ beyond N (top k) (top l)) where
  -- a way by a head does not come back
  away : (k : ℕ) → In k ks → Reach N (top k) (top l) → beyond N (top j) (top l) ≡ true
  away k m r =
      let D = H.sound k m in
      true_beyond P
      (λ e. direct_apart P H.start.1 D (joined_reach D.arc, reach_trans r (same (sym e))))
      (reach_trans (joined_reach D.arc) r)

  -- R of a component is right where R of its heads is
  pub step_one : by_one T ks l ≡ beyond N (top j) (top l)
  step_one = bool_agree there back
    where
      there : by_one T ks l ≡ true → beyond N (top j) (top l) ≡ true
      there h =
          let f = any_true (λ k. eqb k l || T k l) ks h in
          elim (or_true (eqb f.0 l) (T f.0 l) f.2) [
            | inl e ↦ away f.0 f.1 (same (ap top (eqb-true f.0 l e)))
            | inr e ↦ away f.0 f.1 (beyond_true N (top f.0) (top l) (sym (right f.0 f.1) ∙ e)).1
          ]

      back : beyond N (top j) (top l) ≡ true → by_one T ks l ≡ true
      back h =
          let b = beyond_true N (top j) (top l) h in
          let f = first_head P H.start H.end b.0 b.1 in
          let k = H.complete f.0 f.1 in
          let r : Reach N (top k.0) (top l) = rw k.2 f.2 in
          true_any (λ x. eqb x l || T x l) k.1
          (true_or (eqb k.0 l) (T k.0 l)
          (elim (ℕ_discrete (top k.0) (top l)) [
            | yes e ↦ inl (eq-eqb k.0 l (H.once k.0 k.1 e))
            | no n ↦ inr (right k.0 k.1 ∙ true_beyond P n r)
          ]))

  -- U says that some head, not b itself, reaches b
  pub step_two : by_two T ks l ≡ true → (d : ℕ) × Direct N (top j) d × (d ≡ top l → ⊥) × Reach N d (top l)
  step_two h =
      let f = any_true (λ k. T k l) ks h in
      let b = beyond_true N (top f.0) (top l) (sym (right f.0 f.1) ∙ f.2) in
      (top f.0, H.sound f.0 f.1, b.0, b.1)

  -- and says so wherever it is so
  pub two_step : (d : ℕ) → Direct N (top j) d → (d ≡ top l → ⊥) → Reach N d (top l) → by_two T ks l ≡ true
  two_step d D n r =
      let k = H.complete d D in
      true_any (λ x. T x l) k.1
      (right k.0 k.1 ∙ true_beyond P (λ e. n (sym k.2 ∙ e)) (rw k.2 r))

  -- an arc between two components stays exactly where its head is not in U
  pub step_crosses : crosses N (top j) (top l) ≡ (any (λ k. eqb k l) ks && not (by_two T ks l))
  step_crosses = bool_agree there back
    where
      there : crosses N (top j) (top l) ≡ true → (any (λ k. eqb k l) ks && not (by_two T ks l)) ≡ true
      there h =
          let C = crosses_true P (top j) (top l) h in
          let k = H.complete (top l) (crosses_direct C) in
          true_and
          (true_any (λ x. eqb x l) k.1 (eq-eqb k.0 l (H.once k.0 k.1 k.2)))
          (false_not (false_unless (by_two T ks l) (λ u.
          let s = step_two u in
          crosses_alone P C s.0 s.1 s.2 s.3)))

      back : (any (λ k. eqb k l) ks && not (by_two T ks l)) ≡ true → crosses N (top j) (top l) ≡ true
      back h =
          let t = and_true (any (λ k. eqb k l) ks) (not (by_two T ks l)) h in
          let f = any_true (λ k. eqb k l) ks t.0 in
          let D : Direct N (top j) (top l) = rw (eqb-true f.0 l f.2) at (H.sound f.0 f.1) in
          true_crosses P (top j) (top l)
          (direct_crosses P H.start.1 D
          (λ d E n r. true_not_false (two_step d E n r) (not_true (by_two T ks l) t.1)))
