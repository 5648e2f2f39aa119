-- Between two components with nothing between there is an arc, so the skeleton rule's point 2 speaks of reach alone.
--   leaving         a run out of a component has an arc that leaves it
--   gap             if a reaches b, not together, and no third component lies between, then an arc joins the two
--   bridges         the test `crosses`, with "a reaches b" in place of "an arc joins them"
--   crosses_reach   the two tests are the same
-- The run's first arc that leaves a's component cannot land in a third one, so it lands in b's. Assumes nothing.
use Prim.Native.Nat.{ℕ}
use mathlib.Core.Path.{◌≡◌, sym}
use mathlib.Core.Logic.{◌⊎◌, inl, inr}
use mathlib.Core.List.{Memᴰ as In}
use mathlib.Core.Bool.{Bool, true, not, ◌&&◌}
use Rattle.rules.specs.Network.{Arc, ◌⟶◌, Network, Reach, same, step, Proper, reaches}
use Rattle.rules.specs.Components.{together, is_name}
use Rattle.rules.specs.Lists.{any}
use Rattle.rules.specs.Skeleton.{joined, between, crosses}
use Rattle.theory.proofs.Ground.Bools.{bool_cases, bool_agree, true_not_false, and_true, true_and}
use Rattle.theory.proofs.Reaching.Reach.{reach_arc, reach_trans, reaches_sound, reaches_complete}
use Rattle.theory.proofs.Reaching.Components.{
  Together,
  together_sound,
  together_complete,
  together_refl,
  together_sym,
  together_trans,
}
use Rattle.theory.proofs.Skeletons.SkeletonLaws.{Between, Joined, joined_true, true_joined, not_apart}
use Rattle.theory.proofs.Skeletons.SkeletonLaws.{clear_true}

-- two zones are together or not
pub together_cases : {N : Network} → Proper N → (a b : ℕ) → Together N a b ⊎ (Together N a b → ⊥)
together_cases {N} P a b =
    elim (bool_cases (together N a b)) [
      | inl e ↦ inl (together_sound N a b e)
      | inr e ↦ inr (λ t. true_not_false (together_complete P t) e)
    ]

-- an arc that leaves a's component on a way to b
abbrev pub Leaving : Network → ℕ → ℕ → Type 0
Leaving N a b =
    (e : Arc) × In e N.arcs × Together N e.tail a × (Together N e.head a → ⊥) × Reach N e.head b

-- a run from a's component to a zone outside has an arc that leaves the component
pub leaving : {N : Network} → Proper N → {a x b : ℕ}
    → Reach N x b → Together N x a → (Together N b a → ⊥) → Leaving N a b
leaving P (same e) t n = absurd (n (together_trans (same (sym e), same e) t))
leaving P {a} (step {a = x} {b = y} m r) t n =
    elim (together_cases P y a) [ inl s ↦ leaving P r s n | inr s ↦ (x ⟶ y, m, t, s, r) ]

-- between two components with nothing between there is an arc
pub gap : {N : Network} → Proper N → {a b : ℕ} → Reach N a b → (Together N a b → ⊥)
    → ((c : ℕ) → In c N.zones → Between N a b c → ⊥) → Joined N a b
gap {N} P {a} {b} r n clear =
    let l : Leaving N a b = leaving P r together_refl (λ s. n (together_sym s)) in
    let z = l.0.head in
    elim (together_cases P z b) [
      | inl t ↦ (l.0, l.1, l.2, t)
      | inr t ↦ absurd (clear z (P.heads l.1) (record {
        apart_start = λ s. l.3 (together_sym s);
        apart_end = t;
        from_start = reach_trans l.2.1 (reach_arc l.1);
        to_end = l.4;
      }))
    ]

-- the gap, for the test
pub gap_joined : {N : Network} → Proper N → {a b : ℕ} → Reach N a b → (Together N a b → ⊥)
    → ((c : ℕ) → In c N.zones → Between N a b c → ⊥) → joined N a b ≡ true
gap_joined P {a} {b} r n clear = true_joined P a b (gap P r n clear)

-- a joined pair of components is reached, one from the other
pub joined_reach : {N : Network} {a b : ℕ} → Joined N a b → Reach N a b
joined_reach j = reach_trans j.2.1 (reach_trans (reach_arc j.1) j.3.0)

-- point 2 with "a reaches b" in place of "some arc joins them"
abbrev pub bridges : Network → ℕ → ℕ → Bool
bridges N a b =
    (is_name N a && is_name N b)
    && ((not (together N a b) && reaches N a b) && not (any (between N a b) N.zones))

-- in the test of point 2, a part u may give way to a part v that follows from it and from the parts beside it
part_gives : (x y u v c : Bool) → (y ≡ true → c ≡ true → u ≡ true → v ≡ true)
    → (x && ((y && u) && c)) ≡ true → (x && ((y && v) && c)) ≡ true
part_gives x y u v c h e =
    let m = and_true x _ e in
    let r = and_true (y && u) c m.1 in
    let j = and_true y u r.0 in
    true_and m.0 (true_and (true_and j.0 (h j.0 r.1 j.1)) r.1)

-- point 2 says the same with "a reaches b" in place of "some arc joins them"
pub crosses_reach : {N : Network} → Proper N → (a b : ℕ) → crosses N a b ≡ bridges N a b
unfolding crosses
crosses_reach {N} P a b =
    let named : Bool = is_name N a && is_name N b in
    let apart : Bool = not (together N a b) in
    let clear : Bool = not (any (between N a b) N.zones) in
    bool_agree
    (part_gives named apart (joined N a b) (reaches N a b) clear
    (λ n c j. reaches_complete P (joined_reach (joined_true N a b j))))
    (part_gives named apart (reaches N a b) (joined N a b) clear
    (λ n c r. gap_joined P (reaches_sound N a b r) (not_apart P a b n) (clear_true P a b c)))
