-- No smaller set: a network that is not strong needs max(s, t) + q links, whatever they are and wherever they lie.
--   added N es    the network N with the arcs es more
--   run_enters      a run from outside a set of zones into it has an arc that enters the set
--   new_arc       each component that no arc enters needs a new arc into it
--   fewest        the arcs that make a network strong are no fewer than max(s, t) + q
--   need_fewest   nor than the number that the plan's answer carries
-- A source or a component alone has no arc in, and there is a zone outside it, which reaches it once the network is
-- strong; so one of the new arcs enters it. An arc enters one component only, so the new arcs are no fewer than s + q.
-- Turned round, the same says that they are no fewer than t + q. Assumes nothing.
use Prim.Native.Nat.{ℕ, ◌+◌, ◌≤◌, max}
use mathlib.Core.Path.{◌≡◌, ap, subst, ◌∙◌}
use mathlib.Core.Bool.{Bool, true, false}
use mathlib.Core.Logic.{◌⊎◌, inl, inr}
use mathlib.Core.List.Memᴰ
use mathlib.Core.List.{List, ◌++◌, map, map-append, Memᴰ as In}
use native.Mathlib.Omega.{arith}
use lib.ListN.{length, length-append, length-map}
use Rattle.rules.specs.Lists.{every}
use Rattle.rules.specs.Network.{Arc, ◌⟶◌, Network, added, Proper, Reach, same, step, Strong, strong}
use Rattle.rules.specs.Components.{together, name, names, entered, sources, sinks, alone}
use Rattle.rules.specs.Plan.{turned, plan_need}
use Rattle.theory.proofs.Ground.Bools.{bool_cases, true_not_false}
use Rattle.theory.proofs.Ground.Lists.{every_true, every_false}
use Rattle.theory.proofs.Ground.Counting.{Distinct, answers_count, distinct_append}
use Rattle.theory.proofs.Reaching.Reach.{reach_trans, reach_zone, strong_complete}
use Rattle.theory.proofs.Reaching.Components.{
  together_sound,
  together_complete,
  together_refl,
  name_agree,
  names_zone,
}
use Rattle.theory.proofs.Reaching.KindLaws.{
  entered_false,
  source_is,
  alone_is,
  source_not_alone,
  sources_distinct,
  alone_distinct,
}
use Rattle.theory.proofs.Reaching.Turned.{
  turned_proper,
  reach_turned,
  turned_sources,
  turned_alone,
  turned_strong,
}

-- a run from outside a set of zones into it has an arc that enters the set
pub run_enters : {M : Network} (p : ℕ → Bool) {a b : ℕ} → Reach M a b → p a ≡ false → p b ≡ true
    → (e : Arc) × In e M.arcs × (p e.tail ≡ false) × (p e.head ≡ true)
run_enters p (same e) out inside = absurd (true_not_false (ap p e ∙ inside) out)
run_enters p (step {a = a} {b = b} m r) out inside =
    elim (bool_cases (p b)) [ inl h ↦ (a ⟶ b, m, out, h) | inr h ↦ run_enters p r h inside ]

-- in a network that is not strong no component is all there is
pub other_zone : {N : Network} → Proper N → strong N ≡ false → (c : ℕ)
    → (z : ℕ) × In z N.zones × (together N z c ≡ false)
other_zone {N} P weak c =
    elim (bool_cases (every with_c N.zones)) [
      | inl all ↦ absurd (true_not_false (strong_complete P (round all)) weak)
      | inr some_not ↦ every_false with_c N.zones some_not
    ]
  where
    with_c : ℕ → Bool
    with_c z = together N z c

    round : every with_c N.zones ≡ true → Strong N
    round all a b i j =
        let to = together_sound N a c (every_true with_c all i) in
        let back = together_sound N b c (every_true with_c all j) in
        reach_trans to.0 back.1

module _ {N : Network} (P : Proper N) (weak : strong N ≡ false) (es : List Arc) (S : Strong (added N es)) where
  -- each component that no arc enters needs a new arc into it
  pub new_arc : {c : ℕ} → In c (names N) → entered N c ≡ false → (e : Arc) × In e es × (name N e.head ≡ c)
  new_arc {c} i shut = found entering.0 entering.2 entering.3 (Memᴰ.append_cases N.arcs entering.1)
    where
      with_c : ℕ → Bool
      with_c z = together N z c

      zone : In c N.zones
      zone = (names_zone N i).0

      z : (z : ℕ) × In z N.zones × (together N z c ≡ false)
      z = other_zone P weak c

      entering : (e : Arc) × In e (N.arcs ++ es) × (with_c e.tail ≡ false) × (with_c e.head ≡ true)
      entering = run_enters with_c (S z.0 c z.1 zone) z.2 (together_complete P together_refl)

      found : (e : Arc) → together N e.tail c ≡ false → together N e.head c ≡ true
          → In e N.arcs ⊎ In e es → (e : Arc) × In e es × (name N e.head ≡ c)
      found e out inside (inl m) =
          absurd (entered_false P c shut
          (e, m, together_sound N e.head c inside, λ t. true_not_false (together_complete P t) out))
      found e out inside (inr m) =
          let t = together_sound N e.head c inside in
          (e, m, name_agree P (reach_zone P zone t.1) zone t ∙ (names_zone N i).1)

-- the components that no arc enters: the sources and those alone
abbrev pub shut_names : Network → List ℕ
shut_names N = sources N ++ alone N

-- each component that no arc enters is listed once
shut_distinct : {N : Network} → Proper N → Distinct (shut_names N)
shut_distinct {N} P =
    distinct_append (sources N) (alone N) (sources_distinct P) (alone_distinct P) (λ c i j. source_not_alone N i j)

-- no arc enters the components that are listed so
shut_kind : (N : Network) {c : ℕ} → In c (shut_names N) → In c (names N) × (entered N c ≡ false)
shut_kind N m =
    elim (Memᴰ.append_cases (sources N) m) [
      | inl i ↦ let k = source_is N i in (k.0, k.2)
      | inr i ↦ let k = alone_is N i in (k.0, k.1)
    ]

-- the arcs that make a network strong are no fewer than s + q
pub fewest_in : {N : Network} → Proper N → strong N ≡ false → (es : List Arc) → Strong (added N es)
    → length (sources N) + length (alone N) ≤ length es
fewest_in {N} P weak es S =
    rw (← length-append (sources N) (alone N))
    (answers_count (λ (e : Arc). name N e.head) (shut_names N) es (shut_distinct P)
    (λ c m. let k = shut_kind N m in new_arc P weak es S k.0 k.1))

-- an arc turned round
abbrev flipped : Arc → Arc
flipped e = e.head ⟶ e.tail

-- turning round a network with more arcs turns round both
added_turned : (N : Network) (es : List Arc) → turned (added N es) ≡ added (turned N) (map flipped es)
unfolding turned
added_turned N es = λ i. record { zones = N.zones; arcs = map-append flipped N.arcs es i }

-- a strong network is strong turned round
strong_turned : {N : Network} → Strong N → Strong (turned N)
unfolding turned
strong_turned S a b i j = reach_turned (S b a j i)

-- the arcs that make a network strong are no fewer than t + q
pub fewest_out : {N : Network} → Proper N → strong N ≡ false → (es : List Arc) → Strong (added N es)
    → length (sinks N) + length (alone N) ≤ length es
fewest_out {N} P weak es S =
    rw (← turned_sources P, ← turned_alone P, ← length-map es flipped)
    (fewest_in (turned_proper P) (turned_strong P ∙ weak) (map flipped es)
    (subst Strong (added_turned N es) (strong_turned S)))

-- no smaller set: the arcs that make a network strong that is not are no fewer than max(s, t) + q
pub fewest : {N : Network} → Proper N → strong N ≡ false → (es : List Arc) → Strong (added N es)
    → max (length (sources N)) (length (sinks N)) + length (alone N) ≤ length es
fewest P weak es S = omega (arith, fewest_in P weak es S, fewest_out P weak es S)

-- a strong network needs no link
pub strong_needs_none : (N : Network) → strong N ≡ true → plan_need N ≡ 0
unfolding plan_need
strong_needs_none N e = rw (e, plan_need)

-- a network that is not strong needs max(s, t) + q links
pub weak_need : (N : Network) → strong N ≡ false
    → plan_need N ≡ max (length (sources N)) (length (sinks N)) + length (alone N)
unfolding plan_need
weak_need N weak = rw (weak, plan_need)

-- no smaller set: the arcs that make a network strong are no fewer than the number that the plan's answer carries
pub need_fewest : {N : Network} → Proper N → (es : List Arc) → Strong (added N es) → plan_need N ≤ length es
need_fewest {N} P es S =
    elim (bool_cases (strong N)) [
      | inl e ↦ rw (strong_needs_none N e) (omega arith)
      | inr weak ↦ rw (weak_need N weak) (fewest P weak es S)
    ]
