-- The test of reach decides reach, and the test of a strong network decides that it is strong.
--   reach_arc, reach_trans            an arc is a reach, and reaches join
--   Run es ks a b                     a run of one arc or more leads from a to b with all its inner zones in ks
--   run_split                         a run with inner zones in k ∷ ks avoids k, or comes to k and goes on from it
--   via_sound, via_complete           `via` tells exactly whether there is such a run
--   reaches_sound, reaches_complete   `reaches` tells exactly whether a reaches b
--   strong_sound, strong_complete     `strong` tells exactly whether every zone reaches every zone
--   reach_zone        what a zone reaches is a zone
--   reach_arcs, reaches_arcs          reach, and its test, depend on the arcs alone
-- Both directions of `via` go by induction on the list of inner zones: a run over k ∷ ks splits at its visits to k,
-- and this by induction on the run. So no run has to be shortened, and nothing is counted. Assumes nothing.
use Prim.Native.Nat.{ℕ}
use mathlib.Core.Path.{◌≡◌, refl, sym}
use mathlib.Core.Logic.{◌⊎◌, inl, inr, ⊎_map}
use mathlib.Core.Bool.{true, ◌&&◌}
use mathlib.Core.List.Memᴰ
use mathlib.Core.List.{List, [], ◌∷◌, Memᴰ as In}
use lib.Dec.{eqb}
use borrow.Author.Tests.{eqb-true, eq-eqb}
use Rattle.rules.specs.Lists.{every}
use Rattle.rules.specs.Network.{Arc, ◌⟶◌, Network, Proper, Reach, same, step, Strong, has_arc, via, reaches, strong}
use Rattle.theory.proofs.Ground.Bools.{and_true, true_and, and_then, and_then_true, true_and_then}
use Rattle.theory.proofs.Ground.Bools.{or_else_true, true_or_else, bool_agree}
use Rattle.theory.proofs.Ground.Lists.{any_true, true_any, every_true, true_every}

-- an arc is a reach
pub reach_arc : {N : Network} {a b : ℕ} → In (a ⟶ b) N.arcs → Reach N a b
reach_arc m = step m (same refl)

-- a zone reaches itself
pub reach_refl : {N : Network} {a : ℕ} → Reach N a a
reach_refl = same refl

-- reaches join
pub reach_trans : {N : Network} {a b c : ℕ} → Reach N a b → Reach N b c → Reach N a c
reach_trans (same e) s = rw e s
reach_trans (step m r) s = step m (reach_trans r s)

-- an arc is given by its tail and its head
pub arc_is : {e : Arc} {a b : ℕ} → e.tail ≡ a → e.head ≡ b → (a ⟶ b) ≡ e
arc_is p q = λ i. record { tail = sym p i; head = sym q i }

-- where the test finds an arc, it is there
pub has_arc_sound : (es : List Arc) (a b : ℕ) → has_arc es a b ≡ true → In (a ⟶ b) es
unfolding has_arc
has_arc_sound es a b h =
    let r = any_true (λ (e : Arc). eqb e.tail a && eqb e.head b) es h in
    let t = and_true (eqb r.0.tail a) (eqb r.0.head b) r.2 in
    Memᴰ.cast (arc_is (eqb-true r.0.tail a t.0) (eqb-true r.0.head b t.1)) r.1

-- an arc that is there is found by the test
pub has_arc_complete : {es : List Arc} {a b : ℕ} → In (a ⟶ b) es → has_arc es a b ≡ true
unfolding has_arc
has_arc_complete {es} {a} {b} m =
    true_any (λ (e : Arc). eqb e.tail a && eqb e.head b) m (true_and (eq-eqb a a refl) (eq-eqb b b refl))

-- a run of one arc or more leads from a to b with all its inner zones in ks
pub data Run (es : List Arc) (ks : List ℕ) : ℕ → ℕ → Type 0 where
  one : {a b : ℕ} → In (a ⟶ b) es → Run es ks a b
  more : {a b c : ℕ} → In (a ⟶ b) es → In b ks → Run es ks b c → Run es ks a c

-- a run is a reach
run_reach : {N : Network} {ks : List ℕ} {a b : ℕ} → Run N.arcs ks a b → Reach N a b
run_reach (one m) = reach_arc m
run_reach (more m i r) = step m (run_reach r)

-- a reach in a proper network is no step at all, or a run through its zones
reach_run : {N : Network} → Proper N → {a b : ℕ} → Reach N a b → (a ≡ b) ⊎ Run N.arcs N.zones a b
reach_run P (same e) = inl e
reach_run P (step m r) =
    elim (reach_run P r) [ inl e ↦ inr (one (rw e at m)) | inr s ↦ inr (more m (P.heads m) s) ]

module _ {es : List Arc} where
  -- a run over ks is one over k ∷ ks
  run_widen : {k : ℕ} {ks : List ℕ} {a b : ℕ} → Run es ks a b → Run es (k ∷ ks) a b
  run_widen (one m) = one m
  run_widen (more m i r) = more m (In.tail i) (run_widen r)

  -- two runs join at a zone of the list
  run_join : {ks : List ℕ} {a b c : ℕ} → Run es ks a b → In b ks → Run es ks b c → Run es ks a c
  run_join (one m) i s = more m i s
  run_join (more m j r) i s = more m j (run_join r i s)

  -- a run whose inner zones are in k ∷ ks avoids k, or comes to k and goes on from it
  run_split : {k : ℕ} {ks : List ℕ} {a b : ℕ}
      → Run es (k ∷ ks) a b → Run es ks a b ⊎ (Run es ks a k × Run es ks k b)
  run_split (one m) = inl (one m)
  run_split (more m i r) =
      elim (Memᴰ.cases_cons i) [
        | inl e ↦ elim (run_split r) [
          | inl s ↦ inr (one (rw e at m), rw e at s)
          | inr st ↦ inr (one (rw e at m), st.1)
        ]
        | inr j ↦ elim (run_split r) [
          | inl s ↦ inl (more m j s)
          | inr st ↦ inr (more m j st.0, st.1)
        ]
      ]

-- where `via` says yes there is a run with its inner zones in the list
pub via_sound : (es : List Arc) (ks : List ℕ) (a b : ℕ) → via es ks a b ≡ true → Run es ks a b
unfolding via
via_sound es [] a b h = one (has_arc_sound es a b h)
via_sound es (k ∷ ks) a b h =
    elim (or_else_true (via es ks a b) (and_then (via es ks a k) (via es ks k b)) h) [
      | inl e ↦ run_widen (via_sound es ks a b e)
      | inr e ↦
          let t = and_then_true (via es ks a k) (via es ks k b) e in
          run_join
          (run_widen (via_sound es ks a k t.0))
          (In.head refl)
          (run_widen (via_sound es ks k b t.1))
    ]

-- where there is a run with its inner zones in the list `via` says yes
pub via_complete : (es : List Arc) (ks : List ℕ) (a b : ℕ) → Run es ks a b → via es ks a b ≡ true
unfolding via
via_complete es [] a b (one m) = has_arc_complete m
via_complete es [] a b (more m i r) = elim i [ ]
via_complete es (k ∷ ks) a b r =
    true_or_else
    (via es ks a b)
    (and_then (via es ks a k) (via es ks k b))
    (elim (run_split r) [
      | inl s ↦ inl (via_complete es ks a b s)
      | inr t ↦ inr (true_and_then (via_complete es ks a k t.0) (via_complete es ks k b t.1))
    ])

-- where the test says yes, a reaches b
pub reaches_sound : (N : Network) (a b : ℕ) → reaches N a b ≡ true → Reach N a b
unfolding reaches
reaches_sound N a b h =
    elim (or_else_true (eqb a b) (via N.arcs N.zones a b) h) [
      | inl e ↦ same (eqb-true a b e)
      | inr e ↦ run_reach (via_sound N.arcs N.zones a b e)
    ]

-- where a reaches b, the test says yes
pub reaches_complete : {N : Network} → Proper N → {a b : ℕ} → Reach N a b → reaches N a b ≡ true
unfolding reaches
reaches_complete {N} P {a} {b} r =
    true_or_else
    (eqb a b)
    (via N.arcs N.zones a b)
    (⊎_map (eq-eqb a b) (via_complete N.arcs N.zones a b) (reach_run P r))

-- where the test says yes, every zone reaches every zone
pub strong_sound : (N : Network) → strong N ≡ true → Strong N
unfolding strong
strong_sound N h a b i j =
    reaches_sound N a b (every_true (reaches N a) (every_true (λ c. every (reaches N c) N.zones) h i) j)

-- where every zone reaches every zone, the test says yes
pub strong_complete : {N : Network} → Proper N → Strong N → strong N ≡ true
unfolding strong
strong_complete {N} P S =
    true_every
    (λ c. every (reaches N c) N.zones)
    N.zones
    (λ a i. true_every (reaches N a) N.zones (λ b j. reaches_complete P (S a b i j)))

-- what a zone reaches is a zone
pub reach_zone : {N : Network} → Proper N → {a b : ℕ} → In a N.zones → Reach N a b → In b N.zones
reach_zone P i (same e) = Memᴰ.cast (sym e) i
reach_zone P i (step m r) = reach_zone P (P.heads m) r

-- networks with the same arcs reach the same
pub reach_arcs : {M N : Network} → M.arcs ≡ N.arcs → {a b : ℕ} → Reach M a b → Reach N a b
reach_arcs e (same d) = same d
reach_arcs e (step m r) = step (rw e at m) (reach_arcs e r)

-- and so do their tests
pub reaches_arcs : {M N : Network} → Proper M → Proper N → M.arcs ≡ N.arcs
    → (a b : ℕ) → reaches M a b ≡ reaches N a b
reaches_arcs {M} {N} P Q e a b =
    bool_agree
    (λ h. reaches_complete Q (reach_arcs e (reaches_sound M a b h)))
    (λ h. reaches_complete P (reach_arcs (sym e) (reaches_sound N a b h)))
