-- What the tests of the kinds say.
--   Out N c, Into N c   some arc goes out of c's component; some arc comes into it
--   left_true, true_left, left_false, false_left              `exited` tells exactly whether `Out` holds; `entered`
--   entered_true, true_entered, entered_false, false_entered  tells it of `Into`
--   left_closed         what a component with no arc out reaches lies in it
--   entered_closed      what reaches a component with no arc in lies in it
--   kinds_agree         zones of one component are left and entered alike
--   source_is, is_source, and so for sinks and alone   what is in the lists of the kinds
--   sources_ascending, sources_distinct, and so for sinks and alone   they ascend, so none is listed twice
-- `Out` and `Into` differ in which end of the arc lies inside, so both are shown once, for the two ends as parameters.
-- Assumes nothing.
use Prim.Native.Nat.{ℕ}
use mathlib.Core.Path.{◌≡◌, ◌∙◌}
use mathlib.Core.Logic.{◌⊎◌, inl, inr}
use mathlib.Core.Bool.{Bool, true, false, not, ◌&&◌}
use mathlib.Core.List.{Memᴰ as In}
use borrow.Author.Tests.{not-true}
use Rattle.rules.specs.Lists.{any}
use Rattle.rules.specs.Network.{Arc, ◌⟶◌, Network, Proper, Reach, same, step, Ascending}
use Rattle.rules.specs.Components.{together, names, exited, entered, sources, sinks, alone}
use Rattle.theory.proofs.Ground.Bools.{bool_cases, bool_agree, and_true, true_and, true_not_false, true_unless}
use Rattle.theory.proofs.Ground.Bools.{false_unless, false_not}
use Rattle.theory.proofs.Ground.Lists.{any_true, true_any, keep_in, in_keep}
use Rattle.theory.proofs.Reaching.Components.{Together, together_sound, together_complete}
use Rattle.theory.proofs.Reaching.Components.{together_refl, together_sym}
use Rattle.theory.proofs.Reaching.Components.{together_trans, names_ascending}
use Rattle.theory.proofs.Ground.Counting.{Distinct, ascending_distinct}
use Rattle.theory.proofs.Ground.Ascending.{keep_ascending}
use Rattle.theory.proofs.Reaching.Turned.{turned_proper, turned_left, turned_one, reach_turned}

-- some arc has the end f in c's component and the end g outside of it
abbrev pub Cross : Network → (Arc → ℕ) → (Arc → ℕ) → ℕ → Type 0
Cross N f g c = (e : Arc) × In e N.arcs × Together N (f e) c × (Together N (g e) c → ⊥)

-- some arc goes out of c's component
abbrev pub Out : Network → ℕ → Type 0
Out N c = Cross N (λ e. e.tail) (λ e. e.head) c

-- some arc comes into c's component
abbrev pub Into : Network → ℕ → Type 0
Into N c = Cross N (λ e. e.head) (λ e. e.tail) c

-- the test of `Cross`
abbrev crossing : Network → (Arc → ℕ) → (Arc → ℕ) → ℕ → Arc → Bool
crossing N f g c e = together N (f e) c && not (together N (g e) c)

module _ {N : Network} (P : Proper N) (f g : Arc → ℕ) where
  -- where the test says yes, here is the arc
  cross_true : (c : ℕ) → any (crossing N f g c) N.arcs ≡ true → Cross N f g c
  cross_true c h =
      let r = any_true (crossing N f g c) N.arcs h in
      let t = and_true (together N (f r.0) c) (not (together N (g r.0) c)) r.2 in
      let n = not-true (together N (g r.0) c) t.1 in
      (r.0, r.1, together_sound N (f r.0) c t.0, λ u. true_not_false (together_complete P u) n)

  -- where there is such an arc, the test says yes
  true_cross : {c : ℕ} → Cross N f g c → any (crossing N f g c) N.arcs ≡ true
  true_cross {c} r =
      let n = false_unless (together N (g r.0) c) (λ h. r.3 (together_sound N (g r.0) c h)) in
      true_any (crossing N f g c) r.1 (true_and (together_complete P r.2) (false_not n))

  -- zones of one component are crossed alike
  cross_agree : {c d : ℕ} → Together N c d → any (crossing N f g c) N.arcs ≡ any (crossing N f g d) N.arcs
  cross_agree {c} {d} t =
      bool_agree
      (λ h. true_cross (move t (cross_true c h)))
      (λ h. true_cross (move (together_sym t) (cross_true d h)))
    where
      move : {x y : ℕ} → Together N x y → Cross N f g x → Cross N f g y
      move u r = (r.0, r.1, together_trans r.2 u, λ w. r.3 (together_trans w (together_sym u)))

module _ {N : Network} (P : Proper N) where
  -- where `exited` says yes, some arc goes out
  pub left_true : (c : ℕ) → exited N c ≡ true → Out N c
  unfolding exited
  left_true c h = cross_true P (λ e. e.tail) (λ e. e.head) c h

  -- where some arc goes out, `exited` says yes
  pub true_left : {c : ℕ} → Out N c → exited N c ≡ true
  unfolding exited
  true_left r = true_cross P (λ e. e.tail) (λ e. e.head) r

  -- where `exited` says no, no arc goes out
  pub left_false : (c : ℕ) → exited N c ≡ false → Out N c → ⊥
  left_false c h r = true_not_false (true_left r) h

  -- where no arc goes out, `exited` says no
  pub false_left : (c : ℕ) → (Out N c → ⊥) → exited N c ≡ false
  false_left c n = false_unless (exited N c) (λ h. n (left_true c h))

  -- where `entered` says yes, some arc comes in
  pub entered_true : (c : ℕ) → entered N c ≡ true → Into N c
  unfolding entered
  entered_true c h = cross_true P (λ e. e.head) (λ e. e.tail) c h

  -- where some arc comes in, `entered` says yes
  pub true_entered : {c : ℕ} → Into N c → entered N c ≡ true
  unfolding entered
  true_entered r = true_cross P (λ e. e.head) (λ e. e.tail) r

  -- where `entered` says no, no arc comes in
  pub entered_false : (c : ℕ) → entered N c ≡ false → Into N c → ⊥
  entered_false c h r = true_not_false (true_entered r) h

  -- where no arc comes in, `entered` says no
  pub false_entered : (c : ℕ) → (Into N c → ⊥) → entered N c ≡ false
  false_entered c n = false_unless (entered N c) (λ h. n (entered_true c h))

  -- zones of one component are left and entered alike
  pub kinds_agree : {c d : ℕ} → Together N c d → (exited N c ≡ exited N d) × (entered N c ≡ entered N d)
  unfolding exited entered
  kinds_agree t =
      (cross_agree P (λ e. e.tail) (λ e. e.head) t, cross_agree P (λ e. e.head) (λ e. e.tail) t)

  -- an arc from a component with no arc out stays in it
  left_stays : {c a b : ℕ} → exited N c ≡ false → In (a ⟶ b) N.arcs → Together N a c → Together N b c
  left_stays {c} {a} {b} h m t =
      together_sound N b c
      (true_unless (together N b c) (λ e. left_false c h (a ⟶ b, m, t, λ u. true_not_false (together_complete P u) e)))

  -- what is reached from a zone of a component with no arc out lies in it
  left_keeps : {c a b : ℕ} → exited N c ≡ false → Together N a c → Reach N a b → Together N b c
  left_keeps {c} h t (same e) = rw e at t
  left_keeps {c} h t (step m r) = left_keeps h (left_stays h m t) r

  -- what a component with no arc out reaches lies in it
  pub left_closed : {c d : ℕ} → exited N c ≡ false → Reach N c d → Together N c d
  left_closed h r = together_sym (left_keeps h together_refl r)

-- what reaches a component with no arc in lies in it
pub entered_closed : {N : Network} → Proper N → {c d : ℕ} → entered N c ≡ false → Reach N d c → Together N c d
entered_closed P {c} h r = turned_one (left_closed (turned_proper P) (turned_left P c ∙ h) (reach_turned r))

module _ (N : Network) where
  -- a source is a name with arcs out and none in
  pub source_is : {c : ℕ} → In c (sources N) → In c (names N) × (exited N c ≡ true) × (entered N c ≡ false)
  unfolding sources
  source_is {c} m =
      let r = keep_in (λ d. exited N d && not (entered N d)) (names N) m in
      let t = and_true (exited N c) (not (entered N c)) r.1 in
      (r.0, t.0, not-true (entered N c) t.1)

  -- a name with arcs out and none in is a source
  pub is_source : {c : ℕ} → In c (names N) → exited N c ≡ true → entered N c ≡ false → In c (sources N)
  unfolding sources
  is_source m l e = in_keep (λ d. exited N d && not (entered N d)) m (true_and l (false_not e))

  -- a sink is a name with arcs in and none out
  pub sink_is : {c : ℕ} → In c (sinks N) → In c (names N) × (entered N c ≡ true) × (exited N c ≡ false)
  unfolding sinks
  sink_is {c} m =
      let r = keep_in (λ d. entered N d && not (exited N d)) (names N) m in
      let t = and_true (entered N c) (not (exited N c)) r.1 in
      (r.0, t.0, not-true (exited N c) t.1)

  -- a name with arcs in and none out is a sink
  pub is_sink : {c : ℕ} → In c (names N) → entered N c ≡ true → exited N c ≡ false → In c (sinks N)
  unfolding sinks
  is_sink m e l = in_keep (λ d. entered N d && not (exited N d)) m (true_and e (false_not l))

  -- a component alone is a name with arcs neither in nor out
  pub alone_is : {c : ℕ} → In c (alone N) → In c (names N) × (entered N c ≡ false) × (exited N c ≡ false)
  unfolding alone
  alone_is {c} m =
      let r = keep_in (λ d. not (entered N d) && not (exited N d)) (names N) m in
      let t = and_true (not (entered N c)) (not (exited N c)) r.1 in
      (r.0, not-true (entered N c) t.0, not-true (exited N c) t.1)

  -- a name with arcs neither in nor out is a component alone
  pub is_alone : {c : ℕ} → In c (names N) → entered N c ≡ false → exited N c ≡ false → In c (alone N)
  unfolding alone
  is_alone m e l = in_keep (λ d. not (entered N d) && not (exited N d)) m (true_and (false_not e) (false_not l))

  -- a component with no arc out is a sink or alone
  pub end_kind : {c : ℕ} → In c (names N) → exited N c ≡ false → In c (sinks N) ⊎ In c (alone N)
  end_kind {c} m l = elim (bool_cases (entered N c)) [ inl e ↦ inl (is_sink m e l) | inr e ↦ inr (is_alone m e l) ]

  -- a component with no arc in is a source or alone
  pub start_kind : {c : ℕ} → In c (names N) → entered N c ≡ false → In c (sources N) ⊎ In c (alone N)
  start_kind {c} m e = elim (bool_cases (exited N c)) [ inl l ↦ inl (is_source m l e) | inr l ↦ inr (is_alone m e l) ]

  -- no component is both a source and a sink
  pub source_not_sink : {c : ℕ} → In c (sources N) → In c (sinks N) → ⊥
  source_not_sink m n = true_not_false (source_is m).1 (sink_is n).2

  -- no component is both a source and alone
  pub source_not_alone : {c : ℕ} → In c (sources N) → In c (alone N) → ⊥
  source_not_alone m n = true_not_false (source_is m).1 (alone_is n).2

  -- no component is both a sink and alone
  pub sink_not_alone : {c : ℕ} → In c (sinks N) → In c (alone N) → ⊥
  sink_not_alone m n = true_not_false (sink_is m).1 (alone_is n).1

module _ {N : Network} (P : Proper N) where
  -- the sources ascend
  pub sources_ascending : Ascending (sources N)
  unfolding sources
  sources_ascending = keep_ascending (λ c. exited N c && not (entered N c)) (names N) (names_ascending P)

  -- the sinks ascend
  pub sinks_ascending : Ascending (sinks N)
  unfolding sinks
  sinks_ascending = keep_ascending (λ c. entered N c && not (exited N c)) (names N) (names_ascending P)

  -- the components alone ascend
  pub alone_ascending : Ascending (alone N)
  unfolding alone
  alone_ascending = keep_ascending (λ c. not (entered N c) && not (exited N c)) (names N) (names_ascending P)

  -- no source is listed twice
  pub sources_distinct : Distinct (sources N)
  sources_distinct = ascending_distinct (sources N) sources_ascending

  -- no sink is listed twice
  pub sinks_distinct : Distinct (sinks N)
  sinks_distinct = ascending_distinct (sinks N) sinks_ascending

  -- no component alone is listed twice
  pub alone_distinct : Distinct (alone N)
  alone_distinct = ascending_distinct (alone N) alone_ascending
