-- How many components there are of each kind. With s sources, t sinks and q components alone:
--   source_to_sink, sink_from_source   every source reaches a sink, and every sink is reached from a source
--   sources_none_sinks_none            s = 0 exactly when t = 0
--   strong_kinds                       a strong network has s = t = 0 and q = 1
--   weak_kinds                         a network that is not strong has s ≥ 1 or q ≥ 2
-- A source has an arc out. The way down from there ends in a component with no arc out; had it no arc in either, the
-- source would lie in it. The sinks are the sources of the turned network. Where there is no source there is no sink,
-- so every way down ends in a component alone, and two zones whose ways end in the same one lie in it.
-- Assumes nothing.
use Prim.Native.Nat.{ℕ, ◌≤◌}
use mathlib.Core.Path.{◌≡◌, refl, ap}
use mathlib.Core.Logic.{◌⊎◌, inl, inr, ◌↔◌}
use mathlib.Core.Bool.{false}
use mathlib.Core.List.Memᴰ
use mathlib.Core.List.{List, [], ◌∷◌, Memᴰ as In}
use native.Mathlib.Omega.{arith}
use lib.ListN.{length}
use Rattle.rules.specs.Lists.{every}
use Rattle.rules.specs.Network.{Network, Proper, Reach, Strong, reaches, strong}
use Rattle.rules.specs.Components.{name, exited, entered, sources, sinks, alone}
use Rattle.theory.proofs.Ground.Bools.{true_not_false, true_unless}
use Rattle.theory.proofs.Ground.Lists.{every_false}
use Rattle.theory.proofs.Ground.Few.{none_in, length_none, only_in, two_in}
use Rattle.theory.proofs.Reaching.Reach.{reach_arc, reach_trans, reaches_complete}
use Rattle.theory.proofs.Reaching.Components.{Together, together_sym, together_trans, name_in, name_is_name}
use Rattle.theory.proofs.Reaching.Components.{names_zone, names_apart}
use Rattle.theory.proofs.Reaching.Turned.{turned_proper, turned_sources, turned_sinks, turned_reach}
use Rattle.theory.proofs.Reaching.KindLaws.{Out, left_true, false_left, false_entered, entered_closed}
use Rattle.theory.proofs.Reaching.KindLaws.{source_is, is_sink, alone_is, is_alone, end_kind, alone_distinct}
use Rattle.theory.proofs.Reaching.Down.{Below, down}

module _ {N : Network} (P : Proper N) where
  -- the way down from the head of an arc out of a component ends in a sink
  out_sink : {v : ℕ} → (r : Out N v) → Below N r.0.head → (w : ℕ) × In w (sinks N) × Reach N v w
  out_sink {v} r d = (d.0, is_sink N d.1 (true_unless (entered N d.0) apart) d.2, down_to)
    where
      down_to : Reach N v d.0
      down_to = reach_trans r.2.1 (reach_trans (reach_arc r.1) d.3)

      apart : entered N d.0 ≡ false → ⊥
      apart e = r.3 (together_trans (together_sym (entered_closed P e d.3)) (entered_closed P e down_to))

  -- every source reaches a sink
  pub source_to_sink : {v : ℕ} → In v (sources N) → (w : ℕ) × In w (sinks N) × Reach N v w
  source_to_sink {v} m =
      let r = left_true P v (source_is N m).1 in
      out_sink r (down P (P.heads r.1))

-- every sink is reached from a source
pub sink_from_source : {N : Network} → Proper N → {w : ℕ} → In w (sinks N) → (v : ℕ) × In v (sources N) × Reach N v w
sink_from_source {N} P {w} m =
    let r = source_to_sink (turned_proper P) {v = w} (rw (turned_sources P) m) in
    (r.0, rw (turned_sinks P) at r.1, turned_reach r.2)

-- where there is no source there is no sink
pub no_source_no_sink : {N : Network} → Proper N → sources N ≡ [] → sinks N ≡ []
no_source_no_sink {N} P e =
    none_in (sinks N) (λ w m. Memᴰ.not-nil (rw e at (sink_from_source P m).1))

-- where there is no sink there is no source
pub no_sink_no_source : {N : Network} → Proper N → sinks N ≡ [] → sources N ≡ []
no_sink_no_source {N} P e =
    none_in (sources N) (λ v m. Memᴰ.not-nil (rw e at (source_to_sink P m).1))

-- s = 0 exactly when t = 0
pub sources_none_sinks_none : {N : Network} → Proper N → (length (sources N) ≡ 0) ↔ (length (sinks N) ≡ 0)
sources_none_sinks_none {N} P = (
  λ e. ap length (no_source_no_sink P (length_none (sources N) e)),
  λ e. ap length (no_sink_no_source P (length_none (sinks N) e)),
)

module _ {N : Network} (P : Proper N) (S : Strong N) where
  -- in a strong network all zones are in one component
  strong_one : {a b : ℕ} → In a N.zones → In b N.zones → Together N a b
  strong_one {a} {b} i j = (S a b i j, S b a j i)

  -- in a strong network no arc goes out of a component
  strong_left : {c : ℕ} → In c N.zones → exited N c ≡ false
  strong_left {c} i = false_left P c (λ r. r.3 (strong_one (P.heads r.1) i))

  -- in a strong network no arc comes into a component
  strong_entered : {c : ℕ} → In c N.zones → entered N c ≡ false
  strong_entered {c} i = false_entered P c (λ r. r.3 (strong_one (P.tails r.1) i))

  -- a strong network has no source, no sink, and one component alone
  pub strong_kinds : {z : ℕ} → In z N.zones
      → (sources N ≡ []) × (sinks N ≡ []) × (length (alone N) ≡ 1)
  strong_kinds {z} i = (no_source, no_source_no_sink P no_source, ap length only)
    where
      no_source : sources N ≡ []
      no_source =
          none_in
          (sources N)
          (λ c m. let t = source_is N m in true_not_false t.1 (strong_left (names_zone N t.0).0))

      only : alone N ≡ name N z ∷ []
      only =
          only_in
          (alone N)
          (alone_distinct P)
          (is_alone N (name_is_name P i) (strong_entered (name_in P i)) (strong_left (name_in P i)))
          (λ c m.
          let n = (alone_is N m).0 in
          names_apart P n (name_is_name P i) (strong_one (names_zone N n).0 (name_in P i)))

module _ {N : Network} (P : Proper N) where
  -- where there is no source, every zone reaches a component alone
  pub sourceless_down : sources N ≡ [] → {z : ℕ} → In z N.zones → (c : ℕ) × In c (alone N) × Reach N z c
  sourceless_down e i =
      let d = down P i in
      elim (end_kind N d.1 d.2) [
        | inl m ↦ absurd (Memᴰ.not-nil (rw (no_source_no_sink P e) at m))
        | inr m ↦ (d.0, m, d.3)
      ]

  -- where there is no source, two zones of which one does not reach the other make two components alone
  sourceless_two : sources N ≡ [] → {a b : ℕ}
      → In a N.zones → In b N.zones → (Reach N a b → ⊥) → 2 ≤ length (alone N)
  sourceless_two e {a} {b} i j n =
      let c = sourceless_down e i in
      let d = sourceless_down e j in
      let back = (entered_closed P (alone_is N d.1).1 d.2).0 in
      two_in (alone N) c.1 d.1 (λ q. n (reach_trans (rw q at c.2) back))

  -- a network that is not strong has a source, or two components alone
  pub weak_kinds : strong N ≡ false → (1 ≤ length (sources N)) ⊎ (2 ≤ length (alone N))
  unfolding strong
  weak_kinds h = go (sources N) refl
    where
      two : sources N ≡ [] → 2 ≤ length (alone N)
      two e =
          let a = every_false (λ c. every (reaches N c) N.zones) N.zones h in
          let b = every_false (reaches N a.0) N.zones a.2 in
          sourceless_two e a.1 b.1 (λ r. true_not_false (reaches_complete P r) b.2)

      go : (vs : List ℕ) → sources N ≡ vs → (1 ≤ length vs) ⊎ (2 ≤ length (alone N))
      go [] e = inr (two e)
      go (v ∷ vs) e = inl (omega arith)
