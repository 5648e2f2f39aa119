-- A network less zones that no arc touches: reach, components and kinds stay.
--   fewer p N       the network whose zones are those of N that pass the test p, with the same arcs
--   Touched p N     every arc of N has both its ends among the numbers that pass
--   fewer_proper    it is proper where N is
--   fewer_reaches, fewer_together, fewer_name   `reaches`, `together` and `name` are the same for every number
--   fewer_names     its names are the names of N that pass
--   fewer_sources, fewer_sinks, fewer_inner   the same lists;   fewer_alone   those alone in N that pass
-- A run never leaves the numbers that pass, nor comes into them, since each of its arcs has both ends there. So a
-- component of two zones or more lies within them or outside, and a zone outside is in a component by itself.
-- Assumes nothing.
use Prim.Native.Nat.{ℕ}
use mathlib.Core.Path.{◌≡◌, refl, sym, ap, ap₂, ◌∙◌}
use mathlib.Core.Logic.{inl, inr}
use mathlib.Core.Bool.{Bool, true, false, not, ◌&&◌}
use mathlib.Core.List.{List, Memᴰ as In}
use lib.Dec.{eqb}
use Rattle.rules.specs.Lists.{keep}
use Rattle.rules.specs.Network.{Arc, ◌⟶◌, Network, Reach, same, step, Proper, reaches}
use Rattle.rules.specs.Components.{together, name, is_name, names, entered, exited, sources, sinks, alone, inner}
use Rattle.theory.proofs.Ground.Bools.{bool_cases, and_true, and_then, true_not_false}
use Rattle.theory.proofs.Ground.Lists.{in_keep, any_agree, keep_agree, first_agree}
use Rattle.theory.proofs.Ground.Ascending.{keep_ascending}
use Rattle.theory.proofs.Reaching.Reach.{reaches_arcs}
use Rattle.theory.proofs.Reaching.Components.{together_sound}
use Rattle.theory.proofs.Reaching.KindLaws.{left_true, entered_true}
use Rattle.theory.proofs.Ground.Keeping.{Within, keep_keep, keep_swap, first_keep, first_default}

-- the network with the zones that pass, and the same arcs
abbrev pub fewer : (ℕ → Bool) → Network → Network
fewer p N = record { zones = keep p N.zones; arcs = N.arcs }

-- every arc has both its ends among the numbers that pass
pub record Touched (p : ℕ → Bool) (N : Network) : Type 0 where
  pub tail_in : {a b : ℕ} → In (a ⟶ b) N.arcs → p a ≡ true
  pub head_in : {a b : ℕ} → In (a ⟶ b) N.arcs → p b ≡ true

module _ {p : ℕ → Bool} {N : Network} (T : Touched p N) where
  -- what a number that passes reaches passes
  pub reach_passes : {a b : ℕ} → Reach N a b → p a ≡ true → p b ≡ true
  reach_passes (same e) t = rw e at t
  reach_passes (step m r) t = reach_passes r (T.head_in m)

  -- what reaches a number that passes passes
  pub passes_reach : {a b : ℕ} → Reach N a b → p b ≡ true → p a ≡ true
  passes_reach (same e) t = rw e t
  passes_reach (step m r) t = T.tail_in m

  -- a number that does not pass reaches itself alone
  pub reach_outside : {a b : ℕ} → Reach N a b → p a ≡ false → a ≡ b
  reach_outside (same e) t = e
  reach_outside (step m r) t = absurd (true_not_false (T.tail_in m) t)

module _ {p : ℕ → Bool} {N : Network} (P : Proper N) (T : Touched p N) where
  -- the network less zones is proper
  pub fewer_proper : Proper (fewer p N)
  fewer_proper =
      record {
        ascending = keep_ascending p N.zones P.ascending;
        tails = λ m. in_keep p (P.tails m) (T.tail_in m);
        heads = λ m. in_keep p (P.heads m) (T.head_in m);
      }

  -- the test of reach is the same
  pub fewer_reaches : (a b : ℕ) → reaches (fewer p N) a b ≡ reaches N a b
  fewer_reaches a b = reaches_arcs fewer_proper P refl a b

  -- the test of one component is the same
  pub fewer_together : (a b : ℕ) → together (fewer p N) a b ≡ together N a b
  unfolding together
  fewer_together a b = ap₂ and_then (fewer_reaches a b) (fewer_reaches b a)

  -- a zone of a number's component passes where the number does
  together_within : {z : ℕ} → p z ≡ true → Within p (together N z) N.zones
  together_within {z} t x m e = reach_passes T (together_sound N z x e).0 t

  -- a number that does not pass is in a component by itself
  outside_default : {z : ℕ} → p z ≡ false → (xs : List ℕ) (x : ℕ) → In x xs → together N z x ≡ true → x ≡ z
  outside_default {z} t xs x m e = sym (reach_outside T (together_sound N z x e).0 t)

  -- names are the same
  pub fewer_name : (z : ℕ) → name (fewer p N) z ≡ name N z
  unfolding name
  fewer_name z =
      first_agree (together (fewer p N) z) (together N z) z (keep p N.zones) (λ x m. fewer_together z x)
      ∙ elim (bool_cases (p z)) [
        | inl t ↦ first_keep p (together N z) z N.zones (together_within t)
        | inr t ↦
            first_default (together N z) z (keep p N.zones) (outside_default t (keep p N.zones))
            ∙ sym (first_default (together N z) z N.zones (outside_default t N.zones))
      ]

  -- the same numbers are names
  pub fewer_is_name : (z : ℕ) → is_name (fewer p N) z ≡ is_name N z
  unfolding is_name
  fewer_is_name z = ap (λ (y : ℕ). eqb y z) (fewer_name z)

  -- its names are the names that pass
  pub fewer_names : names (fewer p N) ≡ keep p (names N)
  unfolding names
  fewer_names =
      keep_agree (is_name (fewer p N)) (is_name N) (keep p N.zones) (λ z m. fewer_is_name z)
      ∙ keep_swap p (is_name N) N.zones

  -- the same components have an arc in
  pub fewer_entered : (c : ℕ) → entered (fewer p N) c ≡ entered N c
  unfolding entered
  fewer_entered c =
      any_agree
      (λ (e : Arc). together (fewer p N) e.head c && not (together (fewer p N) e.tail c))
      (λ (e : Arc). together N e.head c && not (together N e.tail c))
      N.arcs
      (λ e m. ap₂ (λ (x y : Bool). x && not y) (fewer_together e.head c) (fewer_together e.tail c))

  -- the same components have an arc out
  pub fewer_exited : (c : ℕ) → exited (fewer p N) c ≡ exited N c
  unfolding exited
  fewer_exited c =
      any_agree
      (λ (e : Arc). together (fewer p N) e.tail c && not (together (fewer p N) e.head c))
      (λ (e : Arc). together N e.tail c && not (together N e.head c))
      N.arcs
      (λ e m. ap₂ (λ (x y : Bool). x && not y) (fewer_together e.tail c) (fewer_together e.head c))

  -- a component with an arc out passes
  pub exited_passes : {c : ℕ} → exited N c ≡ true → p c ≡ true
  exited_passes {c} h = let r = left_true P c h in reach_passes T r.2.0 (T.tail_in r.1)

  -- a component with an arc in passes
  pub entered_passes : {c : ℕ} → entered N c ≡ true → p c ≡ true
  entered_passes {c} h = let r = entered_true P c h in reach_passes T r.2.0 (T.head_in r.1)

  -- the names of a kind, by what a test says of arcs out and arcs in, are those of N that pass
  kind_fewer : (t : Bool → Bool → Bool)
      → keep (λ c. t (exited (fewer p N) c) (entered (fewer p N) c)) (names (fewer p N))
      ≡ keep (λ c. t (exited N c) (entered N c)) (keep p (names N))
  kind_fewer t =
      keep_agree
      (λ c. t (exited (fewer p N) c) (entered (fewer p N) c)) (λ c. t (exited N c) (entered N c)) (names (fewer p N))
      (λ c m. ap₂ t (fewer_exited c) (fewer_entered c))
      ∙ ap (keep (λ c. t (exited N c) (entered N c))) fewer_names

  -- the sources are the same
  pub fewer_sources : sources (fewer p N) ≡ sources N
  unfolding sources
  fewer_sources =
      kind_fewer (λ l e. l && not e)
      ∙ keep_keep p (λ c. exited N c && not (entered N c)) (names N)
      (λ c m h. exited_passes (and_true (exited N c) (not (entered N c)) h).0)

  -- the sinks are the same
  pub fewer_sinks : sinks (fewer p N) ≡ sinks N
  unfolding sinks
  fewer_sinks =
      kind_fewer (λ l e. e && not l)
      ∙ keep_keep p (λ c. entered N c && not (exited N c)) (names N)
      (λ c m h. entered_passes (and_true (entered N c) (not (exited N c)) h).0)

  -- the inner components are the same
  pub fewer_inner : inner (fewer p N) ≡ inner N
  unfolding inner
  fewer_inner =
      kind_fewer (λ l e. e && l)
      ∙ keep_keep p (λ c. entered N c && exited N c) (names N)
      (λ c m h. entered_passes (and_true (entered N c) (exited N c) h).0)

  -- the components alone are those alone in N that pass
  pub fewer_alone : alone (fewer p N) ≡ keep p (alone N)
  unfolding alone
  fewer_alone =
      kind_fewer (λ l e. not e && not l)
      ∙ keep_swap p (λ c. not (entered N c) && not (exited N c)) (names N)
