-- The network with every arc turned round.
--   arc_turned, turned_arc       b ⟶ a is an arc of the one exactly when a ⟶ b is of the other
--   turned_twice                 turning round twice changes nothing
--   reach_turned, turned_reach   reach is turned round
--   turned_one, one_turned, turned_together, turned_name, turned_names   components and their names stay
--   turned_left, turned_entered, turned_sources, turned_sinks, turned_alone, turned_strong   sources and sinks change
--                                places, and the rest stays
-- Each test is compared through its meaning. Assumes nothing.
use Prim.Native.Nat.{ℕ}
use mathlib.Core.Path.{◌≡◌, refl, sym, ◌∙◌, ap, ap₂}
use mathlib.Core.Bool.{Bool, not, ◌&&◌, and_comm}
use mathlib.Core.List.Memᴰ
use mathlib.Core.List.{List, [], ◌∷◌, map, Memᴰ as In}
use lib.Dec.{eqb}
use Rattle.rules.specs.Lists.{keep}
use Rattle.rules.specs.Network.{Arc, ◌⟶◌, Network, Proper, Reach, same, step, reaches, strong}
use Rattle.rules.specs.Components.{together, name, is_name, names, exited, entered, sources, sinks, alone}
use Rattle.rules.specs.Plan.{turned}
use Rattle.theory.proofs.Ground.Bools.{bool_agree}
use Rattle.theory.proofs.Ground.Lists.{map_in, in_map, any_map, any_agree, keep_agree, first_agree}
use Rattle.theory.proofs.Reaching.Reach.{arc_is, reach_arc, reach_trans, reaches_sound, reaches_complete}
use Rattle.theory.proofs.Reaching.Reach.{strong_sound, strong_complete}
use Rattle.theory.proofs.Reaching.Components.{Together, together_sound, together_complete}

-- the arc turned round
abbrev turned_end : Arc → Arc
turned_end e = e.head ⟶ e.tail

-- an arc of the network stands in the turned one, turned round
pub arc_turned : (N : Network) {a b : ℕ} → In (a ⟶ b) N.arcs → In (b ⟶ a) (turned N).arcs
unfolding turned
arc_turned N m = in_map turned_end m

-- an arc of the turned network stands in the network, turned round
pub turned_arc : (N : Network) {a b : ℕ} → In (a ⟶ b) (turned N).arcs → In (b ⟶ a) N.arcs
unfolding turned
turned_arc N m =
    let r = map_in turned_end N.arcs m in
    Memᴰ.cast (arc_is (sym (ap (λ (e : Arc). e.head) r.2)) (sym (ap (λ (e : Arc). e.tail) r.2))) r.1

-- arcs turned round twice are as they were
turned_ends : (es : List Arc) → map turned_end (map turned_end es) ≡ es
turned_ends [] = refl
turned_ends (e ∷ es) = ap {B = List Arc} (λ fs. e ∷ fs) (turned_ends es)

-- turning round twice changes nothing
pub turned_twice : (N : Network) → turned (turned N) ≡ N
unfolding turned
turned_twice N = λ i. record { zones = N.zones; arcs = turned_ends N.arcs i }

-- the turned network is proper
pub turned_proper : {N : Network} → Proper N → Proper (turned N)
unfolding turned
turned_proper {N} P =
    record {
      ascending = P.ascending;
      tails = λ m. P.heads (turned_arc N m);
      heads = λ m. P.tails (turned_arc N m);
    }

-- what reaches in the turned network is reached in the network
pub turned_reach : {N : Network} {a b : ℕ} → Reach (turned N) a b → Reach N b a
turned_reach (same e) = same (sym e)
turned_reach {N} (step m r) = reach_trans (turned_reach r) (reach_arc (turned_arc N m))

-- what reaches in the network is reached in the turned one
pub reach_turned : {N : Network} {a b : ℕ} → Reach N b a → Reach (turned N) a b
reach_turned (same e) = same (sym e)
reach_turned {N} (step m r) = reach_trans (reach_turned r) (reach_arc (arc_turned N m))

-- two of one component in the turned network are so in the network
pub turned_one : {N : Network} {a b : ℕ} → Together (turned N) a b → Together N a b
turned_one t = (turned_reach t.1, turned_reach t.0)

-- two of one component in the network are so in the turned one
pub one_turned : {N : Network} {a b : ℕ} → Together N a b → Together (turned N) a b
one_turned t = (reach_turned t.1, reach_turned t.0)

module _ {N : Network} (P : Proper N) where
  -- the test of reach is turned round
  pub turned_reaches : (a b : ℕ) → reaches (turned N) a b ≡ reaches N b a
  turned_reaches a b =
      bool_agree
      (λ h. reaches_complete P (turned_reach (reaches_sound (turned N) a b h)))
      (λ h. reaches_complete (turned_proper P) (reach_turned (reaches_sound N b a h)))

  -- the test of one component stays
  pub turned_together : (a b : ℕ) → together (turned N) a b ≡ together N a b
  turned_together a b =
      bool_agree
      (λ h. together_complete P (turned_one (together_sound (turned N) a b h)))
      (λ h. together_complete (turned_proper P) (one_turned (together_sound N a b h)))

  -- names stay
  pub turned_name : (z : ℕ) → name (turned N) z ≡ name N z
  unfolding name turned
  turned_name z = first_agree (together (turned N) z) (together N z) z N.zones (λ x m. turned_together z x)

  -- the list of names stays
  pub turned_names : names (turned N) ≡ names N
  unfolding names is_name turned
  turned_names =
      keep_agree (is_name (turned N)) (is_name N) N.zones (λ x m. ap (λ (y : ℕ). eqb y x) (turned_name x))

  -- what an arc goes out of there, an arc comes into here
  pub turned_left : (c : ℕ) → exited (turned N) c ≡ entered N c
  unfolding exited entered turned
  turned_left c =
      any_map
      turned_end
      (λ (e : Arc). together (turned N) e.tail c && not (together (turned N) e.head c))
      N.arcs
      ∙ any_agree
      (λ (e : Arc). together (turned N) e.head c && not (together (turned N) e.tail c))
      (λ (e : Arc). together N e.head c && not (together N e.tail c))
      N.arcs
      (λ e m. ap₂ (λ (x y : Bool). x && not y) (turned_together e.head c) (turned_together e.tail c))

module _ {N : Network} (P : Proper N) where
  -- what an arc comes into there, an arc goes out of here
  pub turned_entered : (c : ℕ) → entered (turned N) c ≡ exited N c
  turned_entered c = sym (turned_left (turned_proper P) c) ∙ ap (λ (M : Network). exited M c) (turned_twice N)

  -- sources of the turned network are the sinks
  pub turned_sources : sources (turned N) ≡ sinks N
  unfolding sources sinks
  turned_sources =
      ap (keep (λ c. exited (turned N) c && not (entered (turned N) c))) (turned_names P)
      ∙ keep_agree
      (λ c. exited (turned N) c && not (entered (turned N) c))
      (λ c. entered N c && not (exited N c))
      (names N)
      (λ c m. ap₂ (λ (x y : Bool). x && not y) (turned_left P c) (turned_entered c))

  -- components alone stay alone
  pub turned_alone : alone (turned N) ≡ alone N
  unfolding alone
  turned_alone =
      ap (keep (λ c. not (entered (turned N) c) && not (exited (turned N) c))) (turned_names P)
      ∙ keep_agree
      (λ c. not (entered (turned N) c) && not (exited (turned N) c))
      (λ c. not (entered N c) && not (exited N c))
      (names N)
      (λ c m.
      ap₂ (λ (x y : Bool). not x && not y) (turned_entered c) (turned_left P c)
      ∙ and_comm (not (exited N c)) (not (entered N c)))

  -- the turned network is strong exactly when the network is
  pub turned_strong : strong (turned N) ≡ strong N
  unfolding turned
  turned_strong =
      bool_agree
      (λ h. strong_complete P (λ a b i j. turned_reach (strong_sound (turned N) h b a j i)))
      (λ h. strong_complete (turned_proper P) (λ a b i j. reach_turned (strong_sound N h b a j i)))

-- sinks of the turned network are the sources
pub turned_sinks : {N : Network} → Proper N → sinks (turned N) ≡ sources N
turned_sinks {N} P = sym (turned_sources (turned_proper P)) ∙ ap sources (turned_twice N)
