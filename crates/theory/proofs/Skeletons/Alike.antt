-- Networks with the same zones and the same reach agree in every test that speaks of reach alone.
--   Alike M N   M and N are networks as every call accepts, with the same zones and the same reach
--   X_alike     the test or the value X is the same for both: reaches, strong, together, name, is_name, names
-- The test of reach decides reach, so it is the same for both, and so is all that is computed from it and the zones.
-- Assumes nothing.
use Prim.Native.Nat.{ℕ}
use mathlib.Core.Path.{◌≡◌, sym, ap, ap₂, ◌∙◌, subst}
use mathlib.Core.Logic.{◌↔◌}
use mathlib.Core.List.{List, Memᴰ as In}
use mathlib.Core.Bool.{Bool}
use lib.Dec.{eqb}
use Rattle.rules.specs.Lists.{any, every, keep, first}
use Rattle.rules.specs.Network.{Network, Reach, Proper, reaches, strong}
use Rattle.rules.specs.Components.{together, name, is_name, names}
use Rattle.rules.specs.Plan.{turned}
use Rattle.theory.proofs.Ground.Bools.{bool_agree, and_then}
use Rattle.theory.proofs.Ground.Lists.{any_agree, every_agree, keep_agree, first_agree}
use Rattle.theory.proofs.Reaching.Reach.{reaches_sound, reaches_complete}
use Rattle.theory.proofs.Reaching.Turned.{turned_proper, turned_reach, reach_turned}

-- two networks as every call accepts, with the same zones and the same reach
pub record Alike (M N : Network) : Type 0 where
  pub proper : Proper M
  pub proper_other : Proper N
  pub zones_same : M.zones ≡ N.zones
  pub reach_same : (a b : ℕ) → In a M.zones → In b M.zones → Reach M a b ↔ Reach N a b

-- what is in a list is in an equal list
pub in_along : {xs ys : List ℕ} {a : ℕ} → xs ≡ ys → In a xs → In a ys
in_along {a} e i = subst (λ (zs : List ℕ). In a zs) e i

-- two networks that are alike are so in either order
pub alike_sym : {M N : Network} → Alike M N → Alike N M
alike_sym A =
    record {
      proper = A.proper_other;
      proper_other = A.proper;
      zones_same = sym A.zones_same;
      reach_same = λ a b i j.
          let r = A.reach_same a b (in_along (sym A.zones_same) i) (in_along (sym A.zones_same) j) in
          (r.1, r.0);
    }

-- two networks that are alike are so when both are turned round
pub alike_turned : {M N : Network} → Alike M N → Alike (turned M) (turned N)
unfolding turned
alike_turned A =
    record {
      proper = turned_proper A.proper;
      proper_other = turned_proper A.proper_other;
      zones_same = A.zones_same;
      reach_same = λ a b i j.
          let r = A.reach_same b a j i in
          (λ t. reach_turned (r.0 (turned_reach t)), λ t. reach_turned (r.1 (turned_reach t)));
    }

module _ {M N : Network} (A : Alike M N) where
  -- the test of reach is the same for both
  pub reaches_alike : {a b : ℕ} → In a M.zones → In b M.zones → reaches M a b ≡ reaches N a b
  reaches_alike {a} {b} i j =
      bool_agree
      (λ e. reaches_complete A.proper_other ((A.reach_same a b i j).0 (reaches_sound M a b e)))
      (λ e. reaches_complete A.proper ((A.reach_same a b i j).1 (reaches_sound N a b e)))

  -- a test over all zones is the same for both
  pub any_alike : (p q : ℕ → Bool) → ((z : ℕ) → In z M.zones → p z ≡ q z) → any p M.zones ≡ any q N.zones
  any_alike p q h = any_agree p q M.zones h ∙ ap (any q) A.zones_same

  -- the test of whether every zone passes is the same for both
  pub every_alike : (p q : ℕ → Bool) → ((z : ℕ) → In z M.zones → p z ≡ q z)
      → every p M.zones ≡ every q N.zones
  every_alike p q h = every_agree p q M.zones h ∙ ap (every q) A.zones_same

  -- one is strong exactly when the other is
  pub strong_alike : strong M ≡ strong N
  unfolding strong
  strong_alike =
      every_alike (λ a. every (reaches M a) M.zones) (λ a. every (reaches N a) N.zones)
      (λ a i. every_alike (reaches M a) (reaches N a) (λ b j. reaches_alike i j))

  -- two zones are in one component in both or in neither
  pub together_alike : {a b : ℕ} → In a M.zones → In b M.zones → together M a b ≡ together N a b
  unfolding together
  together_alike i j = ap₂ and_then (reaches_alike i j) (reaches_alike j i)

  -- the names are the same
  pub name_alike : {z : ℕ} → In z M.zones → name M z ≡ name N z
  unfolding name
  name_alike {z} i =
      first_agree (together M z) (together N z) z M.zones (λ w j. together_alike i j)
      ∙ ap (first (together N z) z) A.zones_same

  -- a zone names its component in both or in neither
  pub is_name_alike : {z : ℕ} → In z M.zones → is_name M z ≡ is_name N z
  unfolding is_name
  is_name_alike {z} i = ap (λ (n : ℕ). eqb n z) (name_alike i)

  -- the lists of names are the same
  pub names_alike : names M ≡ names N
  unfolding names
  names_alike =
      keep_agree (is_name M) (is_name N) M.zones (λ z i. is_name_alike i) ∙ ap (keep (is_name N)) A.zones_same
