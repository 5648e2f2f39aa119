-- How many components of each kind there are, against the number of zones. With s sources, t sinks and q alone:
--   keep_three    what is left only, entered only or neither is no more than there is
--   kinds_few     s + t + q is no more than the number of zones
--   need_few      max(s, t) + q links, or none, are no more than the zones
--   zones_few     zones that are all below n are no more than n
--   strong_sum, weak_sum     in a strong network s + t + q is 1, and in any other it is 2 or more
--   sum_strong, sum_weak     so a network is strong exactly where s + t + q is 1
-- Assumes nothing.
use mathlib.Core.Path.{◌≡◌, refl, ap, ◌∙◌}
use mathlib.Core.Logic.{inl, inr}
use mathlib.Core.Bool.{Bool, true, false, not, ◌&&◌}
use mathlib.Core.List.{List, [], ◌∷◌, Memᴰ as In}
use Prim.Native.Nat.{ℕ, zero, suc, ◌+◌, ◌≤◌, ◌<◌}
use native.Mathlib.Omega.{arith}
use lib.ListN.{length}
use Rattle.rules.specs.Lists.{keep}
use Rattle.rules.specs.Network.{Network, Proper, strong}
use Rattle.rules.specs.Components.{is_name, names, entered, exited, sources, sinks, alone}
use Rattle.rules.specs.Plan.{plan_need}
use Rattle.rules.specs.Answers.{yes_number}
use Rattle.theory.proofs.Ground.Bools.{bool_cases}
use Rattle.theory.proofs.Ground.Lists.{keep_hit, keep_miss}
use Rattle.theory.proofs.Ground.Counting.{keep_length}
use Rattle.theory.proofs.Ground.Ascending.{ascending_few}
use Rattle.theory.proofs.Reaching.Reach.{strong_sound}
use Rattle.theory.proofs.Reaching.KindCounts.{strong_kinds, weak_kinds, sources_none_sinks_none}
use Rattle.theory.proofs.Planning.Fewest.{strong_needs_none, weak_need}

-- left and not entered, entered and not left, neither
abbrev out_only : (ℕ → Bool) → (ℕ → Bool) → ℕ → Bool
out_only into out c = out c && not (into c)

abbrev in_only : (ℕ → Bool) → (ℕ → Bool) → ℕ → Bool
in_only into out c = into c && not (out c)

abbrev neither : (ℕ → Bool) → (ℕ → Bool) → ℕ → Bool
neither into out c = not (into c) && not (out c)

-- what passes a test in a list: the first, where it passes, and those behind it
keep_by : (p : ℕ → Bool) (x : ℕ) (xs : List ℕ) (b : Bool) → p x ≡ b →
    length (keep p (x ∷ xs)) ≡ yes_number b + length (keep p xs)
keep_by p x xs true e = ap length (keep_hit p xs e) ∙ omega arith
keep_by p x xs false e = ap length (keep_miss p xs e) ∙ omega arith

-- of the three tests no two pass together
one_three : (a b : Bool) → yes_number (b && not a) + yes_number (a && not b) + yes_number (not a && not b) ≤ 1
one_three true true = omega arith
one_three true false = omega arith
one_three false true = omega arith
one_three false false = omega arith

-- what passes one of the three tests is no more than there is
keep_three : (into out : ℕ → Bool) (xs : List ℕ) →
    length (keep (out_only into out) xs) + length (keep (in_only into out) xs) + length (keep (neither into out) xs)
    ≤ length xs
keep_three into out [] = omega arith
keep_three into out (x ∷ xs) =
    omega (
      arith,
      keep_three into out xs,
      one_three (into x) (out x),
      keep_by (out_only into out) x xs (out x && not (into x)) refl,
      keep_by (in_only into out) x xs (into x && not (out x)) refl,
      keep_by (neither into out) x xs (not (into x) && not (out x)) refl,
    )

-- s + t + q is no more than the number of names
names_few : (N : Network) → length (sources N) + length (sinks N) + length (alone N) ≤ length (names N)
unfolding sources sinks alone
names_few N = keep_three (entered N) (exited N) (names N)

-- s + t + q is no more than the number of zones
pub kinds_few : (N : Network) → length (sources N) + length (sinks N) + length (alone N) ≤ length N.zones
unfolding names
kinds_few N = omega (arith, names_few N, keep_length (is_name N) N.zones)

-- the number of links is no more than the number of zones
pub need_few : (N : Network) → plan_need N ≤ length N.zones
need_few N =
    elim (bool_cases (strong N)) [
      | inl e ↦ rw (strong_needs_none N e) (omega arith)
      | inr e ↦ rw (weak_need N e) (omega (arith, kinds_few N))
    ]

module _ {N : Network} (P : Proper N) where
  -- where all zones are below n, they are no more than n
  pub zones_few : (n : ℕ) → ((z : ℕ) → In z N.zones → z < n) → length N.zones ≤ n
  zones_few n below = ascending_few n N.zones P.ascending below

  -- a strong network, with a zone, has one component, alone
  pub strong_sum : {z : ℕ} → In z N.zones → strong N ≡ true →
      length (sources N) + length (sinks N) + length (alone N) ≡ 1
  strong_sum zone e =
      let k = strong_kinds P (strong_sound N e) zone in
      omega (arith, ap length k.0, ap length k.1, k.2)

  -- in a network that is not strong s + t + q is 2 or more
  pub weak_sum : strong N ≡ false → 2 ≤ length (sources N) + length (sinks N) + length (alone N)
  weak_sum e =
      elim (weak_kinds P e) [
        | inl some ↦ go (length (sinks N)) refl some
        | inr two ↦ omega arith
      ]
    where
      go : (t : ℕ) → length (sinks N) ≡ t → 1 ≤ length (sources N) →
          2 ≤ length (sources N) + length (sinks N) + length (alone N)
      go zero f some = absurd (omega (arith, (sources_none_sinks_none P).1 f))
      go (suc t) f some = omega arith

  -- a network is strong where s + t + q is 1
  pub sum_strong : length (sources N) + length (sinks N) + length (alone N) ≡ 1 → strong N ≡ true
  sum_strong h =
      elim (bool_cases (strong N)) [
        | inl e ↦ e
        | inr e ↦ absurd (omega (arith, weak_sum e))
      ]

  -- and, with a zone, it is not where s + t + q is another number
  pub sum_weak : {z : ℕ} → In z N.zones → (length (sources N) + length (sinks N) + length (alone N) ≡ 1 → ⊥) →
      strong N ≡ false
  sum_weak zone h =
      elim (bool_cases (strong N)) [
        | inl e ↦ absurd (h (strong_sum zone e))
        | inr e ↦ e
      ]
