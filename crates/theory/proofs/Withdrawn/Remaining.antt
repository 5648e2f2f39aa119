-- The zones that remain, and the bridge: the network of all numbers beside the network of those that remain.
--   stays gone z                   the number z is not withdrawn
--   remaining_in, in_remaining     a zone remains exactly when it is below n and not withdrawn
--   remaining_few                  they are no more than n
--   network_none                   with no number withdrawn, the network is what it was
--   Free es gone                   no arc has an end that is withdrawn
--   Bridge, bridge                 then reach, names, kinds and skeleton are the same in both networks, and only those
--                                  alone are fewer, by the withdrawn ones
--   gone_alone                     in the network of all numbers each withdrawn one is alone
--   strong_from                    for a zone that remains: strong exactly when it reaches all that remain and all of
--                                  them reach it
-- Not to be withdrawn is a test of `Fewer`, and the bridge is its theorems. Assumes nothing.
use Prim.Native.Nat.{ℕ, ◌<◌, ◌≤◌}
use native.Mathlib.Omega.{arith}
use mathlib.Core.Path.{◌≡◌, refl, sym, ap}
use mathlib.Core.Logic.{◌↔◌}
use mathlib.Core.Bool.{Bool, true, false, not}
use mathlib.Core.List.Memᴰ
use mathlib.Core.List.{List, [], Memᴰ as In}
use borrow.Author.Tests.{eqb-true, eq-eqb, not-true}
use lib.Dec.{eqb}
use lib.ListN.{length}
use Rattle.rules.specs.Lists.{span, keep, listed}
use Rattle.rules.specs.Network.{Arc, ◌⟶◌, Network, network_of, remaining, network_with, Reach, Proper}
use Rattle.rules.specs.Network.{reaches, strong}
use Rattle.rules.specs.Components.{together, name, names, sources, sinks, alone, inner}
use Rattle.rules.specs.Skeleton.{skeleton}
use Rattle.theory.proofs.Ground.Bools.{false_unless, false_not, true_not_false}
use Rattle.theory.proofs.Ground.Lists.{any_true, true_any, keep_in, in_keep, keep_all}
use Rattle.theory.proofs.Ground.Ascending.{span_in, in_span, span_length}
use Rattle.theory.proofs.Ground.Counting.{keep_length}
use Rattle.theory.proofs.Reaching.Reach.{reach_trans, reach_arcs, strong_sound, strong_complete}
use Rattle.theory.proofs.Reaching.Components.{name_together, name_is_name}
use Rattle.theory.proofs.Reaching.KindLaws.{is_alone, false_left, false_entered}
use Rattle.theory.proofs.Withdrawn.Fewer
use Rattle.theory.proofs.Withdrawn.Fewer.{Touched}
use Rattle.theory.proofs.Withdrawn.FewerSkeleton.{fewer_skeleton}

-- where the test says yes, the number stands in the list
pub listed_true : (xs : List ℕ) (z : ℕ) → listed xs z ≡ true → In z xs
listed_true xs z e =
    let r = any_true (eqb z) xs e in
    Memᴰ.cast (eqb-true z r.0 r.2) r.1

-- where the number stands in the list, the test says yes
pub true_listed : {xs : List ℕ} {z : ℕ} → In z xs → listed xs z ≡ true
true_listed {xs} {z} m = true_any (eqb z) m (eq-eqb z z refl)

-- where it does not, the test says no
pub false_listed : (xs : List ℕ) (z : ℕ) → (In z xs → ⊥) → listed xs z ≡ false
false_listed xs z n = false_unless (listed xs z) (λ e. n (listed_true xs z e))

-- where the test says no, the number does not stand in the list
pub listed_false : {xs : List ℕ} {z : ℕ} → listed xs z ≡ false → In z xs → ⊥
listed_false e m = true_not_false (true_listed m) e

-- whether a number is not withdrawn
abbrev pub stays : List ℕ → ℕ → Bool
stays gone z = not (listed gone z)

-- a zone that remains is below n and not withdrawn
pub remaining_in : (n : ℕ) (gone : List ℕ) {z : ℕ} → In z (remaining n gone) → (z < n) × (listed gone z ≡ false)
remaining_in n gone {z} m =
    let r = keep_in (stays gone) (span 0 n) m in
    let l = span_in 0 n r.0 in
    (omega arith, not-true (listed gone z) r.1)

-- a number below n that is not withdrawn remains
pub in_remaining : (n : ℕ) (gone : List ℕ) {z : ℕ} → z < n → listed gone z ≡ false → In z (remaining n gone)
in_remaining n gone {z} l e = in_keep (stays gone) (in_span 0 n (omega arith) (omega arith)) (false_not e)

-- the zones that remain are no more than the zone count
pub remaining_few : (n : ℕ) (gone : List ℕ) → length (remaining n gone) ≤ n
remaining_few n gone =
    let a = keep_length (stays gone) (span 0 n) in
    let b = span_length 0 n in
    omega (arith, a, b)

-- with no number withdrawn, the network is what it was
pub network_none : (n : ℕ) (es : List Arc) → network_with n es [] ≡ network_of n es
network_none n es = λ i. record { zones = keep_all (stays []) (span 0 n) (λ z m. refl) i; arcs = es }

-- no arc has an end that is withdrawn
pub record Free (es : List Arc) (gone : List ℕ) : Type 0 where
  pub tails : {a b : ℕ} → In (a ⟶ b) es → listed gone a ≡ false
  pub heads : {a b : ℕ} → In (a ⟶ b) es → listed gone b ≡ false

-- of the network N of all numbers and the network M of those that pass the test p: M is proper; reach, components,
-- names, kinds and skeleton are the same, those alone apart, which are the ones that pass
pub record Bridge (p : ℕ → Bool) (N M : Network) : Type 0 where
  pub proper : Proper M
  pub reach_is : {a b : ℕ} → Reach M a b ↔ Reach N a b
  pub reaches_is : (a b : ℕ) → reaches M a b ≡ reaches N a b
  pub together_is : (a b : ℕ) → together M a b ≡ together N a b
  pub name_is : (z : ℕ) → name M z ≡ name N z
  pub names_are : names M ≡ keep p (names N)
  pub sources_are : sources M ≡ sources N
  pub sinks_are : sinks M ≡ sinks N
  pub inner_are : inner M ≡ inner N
  pub alone_are : alone M ≡ keep p (alone N)
  pub skeleton_is : skeleton M ≡ skeleton N

module _ (n : ℕ) {es : List Arc} {gone : List ℕ} (P : Proper (network_of n es)) (F : Free es gone) where
  -- the ends of the arcs stay
  kept : Touched (stays gone) (network_of n es)
  kept = record { tail_in = λ m. false_not (F.tails m); head_in = λ m. false_not (F.heads m) }

  -- the bridge between the network of all numbers and that of the zones that remain
  pub bridge : Bridge (stays gone) (network_of n es) (network_with n es gone)
  bridge =
      record {
        proper = Fewer.fewer_proper P kept;
        reach_is = (reach_arcs refl, reach_arcs refl);
        reaches_is = Fewer.fewer_reaches P kept;
        together_is = Fewer.fewer_together P kept;
        name_is = Fewer.fewer_name P kept;
        names_are = Fewer.fewer_names P kept;
        sources_are = Fewer.fewer_sources P kept;
        sinks_are = Fewer.fewer_sinks P kept;
        inner_are = Fewer.fewer_inner P kept;
        alone_are = Fewer.fewer_alone P kept;
        skeleton_is = fewer_skeleton P kept;
      }

  -- in the network of all numbers a withdrawn zone is alone
  pub gone_alone : {z : ℕ} → z < n → listed gone z ≡ true → In z (alone (network_of n es))
  gone_alone {z} l e =
      is_alone (network_of n es) named
      (false_entered P z (λ r. true_not_false e (rw (by_itself r.2.1) at (F.heads r.1))))
      (false_left P z (λ r. true_not_false e (rw (by_itself r.2.1) at (F.tails r.1))))
    where
      by_itself : {x : ℕ} → Reach (network_of n es) z x → x ≡ z
      by_itself r = sym (Fewer.reach_outside kept r (ap not e))

      zone : In z (span 0 n)
      zone = in_span 0 n (omega arith) (omega arith)

      named : In z (names (network_of n es))
      named = Memᴰ.cast (sym (by_itself (name_together P zone).0)) (name_is_name P zone)

-- one zone reaches all zones of a network, and all reach it
abbrev pub Hub : Network → ℕ → Type 0
Hub N o = (z : ℕ) → In z N.zones → Reach N o z × Reach N z o

-- for one of its zones: a network is strong exactly when that zone reaches all and all reach it
pub strong_from : {N : Network} → Proper N → {o : ℕ} → In o N.zones → (strong N ≡ true) ↔ Hub N o
strong_from {N} P {o} i = (
  λ e z j. (strong_sound N e o z i j, strong_sound N e z o j i),
  λ h. strong_complete P (λ a b j k. reach_trans (h a j).1 (h b k).0),
)
