-- The skeleton has the same reach as its network.
--   skeleton_proper   the skeleton is a network as every call accepts
--   skeleton_run      each arc of the skeleton is a run of its network
--   ring_up, ring_round, ring_reach   inside a component the ring leads from each zone to each other
--   bridge_reach      between two components the skeleton leads from name to name
--   skeleton_reach    one zone reaches another in the skeleton exactly when it does in the network
-- Each arc of the skeleton is a run. The other way: inside a component by cutting at a zone between as long as there
-- is one; between two components by induction on the number of zones between: where there is none, an arc crosses.
-- Assumes nothing.
use Prim.Native.Nat.{ℕ, zero, suc, ◌+◌, ◌<◌, ◌≤◌}
use mathlib.Core.Path.{◌≡◌, refl, sym}
use mathlib.Core.Logic.{◌⊎◌, inl, inr, ◌↔◌}
use mathlib.Core.List.Memᴰ
use mathlib.Core.List.{List, [], ◌∷◌, Memᴰ as In}
use mathlib.Core.Bool.{true, false}
use lib.Dec.{ltb}
use lib.ListN.{length}
use borrow.Author.Tests.{ltb-true, lt-ltb}
use native.Mathlib.Nat.{eq-or-lt_of_le}
use native.Mathlib.Omega.{arith}
use Rattle.rules.specs.Lists.{any, keep}
use Rattle.rules.specs.Network.{◌⟶◌, Network, Reach, same, step, Proper}
use Rattle.rules.specs.Components.{name}
use Rattle.rules.specs.Skeleton.{higher, between, skeleton, skeleton_of}
use Rattle.theory.proofs.Ground.Bools.{bool_cases, true_not_false, false_unless}
use Rattle.theory.proofs.Ground.Lists.{any_true, any_false}
use Rattle.theory.proofs.Reaching.Reach.{reach_arc, reach_trans}
use Rattle.theory.proofs.Ground.Counting.{fewer_keep}
use Rattle.theory.proofs.Reaching.Components.{
  Together,
  together_refl,
  together_sym,
  together_trans,
  name_in,
  name_together,
  name_agree,
  name_lowest,
  name_name,
}
use Rattle.theory.proofs.Skeletons.SkeletonLaws.{
  Follows,
  follows_together,
  Between,
  Crosses,
  higher_true,
  higher_false,
  between_true,
  true_between,
  skeleton_ends,
  skeleton_kinds,
  in_skeleton_of,
}
use Rattle.theory.proofs.Skeletons.Gap.{together_cases, joined_reach, gap}

-- the skeleton is a network as every call accepts
pub skeleton_proper : {N : Network} → Proper N → Proper (skeleton_of N)
skeleton_proper {N} P =
    record {
      ascending = P.ascending;
      tails = λ m. (skeleton_ends N m).0;
      heads = λ m. (skeleton_ends N m).1;
    }

-- a run of arcs that are runs is a run
pub reach_runs : {M N : Network} → ((a b : ℕ) → In (a ⟶ b) M.arcs → Reach N a b)
    → {a b : ℕ} → Reach M a b → Reach N a b
reach_runs h (same e) = same e
reach_runs h (step {a = x} {b = y} m r) = reach_trans (h x y m) (reach_runs h r)

-- each arc of the skeleton is a run of its network
pub skeleton_run : {N : Network} → Proper N → {a b : ℕ} → In (a ⟶ b) (skeleton N) → Reach N a b
skeleton_run P m = elim (skeleton_kinds P m) [ inl h ↦ (follows_together h).0 | inr h ↦ joined_reach h.arc ]

-- an arc of one of the two kinds leads on in the skeleton
kinds_reach : {N : Network} → Proper N → {a b : ℕ} → In a N.zones → In b N.zones
    → Follows N a b ⊎ Crosses N a b → Reach (skeleton_of N) a b
kinds_reach P i j h = reach_arc (in_skeleton_of P i j h)

-- the next zone of a component is one arc away
next_reach : {N : Network} → Proper N → {a b : ℕ} → In a N.zones → In b N.zones → Together N a b
    → a < b → higher N a (λ c. ltb c b) ≡ false → Reach (skeleton_of N) a b
next_reach P {a} {b} i j t l e =
    kinds_reach P i j (inl (inl (record {
      up = l;
      mates = t;
      none_between = λ c k s u. higher_false P a (λ z. ltb z b) e c k s (lt-ltb c b u);
    })))

-- from the highest zone of a component its lowest is one arc away
last_reach : {N : Network} → Proper N → {a b : ℕ} → In a N.zones → In b N.zones → Together N a b
    → b < a → name N b ≡ b → higher N a (λ c. true) ≡ false → Reach (skeleton_of N) a b
last_reach P {a} {b} i j t l n e =
    kinds_reach P i j (inl (inr (record {
      down = l;
      mates = t;
      lowest = n;
      none_above = λ c k s. higher_false P a (λ z. true) e c k s refl;
    })))

-- upwards inside a component the ring leads on; n bounds how far the two zones lie apart
ring_up : {N : Network} → Proper N → (n : ℕ) {a b : ℕ} → In a N.zones → In b N.zones → Together N a b
    → a < b → b ≤ a + n → Reach (skeleton_of N) a b
ring_up P zero i j t l f = absurd (omega arith)
ring_up {N} P (suc n) {a} {b} i j t l f =
    elim (bool_cases (higher N a (λ c. ltb c b))) [
      | inl e ↦
          let h = higher_true N a (λ c. ltb c b) e in
          let k : a < h.0 = h.2 in
          let u : h.0 < b = ltb-true h.0 b h.3 in
          let s : Together N h.0 b = together_trans (together_sym h.4) t in
          reach_trans (ring_up P n i h.1 h.4 k (omega arith)) (ring_up P n h.1 j s u (omega arith))
      | inr e ↦ next_reach P i j t l e
    ]

-- no zone of the list is above the bound
bound : (xs : List ℕ) → (m : ℕ) × ((x : ℕ) → In x xs → x ≤ m)
bound [] = (0, λ x i. absurd (Memᴰ.not-nil i))
bound (y ∷ ys) =
    let h = bound ys in (
      y + h.0,
      λ x i. elim (Memᴰ.cases_cons i) [ inl e ↦ omega arith | inr k ↦ let l = h.1 x k in omega arith ],
    )

-- the highest zone of a component leads to the name
top_reach : {N : Network} → Proper N → {a : ℕ} → In a N.zones → higher N a (λ c. true) ≡ false
    → Reach (skeleton_of N) a (name N a)
top_reach P i e =
    elim (eq-or-lt_of_le (name_lowest P i i together_refl)) [
      | inl h ↦ same (sym h)
      | inr h ↦ last_reach P i (name_in P i) (name_together P i) h (name_name P i) e
    ]

-- from each zone the ring leads up to the highest and so to the name; no zone is above a + n
ring_round : {N : Network} → Proper N → (n : ℕ) {a : ℕ} → In a N.zones
    → ((x : ℕ) → In x N.zones → x ≤ a + n) → Reach (skeleton_of N) a (name N a)
ring_round {N} P zero {a} i f =
    top_reach P i (false_unless (higher N a (λ c. true)) (λ e.
    let h = higher_true N a (λ c. true) e in
    let k : a < h.0 = h.2 in
    let l : h.0 ≤ a + 0 = f h.0 h.1 in
    omega arith))
ring_round {N} P (suc n) {a} i f =
    elim (bool_cases (higher N a (λ c. true))) [
      | inl e ↦
          let h = higher_true N a (λ c. true) e in
          let k : a < h.0 = h.2 in
          let r : Reach (skeleton_of N) h.0 (name N h.0) =
          ring_round P n h.1 (λ x j. let l = f x j in omega arith)
          in
          reach_trans (ring_up P h.0 i h.1 h.4 k (omega arith)) (rw (name_agree P i h.1 h.4) r)
      | inr e ↦ top_reach P i e
    ]

-- the ring leads from each zone to the name
to_name : {N : Network} → Proper N → {a : ℕ} → In a N.zones → Reach (skeleton_of N) a (name N a)
to_name {N} P i =
    let h = bound N.zones in
    ring_round P h.0 i (λ x j. let l = h.1 x j in omega arith)

-- the ring leads from the name to each zone
from_name : {N : Network} → Proper N → {a : ℕ} → In a N.zones → Reach (skeleton_of N) (name N a) a
from_name P {a} i =
    elim (eq-or-lt_of_le (name_lowest P i i together_refl)) [
      | inl h ↦ same h
      | inr h ↦ ring_up P a (name_in P i) i (together_sym (name_together P i)) h (omega arith)
    ]

-- inside a component the ring leads from each zone to each other
pub ring_reach : {N : Network} → Proper N → {a b : ℕ} → In a N.zones → In b N.zones → Together N a b
    → Reach (skeleton_of N) a b
ring_reach P {a} {b} i j t = reach_trans (to_name P i) (rw (name_agree P i j t) (from_name P j))

-- what lies between two components lies between any two zones of theirs
between_move : {N : Network} {a b x y c : ℕ} → Together N a x → Together N b y → Between N a b c → Between N x y c
between_move s t h =
    record {
      apart_start = λ u. h.apart_start (together_trans s u);
      apart_end = λ u. h.apart_end (together_trans u (together_sym t));
      from_start = reach_trans s.1 h.from_start;
      to_end = reach_trans h.to_end t.0;
    }

-- between two components with nothing between an arc crosses, from name to name
bridge_crosses : {N : Network} → Proper N → {a b : ℕ} → In a N.zones → In b N.zones → Reach N a b
    → (Together N a b → ⊥) → ((c : ℕ) → In c N.zones → Between N a b c → ⊥) → Crosses N (name N a) (name N b)
bridge_crosses {N} P {a} {b} i j r n clear = record {
  tail_names = name_name P i;
  head_names = name_name P j;
  apart = apart;
  arc = gap P (reach_trans s.1 (reach_trans r t.0)) apart between_names;
  clear = between_names;
}
  where
    s : Together N a (name N a)
    s = name_together P i

    t : Together N b (name N b)
    t = name_together P j

    apart : Together N (name N a) (name N b) → ⊥
    apart u = n (together_trans s (together_trans u (together_sym t)))

    between_names : (c : ℕ) → In c N.zones → Between N (name N a) (name N b) c → ⊥
    between_names c k h = clear c k (between_move (together_sym s) (together_sym t) h)

-- between two components with nothing between the skeleton leads from one to the other, through their names
bridge_reach : {N : Network} → Proper N → {a b : ℕ} → In a N.zones → In b N.zones → Reach N a b
    → (Together N a b → ⊥) → any (between N a b) N.zones ≡ false → Reach (skeleton_of N) a b
bridge_reach {N} P {a} {b} i j r n e =
    let clear : (c : ℕ) → In c N.zones → Between N a b c → ⊥
    = λ c k h. true_not_false (true_between P a b c h) (any_false (between N a b) e k) in
    let m : Crosses N (name N a) (name N b) = bridge_crosses P i j r n clear in
    reach_trans (to_name P i)
    (reach_trans (kinds_reach P (name_in P i) (name_in P j) (inr m)) (from_name P j))

-- how many zones lie between
between_count : Network → ℕ → ℕ → ℕ
between_count N a b = length (keep (between N a b) N.zones)

-- fewer zones lie between x and y than between a and b, if all of those do, and one does not that lies between a and b
fewer_between : {N : Network} → Proper N → {a b x y c : ℕ} → ((z : ℕ) → Between N x y z → Between N a b z)
    → In c N.zones → (Between N x y c → ⊥) → Between N a b c → between_count N x y < between_count N a b
unfolding between_count
fewer_between {N} P {a} {b} {x} {y} {c} within i n h =
    fewer_keep (between N x y) (between N a b) N.zones
    (λ z j e. true_between P a b z (within z (between_true P x y z e)))
    i (false_unless (between N x y c) (λ e. n (between_true P x y c e)))
    (true_between P a b c h)

-- in front of a zone that lies between there lie fewer
fewer_before : {N : Network} → Proper N → {a b c : ℕ} → In c N.zones → Between N a b c
    → between_count N a c < between_count N a b
fewer_before P i h =
    fewer_between P
    (λ z k. record {
      apart_start = k.apart_start;
      apart_end = λ u. k.apart_end (k.to_end, reach_trans h.to_end u.1);
      from_start = k.from_start;
      to_end = reach_trans k.to_end h.to_end;
    })
    i (λ k. k.apart_end together_refl) h

-- behind a zone that lies between there lie fewer
fewer_behind : {N : Network} → Proper N → {a b c : ℕ} → In c N.zones → Between N a b c
    → between_count N c b < between_count N a b
fewer_behind P i h =
    fewer_between P
    (λ z k. record {
      apart_start = λ u. k.apart_start (k.from_start, reach_trans u.1 h.from_start);
      apart_end = k.apart_end;
      from_start = reach_trans h.from_start k.from_start;
      to_end = k.to_end;
    })
    i (λ k. k.apart_start together_refl) h

-- the skeleton leads wherever the network does; fewer than n zones lie between
reach_bounded : {N : Network} → Proper N → (n : ℕ) {a b : ℕ} → In a N.zones → In b N.zones → Reach N a b
    → between_count N a b < n → Reach (skeleton_of N) a b
reach_bounded P zero i j r f = absurd (omega arith)
reach_bounded {N} P (suc n) {a} {b} i j r f =
    elim (together_cases P a b) [
      | inl t ↦ ring_reach P i j t
      | inr t ↦ elim (bool_cases (any (between N a b) N.zones)) [
        | inl e ↦
            let m = any_true (between N a b) N.zones e in
            let h : Between N a b m.0 = between_true P a b m.0 m.2 in
            let u = fewer_before P m.1 h in
            let v = fewer_behind P m.1 h in
            reach_trans (reach_bounded P n i m.1 h.from_start (omega arith))
            (reach_bounded P n m.1 j h.to_end (omega arith))
        | inr e ↦ bridge_reach P i j r t e
      ]
    ]

-- the skeleton has the same reach as its network
pub skeleton_reach : {N : Network} → Proper N → {a b : ℕ} → In a N.zones → In b N.zones
    → Reach (skeleton_of N) a b ↔ Reach N a b
skeleton_reach {N} P {a} {b} i j = (
  λ r. reach_runs (λ x y m. skeleton_run P m) r,
  λ r. reach_bounded P (suc (between_count N a b)) i j r (omega arith),
)
