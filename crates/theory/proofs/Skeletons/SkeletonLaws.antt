-- Laws of the skeleton rule's tests: from each test to its meaning and back, and what the skeleton's arcs are.
--   Next, Last       b comes next after a in their component; b is its lowest zone and a its highest
--   Follows          one of the two: the meaning of `follows`
--   Joined, Between, Crosses   the meanings of `joined`, `between` and `crosses`
--   X_true, true-X   from the test X to its meaning, and back
--   skeleton_kinds, in_skeleton_of   the skeleton's arcs are those between zones that follow or cross
--   skeleton_ends, skeleton_apart    their ends are zones, and differ
-- Each test is made of smaller ones, and so is its law. Assumes nothing.
use Prim.Native.Nat.{ℕ, ◌<◌}
use mathlib.Core.Path.{◌≡◌, refl, sym, ap, ◌∙◌}
use mathlib.Core.Logic.{◌⊎◌, inl, inr}
use mathlib.Core.List.Memᴰ
use mathlib.Core.List.{
  List,
  [],
  ◌∷◌,
  map,
  flat_map,
  Memᴰ as In,
}
use mathlib.Core.Bool.{Bool, true, false, not, ◌&&◌}
use lib.Dec.{eqb, ltb}
use borrow.Author.Tests.{eqb-true, eqb-false, eq-eqb, ne_eqb, ltb-true, ltb-false, lt-ltb, le-ltb, not-true}
use native.Mathlib.Omega.{arith}
use Rattle.rules.specs.Lists.{any}
use Rattle.rules.specs.Network.{Arc, ◌⟶◌, Network, Reach, same, Proper}
use Rattle.rules.specs.Components.{together, name, is_name}
use Rattle.rules.specs.Skeleton.{pairs_of, higher, follows, joined, between, crosses, in_skeleton, skeleton}
use Rattle.theory.proofs.Ground.Bools.{
  and_true,
  true_and,
  true_not_false,
  false_not,
  false_unless,
  or_else_true,
  true_or_else,
}
use Rattle.theory.proofs.Ground.Lists.{any_true, true_any, false_any, keep_in, in_keep, map_in, in_map}
use Rattle.theory.proofs.Reaching.Reach.{reaches_sound, reaches_complete}
use Rattle.theory.proofs.Reaching.Components.{Together, together_sound, together_complete}

-- each arc of a row of pairs starts at the row's zone and ends at a zone of the list
pub row_in : {e : Arc} (a : ℕ) (hs : List ℕ) → In e (map (λ b. a ⟶ b) hs) → (e.tail ≡ a) × In e.head hs
row_in {e} a hs i =
    let m = map_in (λ b. a ⟶ b) {y = e} hs i in
    (ap (λ (x : Arc). x.tail) m.2, Memᴰ.cast (ap (λ (x : Arc). x.head) m.2) m.1)

-- each arc of the rows starts at a zone of the first list and ends at one of the second
pub rows_in : {e : Arc} (ts hs : List ℕ) → In e (flat_map (λ a. map (λ b. a ⟶ b) hs) ts)
    → In e.tail ts × In e.head hs
unfolding flat_map
rows_in [] hs i = absurd (Memᴰ.not-nil i)
rows_in (a ∷ ts) hs i =
    elim (Memᴰ.append_cases (map (λ b. a ⟶ b) hs) i) [
      | inl r ↦ let h = row_in a hs r in (In.head h.0, h.1)
      | inr r ↦ let h = rows_in ts hs r in (In.tail h.0, h.1)
    ]

-- an arc from a zone of the first list to one of the second is in the rows
in_rows : {a b : ℕ} (ts hs : List ℕ) → In a ts → In b hs → In (a ⟶ b) (flat_map (λ a. map (λ b. a ⟶ b) hs) ts)
unfolding flat_map
in_rows [] hs i j = absurd (Memᴰ.not-nil i)
in_rows {b} (c ∷ ts) hs i j =
    elim (Memᴰ.cases_cons i) [
      | inl e ↦ Memᴰ.append_left _ (Memᴰ.cast (ap (λ (x : ℕ). x ⟶ b) e) (in_map (λ y. c ⟶ y) j))
      | inr r ↦ Memᴰ.append_right (map (λ y. c ⟶ y) hs) (in_rows ts hs r j)
    ]

-- a pair of zones is two zones of the list
pub pairs_in : {e : Arc} (zs : List ℕ) → In e (pairs_of zs) → In e.tail zs × In e.head zs
unfolding pairs_of flat_map
pairs_in zs i = rows_in zs zs i

-- two zones of the list are a pair of zones
pub in_pairs : {e : Arc} (zs : List ℕ) → In e.tail zs → In e.head zs → In e (pairs_of zs)
unfolding pairs_of flat_map
in_pairs zs i j = in_rows zs zs i j

-- b comes next after a in their component
pub record Next (N : Network) (a b : ℕ) : Type 0 where
  pub up : a < b
  pub mates : Together N a b
  pub none_between : (c : ℕ) → In c N.zones → a < c → c < b → Together N a c → ⊥

-- b is the lowest zone of a component of two zones or more, and a the highest
pub record Last (N : Network) (a b : ℕ) : Type 0 where
  pub down : b < a
  pub mates : Together N a b
  pub lowest : name N b ≡ b
  pub none_above : (c : ℕ) → In c N.zones → a < c → Together N a c → ⊥

-- the arc from a to b is in the ring of a component: the meaning of `follows`
abbrev pub Follows : Network → ℕ → ℕ → Type 0
Follows N a b = Next N a b ⊎ Last N a b

-- c lies in a third component, which a's reaches and which reaches b's: the meaning of `between`
pub record Between (N : Network) (a b c : ℕ) : Type 0 where
  pub apart_start : Together N a c → ⊥
  pub apart_end : Together N c b → ⊥
  pub from_start : Reach N a c
  pub to_end : Reach N c b

-- some arc joins a's component to b's: the meaning of `joined`
abbrev pub Joined : Network → ℕ → ℕ → Type 0
Joined N a b = (e : Arc) × In e N.arcs × Together N e.tail a × Together N e.head b

-- a and b name two components that an arc joins, and no third lies between: the meaning of `crosses`
pub record Crosses (N : Network) (a b : ℕ) : Type 0 where
  pub tail_names : name N a ≡ a
  pub head_names : name N b ≡ b
  pub apart : Together N a b → ⊥
  pub arc : Joined N a b
  pub clear : (c : ℕ) → In c N.zones → Between N a b c → ⊥

-- a zone that is a name names itself
pub is_name_true : (N : Network) (z : ℕ) → is_name N z ≡ true → name N z ≡ z
unfolding is_name
is_name_true N z e = eqb-true (name N z) z e

-- a zone that names itself is a name
pub true_is_name : (N : Network) (z : ℕ) → name N z ≡ z → is_name N z ≡ true
unfolding is_name
true_is_name N z e = eq-eqb (name N z) z e

-- where two zones are not together, `together` says no
apart_not : (N : Network) (a b : ℕ) → (Together N a b → ⊥) → not (together N a b) ≡ true
apart_not N a b h = false_not (false_unless (together N a b) (λ e. h (together_sound N a b e)))

-- where `together` says no, two zones are not together
pub not_apart : {N : Network} → Proper N → (a b : ℕ) → not (together N a b) ≡ true → Together N a b → ⊥
not_apart P a b e t = true_not_false (together_complete P t) (not-true _ e)

-- where `joined` says yes, an arc joins the two components
pub joined_true : (N : Network) (a b : ℕ) → joined N a b ≡ true → Joined N a b
unfolding joined
joined_true N a b e =
    let h = any_true (λ (x : Arc). together N x.tail a && together N x.head b) N.arcs e in
    let m = and_true _ _ h.2 in
    (h.0, h.1, together_sound N _ _ m.0, together_sound N _ _ m.1)

-- where `between` says yes, the zone lies between
pub between_true : {N : Network} → Proper N → (a b c : ℕ) → between N a b c ≡ true → Between N a b c
unfolding between
between_true {N} P a b c e =
    let m = and_true _ _ e in
    let t = and_true _ _ m.0 in
    let r = and_true _ _ m.1 in
    record {
      apart_start = not_apart P a c t.0;
      apart_end = not_apart P c b t.1;
      from_start = reaches_sound N a c r.0;
      to_end = reaches_sound N c b r.1;
    }

-- where an arc joins the two components, `joined` says yes
pub true_joined : {N : Network} → Proper N → (a b : ℕ) → Joined N a b → joined N a b ≡ true
unfolding joined
true_joined {N} P a b j =
    true_any (λ (x : Arc). together N x.tail a && together N x.head b) j.1
    (true_and (together_complete P j.2) (together_complete P j.3))

-- where the zone lies between, `between` says yes
pub true_between : {N : Network} → Proper N → (a b c : ℕ) → Between N a b c → between N a b c ≡ true
unfolding between
true_between {N} P a b c h =
    true_and (true_and (apart_not N a c h.apart_start) (apart_not N c b h.apart_end))
    (true_and (reaches_complete P h.from_start) (reaches_complete P h.to_end))

-- where `between` says no of every zone, none lies between
pub clear_true : {N : Network} → Proper N → (a b : ℕ) → not (any (between N a b) N.zones) ≡ true
    → (c : ℕ) → In c N.zones → Between N a b c → ⊥
clear_true {N} P a b e c i h =
    true_not_false (true_any (between N a b) i (true_between P a b c h)) (not-true _ e)

-- where no zone lies between, `between` says no of every one
true_clear : {N : Network} → Proper N → (a b : ℕ) → ((c : ℕ) → In c N.zones → Between N a b c → ⊥)
    → not (any (between N a b) N.zones) ≡ true
true_clear {N} P a b h =
    false_not (false_any (between N a b) N.zones
    (λ c i. false_unless (between N a b c) (λ e. h c i (between_true P a b c e))))

-- where `crosses` says yes, the arc crosses
pub crosses_true : {N : Network} → Proper N → (a b : ℕ) → crosses N a b ≡ true → Crosses N a b
unfolding crosses
crosses_true {N} P a b e =
    let m = and_true _ _ e in
    let n = and_true _ _ m.0 in
    let r = and_true _ _ m.1 in
    let j = and_true _ _ r.0 in
    record {
      tail_names = is_name_true N a n.0;
      head_names = is_name_true N b n.1;
      apart = not_apart P a b j.0;
      arc = joined_true N a b j.1;
      clear = clear_true P a b r.1;
    }

-- where the arc crosses, `crosses` says yes
pub true_crosses : {N : Network} → Proper N → (a b : ℕ) → Crosses N a b → crosses N a b ≡ true
unfolding crosses
true_crosses {N} P a b h =
    true_and (true_and (true_is_name N a h.tail_names) (true_is_name N b h.head_names))
    (true_and (true_and (apart_not N a b h.apart) (true_joined P a b h.arc)) (true_clear P a b h.clear))

-- where `higher` says yes, a zone of the component above a passes
pub higher_true : (N : Network) (a : ℕ) (p : ℕ → Bool) → higher N a p ≡ true
    → (c : ℕ) × In c N.zones × (a < c) × (p c ≡ true) × Together N a c
unfolding higher
higher_true N a p e =
    let h = any_true (λ c. ltb a c && (p c && together N a c)) N.zones e in
    let m = and_true _ _ h.2 in
    let r = and_true _ _ m.1 in
    (h.0, h.1, ltb-true a h.0 m.0, r.0, together_sound N a h.0 r.1)

-- where `higher` says no, no zone of the component above a passes
pub higher_false : {N : Network} → Proper N → (a : ℕ) (p : ℕ → Bool) → higher N a p ≡ false
    → (c : ℕ) → In c N.zones → a < c → p c ≡ true → Together N a c → ⊥
unfolding higher
higher_false {N} P a p e c i l q t =
    true_not_false
    (true_any (λ z. ltb a z && (p z && together N a z)) i
    (true_and (lt-ltb a c l) (true_and q (together_complete P t))))
    e

-- where no zone of the component above a passes, `higher` says no
not_higher : (N : Network) (a : ℕ) (p : ℕ → Bool)
    → ((c : ℕ) → In c N.zones → a < c → p c ≡ true → Together N a c → ⊥) → not (higher N a p) ≡ true
not_higher N a p h =
    false_not (false_unless (higher N a p)
    (λ e. let t = higher_true N a p e in h t.0 t.1 t.2 t.3 t.4))

-- a test in two steps is both tests together
two_steps : (t u x y : Bool)
    → elim t [ false ↦ false | true ↦ elim u [ true ↦ x | false ↦ y ] ] ≡ (t && elim u [ true ↦ x | false ↦ y ])
two_steps false u x y = refl
two_steps true u x y = refl

-- point 1's test for two zones of a component, with whether the second is above the first
abbrev ring_test : Network → ℕ → ℕ → Bool → Bool
ring_test N a b u =
    elim u [ true ↦ not (higher N a (λ c. ltb c b)) | false ↦ is_name N b && not (higher N a (λ c. true)) ]

-- point 1's test, cut into what both cases share and the two cases
follows_cut : (N : Network) (a b : ℕ)
    → follows N a b ≡ ((not (eqb a b) && together N a b) && ring_test N a b (ltb a b))
unfolding follows
follows_cut N a b = two_steps (not (eqb a b) && together N a b) (ltb a b) _ _

-- where `follows` says yes, the arc is in the ring
pub follows_true : {N : Network} → Proper N → (a b : ℕ) → follows N a b ≡ true → Follows N a b
follows_true {N} P a b e = go (ltb a b) refl m.1
  where
    m : ((not (eqb a b) && together N a b) ≡ true) × (ring_test N a b (ltb a b) ≡ true)
    m = and_true (not (eqb a b) && together N a b) (ring_test N a b (ltb a b)) (sym (follows_cut N a b) ∙ e)

    n : (not (eqb a b) ≡ true) × (together N a b ≡ true)
    n = and_true _ _ m.0

    go : (u : Bool) → ltb a b ≡ u → ring_test N a b u ≡ true → Follows N a b
    go true l h =
        inl (record {
          up = ltb-true a b l;
          mates = together_sound N a b n.1;
          none_between = λ c i s t. higher_false P a (λ z. ltb z b) (not-true _ h) c i s (lt-ltb c b t);
        })
    go false l h =
        let d : a ≡ b → ⊥ = eqb-false a b (not-true _ n.0) in
        let k = and_true (is_name N b) _ h in
        let l = ltb-false a b l in
        inr (record {
          down = omega arith;
          mates = together_sound N a b n.1;
          lowest = is_name_true N b k.0;
          none_above = λ c i s. higher_false P a (λ z. true) (not-true _ k.1) c i s refl;
        })

-- where the arc is in the ring, `follows` says yes
pub true_follows : {N : Network} → Proper N → (a b : ℕ) → Follows N a b → follows N a b ≡ true
true_follows {N} P a b (inl h) =
    rw (follows_cut N a b, lt-ltb a b h.up)
    (true_and (true_and (false_not (ne_eqb a b (omega arith))) (together_complete P h.mates))
    (not_higher N a (λ c. ltb c b) (λ c i s t. h.none_between c i s (ltb-true c b t))))
true_follows {N} P a b (inr h) =
    rw (follows_cut N a b, le-ltb a b (omega arith))
    (true_and (true_and (false_not (ne_eqb a b (omega arith))) (together_complete P h.mates))
    (true_and (true_is_name N b h.lowest) (not_higher N a (λ c. true) (λ c i s t. h.none_above c i s))))

-- an arc of the skeleton is between zones
pub skeleton_ends : {e : Arc} (N : Network) → In e (skeleton N) → In e.tail N.zones × In e.head N.zones
unfolding skeleton
skeleton_ends N i = pairs_in N.zones (keep_in (in_skeleton N) (pairs_of N.zones) i).0

-- an arc of the skeleton is in the ring of a component or crosses from one to another
pub skeleton_kinds : {N : Network} → Proper N → {e : Arc} → In e (skeleton N)
    → Follows N e.tail e.head ⊎ Crosses N e.tail e.head
unfolding skeleton in_skeleton
skeleton_kinds {N} P {e} i =
    let k = keep_in (in_skeleton N) (pairs_of N.zones) i in
    elim (or_else_true (follows N e.tail e.head) (crosses N e.tail e.head) k.1) [
      | inl h ↦ inl (follows_true P e.tail e.head h)
      | inr h ↦ inr (crosses_true P e.tail e.head h)
    ]

-- the test of one of the two kinds passes where an arc is of that kind
true_kinds : {N : Network} → Proper N → {a b : ℕ} → Follows N a b ⊎ Crosses N a b
    → (follows N a b ≡ true) ⊎ (crosses N a b ≡ true)
true_kinds P {a} {b} (inl h) = inl (true_follows P a b h)
true_kinds P {a} {b} (inr h) = inr (true_crosses P a b h)

-- an arc between zones that is of one of the two kinds is in the skeleton
pub in_skeleton_of : {N : Network} → Proper N → {a b : ℕ} → In a N.zones → In b N.zones
    → Follows N a b ⊎ Crosses N a b → In (a ⟶ b) (skeleton N)
unfolding skeleton in_skeleton
in_skeleton_of {N} P {a} {b} i j k =
    in_keep (in_skeleton N) (in_pairs N.zones i j) (true_or_else (follows N a b) (crosses N a b) (true_kinds P k))

-- the ends of a ring's arc are together
pub follows_together : {N : Network} {a b : ℕ} → Follows N a b → Together N a b
follows_together (inl h) = h.mates
follows_together (inr h) = h.mates

-- the ends of a ring's arc differ
pub follows_apart : {N : Network} {a b : ℕ} → Follows N a b → a ≡ b → ⊥
follows_apart (inl h) e = omega arith
follows_apart (inr h) e = omega arith

-- no arc of the skeleton goes from a zone to itself
pub skeleton_apart : {N : Network} → Proper N → {e : Arc} → In e (skeleton N) → e.tail ≡ e.head → ⊥
skeleton_apart P i q =
    elim (skeleton_kinds P i) [ inl h ↦ follows_apart h q | inr h ↦ h.apart (same q, same (sym q)) ]
