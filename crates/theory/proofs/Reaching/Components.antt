-- Components and their names.
--   Together N a b                      a and b are in one component: each reaches the other
--   together_sound, together_complete   `together` tells exactly that
--   name_together, name_lowest          a zone's name is a zone of its component, and the lowest
--   name_agree, name_apart              two zones have one name exactly when they are in one component
--   names_zone, name_is_name            `names` lists exactly the names of zones;   names_apart   each component once
-- The zones ascend, so the first zone of a component is its lowest; two lowest zones of one component are at most each
-- other. Assumes nothing.
use Prim.Native.Nat.{ℕ, ◌≤◌}
use mathlib.Core.Path.{◌≡◌, sym, ◌∙◌}
use mathlib.Core.Bool.{true}
use mathlib.Core.List.{Memᴰ as In}
use native.Mathlib.Omega.{arith}
use borrow.Author.Tests.{eqb-true, eq-eqb}
use Rattle.rules.specs.Network.{Network, Proper, Reach, Ascending, reaches}
use Rattle.rules.specs.Components.{together, name, is_name, names}
use Rattle.theory.proofs.Ground.Bools.{and_then_true, true_and_then}
use Rattle.theory.proofs.Ground.Lists.{first_true, keep_in, in_keep}
use Rattle.theory.proofs.Ground.Ascending.{first_lowest, keep_ascending}
use Rattle.theory.proofs.Ground.Counting.{Distinct, ascending_distinct}
use Rattle.theory.proofs.Reaching.Reach.{reach_refl, reach_trans, reach_zone, reaches_sound, reaches_complete}

-- a and b are in one component: each reaches the other
abbrev pub Together : Network → ℕ → ℕ → Type 0
Together N a b = Reach N a b × Reach N b a

-- where the test says yes, the two are in one component
pub together_sound : (N : Network) (a b : ℕ) → together N a b ≡ true → Together N a b
unfolding together
together_sound N a b h =
    let t = and_then_true (reaches N a b) (reaches N b a) h in
    (reaches_sound N a b t.0, reaches_sound N b a t.1)

-- where the two are in one component, the test says yes
pub together_complete : {N : Network} → Proper N → {a b : ℕ} → Together N a b → together N a b ≡ true
unfolding together
together_complete P t = true_and_then (reaches_complete P t.0) (reaches_complete P t.1)

-- a zone is in one component with itself
pub together_refl : {N : Network} {a : ℕ} → Together N a a
together_refl = (reach_refl, reach_refl)

-- the test says that a zone is in one component with itself
pub together_self : {N : Network} → Proper N → (a : ℕ) → together N a a ≡ true
together_self P a = together_complete P {a = a} together_refl

-- if a is in one component with b, then b is with a
pub together_sym : {N : Network} {a b : ℕ} → Together N a b → Together N b a
together_sym t = (t.1, t.0)

-- if a is in one component with b and b with c, then a is with c
pub together_trans : {N : Network} {a b c : ℕ} → Together N a b → Together N b c → Together N a c
together_trans t u = (reach_trans t.0 u.0, reach_trans u.1 t.1)

-- what is in one component with a zone is a zone
pub together_zone : {N : Network} → Proper N → {a b : ℕ} → In a N.zones → Together N a b → In b N.zones
together_zone P i t = reach_zone P i t.0

-- the name of a zone is a zone
pub name_in : {N : Network} → Proper N → {z : ℕ} → In z N.zones → In (name N z) N.zones
unfolding name
name_in {N} P {z} i = (first_true (together N z) z i (together_self P z)).0

-- a zone is in one component with its name
pub name_together : {N : Network} → Proper N → {z : ℕ} → In z N.zones → Together N z (name N z)
unfolding name
name_together {N} P {z} i =
    together_sound N z (name N z) (first_true (together N z) z i (together_self P z)).1

-- the name is the lowest zone of the component
pub name_lowest : {N : Network} → Proper N → {z w : ℕ}
    → In z N.zones → In w N.zones → Together N z w → name N z ≤ w
unfolding name
name_lowest {N} P {z} i j t =
    first_lowest (together N z) z N.zones P.ascending j (together_complete P t)

-- two zones of one component have the same name
pub name_agree : {N : Network} → Proper N → {a b : ℕ}
    → In a N.zones → In b N.zones → Together N a b → name N a ≡ name N b
name_agree P i j t =
    let l = name_lowest P i (name_in P j) (together_trans t (name_together P j)) in
    let g = name_lowest P j (name_in P i) (together_trans (together_sym t) (name_together P i)) in
    omega arith

-- two zones with the same name are in one component
pub name_apart : {N : Network} → Proper N → {a b : ℕ}
    → In a N.zones → In b N.zones → name N a ≡ name N b → Together N a b
name_apart {N} P {a} {b} i j e =
    let t : Together N a (name N b) = rw e at (name_together P i) in
    together_trans t (together_sym (name_together P j))

-- the name of a zone's name is that name
pub name_name : {N : Network} → Proper N → {z : ℕ} → In z N.zones → name N (name N z) ≡ name N z
name_name P i = name_agree P (name_in P i) i (together_sym (name_together P i))

-- the name of a zone is listed among the names
pub name_is_name : {N : Network} → Proper N → {z : ℕ} → In z N.zones → In (name N z) (names N)
unfolding names is_name
name_is_name {N} P {z} i =
    in_keep (is_name N) (name_in P i) (eq-eqb (name N (name N z)) (name N z) (name_name P i))

-- a listed name is a zone, and its own name
pub names_zone : (N : Network) {c : ℕ} → In c (names N) → In c N.zones × (name N c ≡ c)
unfolding names is_name
names_zone N {c} m = let r = keep_in (is_name N) N.zones m in (r.0, eqb-true (name N c) c r.1)

-- listed names of one component are equal
pub names_apart : {N : Network} → Proper N → {a b : ℕ}
    → In a (names N) → In b (names N) → Together N a b → a ≡ b
names_apart {N} P m n t =
    let i = names_zone N m in
    let j = names_zone N n in
    sym i.1 ∙ name_agree P i.0 j.0 t ∙ j.1

-- the names ascend
pub names_ascending : {N : Network} → Proper N → Ascending (names N)
unfolding names
names_ascending {N} P = keep_ascending (is_name N) N.zones P.ascending

-- no name is listed twice
pub names_distinct : {N : Network} → Proper N → Distinct (names N)
names_distinct {N} P = ascending_distinct (names N) (names_ascending P)
