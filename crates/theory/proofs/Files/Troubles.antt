-- The tests of a call, taken apart: the same laws for every call, whatever its tests are.
--   or_else t u     the trouble t, or u where t is none
--   first_trouble_append   one list of tests after another: the trouble of the first, or else that of the second
--   first_trouble_after, first_trouble_stays   the two cases of it
--   Passed ts       each test of the list passes
--   none_passed, passed_none     there is no trouble exactly where each test passes
--   passed_append, append_passed   one list after another: each test of both passes
--   goes_on, stops               what a test that does not fail, and one that fails, makes of the trouble
--   passes, both_pass            the same said of the first test, and of two lists, by their troubles
--   fails_or, either_fails       where there is a trouble: the first test, or list, says it, or those after it do
--   none_not_some                there is a trouble or none
-- Each goes by cases on whether the first test fails. Assumes nothing.
use Prim.Native.Nat.{ℕ}
use native.Mathlib.Omega.{arith}
use mathlib.Core.Path.{◌≡◌, refl, sym, ap, ◌∙◌}
use mathlib.Core.Logic.{◌⊎◌, inl, inr}
use mathlib.Core.List.{List, [], ◌∷◌, ◌++◌}
use mathlib.Core.Option.{Option, none, some}
use mathlib.Core.Bool.{Bool, true, false}
use Rattle.rules.specs.declared.Trouble.{Trouble}
use Rattle.rules.specs.Calls.{Test, first_trouble}

-- the first of two troubles
abbrev pub or_else : Option Trouble → Option Trouble → Option Trouble
or_else none u = u
or_else (some t) u = some t

-- a test before tests with a trouble v, or else w
before : (b : Bool) (r : Trouble) (u v w : Option Trouble) → u ≡ or_else v w
    → elim b [ true ↦ some r | false ↦ u ] ≡ or_else (elim b [ true ↦ some r | false ↦ v ]) w
before true r u v w e = refl
before false r u v w e = e

-- the first trouble of two lists of tests: that of the first list, or else that of the second
pub first_trouble_append : (xs ys : List Test)
    → first_trouble (xs ++ ys) ≡ or_else (first_trouble xs) (first_trouble ys)
first_trouble_append [] ys = refl
first_trouble_append (x ∷ xs) ys =
    before x.fails x.says (first_trouble (xs ++ ys)) (first_trouble xs) (first_trouble ys)
    (first_trouble_append xs ys)

-- where the first list has no trouble, the second decides
pub first_trouble_after : (xs ys : List Test) → first_trouble xs ≡ none → first_trouble (xs ++ ys) ≡ first_trouble ys
first_trouble_after xs ys e =
    first_trouble_append xs ys ∙ ap (λ (t : Option Trouble). or_else t (first_trouble ys)) e

-- a trouble of the first list stays
pub first_trouble_stays : {r : Trouble} (xs ys : List Test) → first_trouble xs ≡ some r
    → first_trouble (xs ++ ys) ≡ some r
first_trouble_stays xs ys e =
    first_trouble_append xs ys ∙ ap (λ (t : Option Trouble). or_else t (first_trouble ys)) e

-- where there is no trouble, the first test does not fail, and the rest has none
pub passes : (b : Bool) (r : Trouble) (u : Option Trouble)
    → ◌≡◌ {A = Option Trouble} (elim b [ true ↦ some r | false ↦ u ]) none → (b ≡ false) × (u ≡ none)
passes true r u e = (cc, cc)
passes false r u e = (refl, e)

-- a test that passes leaves what follows it
pub pass : (b : Bool) (r : Trouble) {u : Option Trouble} → b ≡ false → u ≡ none
    → ◌≡◌ {A = Option Trouble} (elim b [ true ↦ some r | false ↦ u ]) none
pass b r e f = rw (e, f)

-- a test that does not fail leaves the trouble to those after it
pub goes_on : {b : Bool} (r : Trouble) (u : Option Trouble) → b ≡ false
    → ◌≡◌ {A = Option Trouble} (elim b [ true ↦ some r | false ↦ u ]) u
goes_on r u e = rw e

-- one that fails is the trouble
pub stops : {b : Bool} (r : Trouble) (u : Option Trouble) → b ≡ true
    → ◌≡◌ {A = Option Trouble} (elim b [ true ↦ some r | false ↦ u ]) (some r)
stops r u e = rw e

-- where there is a trouble, the first test fails and says it, or those after it do
pub fails_or : (b : Bool) (r : Trouble) (u : Option Trouble) {t : Trouble}
    → ◌≡◌ {A = Option Trouble} (elim b [ true ↦ some r | false ↦ u ]) (some t)
    → ((b ≡ true) × (r ≡ t)) ⊎ ((b ≡ false) × (u ≡ some t))
fails_or true r u e = inl (refl, cc)
fails_or false r u e = inr (refl, e)

-- there is a trouble or none
pub none_not_some : {t : Option Trouble} {r : Trouble} → t ≡ none → t ≡ some r → ⊥
none_not_some e f = let z : ◌≡◌ {A = ℕ} 0 1 = cc in omega arith

-- where two lists of tests have no trouble, neither has
pub both_pass : (xs ys : List Test) → first_trouble (xs ++ ys) ≡ none
    → (first_trouble xs ≡ none) × (first_trouble ys ≡ none)
both_pass xs ys e = go (first_trouble xs) (sym (first_trouble_append xs ys) ∙ e)
  where
    go : (t : Option Trouble) → or_else t (first_trouble ys) ≡ none → (t ≡ none) × (first_trouble ys ≡ none)
    go none e = (refl, e)
    go (some r) e = (cc, cc)

-- where two lists of tests have a trouble, the first has it, or else the second
pub either_fails : (xs ys : List Test) {r : Trouble} → first_trouble (xs ++ ys) ≡ some r
    → (first_trouble xs ≡ some r) ⊎ (first_trouble ys ≡ some r)
either_fails xs ys {r} e = go (first_trouble xs) (sym (first_trouble_append xs ys) ∙ e)
  where
    go : (t : Option Trouble) → or_else t (first_trouble ys) ≡ some r → (t ≡ some r) ⊎ (first_trouble ys ≡ some r)
    go none e = inr e
    go (some u) e = inl e

-- each test of the list passes
abbrev pub Passed : List Test → Type 0
Passed [] = Unit {0}
Passed (x ∷ xs) = (x.fails ≡ false) × Passed xs

-- without a trouble each test passes
pub none_passed : (xs : List Test) → first_trouble xs ≡ none → Passed xs
none_passed [] e = tt
none_passed (x ∷ xs) e = let p = passes x.fails x.says (first_trouble xs) e in (p.0, none_passed xs p.1)

-- where each test passes there is no trouble
pub passed_none : (xs : List Test) → Passed xs → first_trouble xs ≡ none
passed_none [] p = refl
passed_none (x ∷ xs) p = pass x.fails x.says p.0 (passed_none xs p.1)

-- each test of one list after another passes: so does each of both
pub passed_append : (xs ys : List Test) → Passed (xs ++ ys) → Passed xs × Passed ys
passed_append [] ys p = (tt, p)
passed_append (x ∷ xs) ys p = let q = passed_append xs ys p.1 in ((p.0, q.0), q.1)

-- and back
pub append_passed : (xs ys : List Test) → Passed xs → Passed ys → Passed (xs ++ ys)
append_passed [] ys p q = q
append_passed (x ∷ xs) ys p q = (p.0, append_passed xs ys p.1 q)
