-- Chains of tests, each with what was found before it. Code puts a chain together with `?`, which hands on a trouble
-- that was found and else goes on to the tests behind: what the whole answers is found after what was found before.
--   FoundAfter      r is what was found before, or else what the tests xs find
--   found_goes_on   where none was found before, the tests decide
--   found_on        what is found after what was found is the first trouble of both lists of tests
--   found_next      so tests that find r, and then tests after r, are one list of tests: a call's chain is its list
--   found_same      lists of tests that have the same first trouble where none was found before find the same
-- Assumes nothing.
use mathlib.Core.Path.{◌≡◌, refl, sym, ap, ◌∙◌}
use mathlib.Core.List.{List, ◌++◌}
use mathlib.Core.Option.{Option, none, some}
use Prim.Native.Nat.{zero}
use Rattle.std.specs.Prelude.{Result, Ok}
use Rattle.rules.specs.declared.Trouble.{Trouble}
use Rattle.rules.specs.Calls.{Test, first_trouble}
use Rattle.theory.proofs.Files.Troubles.{or_else, first_trouble_append}
use Rattle.probes.specs.Tested.{tested_trouble, FoundBy}

-- what was found before, or else what these tests find
pub record FoundAfter {A B : Type 0} (before : Result A Trouble) (xs : List Test) (r : Result B Trouble) : Type 0 where
  pub first : tested_trouble r ≡ or_else (tested_trouble before) (first_trouble xs)

-- where none was found before, the tests decide
pub found_goes_on : {A B : Type 0} {x : A} {r : Result B Trouble} {xs : List Test} → FoundBy xs r
    → FoundAfter (Ok x) xs r
found_goes_on f = record { first = f.first }

-- of three troubles the first is the first of the first two, or else the third
or_else_assoc : (t u v : Option Trouble) → or_else (or_else t u) v ≡ or_else t (or_else u v)
or_else_assoc none u v = refl
or_else_assoc (some t) u v = refl

-- tests after tests
pub found_on : {A B C : Type 0} {b : Result A Trouble} {r : Result B Trouble} {s : Result C Trouble} {xs ys : List Test}
    → FoundAfter b xs r → FoundAfter r ys s → FoundAfter b (xs ++ ys) s
found_on {b = b} {xs = xs} {ys = ys} p q =
    let t = tested_trouble b in
    record {
      first =
          q.first
          ∙ ap (λ (u : Option Trouble). or_else u (first_trouble ys)) p.first
          ∙ or_else_assoc t (first_trouble xs) (first_trouble ys)
          ∙ ap (or_else t) (sym (first_trouble_append xs ys));
    }

-- tests that find r, and then tests after r, are one list of tests
pub found_next : {A B : Type 0} {r : Result A Trouble} {s : Result B Trouble} {xs ys : List Test} → FoundBy xs r
    → FoundAfter r ys s → FoundBy (xs ++ ys) s
found_next p q = record { first = (found_on (found_goes_on {x = zero} p) q).first }

-- where none was found before, two lists of tests have the same first trouble: what one finds, the other does
pub found_same : {A B : Type 0} {b : Result A Trouble} {r : Result B Trouble} {xs ys : List Test}
    → (tested_trouble b ≡ none → first_trouble xs ≡ first_trouble ys) → FoundAfter b xs r → FoundAfter b ys r
found_same {b = b} {xs = xs} {ys = ys} h f = record { first = f.first ∙ go (tested_trouble b) h }
  where
    go : (t : Option Trouble) → (t ≡ none → first_trouble xs ≡ first_trouble ys)
        → or_else t (first_trouble xs) ≡ or_else t (first_trouble ys)
    go none h = h refl
    go (some t) h = refl
