-- Laws of yes and no, in the words of tests: a test's value, and what follows from it.
--   bool_cases     a value is true or false
--   bool_agree     two values of which each is true where the other is are equal
--   and_true, true_and     a conjunction is true exactly when both sides are
--   and_then, or_else      conjunction and disjunction that stop where the answer is settled, with the same laws
--   or_false               neither side of a disjunction that is false is true
--   false_not, true_not    the negation of a value that is known
-- By cases on the values. Assumes nothing.
use mathlib.Core.Path.{◌≡◌, refl, sym, ◌∙◌, ap}
use mathlib.Core.Logic.{◌⊎◌, inl, inr}
use mathlib.Core.Bool.{Bool, true, false, not, ◌&&◌, ◌||◌, true≢false, false≢true}

-- a value is true or false
pub bool_cases : (b : Bool) → (b ≡ true) ⊎ (b ≡ false)
bool_cases true = inl refl
bool_cases false = inr refl

-- no value is both true and false
pub true_not_false : {b : Bool} → b ≡ true → b ≡ false → ⊥
true_not_false e f = true≢false (sym e ∙ f)

-- a value that cannot be true is false
pub false_unless : (b : Bool) → (b ≡ true → ⊥) → b ≡ false
false_unless true h = absurd (h refl)
false_unless false h = refl

-- a value that cannot be false is true
pub true_unless : (b : Bool) → (b ≡ false → ⊥) → b ≡ true
true_unless true h = refl
true_unless false h = absurd (h refl)

-- two values of which each is true where the other is are equal
pub bool_agree : {a b : Bool} → (a ≡ true → b ≡ true) → (b ≡ true → a ≡ true) → a ≡ b
bool_agree {a = true} {b = true} f g = refl
bool_agree {a = true} {b = false} f g = sym (f refl)
bool_agree {a = false} {b = true} f g = g refl
bool_agree {a = false} {b = false} f g = refl

-- both sides of a conjunction that is true are true
pub and_true : (a b : Bool) → (a && b) ≡ true → (a ≡ true) × (b ≡ true)
and_true true b e = (refl, e)
and_true false b e = absurd (false≢true e)

-- a conjunction is true where both sides are
pub true_and : {a b : Bool} → a ≡ true → b ≡ true → (a && b) ≡ true
true_and e f = rw (e, f)

-- a conjunction that looks at b only where a is true, as the rules write it
abbrev pub and_then : Bool → Bool → Bool
and_then a b = elim a [ true ↦ b | false ↦ false ]

-- a disjunction that looks at b only where a is false, as the rules write it
abbrev pub or_else : Bool → Bool → Bool
or_else a b = elim a [ true ↦ true | false ↦ b ]

-- both sides of such a conjunction that is true are true
pub and_then_true : (a b : Bool) → and_then a b ≡ true → (a ≡ true) × (b ≡ true)
and_then_true true b e = (refl, e)
and_then_true false b e = absurd (false≢true e)

-- such a conjunction is true where both sides are
pub true_and_then : {a b : Bool} → a ≡ true → b ≡ true → and_then a b ≡ true
true_and_then e f = rw (e, f)

-- one side of such a disjunction that is true is true
pub or_else_true : (a b : Bool) → or_else a b ≡ true → (a ≡ true) ⊎ (b ≡ true)
or_else_true true b e = inl refl
or_else_true false b e = inr e

-- such a disjunction is true where one side is
pub true_or_else : (a b : Bool) → (a ≡ true) ⊎ (b ≡ true) → or_else a b ≡ true
true_or_else true b h = refl
true_or_else false b (inl e) = absurd (false≢true e)
true_or_else false b (inr e) = e

-- the negation of a value that is false
pub false_not : {b : Bool} → b ≡ false → not b ≡ true
false_not e = ap not e

-- the negation of a value that is true
pub true_not : {b : Bool} → b ≡ true → not b ≡ false
true_not e = ap not e

-- neither side of a disjunction that is false is true
pub or_false : (a b : Bool) → (a || b) ≡ false → (a ≡ false) × (b ≡ false)
or_false true b e = absurd (true≢false e)
or_false false b e = (refl, e)

-- one side of a disjunction that is true is true
pub or_true : (a b : Bool) → (a || b) ≡ true → (a ≡ true) ⊎ (b ≡ true)
or_true true b e = inl refl
or_true false b e = inr e

-- a disjunction is true where one side is
pub true_or : (a b : Bool) → (a ≡ true) ⊎ (b ≡ true) → (a || b) ≡ true
true_or true b h = refl
true_or false b (inl e) = absurd (true_not_false e refl)
true_or false b (inr e) = e

-- the negation of a test that is true
pub not_true : (b : Bool) → not b ≡ true → b ≡ false
not_true true e = sym e
not_true false e = refl
