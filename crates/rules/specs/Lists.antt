-- Lists and tests that the rules are written with.
--   span a n       n numbers in a row, from a on
--   keep p xs     the elements that pass the test p, in their order
--   any p xs      whether some element passes;  every p xs   whether all do
--   first p d xs  the first element that passes, d where none does
--   listed xs z   whether the number z stands in the list
--   over new old  a lent list after a result: the result, and past it what was there
--   cleared k w   a lent list whose first k elements now are zeros
-- Each test stops where its answer is settled, so that the checker computes no more than it must.
use Rattle.std.specs.Prelude.{ℕ, zero, suc, List, [], ◌∷◌, ◌++◌, Bool, true, false, eqb, length, drop, replicate}

-- n numbers in a row, from a on
abbrev pub span : ℕ → ℕ → List ℕ
span a zero = []
span a (suc n) = a ∷ span (suc a) n

-- the elements that pass the test, in their order
abbrev pub keep : {A : Type 0} → (A → Bool) → List A → List A
keep p [] = []
keep p (x ∷ xs) = elim (p x) [ true ↦ x ∷ keep p xs | false ↦ keep p xs ]

-- whether some element passes the test
abbrev pub any : {A : Type 0} → (A → Bool) → List A → Bool
any p [] = false
any p (x ∷ xs) = elim (p x) [ true ↦ true | false ↦ any p xs ]

-- whether every element passes the test
abbrev pub every : {A : Type 0} → (A → Bool) → List A → Bool
every p [] = true
every p (x ∷ xs) = elim (p x) [ true ↦ every p xs | false ↦ false ]

-- the first element that passes the test, or d where none does
abbrev pub first : {A : Type 0} → (A → Bool) → A → List A → A
first p d [] = d
first p d (x ∷ xs) = elim (p x) [ true ↦ x | false ↦ first p d xs ]

-- whether a number stands in a list
abbrev pub listed : List ℕ → ℕ → Bool
listed xs z = any (eqb z) xs

-- what a lent list holds after a result was put into it: the result, and past it what was there
abbrev pub over : {A : Type 0} → List A → List A → List A
over new old = new ++ drop (length new) old

-- what lent work memory holds after a call that asked for k elements: k zeros, and past them what was there
abbrev pub cleared : ℕ → List ℕ → List ℕ
cleared k w = replicate k 0 ++ drop k w
