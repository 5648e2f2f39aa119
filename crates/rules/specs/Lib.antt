-- What a reader must believe: document 01 as definitions that compute, and what each call promises.
-- A key to the notation:
--   name : T, then name x = ..   a definition: its type, and what it is; several lines go by cases
--   abbrev pub                   a definition that is read through everywhere;   pub   other files may use it
--   unfoldable pub               one that is closed until a line `unfolding name` opens it; neither changes a meaning
--   elim x [ a ↦ .. | b ↦ .. ]   by cases: what x is made of, and the value in each case
--   record { a = ..; b = .. }    a value with named fields, read as x.a;   x.0, x.1   the parts of an unnamed pair
--   A → B, (x : A) → B           a function, or a statement: if A then B; for every x of A, B
--   A × B, A ⊎ B, ⊥, Unit        both; one or the other; what is never so; what is always so
--   x ≡ y, In x xs               x and y are the same; x is an element of the list xs
--   {x : A}                      an argument that is left out;   module _ (x : A)   an argument of all below
--   x ∷ xs, [], xs ++ ys         lists;   a ⟶ b   the arc from a to b;   x'   another x
pub mod Lists
pub mod Answers
pub mod Network
pub mod Components
pub mod Skeleton
pub mod Plan
pub mod Number
pub mod File
pub mod Calls
pub mod Promises
pub mod Text
pub mod Cases
pub mod Orders
