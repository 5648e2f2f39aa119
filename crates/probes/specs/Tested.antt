-- What the tests of a call find.
--   tested_trouble r   the trouble that was found, if there is one
--   FoundBy xs r       r is what the tests xs find: the first trouble of them
use Rattle.std.specs.Prelude.{◌≡◌, List, Result, Ok, Err}
use Rattle.std.proofs.Math.Option.{Option, none, some}
use Rattle.rules.specs.declared.Trouble.{Trouble}
use Rattle.rules.specs.Calls.{Test, first_trouble}

-- the trouble that was found, if there is one
abbrev pub tested_trouble : {A : Type 0} → Result A Trouble → Option Trouble
tested_trouble (Ok x) = none
tested_trouble (Err t) = some t

-- what these tests find
pub record FoundBy {A : Type 0} (xs : List Test) (r : Result A Trouble) : Type 0 where
  pub first : tested_trouble r ≡ first_trouble xs
