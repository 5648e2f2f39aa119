-- What copying in lent work memory asks and leaves. `sets l i xs` is the list l after stores of the elements of xs,
-- one behind the other, from index i on.
--   Copyable, Copied     n elements go to lower places
use Rattle.std.specs.Prelude.{◌≡◌, List, ℕ, ◌+◌, ◌≤◌, length}
use Rattle.std.proofs.lemmas.List.Edits.{sets}
use Rattle.memory.specs.Regions.{part}

-- n elements can be copied to lower places: the two stretches do not meet
pub record Copyable (w : List ℕ) (from n to : ℕ) : Type 0 where
  pub apart : to + n ≤ from
  pub fits : from + n ≤ length w

-- they are copied, and nothing else is changed
pub record Copied (w w' : List ℕ) (from n to : ℕ) : Type 0 where
  pub is : w' ≡ sets w to (part w from n)
