-- What the contracts of the listing say of lent work memory, at the places K: the list of names, and behind it names
-- and the queue.
use Rattle.std.specs.Prelude.{◌≡◌, List, ℕ, ◌+◌, ◌≤◌, ◌<◌, length, take, drop}
use Rattle.workmap.specs.declared.NamesAt.{NamesAt}
use Rattle.memory.specs.Regions.{cell}
use Rattle.naming.specs.Picks.{Picks}

-- the regions lie one behind the other, inside the memory, and the queue holds zones
pub record TopsListable (w : List ℕ) (zones : ℕ) (K : NamesAt) : Type 0 where
  pub apart : K.tops + zones ≤ K.names
  pub before : K.names + zones ≤ K.queue
  pub fits : K.queue + zones ≤ length w
  pub zone : (i : ℕ) → i < zones → cell w K.queue i < zones

-- of the first n of the queue, m name themselves and are listed
pub record TopsListed (w w' : List ℕ) (zones : ℕ) (K : NamesAt) (n m : ℕ) : Type 0 where
  pub long : length w' ≡ length w
  pub front : take K.tops w' ≡ take K.tops w
  pub back : drop K.names w' ≡ drop K.names w
  pub picks : Picks (cell w K.queue) (cell w K.names) (cell w' K.tops) n m
