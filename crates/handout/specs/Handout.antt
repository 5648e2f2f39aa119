-- What handing out the first n links of the columns `at` of work memory asks and leaves.
--   Handable     the columns have so many elements, and each list has room for them
--   HandedOut   each list has its column in front, and is as it came behind it
use Rattle.std.specs.Prelude.{◌≡◌, List, ℕ, ◌+◌, ◌≤◌, length}
use Rattle.rules.specs.Lists.{over}
use Rattle.memory.specs.Regions.{part}
use Rattle.workmap.specs.declared.LinksAt.{LinksAt}

-- the columns have n elements each, and each list has room for them
pub record Handable (w : List ℕ) (at : LinksAt) (n : ℕ) (from to why : List ℕ) : Type 0 where
  pub starts : at.from + n ≤ length w
  pub ends : at.to + n ≤ length w
  pub whys : at.why + n ≤ length w
  pub from_room : n ≤ length from
  pub to_room : n ≤ length to
  pub why_room : n ≤ length why

-- each list has its column in front, and is as it came behind it
pub record HandedOut (w : List ℕ) (at : LinksAt) (n : ℕ) (from to why from' to' why' : List ℕ) : Type 0 where
  pub starts_out : from' ≡ over (part w at.from n) from
  pub ends_out : to' ≡ over (part w at.to n) to
  pub whys_out : why' ≡ over (part w at.why n) why
