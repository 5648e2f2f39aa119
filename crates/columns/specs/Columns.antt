-- Records of links that stand in lent work memory as three columns of numbers.
--   LinkStands w at i        the memory is long enough for the record of index i
--   link_at w at i       the record of index i, from the columns of starts, ends and whys
--   Readable w at k      the memory is long enough for the first k records
--   filled w at ls k     a lent list of records after the first k were stored
use Rattle.std.specs.Prelude.{ℕ, zero, suc, ◌+◌, ◌<◌, List, length, get_or, set}
use Rattle.workmap.specs.declared.LinksAt.{LinksAt}
use Rattle.rules.specs.Plan.{why_numbered}
use Rattle.rules.specs.declared.Link.{Link}

-- the memory is long enough for the record of index i
pub record LinkStands (w : List ℕ) (at : LinksAt) (i : ℕ) : Type 0 where
  pub start_in : at.from + i < length w
  pub end_in : at.to + i < length w
  pub why_in : at.why + i < length w

-- the record of index i: its start, its end and the number of its why, each from its column
abbrev pub link_at : List ℕ → LinksAt → ℕ → Link
link_at w at i =
    record {
      from = get_or w (at.from + i) 0;
      to = get_or w (at.to + i) 0;
      why = why_numbered (get_or w (at.why + i) 0);
    }

-- the memory is long enough for the first k records
abbrev pub Readable : List ℕ → LinksAt → ℕ → Type 0
Readable w at k = (i : ℕ) → i < k → LinkStands w at i

-- a lent list of records after the first k were stored
unfoldable pub filled : List ℕ → LinksAt → List Link → ℕ → List Link
filled w at ls zero = ls
filled w at ls (suc k) = set (filled w at ls k) k (link_at w at k)
