-- Where everything stands in lent work memory, for a network of n zones and m arcs.
--   0          a search: marks, queue            or the links' starts and ends
--   2 n        a search against the arcs         or what is entered and left, or the chain's stations
--   4 n        tops, names, low, roots, queue, then seen, next, order: the components, n elements each
--              or the sources at 4 n, the sinks at 6 n, those alone at 7 n; the pairs from 8 n on; the whys at 11 n
--              or, once the components are named: the rings at 0, the components' places at 2 n; then the table of who
--              reaches whom at 0, 8 n elements, and the components' names in topological order at 8 n
--   12 n       the starts of the rows, n + 1, then the rows, m; later the rows of the components' network, and
--              last the skeleton's arcs
--   13 n + 1 + m   the starts of the turned rows, n + 1, then the turned rows, m
-- The whole takes 14 n + 2 m + 2 elements, which is at most the 16 n + 3 m that are asked for.
--   map_of n m   all places;   rows_at .. table_at   the places of one pass
--   row_places, search_places   rows and a search at places of any kind
use Rattle.std.specs.Prelude.{ℕ, ◌+◌, ◌*◌}
use Rattle.rules.specs.Calls.{asked_work}
use Rattle.workmap.specs.declared.RowsAt.{RowsAt}
use Rattle.workmap.specs.declared.SearchAt.{SearchAt}
use Rattle.workmap.specs.declared.OrderAt.{OrderAt}
use Rattle.workmap.specs.declared.NamesAt.{NamesAt}
use Rattle.workmap.specs.declared.KindsAt.{KindsAt}
use Rattle.workmap.specs.declared.ListsAt.{ListsAt}
use Rattle.workmap.specs.declared.PairsAt.{PairsAt}
use Rattle.workmap.specs.declared.LinksAt.{LinksAt}
use Rattle.workmap.specs.declared.RingsAt.{RingsAt}
use Rattle.workmap.specs.declared.PlacesAt.{PlacesAt}
use Rattle.workmap.specs.declared.TableAt.{TableAt}
use Rattle.workmap.specs.declared.Map.{Map}

-- rows of n zones, with their starts and the rows at two places
abbrev pub row_places : ℕ → ℕ → ℕ → RowsAt
row_places n starts rows = record { zones = n; starts = starts; rows = rows }

-- a search with its marks and its queue at two places
abbrev pub search_places : ℕ → ℕ → SearchAt
search_places marks queue = record { marks = marks; queue = queue }

-- the rows: their starts, one more than there are zones, and the rows behind them
abbrev pub rows_at : ℕ → RowsAt
rows_at n = row_places n (12 * n) (13 * n + 1)

-- the turned rows
abbrev pub turned_at : ℕ → ℕ → RowsAt
turned_at n m = row_places n (13 * n + 1 + m) (14 * n + 2 + m)

-- a search
abbrev pub search_at : ℕ → SearchAt
search_at n = search_places 0 n

-- a search against the arcs
abbrev pub back_at : ℕ → SearchAt
back_at n = search_places (2 * n) (3 * n)

-- the finishing order
abbrev pub order_at : ℕ → OrderAt
order_at n = record { seen = 9 * n; next = 10 * n; order = 11 * n }

-- the components
abbrev pub names_at : ℕ → NamesAt
names_at n = record { tops = 4 * n; names = 5 * n; low = 6 * n; roots = 7 * n; queue = 8 * n }

-- the kinds
abbrev pub kinds_at : ℕ → KindsAt
kinds_at n = record { zones = n; names = 5 * n; entered = 2 * n; exited = 3 * n }

-- the names of each kind
abbrev pub lists_at : ℕ → ListsAt
lists_at n = record { sources = 4 * n; sinks = 6 * n; alone = 7 * n }

-- the pairs
abbrev pub pairs_at : ℕ → PairsAt
pairs_at n = record { firsts = 8 * n; seconds = 9 * n; lone = 10 * n }

-- the links
abbrev pub links_at : ℕ → LinksAt
links_at n = record { stations = 2 * n; from = 0; to = n; why = 11 * n }

-- the rings
abbrev pub rings_at : ℕ → RingsAt
rings_at n = record { zones = n; last = 0; names = 5 * n }

-- the places of the components
abbrev pub places_at : ℕ → PlacesAt
places_at n = record { zones = n; spots = 2 * n; tops = 4 * n; names = 5 * n; order = 8 * n }

-- the network of the components
abbrev pub table_at : ℕ → TableAt
table_at n = record { tops = 8 * n; rows = rows_at n }

-- the map of a network of n zones and m arcs
abbrev pub map_of : ℕ → ℕ → Map
map_of n m =
    record {
      zones = n;
      arcs = m;
      asked = asked_work n m;
      rows = rows_at n;
      turned = turned_at n m;
      search = search_at n;
      back = back_at n;
      order = order_at n;
      names = names_at n;
      kinds = kinds_at n;
      lists = lists_at n;
      pairs = pairs_at n;
      links = links_at n;
      rings = rings_at n;
      places = places_at n;
      table = table_at n;
      sorting = rows_at n;
    }
