-- Laws of the map of lent work memory: each place is a number.
--   placed, searches_placed, .. links_placed   of a map that is `map_of n k`: the places of the rows, of the searches
--               and of each other pass, as numbers. A proof that has one of these in scope tells places apart by
--               arithmetic, and writes no number itself.
-- Assumes nothing.
use mathlib.Core.Path.{◌≡◌}
use Prim.Native.Nat.{ℕ, ◌+◌, ◌*◌}
use native.Mathlib.Omega.{arith}
use Rattle.workmap.specs.declared.Map.{Map}
use Rattle.workmap.specs.Map.{map_of}

-- where a map has the counts, what is asked for, and the rows
pub record Placed (m : Map) (n k : ℕ) : Type 0 where
  pub zones : m.zones ≡ n
  pub arcs : m.arcs ≡ k
  pub asked : m.asked ≡ 16 * n + 3 * k
  pub rows_zones : m.rows.zones ≡ n
  pub rows_starts : m.rows.starts ≡ 12 * n
  pub rows_rows : m.rows.rows ≡ 13 * n + 1
  pub turned_zones : m.turned.zones ≡ n
  pub turned_starts : m.turned.starts ≡ 13 * n + 1 + k
  pub turned_rows : m.turned.rows ≡ 14 * n + 2 + k

-- where a map has the searches
pub record SearchesPlaced (m : Map) (n k : ℕ) : Type 0 where
  pub marks : m.search.marks ≡ 0
  pub queue : m.search.queue ≡ n
  pub back_marks : m.back.marks ≡ 2 * n
  pub back_queue : m.back.queue ≡ 3 * n

-- where a map has the components
pub record NamesPlaced (m : Map) (n k : ℕ) : Type 0 where
  pub tops : m.names.tops ≡ 4 * n
  pub names : m.names.names ≡ 5 * n
  pub low : m.names.low ≡ 6 * n
  pub roots : m.names.roots ≡ 7 * n
  pub queue : m.names.queue ≡ 8 * n

-- where a map has the kinds
pub record KindsPlaced (m : Map) (n k : ℕ) : Type 0 where
  pub zones : m.kinds.zones ≡ n
  pub names : m.kinds.names ≡ 5 * n
  pub entered : m.kinds.entered ≡ 2 * n
  pub exited : m.kinds.exited ≡ 3 * n

-- where a map has the names of each kind
pub record ListsPlaced (m : Map) (n k : ℕ) : Type 0 where
  pub sources : m.lists.sources ≡ 4 * n
  pub sinks : m.lists.sinks ≡ 6 * n
  pub alone : m.lists.alone ≡ 7 * n

-- where a map has the pairs
pub record PairsPlaced (m : Map) (n k : ℕ) : Type 0 where
  pub firsts : m.pairs.firsts ≡ 8 * n
  pub seconds : m.pairs.seconds ≡ 9 * n
  pub lone : m.pairs.lone ≡ 10 * n

-- where a map has the links
pub record LinksPlaced (m : Map) (n k : ℕ) : Type 0 where
  pub stations : m.links.stations ≡ 2 * n
  pub from : m.links.from ≡ 0
  pub to : m.links.to ≡ n
  pub why : m.links.why ≡ 11 * n

module _ {m : Map} {n k : ℕ} (e : m ≡ map_of n k) where
  -- the map of n zones and k arcs has the counts, what is asked for, and the rows there
  pub placed : Placed m n k
  placed =
      rw e
      record {
        zones = omega arith;
        arcs = omega arith;
        asked = omega arith;
        rows_zones = omega arith;
        rows_starts = omega arith;
        rows_rows = omega arith;
        turned_zones = omega arith;
        turned_starts = omega arith;
        turned_rows = omega arith;
      }

  -- the map of n zones and k arcs has the searches there
  pub searches_placed : SearchesPlaced m n k
  searches_placed =
      rw e
      record {
        marks = omega arith;
        queue = omega arith;
        back_marks = omega arith;
        back_queue = omega arith;
      }

  -- the map of n zones and k arcs has the components there
  pub names_placed : NamesPlaced m n k
  names_placed =
      rw e
      record {
        tops = omega arith;
        names = omega arith;
        low = omega arith;
        roots = omega arith;
        queue = omega arith;
      }

  -- the map of n zones and k arcs has the kinds there
  pub kinds_placed : KindsPlaced m n k
  kinds_placed = rw e record { zones = omega arith; names = omega arith; entered = omega arith; exited = omega arith }

  -- the map of n zones and k arcs has the names of each kind there
  pub lists_placed : ListsPlaced m n k
  lists_placed = rw e record { sources = omega arith; sinks = omega arith; alone = omega arith }

  -- the map of n zones and k arcs has the pairs there
  pub pairs_placed : PairsPlaced m n k
  pairs_placed = rw e record { firsts = omega arith; seconds = omega arith; lone = omega arith }

  -- the map of n zones and k arcs has the links there
  pub links_placed : LinksPlaced m n k
  links_placed = rw e record { stations = omega arith; from = omega arith; to = omega arith; why = omega arith }
