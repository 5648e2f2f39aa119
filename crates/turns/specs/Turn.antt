-- One source's turn in the pairing: a search, the first marked place of the sinks left, and that place taken out.
--   Unmarked w marks v     zone v has no mark
--   FirstMarked ..     what the look along a list of zones finds
--   Outside i at n      place i is none of the n places from `at` on
--   TakenOut ..        a list has lost one place
--   without j xs        the list xs without its place j
--   Along w R es        the arcs es stand in the rows R
--   Turnable, Turned    what a turn asks and leaves: the sinks left, and the answer of `pick` for them
use Rattle.std.specs.Prelude.{◌≡◌, ◌⊎◌, List, ◌++◌, ℕ, suc, ◌+◌, ◌≤◌, ◌<◌, length, get_or, take, drop}
use Rattle.std.specs.Prelude.{Option, Some, None}
use Rattle.std.proofs.Math.Option.{Option as Maybe, none, some}
use Rattle.rules.specs.Network.{Arc, network_of, reaches}
use Rattle.rules.specs.Plan.{Picked, pick}
use Rattle.arranged.specs.Marks.{Marked}
use Rattle.memory.specs.Regions.{part, Holds}
use Rattle.arranged.specs.Arranged.{Between, ArrangedAt}
use Rattle.search.specs.Marking.{Laid}
use Rattle.workmap.specs.declared.RowsAt.{RowsAt}
use Rattle.workmap.specs.declared.SearchAt.{SearchAt}

-- zone v has no mark
abbrev pub Unmarked : List ℕ → ℕ → ℕ → Type 0
Unmarked w marks v = get_or w (marks + v) 0 ≡ 0

-- j is the first place whose zone has a mark, or none of the list has one
abbrev pub FirstMarked : List ℕ → ℕ → ℕ → ℕ → Option ℕ → Type 0
FirstMarked w marks at count (Some j) =
    (j < count)
    × (Marked w marks (get_or w (at + j) 0) × ((k : ℕ) → k < j → Unmarked w marks (get_or w (at + k) 0)))
FirstMarked w marks at count None = (k : ℕ) → k < count → Unmarked w marks (get_or w (at + k) 0)

-- place i is none of the n places from `at` on
abbrev pub Outside : ℕ → ℕ → ℕ → Type 0
Outside i at n = (i < at) ⊎ (at + n ≤ i)

-- the list of `count` zones from `at` on has lost its place j: those behind it stand one place lower, and every other
-- element of the memory is as it was
pub record TakenOut (w w' : List ℕ) (at count j : ℕ) : Type 0 where
  pub long : length w' ≡ length w
  pub others : (i : ℕ) → (i < at + j) ⊎ (at + count ≤ i + 1) → get_or w' i 0 ≡ get_or w i 0
  pub moved : (k : ℕ) → j ≤ k → k + 1 < count → get_or w' (at + k) 0 ≡ get_or w (at + k + 1) 0

-- the list without its place j
abbrev pub without : ℕ → List ℕ → List ℕ
without j xs = take j xs ++ drop (suc j) xs

-- every element of the list is below n
abbrev pub AllBelow : ℕ → List ℕ → Type 0
AllBelow n xs = (k : ℕ) → k < length xs → get_or xs k 0 < n

-- the arcs es, all between zones, stand in the rows
pub record Along (w : List ℕ) (R : RowsAt) (es : List Arc) : Type 0 where
  pub arranged : ArrangedAt w R es
  pub between : Between R.zones es

-- the rows are laid out behind marks and queue, the sinks left stand between them, and source and sinks are zones
pub record Turnable (w : List ℕ) (R : RowsAt) (S : SearchAt) (source at left : ℕ) : Type 0 where
  pub laid : Laid w R S
  pub zone : source < R.zones
  pub behind : S.queue + R.zones ≤ at
  pub before : at + left ≤ R.starts
  pub small : AllBelow R.zones (part w at left)

-- what `pick` answers where a turn finds the sink z, or nothing, and `rest` is left
abbrev pub answered : Option ℕ → List ℕ → Maybe Picked
answered (Some z) rest = some (record { sink = z; rest = rest })
answered None rest = none

-- `rest` is one sink shorter than xs where a sink is found, and is xs where none is
abbrev pub LeftOver : ℕ → List ℕ → Option ℕ → List ℕ → Type 0
LeftOver n xs (Some z) rest = (z < n) × (length rest + 1 ≡ length xs)
LeftOver n xs None rest = rest ≡ xs

-- a turn: the list `rest` of the sinks that are left stands where the sinks stood, and what was found is what `pick`
-- finds in any network whose arcs are arranged in the rows; only marks, stack and the list of sinks may differ
pub record Turned (w w' : List ℕ) (R : RowsAt) (S : SearchAt) (source at left : ℕ) (r : Option ℕ) : Type 0 where
  pub rest : List ℕ
  pub long : length w' ≡ length w
  pub others : (i : ℕ) → S.queue + R.zones ≤ i → Outside i at left → get_or w' i 0 ≡ get_or w i 0
  pub held : Holds w' at rest
  pub small : AllBelow R.zones rest
  pub over : LeftOver R.zones (part w at left) r rest
  pub found :
      (es : List Arc) →
      Along w R es →
      pick (reaches (network_of R.zones es) source) (part w at left) ≡ answered r rest
