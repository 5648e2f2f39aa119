-- What the two functions are lent, and what is put into the buffer.
--   PlanLent ..      a network that passes its tests, with a page that has room for the lines of its plan
--   handed_lines ..   the lines of the plan of a network that is handed in
--   Responded ..      what is promised of the whole: the bytes that linkplan writes, and how many they are
--   IsPrefixLen n xs  so many bytes stand at the start of a buffer
use Rattle.std.specs.Prelude.{ℕ, ◌≤◌, ◌≡◌, List, [], length, take}
use Rattle.std.proofs.Math.Option.{none}
use Rattle.rules.specs.Lists.{over}
use Rattle.rules.specs.Calls.{arcs_of, first_trouble, network_tests}
use Rattle.rules.specs.Text.{plan_lines, printed}
use Rattle.buffer.specs.declared.Page.{Page}
use Rattle.buffer.specs.Put.{HasSpace}

-- the network of n zones, tails ts and heads hs, with none withdrawn, passes its tests, and the page has room for the
-- lines of its plan
pub record PlanLent (n : ℕ) (ts hs : List ℕ) (page : Page) : Type 0 where
  pub fine : first_trouble (network_tests n ts hs []) ≡ none
  pub lines_fit : HasSpace page 20000

-- the buffer xs has n bytes or more, and so its first n are n
abbrev pub IsPrefixLen : ℕ → List ℕ → Type 0
IsPrefixLen n xs = (n ≤ length xs) × (n ≡ length (take n xs))

-- the lines of the plan of the network of n zones, tails ts and heads hs
abbrev pub handed_lines : ℕ → List ℕ → List ℕ → List ℕ
handed_lines n ts hs = plan_lines (record { zones = n; arcs = arcs_of ts hs })

-- from the bytes of a file to the bytes that linkplan writes, where out is lent: the answer r says how many they are,
-- and they stand at the start of out, whose other bytes are as they came
pub record Responded (file out : List ℕ) (r : ℕ) (out' : List ℕ) : Type 0 where
  pub count : r ≡ length (printed file)
  pub bytes : out' ≡ over (printed file) out
