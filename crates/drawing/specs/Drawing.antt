-- What putting the arcs of a skeleton, in no order, asks for and leaves. Everything stands where the map says.
--   Named w n ts hs k    the names of a network's zones, and the k names of its components in topological order, stand
--                        in w
--   Tabled w w' ..       the network of the components stands in w', behind where the table will be
--   Drawn w w' ..        the arcs of the skeleton are put, in no order
use Rattle.std.specs.Prelude.{◌≡◌, List, ℕ, ◌≤◌, ◌<◌, length, drop}
use Rattle.rules.specs.Lists.{span}
use Rattle.rules.specs.Network.{Arc}
use Rattle.rules.specs.Components.{name}
use Rattle.rules.specs.Skeleton.{skeleton}
use Rattle.rules.specs.Calls.{handed, asked_work}
use Rattle.theory.proofs.Files.Accepting.{Fine}
use Rattle.theory.proofs.Skeletons.SkeletonOrder.{Ordered}
use Rattle.workmap.specs.Map.{names_at, table_at}
use Rattle.memory.specs.Regions.{cell}
use Rattle.memory.specs.Putting.{ArcsPut}
use Rattle.arranged.specs.Arranged.{Between}
use Rattle.blocks.specs.Crossings.{Condensed}
use Rattle.sorting.specs.Twice.{twice}

-- the network passes its tests, and its zones' names and the k names of its components in topological order stand in w
pub record Named (w : List ℕ) (n : ℕ) (ts hs : List ℕ) (k : ℕ) : Type 0 where
  pub fine : Fine n ts hs
  pub room : asked_work n (length ts) ≤ length w
  pub few : k ≤ n
  pub named : (v : ℕ) → v < n → cell w (names_at n).names v ≡ name (handed n ts hs) v
  pub ordered : Ordered (handed n ts hs) (cell w (names_at n).tops) k

-- the network of the components stands behind where the table will be; past the asked part the memory is as it was
pub record Tabled (w w' : List ℕ) (n : ℕ) (ts hs : List ℕ) (k : ℕ) : Type 0 where
  pub long : length w' ≡ length w
  pub beyond : drop (asked_work n (length ts)) w' ≡ drop (asked_work n (length ts)) w
  pub condensed : Condensed w' (table_at n) k (handed n ts hs)

-- arcs between zones are put, no more than the network has, and arranged twice they are the skeleton; past the asked
-- part the memory is as it was
pub record Drawn (w w' : List ℕ) (n : ℕ) (ts hs ots ohs ots' ohs' : List ℕ) (r : ℕ) : Type 0 where
  pub arcs : List Arc
  pub put : ArcsPut ots ohs ots' ohs' 0 arcs r
  pub few : length arcs ≤ length ts
  pub between : Between n arcs
  pub sorted : twice (span 0 n) arcs ≡ skeleton (handed n ts hs)
  pub long : length w' ≡ length w
  pub beyond : drop (asked_work n (length ts)) w' ≡ drop (asked_work n (length ts)) w
