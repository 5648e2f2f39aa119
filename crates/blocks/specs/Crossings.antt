-- What the blocks ask for and put, in terms of the rules.
--   Condensed w at n N   the n names of the network N in topological order, and for each of them the places of the
--                        components that its arcs lead to, stand in w behind the table
--   Crossings N es       es are the arcs of N between components that stay, each once
use Rattle.std.specs.Prelude.{◌≡◌, true, ℕ, ◌≤◌, ◌<◌, length}
use mathlib.Core.List.{List, Memᴰ as In}
use Rattle.rules.specs.Network.{Arc, Network, Proper}
use Rattle.rules.specs.Skeleton.{crosses}
use Rattle.theory.proofs.Ground.Counting.{Distinct}
use Rattle.theory.proofs.Skeletons.SkeletonOrder.{Ordered}
use Rattle.theory.proofs.Skeletons.TablePlaces.{Row}
use Rattle.workmap.specs.declared.TableAt.{TableAt}
use Rattle.memory.specs.Regions.{cell}
use Rattle.uniting.specs.Uniting.{row_heads, BlockLaid}
use Rattle.blocks.specs.Sweeps.{block_of}

-- the names in topological order, and the rows of heads by places
pub record Condensed (w : List ℕ) (at : TableAt) (n : ℕ) (N : Network) : Type 0 where
  pub laid : BlockLaid w (block_of at n 0)
  pub proper : Proper N
  pub ordered : Ordered N (cell w at.tops) n
  pub rows_are : (j : ℕ) → j < n → Row N (cell w at.tops) n j (row_heads w (block_of at n 0) j)

-- the arcs between components that stay, each once; they are between zones, and no more than the network has
pub record Crossings (N : Network) (es : List Arc) : Type 0 where
  pub sound : (x : Arc) → In x es → crosses N x.tail x.head ≡ true
  pub complete : (x : Arc) → crosses N x.tail x.head ≡ true → In x es
  pub once : Distinct es
  pub ends : (x : Arc) → In x es → In x.tail N.zones × In x.head N.zones
  pub few : length es ≤ length N.arcs
