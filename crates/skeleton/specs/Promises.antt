-- What the core of SKELETON asks and leaves.
--   Sketchable          a network and lent lists that pass the tests
--   Sketched            the skeleton is put, and the asked part of the work memory is zero
use Rattle.std.specs.Prelude.{◌≡◌, List, map, ℕ, ◌≤◌, length}
use Rattle.rules.specs.Lists.{over, cleared}
use Rattle.rules.specs.Network.{Arc}
use Rattle.rules.specs.Skeleton.{skeleton}
use Rattle.rules.specs.Calls.{asked_work, handed}
use Rattle.workmap.specs.Map.{map_of}
use Rattle.arranged.specs.Ready.{Readyable}

-- a network and lent lists that pass the tests
pub record Sketchable (n : ℕ) (ts hs ots ohs w : List ℕ) : Type 0 where
  pub ready : Readyable (map_of n (length ts)) ts hs w
  pub tails_room : length ts ≤ length ots
  pub heads_room : length ts ≤ length ohs

-- the skeleton is put, its arcs are counted, and the asked part of the work memory is zero
pub record Sketched (n : ℕ) (ts hs ots ohs w : List ℕ) (r : ℕ) (ots' ohs' w' : List ℕ) : Type 0 where
  pub count : r ≡ length (skeleton (handed n ts hs))
  pub tails : ots' ≡ over (map (λ (e : Arc). e.tail) (skeleton (handed n ts hs))) ots
  pub heads : ohs' ≡ over (map (λ (e : Arc). e.head) (skeleton (handed n ts hs))) ohs
  pub work : w' ≡ cleared (asked_work n (length ts)) w
