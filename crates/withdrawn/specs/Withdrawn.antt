-- Networks with withdrawn zones, in lent work memory.
--   ReadyWith m ts hs gone w   a network that passed its tests, with its withdrawn numbers, and memory as asked
--   Lowest gone z               z is the lowest number that is not withdrawn
--   stamped b x y               what stands for a number: x where it is withdrawn, else y, which stood there
--   Stamped w w' at n gone x    where the n places from `at` on stand for numbers, x stands for each withdrawn one
use Rattle.std.specs.Prelude.{◌≡◌, Bool, true, false, List, ℕ, ◌+◌, ◌<◌, length, take, drop}
use Rattle.rules.specs.Lists.{listed}
use Rattle.theory.proofs.Files.Accepting.{FineWith}
use Rattle.workmap.specs.declared.Map.{Map}
use Rattle.memory.specs.Regions.{cell}
use Rattle.arranged.specs.Ready.{Readyable}

-- a network that passed its tests, with its withdrawn numbers, and memory as long as asked
pub record ReadyWith (m : Map) (ts hs gone w : List ℕ) : Type 0 where
  pub ready : Readyable m ts hs w
  pub fine : FineWith m.zones ts hs gone

-- the lowest number that is not withdrawn
pub record Lowest (gone : List ℕ) (z : ℕ) : Type 0 where
  pub stays : listed gone z ≡ false
  pub first : (y : ℕ) → y < z → listed gone y ≡ true

-- what stands for a number: x where it is withdrawn, else what stood there
abbrev pub stamped : Bool → ℕ → ℕ → ℕ
stamped true x y = x
stamped false x y = y

-- of the n places from `at` on, x stands in those of the withdrawn numbers, and nothing else is changed
pub record Stamped (w w' : List ℕ) (at n : ℕ) (gone : List ℕ) (x : ℕ) : Type 0 where
  pub long : length w' ≡ length w
  pub inside : (z : ℕ) → z < n → cell w' at z ≡ stamped (listed gone z) x (cell w at z)
  pub below : take at w' ≡ take at w
  pub above : drop (at + n) w' ≡ drop (at + n) w
