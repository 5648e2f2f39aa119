-- What the inner functions of STRONG and REACH ask and answer.
--   Askable               a network, a question and a memory that pass the tests
--   Answered b truth ..   the answer is the truth, and the asked part of the memory is zero
use Rattle.std.specs.Prelude.{◌≡◌, List, Bool, ℕ, ◌<◌}
use Rattle.rules.specs.Lists.{cleared}
use Rattle.arranged.specs.Ready.{Readyable}
use Rattle.workmap.specs.declared.Map.{Map}

-- a network, a question about it and a memory that pass the tests
pub record Askable (m : Map) (ts hs : List ℕ) (from to : ℕ) (w : List ℕ) : Type 0 where
  pub ready : Readyable m ts hs w
  pub from_zone : from < m.zones
  pub to_zone : to < m.zones

-- the answer is the truth, and the asked part of the memory is zero
pub record Answered (b truth : Bool) (asked : ℕ) (before after : List ℕ) : Type 0 where
  pub answer : b ≡ truth
  pub work : after ≡ cleared asked before
