-- What is taken in of a network that is handed in.
--   first_tests n ts hs gone    the tests before the arcs: PAIR, ZONES, ARCS, LIST, NONE
--   Taken n ts hs gone r        r is what the network's tests find; where they find nothing it is a set that holds the
--                               withdrawn numbers, and the counts are within their bounds
use Rattle.std.specs.Prelude.{ℕ, ◌≡◌, ◌≤◌, List, [], ◌∷◌, ◌++◌, not, eqb, length, Result, IfOk, OnOk}
use Rattle.rules.specs.declared.Trouble.{Trouble}
use Rattle.rules.specs.declared.TroubleKind.TheVariants.{Pair, Zones, Arcs}
use Rattle.rules.specs.Lists.{listed}
use Rattle.rules.specs.File.{zones_bad, arcs_bad}
use Rattle.rules.specs.Calls.{Test, test, list_tests, none_test, network_tests}
use Rattle.zoneset.specs.declared.ZoneSet.{ZoneSet}
use Rattle.zoneset.specs.Held.{held}
use Rattle.probes.specs.Tested.{FoundBy}

-- the tests before the arcs
abbrev pub first_tests : ℕ → List ℕ → List ℕ → List ℕ → List Test
first_tests n ts hs gone =
    test (not (eqb (length ts) (length hs))) Pair 0
    ∷ test (zones_bad n) Zones 0
    ∷ test (arcs_bad (length ts)) Arcs 0
    ∷ (list_tests n 0 0 gone ++ (none_test n gone ∷ []))

-- what the tests find, and, where they find nothing, the set of the withdrawn numbers, and counts within their bounds
pub record Taken (n : ℕ) (ts hs gone : List ℕ) (r : Result ZoneSet Trouble) : Type 0 where
  pub found_by : FoundBy (network_tests n ts hs gone) r
  pub set : IfOk r (λ s. (z : ℕ) → held s z ≡ listed gone z)
  pub counts : OnOk r ((n ≤ 1024) × (length ts ≤ 4096))
