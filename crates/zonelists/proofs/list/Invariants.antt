-- `list` meets its contract. The loop's invariant: the first trouble of all numbers is that of the numbers from `place`
-- on, the first of which has to be at least `low`. Assumes nothing.
use mathlib.Core.Path.{◌≡◌}
use lib.ListN.{drop}
use Rattle.rules.specs.Calls.{first_trouble, list_tests}
use Rattle.zonelists.proofs.list.Given as goal

abbrev pub invariant-loop-place : goal.invariant-loop-place
invariant-loop-place l =
    first_trouble (list_tests l.zones 0 0 l.list)
    ≡ first_trouble (list_tests l.zones l.place l.low (drop l.place l.list))
