-- What the tests of a call leave for its passes.
--   tests_ready     a network, its withdrawn numbers and a memory without trouble are ready for every pass
-- Assumes nothing.
use mathlib.Core.Path.{◌≡◌, refl}
use mathlib.Core.List.{List}
use mathlib.Core.Option.{none}
use mathlib.Core.Bool.{false}
use Prim.Native.Nat.{ℕ}
use lib.Dec.{ltb}
use lib.ListN.{length}
use borrow.Author.Tests.{ltb-false}
use Rattle.rules.specs.Calls.{first_trouble, network_tests, asked_work}
use Rattle.theory.proofs.Files.Accepting.{fine_with}
use Rattle.workmap.specs.Map.{map_of}
use Rattle.withdrawn.specs.Withdrawn.{ReadyWith}

-- where the tests of the network find no trouble and ROOM is not said of the work memory, every pass may go
pub tests_ready : (n : ℕ) (ts hs gone w : List ℕ) → first_trouble (network_tests n ts hs gone) ≡ none →
    ltb (length w) (asked_work n (length ts)) ≡ false → ReadyWith (map_of n (length ts)) ts hs gone w
tests_ready n ts hs gone w e room =
    let F = fine_with n ts hs gone e in
    record {
      ready = record { fine = F.fine; map = refl; room = ltb-false (length w) (asked_work n (length ts)) room };
      fine = F;
    }
