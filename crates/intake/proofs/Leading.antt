-- The tests of a network, as the code makes them.
--   network_told     the tests of a network are those before the arcs, and then the arcs'
--   network_counts   where they find nothing, the counts are within their bounds
--   none_told        NONE, after LIST: the list of withdrawn numbers is as long as the zone count
--   none_found       so what finds that, after LIST, finds NONE
--   first_below      where the tests before the arcs find nothing, each withdrawn number is below 1,024
--   arcs_told        the arcs' tests with a set of the withdrawn numbers are those with their list
-- A list that passed LIST withdraws all numbers exactly where it is as long as the zone count. A network that passes
-- its tests is one that calls accept, which `theory` shows. Assumes nothing.
use Prim.Native.Nat.{ℕ, ◌≤◌, ◌<◌}
use native.Mathlib.Omega.{arith}
use mathlib.Core.Path.{◌≡◌, sym, ap, ◌∙◌}
use mathlib.Core.List.{List, [], ◌∷◌, append_assoc, Memᴰ as In}
use mathlib.Core.Option.{none}
use mathlib.Core.Bool.{Bool, not}
use lib.Dec.{eqb, ltb}
use lib.ListN.{length}
use borrow.Author.Tests.{ltb-false}
use Rattle.std.specs.Prelude.{Result, Ok}
use Rattle.rules.specs.declared.Trouble.{Trouble}
use Rattle.rules.specs.declared.TroubleKind.TheVariants.{Pair, Zones, Arcs, None}
use Rattle.rules.specs.Lists.{listed}
use Rattle.rules.specs.Network.{Arc}
use Rattle.rules.specs.File.{zones_bad, arcs_bad}
use Rattle.rules.specs.Calls.{Test, test, first_trouble, arcs_of, list_tests, none_test, arcs_tests, network_tests}
use Rattle.theory.proofs.Ground.Bools.{or_false}
use Rattle.theory.proofs.Files.Troubles.{or_else, first_trouble_append, passes, both_pass}
use Rattle.theory.proofs.Files.Listing.{list_rises, rising_below, none_count}
use Rattle.theory.proofs.Files.Accepting.{fine_with, fine_few}
use Rattle.zoneset.specs.declared.ZoneSet.{ZoneSet}
use Rattle.zoneset.specs.Held.{held}
use Rattle.zoneset.proofs.SetLaws.{one_test}
use Rattle.probes.specs.Tested.{FoundBy}
use Rattle.probes.proofs.Chains.{FoundAfter, found_goes_on, found_same}
use Rattle.intake.specs.Taken.{first_tests}

-- NONE, after LIST: the list is as long as the zone count.
pub none_told : (n : ℕ) (gone : List ℕ) → none ≡ first_trouble (list_tests n 0 0 gone)
    → first_trouble (none_test n gone ∷ []) ≡ first_trouble (test (eqb (length gone) n) None 0 ∷ [])
none_told n gone e =
    ap (λ (a : Bool). first_trouble (test a None 0 ∷ [])) (none_count n gone (list_rises n 0 0 gone (sym e)))

-- What finds, after LIST, that the list is as long as the zone count finds NONE.
pub none_found : {A B : Type 0} {x : A} {r : Result B Trouble} (n : ℕ) (gone : List ℕ)
    → none ≡ first_trouble (list_tests n 0 0 gone) → FoundBy (test (eqb (length gone) n) None 0 ∷ []) r
    → FoundAfter (Ok x) (none_test n gone ∷ []) r
none_found {x = x} n gone e f =
    found_same
    {xs = test (eqb (length gone) n) None 0 ∷ []}
    {ys = none_test n gone ∷ []}
    (λ fine. sym (none_told n gone e))
    (found_goes_on {x = x} f)

module _ (n : ℕ) (ts hs gone : List ℕ) where
  -- The tests of a network are those before the arcs, and then the arcs'.
  pub network_told : first_trouble (network_tests n ts hs gone)
      ≡ or_else
      (first_trouble (first_tests n ts hs gone))
      (first_trouble (arcs_tests n 0 (arcs_of ts hs) (listed gone)))
  unfolding arcs_of
  network_told =
      ap
      (λ (xs : List Test).
      first_trouble
      (test (not (eqb (length ts) (length hs))) Pair 0
      ∷ test (zones_bad n) Zones 0
      ∷ test (arcs_bad (length ts)) Arcs 0
      ∷ xs))
      (sym
      (append_assoc
      (list_tests n 0 0 gone)
      (none_test n gone ∷ [])
      (arcs_tests n 0 (arcs_of ts hs) (listed gone))))
      ∙ first_trouble_append (first_tests n ts hs gone) (arcs_tests n 0 (arcs_of ts hs) (listed gone))

  -- Where the tests of a network find nothing, its counts are within their bounds.
  pub network_counts : first_trouble (network_tests n ts hs gone) ≡ none → (n ≤ 1024) × (length ts ≤ 4096)
  network_counts e = let g = (fine_with n ts hs gone e).fine in (g.accepted.zones_most, fine_few g)

  -- Where the tests before the arcs find nothing, each withdrawn number is below 1,024.
  pub first_below : none ≡ first_trouble (first_tests n ts hs gone) → (z : ℕ) → In z gone → z < 1024
  first_below e z m =
      let p = passes (not (eqb (length ts) (length hs))) _ _ (sym e) in
      let q = passes (zones_bad n) _ _ p.1 in
      let r = passes (arcs_bad (length ts)) _ _ q.1 in
      let l = both_pass (list_tests n 0 0 gone) (none_test n gone ∷ []) r.1 in
      let most = ltb-false 1024 n (or_false (eqb n 0) (ltb 1024 n) q.0).1 in
      let below = rising_below n 0 gone (list_rises n 0 0 gone l.0) m in
      omega arith

-- The arcs' tests with a set of the withdrawn numbers are those with their list.
pub arcs_told : (n : ℕ) (es : List Arc) (s : ZoneSet) (gone : List ℕ) → ((z : ℕ) → held s z ≡ listed gone z)
    → arcs_tests n 0 es (held s) ≡ arcs_tests n 0 es (listed gone)
arcs_told n es s gone h = ap (λ (g : ℕ → Bool). arcs_tests n 0 es g) (one_test h)
