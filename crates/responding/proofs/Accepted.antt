-- The network of an accepted file, handed on by its tails and its heads.
--   network_passes         the network passes every test of a network that is handed in
--   zeros_are, zeros_long  how many zeros a list of them has
--   plan_passes            a network that passes those passes every test of PLAN, where enough is lent
-- An accepted file holds a network that a call accepts. Assumes nothing.
use Prim.Native.Nat.{ℕ, ◌≤◌}
use native.Mathlib.Omega.{arith}
use mathlib.Core.Path.{◌≡◌, refl, sym, ◌∙◌}
use mathlib.Core.List.{List, []}
use mathlib.Core.Option.{none}
use lib.ListN.{length, replicate, length-map, length-replicate}
use borrow.Author.Tests.{le-ltb}
use Rattle.rules.specs.Network.{Arc, arc_tails, arc_heads}
use Rattle.rules.specs.File.{Given, Acceptable}
use Rattle.rules.specs.Calls.{first_trouble, network_tests, asked_work, plan_trouble}
use Rattle.theory.proofs.Ground.ArcLists.{arcs_split}
use Rattle.theory.proofs.Files.Troubles.{pass, first_trouble_after}
use Rattle.theory.proofs.Files.Accepting.{Fine, fine_few, fine_with, fine_with_tests, fine_none}

-- a network that a call accepts passes the tests of a network that is handed in with no zone withdrawn
pub network_passes : (g : Given) → Acceptable g
    → first_trouble (network_tests g.zones (arc_tails g.arcs) (arc_heads g.arcs) []) ≡ none
network_passes g k =
    let es = g.arcs in
    let F : Fine g.zones (arc_tails es) (arc_heads es) = record {
      paired = length-map es (λ (e : Arc). e.tail) ∙ sym (length-map es (λ (e : Arc). e.head));
      accepted = rw (arcs_split es) k;
    } in
    fine_with_tests g.zones (arc_tails es) (arc_heads es) [] (fine_none g.zones (arc_tails es) (arc_heads es) F)

-- k zeros are k elements
pub zeros_are : (k : ℕ) → length {A = ℕ} (replicate k 0) ≡ k
zeros_are k = length-replicate {A = ℕ} k 0

-- and no fewer
pub zeros_long : (k : ℕ) → k ≤ length {A = ℕ} (replicate k 0)
zeros_long k = omega (arith, zeros_are k)

-- a network that passes its tests passes those of PLAN, where enough is lent
pub plan_passes : (n : ℕ) (ts hs gone starts ends whys work : List ℕ)
    → first_trouble (network_tests n ts hs gone) ≡ none
    → 28672 ≤ length work → 1024 ≤ length starts → 1024 ≤ length ends → 1024 ≤ length whys
    → plan_trouble n ts hs gone starts ends whys work ≡ none
unfolding plan_trouble
plan_passes n ts hs gone starts ends whys work k w s e y =
    let f = (fine_with n ts hs gone k).fine in
    let asked : asked_work n (length ts) ≤ length work = omega (arith, f.accepted.zones_most, fine_few f) in
    let most : n ≤ 1024 = f.accepted.zones_most in
    first_trouble_after (network_tests n ts hs gone) _ k
    ∙ pass _ _ (le-ltb (length work) _ asked)
    (pass _ _ (le-ltb (length starts) n (omega arith))
    (pass _ _ (le-ltb (length ends) n (omega arith))
    (pass _ _ (le-ltb (length whys) n (omega arith)) refl)))
