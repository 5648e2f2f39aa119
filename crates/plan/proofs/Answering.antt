-- What PLAN gives back, from what its tests say and from what stands in the work memory.
--   Plannable           the input passes the tests, and each lent list is as long as asked
--   tests_plannable     no trouble: the input is so
--   plan_done           the plan is copied out, and the work memory cleared
-- Assumes nothing.
use mathlib.Core.Path.{◌≡◌, sym, ap, ◌∙◌}
use mathlib.Core.List.{List, [], ◌∷◌, map}
use mathlib.Core.Option.{none}
use Prim.Native.Nat.{ℕ, ◌≤◌}
use lib.Dec.{ltb}
use lib.ListN.{length, length-map}
use borrow.Author.Tests.{ltb-false}
use Rattle.rules.specs.declared.PlanCounts.{PlanCounts}
use Rattle.rules.specs.Lists.{over, cleared}
use Rattle.rules.specs.Plan.{Link, why_number, plan}
use Rattle.rules.specs.Answers.{plan_told}
use Rattle.std.specs.Prelude.{Ok}
use Rattle.rules.specs.Calls.{network_tests, room_test, asked_work, handed_with, plan_trouble}
use Rattle.rules.specs.Promises.{PlanPromise}
use Rattle.memory.specs.Regions.{part, Holds}
use Rattle.theory.proofs.Files.Troubles.{passes, both_pass}
use Rattle.workmap.specs.declared.Map.{Map}
use Rattle.workmap.specs.Map.{map_of}
use Rattle.memory.proofs.Cleared.{cleared_back}
use Rattle.withdrawn.specs.Withdrawn.{ReadyWith}
use Rattle.withdrawn.proofs.Readying.{tests_ready}
use Rattle.handout.specs.Handout.{HandedOut}
use Rattle.laying.specs.Layout.{LaidOut}
use Rattle.laying.proofs.Carrying.{carried}

-- the input passes the tests, and each lent list is as long as asked
pub record Plannable (n : ℕ) (ts hs gone from to why w : List ℕ) : Type 0 where
  pub ready : ReadyWith (map_of n (length ts)) ts hs gone w
  pub from_room : n ≤ length from
  pub to_room : n ≤ length to
  pub why_room : n ≤ length why

-- as many elements as the list has are the list that stands there
part_is : (f : Link → ℕ) (ls : List Link) (w : List ℕ) (at m : ℕ) → m ≡ length ls → Holds w at (map f ls) →
    part w at m ≡ map f ls
part_is f ls w at m e h = ap (λ (k : ℕ). part w at k) (e ∙ sym (length-map ls f)) ∙ h

module _ {n : ℕ} {ts hs gone from to why w : List ℕ} where
  -- without a trouble the input passes the tests
  pub tests_plannable : plan_trouble n ts hs gone from to why w ≡ none → Plannable n ts hs gone from to why w
  unfolding plan_trouble
  tests_plannable e =
      let asked = asked_work n (length ts) in
      let p =
      both_pass (network_tests n ts hs gone)
      (room_test asked (length w)
      ∷ room_test n (length from)
      ∷ room_test n (length to)
      ∷ room_test n (length why)
      ∷ [])
      e
      in
      let a = passes (ltb (length w) asked) _ _ p.1 in
      let b = passes (ltb (length from) n) _ _ a.1 in
      let c = passes (ltb (length to) n) _ _ b.1 in
      let d = passes (ltb (length why) n) _ _ c.1 in
      record {
        ready = tests_ready n ts hs gone w p.0 a.0;
        from_room = ltb-false (length from) n b.0;
        to_room = ltb-false (length to) n c.0;
        why_room = ltb-false (length why) n d.0;
      }

  -- PLAN answers
  pub plan_done : {m : Map} {w₁ from' to' why' w' : List ℕ} {l : PlanCounts} →
      m ≡ map_of n (length ts) → plan_trouble n ts hs gone from to why w ≡ none →
      LaidOut w w₁ m (handed_with m.zones ts hs gone) l →
      HandedOut w₁ m.links l.need from to why from' to' why' →
      w' ≡ cleared m.asked w₁ → PlanPromise n ts hs gone from to why w from' to' why' w' (plan_told (Ok l))
  plan_done {m} {w₁} {l = l} made e D H c =
      let L : LaidOut w w₁ (map_of n (length ts)) (handed_with n ts hs gone) l = rw made at D in
      let ls : List Link = plan (handed_with n ts hs gone) in
      let asked : m.asked ≡ asked_work n (length ts) = ap (λ (x : Map). x.asked) made in
      record {
        told_is = rw e (carried L.figures);
        from_left =
            rw e
            (H.starts_out
            ∙ ap (λ (xs : List ℕ). over xs from)
            (part_is (λ (x : Link). x.start) ls w₁ m.links.from l.need L.links_are
            (rw made L.columns.starts_held)));
        to_left =
            rw e
            (H.ends_out
            ∙ ap (λ (xs : List ℕ). over xs to)
            (part_is (λ (x : Link). x.end) ls w₁ m.links.to l.need L.links_are
            (rw made L.columns.ends_held)));
        why_left =
            rw e
            (H.whys_out
            ∙ ap (λ (xs : List ℕ). over xs why)
            (part_is (λ (x : Link). why_number x.why) ls w₁ m.links.why l.need L.links_are
            (rw made L.columns.whys_held)));
        work_left = rw e (rw asked at c ∙ cleared_back (asked_work n (length ts)) w w₁ L.beyond);
      }
