-- The trouble of each call is that of its parts, one after the other, as the code tests them.
--   strong_parts, reach_parts                      the network's tests, and those after them
--   skeleton_parts, plan_parts, records_parts      STRONG's tests, and the rooms
--   parts                                          all five
-- Assumes nothing.
use Prim.Native.Nat.{ℕ}
use mathlib.Core.Path.{◌≡◌, sym, ap, ◌∙◌}
use mathlib.Core.List.{List, [], ◌∷◌, ◌++◌, append_assoc}
use lib.ListN.{length}
use Rattle.rules.specs.Lists.{listed}
use Rattle.rules.specs.Calls.{Test, first_trouble, network_tests, question_tests, room_test, work_test}
use Rattle.rules.specs.Calls.{strong_trouble, reach_trouble, skeleton_trouble, plan_trouble, records_trouble}
use Rattle.theory.proofs.Files.Troubles.{or_else, first_trouble_append}

-- tests after two lists of tests
after : (xs ys zs : List Test)
    → first_trouble (xs ++ (ys ++ zs)) ≡ or_else (first_trouble (xs ++ ys)) (first_trouble zs)
after xs ys zs = ap first_trouble (sym (append_assoc xs ys zs)) ∙ first_trouble_append (xs ++ ys) zs

module _ (n : ℕ) (ts hs gone : List ℕ) where
  -- STRONG's
  pub strong_parts : (w : List ℕ) → strong_trouble n ts hs gone w
      ≡ or_else (first_trouble (network_tests n ts hs gone)) (first_trouble (work_test n ts hs w ∷ []))
  unfolding strong_trouble
  strong_parts w = first_trouble_append (network_tests n ts hs gone) (work_test n ts hs w ∷ [])

  -- REACH's
  pub reach_parts : (a b : ℕ) (w : List ℕ) → reach_trouble n ts hs gone a b w
      ≡ or_else (first_trouble (network_tests n ts hs gone))
      (first_trouble (question_tests n (length ts) (listed gone) a b ++ (work_test n ts hs w ∷ [])))
  unfolding reach_trouble
  reach_parts a b w =
      first_trouble_append
      (network_tests n ts hs gone)
      (question_tests n (length ts) (listed gone) a b ++ (work_test n ts hs w ∷ []))

  -- SKELETON's
  pub skeleton_parts : (from to w : List ℕ) → skeleton_trouble n ts hs gone from to w
      ≡ or_else (strong_trouble n ts hs gone w)
      (first_trouble (room_test (length ts) (length from) ∷ room_test (length ts) (length to) ∷ []))
  unfolding strong_trouble skeleton_trouble
  skeleton_parts from to w =
      after
      (network_tests n ts hs gone)
      (work_test n ts hs w ∷ [])
      (room_test (length ts) (length from) ∷ room_test (length ts) (length to) ∷ [])

  -- PLAN's
  pub plan_parts : (from to why w : List ℕ) → plan_trouble n ts hs gone from to why w
      ≡ or_else (strong_trouble n ts hs gone w)
      (first_trouble (room_test n (length from) ∷ room_test n (length to) ∷ room_test n (length why) ∷ []))
  unfolding strong_trouble plan_trouble
  plan_parts from to why w =
      after
      (network_tests n ts hs gone)
      (work_test n ts hs w ∷ [])
      (room_test n (length from) ∷ room_test n (length to) ∷ room_test n (length why) ∷ [])

  -- and PLAN's over records
  pub records_parts : (lent : ℕ) (w : List ℕ) → records_trouble n ts hs gone lent w
      ≡ or_else (strong_trouble n ts hs gone w) (first_trouble (room_test n lent ∷ []))
  unfolding strong_trouble records_trouble
  records_parts lent w = after (network_tests n ts hs gone) (work_test n ts hs w ∷ []) (room_test n lent ∷ [])

-- all five
pub ruleset parts = (strong_parts, reach_parts, skeleton_parts, plan_parts, records_parts)
