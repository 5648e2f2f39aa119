-- What `strong` and `reach` give back, from what their tests and their searches say.
--   strong_ready, reach_askable      what the tests leave: a network and a memory that are ready
--   strong_refused, strong_done      the two ways that STRONG ends, and reach_refused, reach_done for REACH
-- Assumes nothing.
use mathlib.Core.Path.{◌≡◌, refl}
use mathlib.Core.List.{List, [], ◌∷◌, ◌++◌}
use mathlib.Core.Option.{none, some}
use mathlib.Core.Bool.{Bool}
use Prim.Native.Nat.{ℕ}
use lib.Dec.{ltb}
use lib.ListN.{length}
use Rattle.std.specs.Prelude.{Result, Ok, Err}
use Rattle.rules.specs.declared.Trouble.{Trouble}
use Rattle.rules.specs.Network.{strong, reaches}
use Rattle.rules.specs.Lists.{listed}
use Rattle.rules.specs.Calls.{network_tests, question_tests, room_test, asked_work, handed, handed_with}
use Rattle.rules.specs.Calls.{strong_trouble, reach_trouble}
use Rattle.rules.specs.Answers.{strong_told, reach_told}
use Rattle.rules.specs.Promises.{StrongPromise, ReachPromise}
use Rattle.theory.proofs.Files.Troubles.{passes, both_pass}
use Rattle.theory.proofs.Withdrawn.Remaining.{remaining_in}
use Rattle.theory.proofs.Files.Accepting.{FineWith, fine_with_bridge, question_remain}
use Rattle.workmap.specs.Map.{map_of}
use Rattle.probes.specs.Tested.{tested_trouble}
use Rattle.withdrawn.specs.Withdrawn.{ReadyWith}
use Rattle.withdrawn.proofs.Readying.{tests_ready}
use Rattle.reaching.specs.Questions.{Askable, Answered}

module _ (n : ℕ) (ts hs gone w : List ℕ) where
  -- what STRONG's tests leave
  pub strong_ready : strong_trouble n ts hs gone w ≡ none → ReadyWith (map_of n (length ts)) ts hs gone w
  unfolding strong_trouble
  strong_ready e =
      let p = both_pass (network_tests n ts hs gone) (room_test (asked_work n (length ts)) (length w) ∷ []) e in
      tests_ready n ts hs gone w p.0 (passes (ltb (length w) (asked_work n (length ts))) _ _ p.1).0

  -- STRONG refuses
  pub strong_refused : (r : Result Bool Trouble) (t : Trouble) → tested_trouble r ≡ some t →
      strong_trouble n ts hs gone w ≡ some t → StrongPromise n ts hs gone w w (strong_told r)
  strong_refused (Ok b) t is e = cc
  strong_refused (Err u) t is e =
      let same : u ≡ t = cc in
      rw same (record { told_is = rw e refl; work = rw e refl })

  -- STRONG answers
  pub strong_done : (w' : List ℕ) (b : Bool) → strong_trouble n ts hs gone w ≡ none →
      Answered b (strong (handed_with n ts hs gone)) (asked_work n (length ts)) w w' →
      StrongPromise n ts hs gone w w' (strong_told (Ok b))
  strong_done w' b e A = record { told_is = rw (e, A.answer) refl; work = rw e A.work }

module _ (n : ℕ) (ts hs gone : List ℕ) (from to : ℕ) (w : List ℕ) where
  -- what REACH's tests leave: the question is about two zones that remain
  pub reach_askable : reach_trouble n ts hs gone from to w ≡ none →
      Askable (map_of n (length ts)) ts hs from to w × FineWith n ts hs gone
  unfolding reach_trouble
  reach_askable e =
      let question = question_tests n (length ts) (listed gone) from to in
      let room = room_test (asked_work n (length ts)) (length w) ∷ [] in
      let p = both_pass (network_tests n ts hs gone) (question ++ room) e in
      let q = both_pass question room p.1 in
      let z = question_remain n (length ts) gone from to q.0 in
      let R = tests_ready n ts hs gone w p.0 (passes (ltb (length w) (asked_work n (length ts))) _ _ q.1).0 in (
        record {
          ready = R.ready;
          from_zone = (remaining_in n gone z.0).0;
          to_zone = (remaining_in n gone z.1).0;
        },
        R.fine,
      )

  -- REACH refuses
  pub reach_refused : (r : Result Bool Trouble) (t : Trouble) → tested_trouble r ≡ some t →
      reach_trouble n ts hs gone from to w ≡ some t → ReachPromise n ts hs gone from to w w (reach_told r)
  reach_refused (Ok b) t is e = cc
  reach_refused (Err u) t is e =
      let same : u ≡ t = cc in
      rw same (record { told_is = rw e refl; work = rw e refl })

  -- REACH answers: reach is the same among all numbers and among the zones that remain
  pub reach_done : (w' : List ℕ) (b : Bool) → reach_trouble n ts hs gone from to w ≡ none →
      Answered b (reaches (handed n ts hs) from to) (asked_work n (length ts)) w w' →
      ReachPromise n ts hs gone from to w w' (reach_told (Ok b))
  reach_done w' b e A =
      let B = fine_with_bridge n ts hs gone (reach_askable e).1 in
      record { told_is = rw (e, A.answer, B.reaches_is from to) refl; work = rw e A.work }
