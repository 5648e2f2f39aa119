-- What `skeleton` gives back, from what its tests and its core say.
--   skeleton_sketchable              a network and lent lists without trouble are ready for the core
--   skeleton_refused, skeleton_done  the two ways that SKELETON ends
-- Assumes nothing.
use mathlib.Core.Path.{◌≡◌, refl}
use mathlib.Core.List.{List, [], ◌∷◌}
use mathlib.Core.Option.{none, some}
use Prim.Native.Nat.{ℕ}
use lib.Dec.{ltb}
use lib.ListN.{length}
use borrow.Author.Tests.{ltb-false}
use Rattle.std.specs.Prelude.{Ok, Err}
use Rattle.rules.specs.declared.Trouble.{Trouble}
use Rattle.rules.specs.Answers.{skeleton_told}
use Rattle.rules.specs.Promises.{SkeletonPromise}
use Rattle.rules.specs.Calls.{
  network_tests,
  room_test,
  asked_work,
  skeleton_trouble,
}
use Rattle.theory.proofs.Files.Troubles.{passes, both_pass}
use Rattle.theory.proofs.Files.Accepting.{FineWith, fine_with_bridge}
use Rattle.withdrawn.proofs.Readying.{tests_ready}
use Rattle.skeleton.specs.Promises.{Sketchable, Sketched}

module _ (n : ℕ) (ts hs gone ots ohs w : List ℕ) where
  -- what SKELETON's tests leave
  pub skeleton_sketchable : skeleton_trouble n ts hs gone ots ohs w ≡ none →
      Sketchable n ts hs ots ohs w × FineWith n ts hs gone
  unfolding skeleton_trouble
  skeleton_sketchable e =
      let work = room_test (asked_work n (length ts)) (length w) in
      let tails = room_test (length ts) (length ots) in
      let heads = room_test (length ts) (length ohs) in
      let p = both_pass (network_tests n ts hs gone) (work ∷ tails ∷ heads ∷ []) e in
      let k = passes (ltb (length w) (asked_work n (length ts))) _ _ p.1 in
      let a = passes (ltb (length ots) (length ts)) _ _ k.1 in
      let b = passes (ltb (length ohs) (length ts)) _ _ a.1 in
      let R = tests_ready n ts hs gone w p.0 k.0 in (
        record {
          ready = R.ready;
          tails_room = ltb-false (length ots) (length ts) a.0;
          heads_room = ltb-false (length ohs) (length ts) b.0;
        },
        R.fine,
      )

  -- SKELETON refuses
  pub skeleton_refused : (t : Trouble) → skeleton_trouble n ts hs gone ots ohs w ≡ some t →
      SkeletonPromise n ts hs gone ots ohs w ots ohs w (skeleton_told (Err t))
  skeleton_refused t e = record { told_is = rw e refl; tails = rw e refl; heads = rw e refl; work = rw e refl }

  -- SKELETON answers: the skeleton is the same among all numbers and among the zones that remain
  pub skeleton_done : (r : ℕ) (ots' ohs' w' : List ℕ) → skeleton_trouble n ts hs gone ots ohs w ≡ none →
      Sketched n ts hs ots ohs w r ots' ohs' w' →
      SkeletonPromise n ts hs gone ots ohs w ots' ohs' w' (skeleton_told (Ok r))
  skeleton_done r ots' ohs' w' e S =
      let same = (fine_with_bridge n ts hs gone (skeleton_sketchable e).1).skeleton_is in
      record {
        told_is = rw (e, S.count, same) refl;
        tails = rw (e, same) S.tails;
        heads = rw (e, same) S.heads;
        work = rw e S.work;
      }
