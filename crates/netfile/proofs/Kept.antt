-- What reading and writing promise, from what their parts find.
--   read_kept              the answer to the reading of a file is what reading promises
--   write_stays            a trouble of the network is the trouble of writing
--   write_goes_on          without one, what the test of the room finds is
--   write_fits             without any, the lent list has room
--   write_bad, write_done  the answer of writing, and the list that it leaves
-- Assumes nothing.
use Prim.Native.Nat.{ℕ, ◌≤◌}
use mathlib.Core.Path.{◌≡◌, sym, ◌∙◌}
use mathlib.Core.List.{List, [], ◌∷◌}
use mathlib.Core.Option.{Option, none, some}
use lib.ListN.{length}
use lib.Dec.{ltb}
use borrow.Author.Tests.{ltb-false}
use Rattle.std.specs.Prelude.{Ok, Err}
use Rattle.rules.specs.declared.Trouble.{Trouble}
use Rattle.rules.specs.Answers.{ReadAnswer, read_told, write_told}
use Rattle.rules.specs.Lists.{over}
use Rattle.rules.specs.File.{file_at}
use Rattle.rules.specs.Calls.{first_trouble, network_tests, room_test, written, write_trouble}
use Rattle.rules.specs.Promises.{ReadPromise, WritePromise}
use Rattle.theory.proofs.Files.Troubles.{passes, both_pass, first_trouble_stays, first_trouble_after}
use Rattle.filebody.specs.Answered.{ReadingAnswered}

-- The answer to the reading of a file is what reading promises.
pub read_kept : {file ts hs : List ℕ} {a : ReadAnswer} {ts' hs' : List ℕ}
    → ReadingAnswered (file_at file (length ts) (length hs)) ts hs a ts' hs'
    → ReadPromise file ts hs ts' hs' (read_told a)
read_kept p = record { told_is = p.told_is; tails = p.tails; heads = p.heads }

module _ (n : ℕ) (ts hs gone file : List ℕ) where
  -- A trouble of the network is the trouble of writing.
  pub write_stays : {t : Trouble} → some t ≡ first_trouble (network_tests n ts hs gone)
      → write_trouble n ts hs gone file ≡ some t
  unfolding write_trouble
  write_stays e = first_trouble_stays (network_tests n ts hs gone) _ (sym e)

  -- Without one, what the test of the room finds is.
  pub write_goes_on : {r : Option Trouble} {k : ℕ} → none ≡ first_trouble (network_tests n ts hs gone)
      → k ≡ length (written n ts hs) → r ≡ first_trouble (room_test k (length file) ∷ [])
      → write_trouble n ts hs gone file ≡ r
  unfolding write_trouble
  write_goes_on e l f =
      first_trouble_after (network_tests n ts hs gone) (room_test (length (written n ts hs)) (length file) ∷ []) (sym e)
      ∙ sym (rw l at f)

  -- Where there is no trouble, the lent list has room.
  pub write_fits : write_trouble n ts hs gone file ≡ none → length (written n ts hs) ≤ length file
  unfolding write_trouble
  write_fits e =
      let p = both_pass (network_tests n ts hs gone) (room_test (length (written n ts hs)) (length file) ∷ []) e in
      ltb-false _ _ (passes (ltb (length file) (length (written n ts hs))) _ _ p.1).0

  -- A refusal leaves the list as it came.
  pub write_bad : (t : Trouble) → write_trouble n ts hs gone file ≡ some t
      → WritePromise n ts hs gone file file (write_told (Err t))
  write_bad t e = record { told_is = rw e; bytes = rw e }

  -- A network without a trouble is written into it.
  pub write_done : (k : ℕ) (file' : List ℕ) → write_trouble n ts hs gone file ≡ none → k ≡ length (written n ts hs)
      → file' ≡ over (written n ts hs) file → WritePromise n ts hs gone file file' (write_told (Ok k))
  write_done k file' e l w = record { told_is = rw (e, l); bytes = rw e w }
