-- What is answered to a reading of a file, and what is left of the two lists that were lent.
--   ReadingAnswered r ..   the answer to a reading r, and the two lists that it leaves
use Rattle.std.specs.Prelude.{ℕ, ◌≡◌, List}
use Rattle.rules.specs.Answers.{ReadAnswer, read_told}
use Rattle.rules.specs.Number.{Reading}
use Rattle.rules.specs.File.{Given}
use Rattle.rules.specs.Calls.{found_says, found_tails, found_heads}

-- the answer a to a reading r, and the lists ts' and hs' that it leaves where ts and hs were lent
pub record ReadingAnswered (r : Reading Given) (ts hs : List ℕ) (a : ReadAnswer) (ts' hs' : List ℕ) : Type 0 where
  pub told_is : read_told a ≡ found_says r
  pub tails : ts' ≡ found_tails r ts
  pub heads : hs' ≡ found_heads r hs
