-- What PLAN over records shares with PLAN over three lists.
--   records_as_plan          PLAN over records and PLAN over three lists say the same, leave the same work memory, and
--                            put the same links, where the shortest of the three lists is as long as the records
-- What an answer says settles it, and the tests of three lists are the test of the shortest. Assumes nothing.
use mathlib.Core.Path.{◌≡◌, refl, sym, ◌∙◌}
use mathlib.Core.List.{List}
use Prim.Native.Nat.{ℕ, min}
use lib.ListN.{length}
use Rattle.rules.specs.Answers.{PlanAnswer, plan_told}
use Rattle.rules.specs.Plan.{plan_values}
use Rattle.rules.specs.Calls.{handed_with, says, leaves_work, plan_trouble, records_trouble}
use Rattle.rules.specs.Promises.{PlanPromise, RecordsPromise}
use Rattle.theory.proofs.Files.AnswerLaws.{plan_told_once}
use Rattle.rules.specs.declared.Link.{Link}
use Rattle.records.specs.Needs.{need_of}
use Rattle.records.proofs.Rooms.{rooms_tested}
use Rattle.records.proofs.Contents.{SameColumns, records_columns}

module _ (n : ℕ) (ts hs gone from to why w : List ℕ) (room : ℕ)
    (shortest : room ≡ min (length from) (min (length to) (length why))) where
  -- the first test that fails is the same
  trouble_same : plan_trouble n ts hs gone from to why w ≡ records_trouble n ts hs gone room w
  trouble_same = rooms_tested n ts hs gone from to why w room shortest

  -- so is what is said
  says_same : says 5 (plan_trouble n ts hs gone from to why w) (plan_values (handed_with n ts hs gone))
      ≡ says 5 (records_trouble n ts hs gone room w) (plan_values (handed_with n ts hs gone))
  says_same = rw trouble_same refl

  -- so is the work memory that is left
  work_same : leaves_work n ts hs w (plan_trouble n ts hs gone from to why w)
      ≡ leaves_work n ts hs w (records_trouble n ts hs gone room w)
  work_same = rw trouble_same refl

-- PLAN over records and PLAN over three lists give the same answer, leave the same work memory, and put the same links:
-- the records' columns are the fronts of the three lists
pub records_as_plan : (n : ℕ) (ts hs gone from to why w : List ℕ) (ls : List Link) {a b : PlanAnswer}
    {w₁ from₂ to₂ why₂ w₂ : List ℕ} {ls₁ : List Link} →
    length ls ≡ min (length from) (min (length to) (length why)) →
    RecordsPromise n ts hs gone ls w ls₁ w₁ (plan_told a) →
    PlanPromise n ts hs gone from to why w from₂ to₂ why₂ w₂ (plan_told b) →
    (a ≡ b) × (w₁ ≡ w₂) × SameColumns (need_of a) ls₁ from₂ to₂ why₂
records_as_plan n ts hs gone from to why w ls {a} {b} shortest p q = (
  plan_told_once a b (p.told_is ∙ sym (says_same n ts hs gone from to why w (length ls) shortest) ∙ sym q.told_is),
  p.work_left ∙ sym (work_same n ts hs gone from to why w (length ls) shortest) ∙ sym q.work_left,
  records_columns n ts hs gone from to why w ls a b shortest p q,
)
