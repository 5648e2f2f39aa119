-- What the promises of the calls leave open: nothing.
--   X_outcomes_equal    any two outcomes of the call X that its promise allows are equal
-- An outcome is the answer and the lent lists as they are left. Both outcomes say what the rules say, and what an
-- answer says settles it. Assumes nothing.
use Prim.Native.Nat.{ℕ}
use mathlib.Core.Path.{◌≡◌, sym, ◌∙◌}
use mathlib.Core.List.{List}
use Rattle.rules.specs.Answers.{ReadAnswer, WriteAnswer, StrongAnswer, ReachAnswer, SkeletonAnswer, PlanAnswer}
use Rattle.rules.specs.declared.Link.{Link}
use Rattle.rules.specs.Answers.{read_told, write_told, strong_told, reach_told, skeleton_told, plan_told}
use Rattle.rules.specs.Promises.{ReadPromise, WritePromise, StrongPromise, ReachPromise, SkeletonPromise}
use Rattle.rules.specs.Promises.{PlanPromise, RecordsPromise}
use Rattle.theory.proofs.Files.AnswerLaws.{read_told_once, write_told_once, strong_told_once}
use Rattle.theory.proofs.Files.AnswerLaws.{reach_told_once, skeleton_told_once, plan_told_once}

-- READ: the answer, the tails and the heads
pub read_outcomes_equal : (file ts hs : List ℕ) {a b : ReadAnswer} {ts₁ hs₁ ts₂ hs₂ : List ℕ}
    → ReadPromise file ts hs ts₁ hs₁ (read_told a) → ReadPromise file ts hs ts₂ hs₂ (read_told b)
    → (a ≡ b) × (ts₁ ≡ ts₂) × (hs₁ ≡ hs₂)
read_outcomes_equal file ts hs {a} {b} p q =
    (read_told_once a b (p.told_is ∙ sym q.told_is), p.tails ∙ sym q.tails, p.heads ∙ sym q.heads)

module _ (n : ℕ) (ts hs gone : List ℕ) where
  -- WRITE: the answer and the bytes
  pub write_outcomes_equal : (file : List ℕ) {a b : WriteAnswer} {file₁ file₂ : List ℕ}
      → WritePromise n ts hs gone file file₁ (write_told a)
      → WritePromise n ts hs gone file file₂ (write_told b)
      → (a ≡ b) × (file₁ ≡ file₂)
  write_outcomes_equal file {a} {b} p q =
      (write_told_once a b (p.told_is ∙ sym q.told_is), p.bytes ∙ sym q.bytes)

  -- STRONG: the answer and the work memory
  pub strong_outcomes_equal : (w : List ℕ) {a b : StrongAnswer} {w₁ w₂ : List ℕ}
      → StrongPromise n ts hs gone w w₁ (strong_told a) → StrongPromise n ts hs gone w w₂ (strong_told b)
      → (a ≡ b) × (w₁ ≡ w₂)
  strong_outcomes_equal w {a} {b} p q =
      (strong_told_once a b (p.told_is ∙ sym q.told_is), p.work ∙ sym q.work)

  -- REACH: the answer and the work memory
  pub reach_outcomes_equal : (from to : ℕ) (w : List ℕ) {a b : ReachAnswer} {w₁ w₂ : List ℕ}
      → ReachPromise n ts hs gone from to w w₁ (reach_told a)
      → ReachPromise n ts hs gone from to w w₂ (reach_told b)
      → (a ≡ b) × (w₁ ≡ w₂)
  reach_outcomes_equal from to w {a} {b} p q =
      (reach_told_once a b (p.told_is ∙ sym q.told_is), p.work ∙ sym q.work)

  -- SKELETON: the answer and the three lent lists
  pub skeleton_outcomes_equal : (ots ohs w : List ℕ) {a b : SkeletonAnswer} {ots₁ ohs₁ w₁ ots₂ ohs₂ w₂ : List ℕ}
      → SkeletonPromise n ts hs gone ots ohs w ots₁ ohs₁ w₁ (skeleton_told a)
      → SkeletonPromise n ts hs gone ots ohs w ots₂ ohs₂ w₂ (skeleton_told b)
      → (a ≡ b) × (ots₁ ≡ ots₂) × (ohs₁ ≡ ohs₂) × (w₁ ≡ w₂)
  skeleton_outcomes_equal ots ohs w {a} {b} p q = (
    skeleton_told_once a b (p.told_is ∙ sym q.told_is),
    p.tails ∙ sym q.tails,
    p.heads ∙ sym q.heads,
    p.work ∙ sym q.work,
  )

  -- PLAN: the answer, the three lists and the work memory
  pub plan_outcomes_equal : (from to why w : List ℕ) {a b : PlanAnswer} {f₁ t₁ y₁ w₁ f₂ t₂ y₂ w₂ : List ℕ}
      → PlanPromise n ts hs gone from to why w f₁ t₁ y₁ w₁ (plan_told a)
      → PlanPromise n ts hs gone from to why w f₂ t₂ y₂ w₂ (plan_told b)
      → (a ≡ b) × (f₁ ≡ f₂) × (t₁ ≡ t₂) × (y₁ ≡ y₂) × (w₁ ≡ w₂)
  plan_outcomes_equal from to why w {a} {b} p q = (
    plan_told_once a b (p.told_is ∙ sym q.told_is),
    p.from_left ∙ sym q.from_left,
    p.to_left ∙ sym q.to_left,
    p.why_left ∙ sym q.why_left,
    p.work_left ∙ sym q.work_left,
  )

  -- PLAN over records: the answer, the records and the work memory
  pub records_outcomes_equal : (ls : List Link) (w : List ℕ) {a b : PlanAnswer} {ls₁ ls₂ : List Link} {w₁ w₂ : List ℕ}
      → RecordsPromise n ts hs gone ls w ls₁ w₁ (plan_told a)
      → RecordsPromise n ts hs gone ls w ls₂ w₂ (plan_told b)
      → (a ≡ b) × (ls₁ ≡ ls₂) × (w₁ ≡ w₂)
  records_outcomes_equal ls w {a} {b} p q = (
    plan_told_once a b (p.told_is ∙ sym q.told_is),
    p.links_left ∙ sym q.links_left,
    p.work_left ∙ sym q.work_left,
  )
