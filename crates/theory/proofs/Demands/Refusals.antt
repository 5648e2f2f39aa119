-- Demand 1, of the calls: a refusal changes nothing in memory that the caller lent.
--   X_unchanged           a call that refuses leaves every lent list as it came, and work memory as `work_after` says
--   work_after i r w      lent work memory w after the refusal r
--   refusal_spares_work   it is as it came, whatever the refusal
-- Each list is what `leaves` says of the trouble, and the answer tells the trouble. A refusal that leaves work memory
-- zeroed changes `refusal_spares_work` and nothing else here. Assumes nothing.
use Prim.Native.Nat.{ℕ}
use mathlib.Core.Path.{◌≡◌, refl}
use mathlib.Core.List.{List}
use mathlib.Core.Option.{some}
use Rattle.std.specs.Prelude.{Err}
use Rattle.rules.specs.declared.Trouble.{Trouble}
use Rattle.rules.specs.Calls.{leaves_work}
use Rattle.theory.proofs.Demands.Calls.{HandedIn, arc_lists_are, link_lists_are, ReadCall, WriteCall}
use Rattle.theory.proofs.Demands.Calls.{StrongCall, ReachCall, SkeletonCall, PlanCall, RecordsCall}
use Rattle.theory.proofs.Demands.Answers.{read_refused_when, write_refused_when, strong_refused_when}
use Rattle.theory.proofs.Demands.Answers.{reach_refused_when, skeleton_refused_when, plan_refused_when}
use Rattle.theory.proofs.Demands.Answers.{records_refused_when}

-- READ refuses: neither list is changed
pub read_unchanged : {file : List ℕ} (c : ReadCall file) {r : Trouble} → c.answer ≡ Err r
    → c.left ≡ c.lent
read_unchanged c p =
    let e = (read_refused_when c).0 p in
    arc_lists_are (rw e at c.promise.tails) (rw e at c.promise.heads)

module _ (i : HandedIn) where
  -- lent work memory after a refusal
  abbrev pub work_after : Trouble → List ℕ → List ℕ
  work_after r w = leaves_work i.zones i.tails i.heads w (some r)

  -- it is as it came, whatever the refusal: no refusal leaves it zeroed
  pub refusal_spares_work : (r : Trouble) (w : List ℕ) → work_after r w ≡ w
  refusal_spares_work r w = refl

module _ {i : HandedIn} where
  -- WRITE refuses: the bytes are as they came
  pub write_unchanged : (c : WriteCall i) {r : Trouble} → c.answer ≡ Err r → c.left ≡ c.lent
  write_unchanged c p = rw ((write_refused_when c).0 p) at c.promise.bytes

  -- STRONG refuses
  pub strong_unchanged : (c : StrongCall i) {r : Trouble} → c.answer ≡ Err r
      → c.work' ≡ work_after i r c.work
  strong_unchanged c p = rw ((strong_refused_when c).0 p) at c.promise.work

  -- REACH refuses
  pub reach_unchanged : {x y : ℕ} (c : ReachCall i x y) {r : Trouble} → c.answer ≡ Err r
      → c.work' ≡ work_after i r c.work
  reach_unchanged c p = rw ((reach_refused_when c).0 p) at c.promise.work

  -- SKELETON refuses
  pub skeleton_unchanged : (c : SkeletonCall i) {r : Trouble} → c.answer ≡ Err r
      → (c.left ≡ c.lent) × (c.work' ≡ work_after i r c.work)
  skeleton_unchanged c p =
      let e = (skeleton_refused_when c).0 p in
      (arc_lists_are (rw e at c.promise.tails) (rw e at c.promise.heads), rw e at c.promise.work)

  -- PLAN refuses
  pub plan_unchanged : (c : PlanCall i) {r : Trouble} → c.answer ≡ Err r
      → (c.left ≡ c.lent) × (c.work' ≡ work_after i r c.work)
  plan_unchanged c p =
      let e = (plan_refused_when c).0 p in (
        link_lists_are (rw e at c.promise.from_left) (rw e at c.promise.to_left)
            (rw e at c.promise.why_left),
        rw e at c.promise.work_left,
      )

  -- PLAN over records refuses
  pub records_unchanged : (c : RecordsCall i) {r : Trouble} → c.answer ≡ Err r
      → (c.left ≡ c.lent) × (c.work' ≡ work_after i r c.work)
  records_unchanged c p =
      let e = (records_refused_when c).0 p in (rw e at c.promise.links_left, rw e at c.promise.work_left)
