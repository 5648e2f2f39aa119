-- Demand 1, of the calls: a call ends with its complete result exactly where no test of the table fails, and with the
-- refusal of the first test that fails exactly where there is one.
--   X_done_when       the answer is Done with these values exactly where no test fails and the rules give these values
--   X_refused_when    the answer is Refused r exactly where r is what the first test that fails says
--   PlanCounts       the five numbers of a plan's answer are those of the rules
-- What an answer says settles it, and DONE is told from a refusal; so each is one law on `says`, whatever the tests
-- are. Assumes nothing.
use Prim.Native.Nat.{ℕ}
use mathlib.Core.Path.{◌≡◌, refl, sym, ap, ap₂, ◌∙◌}
use mathlib.Core.Logic.{◌↔◌}
use mathlib.Core.Bool.{Bool}
use mathlib.Core.List.{List, [], ◌∷◌}
use mathlib.Core.Option.{Option, none, some}
use lib.ListN.{length}
use Rattle.rules.specs.Answers.{read_done, plan_done}
use Rattle.std.specs.Prelude.{Ok, Err}
use Rattle.rules.specs.declared.Trouble.{Trouble}
use Rattle.rules.specs.Answers.{Told, done, refused, yes_number}
use Rattle.rules.specs.Answers.{read_told, write_told, strong_told, reach_told, skeleton_told, plan_told}
use Rattle.rules.specs.Network.{Network, reaches, strong}
use Rattle.rules.specs.Components.{sources, sinks, alone}
use Rattle.rules.specs.Skeleton.{skeleton}
use Rattle.rules.specs.Plan.{plan_pairs, plan_need, plan_values}
use Rattle.rules.specs.Number.{Reading, got, bad}
use Rattle.rules.specs.File.{Given}
use Rattle.rules.specs.Calls.{says, found_says}
use Rattle.theory.proofs.Files.Readings.{got_value, bad_not_got}
use Rattle.theory.proofs.Files.AnswerLaws.{done_once, refused_once, done_not_refused, yes_once}
use Rattle.theory.proofs.Files.AnswerLaws.{read_told_once, write_told_once, strong_told_once}
use Rattle.theory.proofs.Files.AnswerLaws.{reach_told_once, skeleton_told_once, plan_told_once}
use Rattle.theory.proofs.Demands.Calls.{file_of, HandedIn, network, ReadCall, WriteCall, StrongCall}
use Rattle.theory.proofs.Demands.Calls.{ReachCall, SkeletonCall, PlanCall, RecordsCall, read_found}
use Rattle.theory.proofs.Demands.Calls.{write_call_trouble, strong_call_trouble, reach_call_trouble}
use Rattle.theory.proofs.Demands.Calls.{skeleton_call_trouble, plan_call_trouble, records_call_trouble}

-- what is said is DONE exactly where there is no trouble, with the same values
says_done : (k : ℕ) (t : Option Trouble) {vs ws : List ℕ} → (says k t vs ≡ done ws) ↔ ((t ≡ none) × (ws ≡ vs))
says_done k none = (λ e. (refl, sym (done_once e)), λ p. ap done (sym p.1))
says_done k (some r) {vs} {ws} = (λ e. absurd (done_not_refused k ws r (sym e)), λ p. cc)

-- what is said is a refusal exactly where it is the trouble
says_refused : (k : ℕ) (t : Option Trouble) (vs : List ℕ) {r : Trouble} → (says k t vs ≡ refused k r) ↔ (t ≡ some r)
says_refused k none vs {r} = (λ e. absurd (done_not_refused k vs r e), λ p. cc)
says_refused k (some u) vs {r} =
    (λ e. ap some (refused_once k u r e), λ p. ap (refused k) (let q : u ≡ r = cc in q))

-- a type of answers, of which two that say the same are the same, and an answer that says what the rules say
module _ {A : Type 0} (told : A → Told) (once : (a b : A) → told a ≡ told b → a ≡ b) (k : ℕ) (a b : A)
    (t : Option Trouble) (vs : List ℕ) (promise : told a ≡ says k t vs) where
  -- it is DONE with some values exactly where there is no trouble and they are the rules' values
  done_exactly : {ws : List ℕ} → told b ≡ done ws → (a ≡ b) ↔ ((t ≡ none) × (ws ≡ vs))
  done_exactly e = (
    λ p. (says_done k t).0 (sym promise ∙ ap told p ∙ e),
    λ p. once a b (promise ∙ (says_done k t).1 p ∙ sym e),
  )

  -- it is a refusal exactly where that is the trouble
  refused_exactly : {r : Trouble} → told b ≡ refused k r → (a ≡ b) ↔ (t ≡ some r)
  refused_exactly e = (
    λ p. (says_refused k t vs).0 (sym promise ∙ ap told p ∙ e),
    λ p. once a b (promise ∙ (says_refused k t vs).1 p ∙ sym e),
  )

-- two lists of one number are equal exactly where the numbers are
one_value : {x y : ℕ} → ((x ∷ []) ≡ (y ∷ [])) ↔ (x ≡ y)
one_value = (λ e. cc, λ e. ap (λ (z : ℕ). z ∷ []) e)

-- the second of two facts, said in another way
said_as : {A B C D : Type 0} → A ↔ (B × C) → C ↔ D → A ↔ (B × D)
said_as e f = (λ a. let p = e.0 a in (p.0, f.0 p.1), λ p. e.1 (p.0, f.1 p.1))

-- a yes or no is the one whose number is said
yes_value : {x y : Bool} → ((yes_number x ∷ []) ≡ (yes_number y ∷ [])) ↔ (x ≡ y)
yes_value {x} {y} = (λ e. yes_once x y (one_value.0 e), λ e. ap (λ (z : Bool). yes_number z ∷ []) e)

-- the five numbers of a plan's answer are those of the rules
pub record PlanCounts (N : Network) (s t q p need : ℕ) : Type 0 where
  pub sources_are : s ≡ length (sources N)
  pub sinks_are : t ≡ length (sinks N)
  pub alone_are : q ≡ length (alone N)
  pub pairs_are : p ≡ plan_pairs N
  pub need_is : need ≡ plan_need N

-- they are where they are the values that are said
counts_value : {N : Network} {s t q p need : ℕ}
    → ((s ∷ t ∷ q ∷ p ∷ need ∷ []) ≡ plan_values N) ↔ PlanCounts N s t q p need
counts_value = (
  λ e. record { sources_are = cc; sinks_are = cc; alone_are = cc; pairs_are = cc; need_is = cc },
  λ c j. c.sources_are j ∷ c.sinks_are j ∷ c.alone_are j ∷ c.pairs_are j ∷ c.need_is j ∷ [],
)

module _ {i : HandedIn} where
  -- WRITE
  pub write_done_when : (c : WriteCall i) {k : ℕ}
      → (c.answer ≡ Ok k)
      ↔ ((write_call_trouble c ≡ none) × (k ≡ length (file_of i)))
  write_done_when c =
      said_as (done_exactly write_told write_told_once 1 c.answer _ _ _ c.promise.told_is refl) one_value

  pub write_refused_when : (c : WriteCall i) {r : Trouble}
      → (c.answer ≡ Err r) ↔ (write_call_trouble c ≡ some r)
  write_refused_when c = refused_exactly write_told write_told_once 1 c.answer _ _ _ c.promise.told_is refl

  -- STRONG
  pub strong_done_when : (c : StrongCall i) {b : Bool}
      → (c.answer ≡ Ok b) ↔ ((strong_call_trouble c ≡ none) × (b ≡ strong (network i)))
  strong_done_when c =
      said_as (done_exactly strong_told strong_told_once 1 c.answer _ _ _ c.promise.told_is refl) yes_value

  pub strong_refused_when : (c : StrongCall i) {r : Trouble}
      → (c.answer ≡ Err r) ↔ (strong_call_trouble c ≡ some r)
  strong_refused_when c = refused_exactly strong_told strong_told_once 1 c.answer _ _ _ c.promise.told_is refl

  -- REACH
  pub reach_done_when : {x y : ℕ} (c : ReachCall i x y) {b : Bool}
      → (c.answer ≡ Ok b) ↔ ((reach_call_trouble c ≡ none) × (b ≡ reaches (network i) x y))
  reach_done_when c =
      said_as (done_exactly reach_told reach_told_once 1 c.answer _ _ _ c.promise.told_is refl) yes_value

  pub reach_refused_when : {x y : ℕ} (c : ReachCall i x y) {r : Trouble}
      → (c.answer ≡ Err r) ↔ (reach_call_trouble c ≡ some r)
  reach_refused_when c = refused_exactly reach_told reach_told_once 1 c.answer _ _ _ c.promise.told_is refl

  -- SKELETON
  pub skeleton_done_when : (c : SkeletonCall i) {k : ℕ}
      → (c.answer ≡ Ok k) ↔ ((skeleton_call_trouble c ≡ none) × (k ≡ length (skeleton (network i))))
  skeleton_done_when c =
      said_as (done_exactly skeleton_told skeleton_told_once 1 c.answer _ _ _ c.promise.told_is refl) one_value

  pub skeleton_refused_when : (c : SkeletonCall i) {r : Trouble}
      → (c.answer ≡ Err r) ↔ (skeleton_call_trouble c ≡ some r)
  skeleton_refused_when c =
      refused_exactly skeleton_told skeleton_told_once 1 c.answer _ _ _ c.promise.told_is refl

  -- PLAN
  pub plan_done_when : (c : PlanCall i) {s t q p need : ℕ}
      → (c.answer ≡ plan_done s t q p need)
      ↔ ((plan_call_trouble c ≡ none) × PlanCounts (network i) s t q p need)
  plan_done_when c =
      said_as (done_exactly plan_told plan_told_once 5 c.answer _ _ _ c.promise.told_is refl) counts_value

  pub plan_refused_when : (c : PlanCall i) {r : Trouble}
      → (c.answer ≡ Err r) ↔ (plan_call_trouble c ≡ some r)
  plan_refused_when c = refused_exactly plan_told plan_told_once 5 c.answer _ _ _ c.promise.told_is refl

  -- PLAN over records
  pub records_done_when : (c : RecordsCall i) {s t q p need : ℕ}
      → (c.answer ≡ plan_done s t q p need)
      ↔ ((records_call_trouble c ≡ none) × PlanCounts (network i) s t q p need)
  records_done_when c =
      said_as (done_exactly plan_told plan_told_once 5 c.answer _ _ _ c.promise.told_is refl) counts_value

  pub records_refused_when : (c : RecordsCall i) {r : Trouble}
      → (c.answer ≡ Err r) ↔ (records_call_trouble c ≡ some r)
  records_refused_when c = refused_exactly plan_told plan_told_once 5 c.answer _ _ _ c.promise.told_is refl

-- READ: what is said of a file is DONE exactly where it is read whole, with its two counts
found_done : (q : Reading Given) {n m : ℕ} → (found_says q ≡ done (n ∷ m ∷ []))
    ↔ ((g : Given) × (end : ℕ) × (q ≡ got g end) × (n ≡ g.zones) × (m ≡ length g.arcs))
found_done (got g end) {n} {m} = (
  λ e.
      let v = done_once e in
      let zones : n ≡ g.zones = cc in
      let arcs : m ≡ length g.arcs = cc in
      (g, end, refl, zones, arcs),
  λ p.
      let same : g ≡ p.0 = got_value p.2 in
      ap₂ (λ (x y : ℕ). done (x ∷ y ∷ []))
      (ap (λ (h : Given). h.zones) same ∙ sym p.3)
      (ap (λ (h : Given). length h.arcs) same ∙ sym p.4),
)
found_done (bad t) = (λ e. absurd (done_not_refused 2 _ t (sym e)), λ p. absurd (bad_not_got p.2))

-- and a refusal exactly where that is what the reading finds
found_refused : (q : Reading Given) {r : Trouble} → (found_says q ≡ refused 2 r) ↔ (q ≡ bad r)
found_refused (got g end) {r} = (λ e. absurd (done_not_refused 2 _ r e), λ p. absurd (bad_not_got (sym p)))
found_refused (bad t) {r} =
    (λ e. ap bad (refused_once 2 t r e), λ p. ap (refused 2) (let q : t ≡ r = cc in q))

module _ {file : List ℕ} (c : ReadCall file) where
  pub read_done_when : {n m : ℕ} → (c.answer ≡ read_done n m)
      ↔ ((g : Given) × (end : ℕ) × (read_found c ≡ got g end) × (n ≡ g.zones) × (m ≡ length g.arcs))
  read_done_when = (
    λ p. (found_done (read_found c)).0 (sym c.promise.told_is ∙ ap read_told p),
    λ p. read_told_once c.answer _ (c.promise.told_is ∙ (found_done (read_found c)).1 p),
  )

  pub read_refused_when : {r : Trouble} → (c.answer ≡ Err r) ↔ (read_found c ≡ bad r)
  read_refused_when = (
    λ p. (found_refused (read_found c)).0 (sym c.promise.told_is ∙ ap read_told p),
    λ p. read_told_once c.answer _ (c.promise.told_is ∙ (found_refused (read_found c)).1 p),
  )
