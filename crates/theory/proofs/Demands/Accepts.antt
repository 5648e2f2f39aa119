-- Demands 1 to 3, of the calls: a call that ends with DONE was handed a network that a call accepts; and such a network
-- gets its result where what is lent is long enough, and is refused for ROOM only.
--   IsAccepted       (Calls) the lists pair up, and the network and its withdrawn numbers are what a call accepts
--   tests_accepted, accepted_tests   it is so where the tests of the network find no trouble; and back
--   accepted_proper   it is proper
--   question_of i x y the tests of a question from x to y
--   remains_in        a zone that remains is below the zone count, and not withdrawn
--   Spares i es       no arc of es begins or ends at a withdrawn zone;   remain_spares   so it is where all ends remain
--   X_accepts         a call that ends with DONE was handed such a network
--   reach_asked       and REACH was asked about two zones that remain
--   X_rooms c         the lengths that the call c asks for, each with the length of what was lent
--   LongEnough       each is as long as asked;   rooms   they as tests, which say ROOM at 0 (`rooms_say`)
--   X_answers         where all are, the call ends with DONE and with what the rules give
--   X_room            where it refuses, it refuses with ROOM
-- The tests of the network pass, so those of the lent lists decide. Assumes nothing.
use Prim.Native.Nat.{ℕ, ◌≤◌, ◌<◌}
use mathlib.Core.Path.{◌≡◌, refl, sym, ◌∙◌}
use mathlib.Core.Logic.{inl, inr, ◌≢◌}
use mathlib.Core.Bool.{Bool, false}
use mathlib.Core.List.{List, [], ◌∷◌, ◌++◌, Memᴰ as In}
use mathlib.Core.Option.{none, some}
use lib.ListN.{length}
use lib.Dec.{ltb}
use borrow.Author.Tests.{le-ltb}
use Rattle.rules.specs.Answers.{plan_done}
use Rattle.std.specs.Prelude.{Ok, Err}
use Rattle.rules.specs.declared.Trouble.{Trouble}
use Rattle.rules.specs.declared.TroubleKind.TheVariants.{Room}
use Rattle.rules.specs.Answers.{refusal}
use Rattle.rules.specs.Lists.{listed}
use Rattle.rules.specs.Network.{Arc, Proper, reaches, strong}
use Rattle.rules.specs.Skeleton.{skeleton}
use Rattle.rules.specs.Calls.{Test, first_trouble, question_tests, room_test, asked_work}
use Rattle.rules.specs.Calls.{write_trouble, strong_trouble, reach_trouble, skeleton_trouble, plan_trouble}
use Rattle.rules.specs.Calls.{records_trouble}
use Rattle.theory.proofs.Withdrawn.Remaining.{listed_false, remaining_in}
use Rattle.theory.proofs.Files.Troubles.{first_trouble_after, both_pass, pass, fails_or}
use Rattle.theory.proofs.Files.Accepting.{fine_with, fine_with_tests, fine_with_proper, question_remain}
use Rattle.theory.proofs.Files.Accepting.{remain_question}
use Rattle.theory.proofs.Demands.Calls.{file_of, tests_of, HandedIn, network, IsAccepted, WriteCall}
use Rattle.theory.proofs.Demands.Calls.{Remains, StrongCall, ReachCall, SkeletonCall, PlanCall}
use Rattle.theory.proofs.Demands.Calls.{RecordsCall}
use Rattle.theory.proofs.Demands.Answers.{PlanCounts, write_done_when, write_refused_when, strong_done_when}
use Rattle.theory.proofs.Demands.Answers.{strong_refused_when, reach_done_when, reach_refused_when}
use Rattle.theory.proofs.Demands.Answers.{skeleton_done_when, skeleton_refused_when, plan_done_when}
use Rattle.theory.proofs.Demands.Answers.{plan_refused_when, records_done_when, records_refused_when}

module _ (i : HandedIn) where
  -- where the tests of the network, and more, find no trouble, the network is one that a call accepts
  pub tests_accepted : (more : List Test)
      → first_trouble (tests_of i ++ more) ≡ none → IsAccepted i
  tests_accepted more e = fine_with _ _ _ _ (both_pass (tests_of i) more e).0

  -- and back: of a network that a call accepts the tests find no trouble, so those that follow decide
  pub accepted_tests : IsAccepted i → (more : List Test)
      → first_trouble (tests_of i ++ more) ≡ first_trouble more
  accepted_tests a more =
      first_trouble_after (tests_of i) more (fine_with_tests _ _ _ _ a)

  -- an accepted network is proper
  pub accepted_proper : IsAccepted i → Proper (network i)
  accepted_proper a = fine_with_proper _ _ _ _ a

  -- the tests of a question from x to y
  abbrev pub question_of : ℕ → ℕ → List Test
  question_of x y = question_tests i.zones (length i.tails) (listed i.gone) x y

  -- a zone that remains is below the zone count, and not withdrawn
  pub remains_in : {z : ℕ} → Remains i z → (z < i.zones) × (listed i.gone z ≡ false)
  remains_in = remaining_in i.zones i.gone

  -- no arc of a list begins or ends at a withdrawn zone
  abbrev pub Spares : List Arc → Type 0
  Spares es = (z : ℕ) → In z i.gone → (e : Arc) → In e es → (e.tail ≢ z) × (e.head ≢ z)

  -- so it is where both ends of each remain
  pub remain_spares : {es : List Arc} → ((e : Arc) → In e es → Remains i e.tail × Remains i e.head)
      → Spares es
  remain_spares ends z m e j =
      let r = ends e j in (
        λ same. listed_false {xs = i.gone} {z = e.tail} (remains_in r.0).1 (rw same m),
        λ same. listed_false {xs = i.gone} {z = e.head} (remains_in r.1).1 (rw same m),
      )

module _ {i : HandedIn} where
  -- a call that ends with DONE was handed a network that a call accepts
  pub write_accepts : (c : WriteCall i) {k : ℕ} → c.answer ≡ Ok k → IsAccepted i
  unfolding write_trouble
  write_accepts c e = tests_accepted i _ ((write_done_when c).0 e).0

  pub strong_accepts : (c : StrongCall i) {b : Bool} → c.answer ≡ Ok b → IsAccepted i
  unfolding strong_trouble
  strong_accepts c e = tests_accepted i _ ((strong_done_when c).0 e).0

  pub reach_accepts : {x y : ℕ} (c : ReachCall i x y) {b : Bool} → c.answer ≡ Ok b → IsAccepted i
  unfolding reach_trouble
  reach_accepts c e = tests_accepted i _ ((reach_done_when c).0 e).0

  pub skeleton_accepts : (c : SkeletonCall i) {k : ℕ} → c.answer ≡ Ok k → IsAccepted i
  unfolding skeleton_trouble
  skeleton_accepts c e = tests_accepted i _ ((skeleton_done_when c).0 e).0

  pub plan_accepts : (c : PlanCall i) {s t q p need : ℕ} → c.answer ≡ plan_done s t q p need → IsAccepted i
  unfolding plan_trouble
  plan_accepts c e = tests_accepted i _ ((plan_done_when c).0 e).0

  pub records_accepts : (c : RecordsCall i) {s t q p need : ℕ} → c.answer ≡ plan_done s t q p need
      → IsAccepted i
  unfolding records_trouble
  records_accepts c e = tests_accepted i _ ((records_done_when c).0 e).0

-- lengths that are asked for, each with the length of what was lent, as tests
abbrev pub rooms : List (ℕ × ℕ) → List Test
rooms [] = []
rooms (p ∷ ps) = room_test p.0 p.1 ∷ rooms ps

-- each is as long as asked
abbrev pub LongEnough : List (ℕ × ℕ) → Type 0
LongEnough [] = Unit {0}
LongEnough (p ∷ ps) = (p.0 ≤ p.1) × LongEnough ps

-- then no test fails
pub rooms_pass : (ps : List (ℕ × ℕ)) → LongEnough ps → first_trouble (rooms ps) ≡ none
rooms_pass [] l = refl
rooms_pass (p ∷ ps) l = pass (ltb p.1 p.0) _ (le-ltb p.1 p.0 l.0) (rooms_pass ps l.1)

-- where one fails, ROOM is said
pub rooms_say : (ps : List (ℕ × ℕ)) {r : Trouble} → first_trouble (rooms ps) ≡ some r → r ≡ refusal Room 0
rooms_say [] e = cc
rooms_say (p ∷ ps) e =
    elim (fails_or (ltb p.1 p.0) _ (first_trouble (rooms ps)) e) [
      | inl k ↦ sym k.1
      | inr more ↦ rooms_say ps more.1
    ]

-- the work memory that is asked for, and the length of what was lent
abbrev pub work_room : HandedIn → List ℕ → ℕ × ℕ
work_room i w = (asked_work i.zones (length i.tails), length w)

-- what each call asks for
module _ {i : HandedIn} where
  abbrev pub write_rooms : WriteCall i → List (ℕ × ℕ)
  write_rooms c = (length (file_of i), length c.lent) ∷ []

  abbrev pub strong_rooms : StrongCall i → List (ℕ × ℕ)
  strong_rooms c = work_room i c.work ∷ []

  abbrev pub reach_rooms : {x y : ℕ} → ReachCall i x y → List (ℕ × ℕ)
  reach_rooms c = work_room i c.work ∷ []

  abbrev pub skeleton_rooms : SkeletonCall i → List (ℕ × ℕ)
  skeleton_rooms c =
      work_room i c.work
      ∷ (length i.tails, length c.lent.tails)
      ∷ (length i.tails, length c.lent.heads)
      ∷ []

  abbrev pub plan_rooms : PlanCall i → List (ℕ × ℕ)
  plan_rooms c =
      work_room i c.work
      ∷ (i.zones, length c.lent.from)
      ∷ (i.zones, length c.lent.to)
      ∷ (i.zones, length c.lent.why)
      ∷ []

  abbrev pub records_rooms : RecordsCall i → List (ℕ × ℕ)
  records_rooms c = work_room i c.work ∷ (i.zones, length c.lent) ∷ []

  -- REACH that ends with DONE was asked about two zones that remain
  pub reach_asked : {x y : ℕ} (c : ReachCall i x y) {b : Bool} → c.answer ≡ Ok b
      → Remains i x × Remains i y
  unfolding reach_trouble
  reach_asked {x} {y} c e =
      let more = (both_pass (tests_of i) _ ((reach_done_when c).0 e).0).1 in
      let asked = (both_pass (question_of i x y) (rooms (reach_rooms c)) more).0 in
      question_remain i.zones (length i.tails) i.gone x y asked

-- a network that a call accepts
module _ {i : HandedIn} (a : IsAccepted i) where
  -- its tests pass, so those of the lent lists do where all are long enough
  lent_pass : (ps : List (ℕ × ℕ)) → LongEnough ps
      → first_trouble (tests_of i ++ rooms ps) ≡ none
  lent_pass ps l = accepted_tests i a (rooms ps) ∙ rooms_pass ps l

  -- and where a test fails, ROOM is said
  lent_say : (ps : List (ℕ × ℕ)) {r : Trouble}
      → first_trouble (tests_of i ++ rooms ps) ≡ some r → r ≡ refusal Room 0
  lent_say ps e = rooms_say ps (sym (accepted_tests i a (rooms ps)) ∙ e)

  -- WRITE
  pub write_answers : (c : WriteCall i) → LongEnough (write_rooms c)
      → c.answer ≡ Ok (length (file_of i))
  unfolding write_trouble
  write_answers c l = (write_done_when c).1 (lent_pass (write_rooms c) l, refl)

  pub write_room : (c : WriteCall i) {r : Trouble} → c.answer ≡ Err r → r ≡ refusal Room 0
  unfolding write_trouble
  write_room c e = lent_say (write_rooms c) ((write_refused_when c).0 e)

  -- STRONG
  pub strong_answers : (c : StrongCall i) → LongEnough (strong_rooms c)
      → c.answer ≡ Ok (strong (network i))
  unfolding strong_trouble
  strong_answers c l = (strong_done_when c).1 (lent_pass (strong_rooms c) l, refl)

  pub strong_room : (c : StrongCall i) {r : Trouble} → c.answer ≡ Err r → r ≡ refusal Room 0
  unfolding strong_trouble
  strong_room c e = lent_say (strong_rooms c) ((strong_refused_when c).0 e)

  -- REACH, between two zones that remain
  module _ {x y : ℕ} (x_remains : Remains i x) (y_remains : Remains i y) where
    -- the tests of the question pass too, so those of the lent lists decide
    asked_tests : (ps : List (ℕ × ℕ))
        → first_trouble (tests_of i ++ (question_of i x y ++ rooms ps)) ≡ first_trouble (rooms ps)
    asked_tests ps =
        accepted_tests i a (question_of i x y ++ rooms ps)
        ∙ first_trouble_after (question_of i x y) (rooms ps)
        (remain_question i.zones (length i.tails) i.gone x_remains y_remains)

    pub reach_answers : (c : ReachCall i x y) → LongEnough (reach_rooms c)
        → c.answer ≡ Ok (reaches (network i) x y)
    unfolding reach_trouble
    reach_answers c l = (reach_done_when c).1 (asked_tests (reach_rooms c) ∙ rooms_pass (reach_rooms c) l, refl)

    pub reach_room : (c : ReachCall i x y) {r : Trouble} → c.answer ≡ Err r → r ≡ refusal Room 0
    unfolding reach_trouble
    reach_room c e = rooms_say (reach_rooms c) (sym (asked_tests (reach_rooms c)) ∙ (reach_refused_when c).0 e)

  -- SKELETON
  pub skeleton_answers : (c : SkeletonCall i) → LongEnough (skeleton_rooms c)
      → c.answer ≡ Ok (length (skeleton (network i)))
  unfolding skeleton_trouble
  skeleton_answers c l = (skeleton_done_when c).1 (lent_pass (skeleton_rooms c) l, refl)

  pub skeleton_room : (c : SkeletonCall i) {r : Trouble} → c.answer ≡ Err r
      → r ≡ refusal Room 0
  unfolding skeleton_trouble
  skeleton_room c e = lent_say (skeleton_rooms c) ((skeleton_refused_when c).0 e)

  -- PLAN
  pub plan_answers : (c : PlanCall i) → LongEnough (plan_rooms c) → {s t q p need : ℕ}
      → PlanCounts (network i) s t q p need → c.answer ≡ plan_done s t q p need
  unfolding plan_trouble
  plan_answers c l counts = (plan_done_when c).1 (lent_pass (plan_rooms c) l, counts)

  pub plan_room : (c : PlanCall i) {r : Trouble} → c.answer ≡ Err r → r ≡ refusal Room 0
  unfolding plan_trouble
  plan_room c e = lent_say (plan_rooms c) ((plan_refused_when c).0 e)

  -- PLAN over records
  pub records_answers : (c : RecordsCall i) → LongEnough (records_rooms c) → {s t q p need : ℕ}
      → PlanCounts (network i) s t q p need → c.answer ≡ plan_done s t q p need
  unfolding records_trouble
  records_answers c l counts = (records_done_when c).1 (lent_pass (records_rooms c) l, counts)

  pub records_room : (c : RecordsCall i) {r : Trouble} → c.answer ≡ Err r → r ≡ refusal Room 0
  unfolding records_trouble
  records_room c e = lent_say (records_rooms c) ((records_refused_when c).0 e)
