-- An answer says what it is: two answers of a call that say the same are the same.
--   kind_once          the number of a kind names it
--   yes_once, yes_few  so does the number of a yes or a no, which is at most 1
--   done_once, refused_once, done_not_refused      the shared part, over what an answer says
--   answer_once        so does any answer whose values name what is handed out
--   read_told_once ..  each call's answers
-- The kinds in the order of their numbers undo `trouble_number`; no kind has number 0, so DONE is told from a refusal.
-- Assumes nothing.
use Prim.Native.Nat.{ℕ, ◌-◌, ◌≤◌}
use native.Mathlib.Omega.{arith}
use mathlib.Core.Path.{◌≡◌, refl, sym, ◌∙◌, ap, ap₂}
use mathlib.Core.Bool.{Bool, true, false}
use mathlib.Core.List.{List, [], ◌∷◌}
use lib.ListN.{get_or}
use lib.Dec.{lit≤}
use Rattle.rules.specs.Answers.{ReadAnswer, WriteAnswer, StrongAnswer, ReachAnswer, SkeletonAnswer, PlanAnswer}
use Rattle.std.specs.Prelude.{Result, Ok, Err}
use Rattle.rules.specs.Answers.{trouble_number, refusal, Told, done, refused, yes_number}
use Rattle.rules.specs.Answers.{read_told, write_told, strong_told, reach_told, skeleton_told, plan_told}
use Rattle.rules.specs.declared.TroubleKind.{TroubleKind}
use Rattle.rules.specs.declared.TroubleKind.TheVariants.{Short, Long, Loose, Zones, Arcs, Range, SelfArc}
use Rattle.rules.specs.declared.TroubleKind.TheVariants.{Extra, Room, Pair, Head, ZoneList, None, Gone}
use Rattle.rules.specs.declared.Trouble.{Trouble}

-- the kinds in the order of their numbers, from 1 on
abbrev kinds : List TroubleKind
kinds =
    Short ∷ Long ∷ Loose ∷ Zones ∷ Arcs ∷ Range ∷ SelfArc ∷ Extra ∷ Room ∷ Pair ∷ Head ∷ ZoneList ∷ None ∷ Gone ∷ []

-- the kind of a number
abbrev kind_of : ℕ → TroubleKind
kind_of n = get_or kinds (n - 1) Short

-- the kind of a kind's number is the kind, and the number is not 0
kind_back : (k : TroubleKind) → (kind_of (trouble_number k) ≡ k) × (1 ≤ trouble_number k)
kind_back Short = (refl, lit≤ tt)
kind_back Long = (refl, lit≤ tt)
kind_back Loose = (refl, lit≤ tt)
kind_back Zones = (refl, lit≤ tt)
kind_back Arcs = (refl, lit≤ tt)
kind_back Range = (refl, lit≤ tt)
kind_back SelfArc = (refl, lit≤ tt)
kind_back Extra = (refl, lit≤ tt)
kind_back Room = (refl, lit≤ tt)
kind_back Pair = (refl, lit≤ tt)
kind_back Head = (refl, lit≤ tt)
kind_back ZoneList = (refl, lit≤ tt)
kind_back None = (refl, lit≤ tt)
kind_back Gone = (refl, lit≤ tt)

-- the number of a kind names it
pub kind_once : (k l : TroubleKind) → trouble_number k ≡ trouble_number l → k ≡ l
kind_once k l e = sym (kind_back k).0 ∙ ap kind_of e ∙ (kind_back l).0

-- the number of a yes or no names it
pub yes_once : (a b : Bool) → yes_number a ≡ yes_number b → a ≡ b
yes_once true true e = refl
yes_once true false e = absurd (omega arith)
yes_once false true e = absurd (omega arith)
yes_once false false e = refl

-- which is at most 1
pub yes_few : (b : Bool) → yes_number b ≤ 1
yes_few true = omega arith
yes_few false = omega arith

-- DONE names its values
pub done_once : {vs ws : List ℕ} → done vs ≡ done ws → vs ≡ ws
done_once e = ap (λ (a : Told). a.values) e

-- what a refusal says names its trouble
pub refused_once : (k : ℕ) (t u : Trouble) → refused k t ≡ refused k u → t ≡ u
refused_once k t u e =
    ap₂ refusal
    (kind_once t.kind u.kind (ap (λ (a : Told). a.number) e))
    (ap (λ (a : Told). a.place) e)

-- DONE is no refusal
pub done_not_refused : (k : ℕ) (vs : List ℕ) (t : Trouble) → done vs ≡ refused k t → ⊥
done_not_refused k vs t e = omega (arith, (kind_back t.kind).1, ap (λ (a : Told). a.number) e)

-- two answers that say the same are the same, where the values name what is handed out
answer_once : {A : Type 0} (told : Result A Trouble → Told) (values : A → List ℕ) (k : ℕ)
    → ((a : A) → told (Ok a) ≡ done (values a)) → ((t : Trouble) → told (Err t) ≡ refused k t)
    → ((a b : A) → values a ≡ values b → a ≡ b)
    → (r q : Result A Trouble) → told r ≡ told q → r ≡ q
answer_once told values k ok err names (Ok a) (Ok b) e = ap Ok (names a b (done_once (sym (ok a) ∙ e ∙ ok b)))
answer_once told values k ok err names (Ok a) (Err u) e =
    absurd (done_not_refused k (values a) u (sym (ok a) ∙ e ∙ err u))
answer_once told values k ok err names (Err t) (Ok b) e =
    absurd (done_not_refused k (values b) t (sym (ok b) ∙ sym e ∙ err t))
answer_once told values k ok err names (Err t) (Err u) e = ap Err (refused_once k t u (sym (err t) ∙ e ∙ err u))

-- one number names itself
number_once : (n m : ℕ) → n ∷ [] ≡ m ∷ [] → n ≡ m
number_once n m e = ap (λ xs. get_or xs 0 0) e

-- the number of a yes or no does, alone in a list
answer_yes_once : (a b : Bool) → yes_number a ∷ [] ≡ yes_number b ∷ [] → a ≡ b
answer_yes_once a b e = yes_once a b (number_once _ _ e)

-- two answers of reading that say the same are the same
pub read_told_once : (r q : ReadAnswer) → read_told r ≡ read_told q → r ≡ q
read_told_once =
    answer_once read_told (λ c. c.zones ∷ c.arcs ∷ []) 2 (λ a. refl) (λ t. refl)
    (λ a b e. ap (λ xs. record { zones = get_or xs 0 0; arcs = get_or xs 1 0 }) e)

-- two answers of writing that say the same are the same
pub write_told_once : (r q : WriteAnswer) → write_told r ≡ write_told q → r ≡ q
write_told_once = answer_once write_told (λ n. n ∷ []) 1 (λ a. refl) (λ t. refl) number_once

-- two answers of the strong call that say the same are the same
pub strong_told_once : (r q : StrongAnswer) → strong_told r ≡ strong_told q → r ≡ q
strong_told_once =
    answer_once strong_told (λ b. yes_number b ∷ []) 1 (λ a. refl) (λ t. refl) answer_yes_once

-- two answers of the reach call that say the same are the same
pub reach_told_once : (r q : ReachAnswer) → reach_told r ≡ reach_told q → r ≡ q
reach_told_once =
    answer_once reach_told (λ b. yes_number b ∷ []) 1 (λ a. refl) (λ t. refl) answer_yes_once

-- two answers of the skeleton call that say the same are the same
pub skeleton_told_once : (r q : SkeletonAnswer) → skeleton_told r ≡ skeleton_told q → r ≡ q
skeleton_told_once = answer_once skeleton_told (λ n. n ∷ []) 1 (λ a. refl) (λ t. refl) number_once

-- two answers of the plan call that say the same are the same
pub plan_told_once : (r q : PlanAnswer) → plan_told r ≡ plan_told q → r ≡ q
plan_told_once =
    answer_once plan_told (λ c. c.sources ∷ c.sinks ∷ c.alone ∷ c.pairs ∷ c.need ∷ []) 5 (λ a. refl) (λ t. refl)
    (λ a b e.
    ap
    (λ xs.
    record {
      sources = get_or xs 0 0;
      sinks = get_or xs 1 0;
      alone = get_or xs 2 0;
      pairs = get_or xs 3 0;
      need = get_or xs 4 0;
    })
    e)
