-- What the calls answer, in the numbers of document 01, "When a call says no", and of document 02, No. 1 and 2.
--   trouble_number   the number of each kind of refusal: nowhere else do these numbers stand
--   refusal k at     the refusal of a kind at a place, as the code's `Trouble`
--   Told             what an answer says: the number, the place, and the values
--   ReadAnswer ..    what each call answers: `Ok` with its values, or `Err` with the refusal
--   read_done, plan_done    an answer with its values, where these are more than one
--   read_told ..     what each case of each call's answer says
--   refused k t      what a refusal says where the answer has k values: each of them is 0
--   answer_eight     the eight numbers of the C interface
-- Every promise speaks of an answer through these.
use Rattle.std.specs.Prelude.{ℕ, List, [], ◌∷◌, Bool, true, false, replicate, Result, Ok, Err}
use Rattle.rules.specs.Lists.{over}
use Rattle.rules.specs.declared.TroubleKind.{TroubleKind}
use Rattle.rules.specs.declared.TroubleKind.TheVariants.{Short, Long, Loose, Zones, Arcs, Range, SelfArc}
use Rattle.rules.specs.declared.TroubleKind.TheVariants.{Extra, Room, Pair, Head, ZoneList, None, Gone}
use Rattle.rules.specs.declared.Trouble.{Trouble}
use Rattle.rules.specs.declared.FileCounts.{FileCounts}
use Rattle.rules.specs.declared.PlanCounts.{PlanCounts}

-- document 01's table, and document 02's further kinds; DONE is 0
abbrev pub trouble_number : TroubleKind → ℕ
trouble_number Short = 1
trouble_number Long = 2
trouble_number Loose = 3
trouble_number Zones = 4
trouble_number Arcs = 5
trouble_number Range = 6
trouble_number SelfArc = 7
trouble_number Extra = 8
trouble_number Room = 9
trouble_number Pair = 10
trouble_number Head = 11
trouble_number ZoneList = 12
trouble_number None = 13
trouble_number Gone = 14

-- the refusal of a kind at a place
abbrev pub refusal : TroubleKind → ℕ → Trouble
refusal k at = record { kind = k; place = at }

-- what an answer says: the number (0 for DONE), the place (0 for DONE), and the values
pub record Told : Type 0 where
  pub number : ℕ
  pub place : ℕ
  pub values : List ℕ

-- DONE, with its values
abbrev pub done : List ℕ → Told
done vs = record { number = 0; place = 0; values = vs }

-- a refusal carries its number and its place, and every other number of the answer is 0
abbrev pub refused : ℕ → Trouble → Told
refused k t = record { number = trouble_number t.kind; place = t.place; values = replicate k 0 }

-- yes is 1, and no is 0
abbrev pub yes_number : Bool → ℕ
yes_number true = 1
yes_number false = 0

-- the answer of each call: the values that it hands out, or the refusal
abbrev pub ReadAnswer : Type 0
ReadAnswer = Result FileCounts Trouble

abbrev pub WriteAnswer : Type 0
WriteAnswer = Result ℕ Trouble

abbrev pub StrongAnswer : Type 0
StrongAnswer = Result Bool Trouble

abbrev pub ReachAnswer : Type 0
ReachAnswer = Result Bool Trouble

abbrev pub SkeletonAnswer : Type 0
SkeletonAnswer = Result ℕ Trouble

abbrev pub PlanAnswer : Type 0
PlanAnswer = Result PlanCounts Trouble

-- reading is done, with these zones and arcs
abbrev pub read_done : ℕ → ℕ → ReadAnswer
read_done zones arcs = Ok (record { zones = zones; arcs = arcs })

-- the plan is done, with these s, t, q, p, and the number of links
abbrev pub plan_done : ℕ → ℕ → ℕ → ℕ → ℕ → PlanAnswer
plan_done s t q p need = Ok (record { sources = s; sinks = t; alone = q; pairs = p; need = need })

-- reading: zones, arcs
abbrev pub read_told : ReadAnswer → Told
read_told (Ok c) = done (c.zones ∷ c.arcs ∷ [])
read_told (Err t) = refused 2 t

-- writing: the file's length
abbrev pub write_told : WriteAnswer → Told
write_told (Ok n) = done (n ∷ [])
write_told (Err t) = refused 1 t

-- strong: yes or no
abbrev pub strong_told : StrongAnswer → Told
strong_told (Ok b) = done (yes_number b ∷ [])
strong_told (Err t) = refused 1 t

-- reach: yes or no
abbrev pub reach_told : ReachAnswer → Told
reach_told (Ok b) = done (yes_number b ∷ [])
reach_told (Err t) = refused 1 t

-- skeleton: its arc count
abbrev pub skeleton_told : SkeletonAnswer → Told
skeleton_told (Ok n) = done (n ∷ [])
skeleton_told (Err t) = refused 1 t

-- plan: s, t, q, p, and the number of links
abbrev pub plan_told : PlanAnswer → Told
plan_told (Ok c) = done (c.sources ∷ c.sinks ∷ c.alone ∷ c.pairs ∷ c.need ∷ [])
plan_told (Err t) = refused 5 t

-- the eight numbers that the C interface hands out: the number, the place, the values, and 0 in what is left
abbrev pub answer_eight : Told → List ℕ
answer_eight t = over (t.number ∷ t.place ∷ t.values) (replicate 8 0)
