-- Document 02, No. 1 and 2, of the calls: a refusal tells which number is bad. What it names is wrong at its place.
--   read_points           READ: what the file holds there (`Points`, Files/Pointing)
--   read_counted          which number of the file that place is in, by counting bytes
--   read_range, read_head   of RANGE and HEAD: whose tail it is, and whose head
--   GoodList n xs        the numbers of a list ascend, and all are below n
--   WrongIn i q ps k p   what is wrong at the place p of what a call was handed, by the kind k of its refusal: the
--                         network i, the two zones q of a question, if any, and the lengths ps that are asked for
--   write_points ..       every other call
-- The trouble of a call is that of one test, which failed: the arcs go one after the other, and the places count them.
-- Assumes nothing.
use Prim.Native.Nat.{ℕ, suc, ◌+◌, ◌*◌, ◌<◌, ◌≤◌}
use native.Mathlib.Omega.{arith}
use mathlib.Core.Path.{◌≡◌, refl, sym, ap, subst, ◌∙◌}
use mathlib.Core.Logic.{◌⊎◌, inl, inr, ⊎_elim}
use mathlib.Core.Bool.{true, not, ◌||◌}
use mathlib.Core.List.{List, [], ◌∷◌, ◌++◌, zip_with, append_assoc, Memᴰ as In}
use mathlib.Core.Option.{Option, none, some}
use lib.ListN.{length, get_or, take}
use lib.Dec.{leb, eqb}
use borrow.Author.Tests.{ltb-true, leb-true, eqb-true, leb-false, eqb-false, not-true, not-false}
use Rattle.std.specs.Prelude.{Err}
use Rattle.rules.specs.declared.TroubleKind.{TroubleKind}
use Rattle.rules.specs.declared.TroubleKind.TheVariants.{Short, Long, Loose, Zones, Arcs, Range, SelfArc}
use Rattle.rules.specs.declared.TroubleKind.TheVariants.{Extra, Room, Pair, Head, ZoneList, None, Gone}
use Rattle.rules.specs.declared.Trouble.{Trouble}
use Rattle.rules.specs.Lists.{span, every, listed}
use Rattle.rules.specs.Answers.{refusal}
use Rattle.rules.specs.Network.{Ascending}
use Rattle.rules.specs.File.{zones_bad, arcs_bad}
use Rattle.rules.specs.Calls.{Test, first_trouble, arcs_of, list_tests, none_test, arcs_tests}
use Rattle.rules.specs.Calls.{write_trouble, strong_trouble, reach_trouble, skeleton_trouble, plan_trouble}
use Rattle.rules.specs.Calls.{records_trouble}
use Rattle.theory.proofs.Ground.Bools.{or_true, true_not_false}
use Rattle.theory.proofs.Withdrawn.Remaining.{listed_true}
use Rattle.theory.proofs.Files.Troubles.{fails_or, either_fails, none_not_some}
use Rattle.theory.proofs.Files.Listing.{Rising, list_place, rising_ascending, rising_below, ascending_rising}
use Rattle.theory.proofs.Files.Listing.{remains_some}
use Rattle.theory.proofs.Files.Numbering.{ends_before, begins_count, CountedTo}
use Rattle.theory.proofs.Files.Pointing.{TailAt, HeadAt, zones_wrong, Points, file_points}
use Rattle.theory.proofs.Files.Pointing.{file_counted}
use Rattle.theory.proofs.Demands.Calls.{Remains, tests_of, HandedIn, ReadCall, WriteCall, StrongCall}
use Rattle.theory.proofs.Demands.Calls.{ReachCall, SkeletonCall, PlanCall, RecordsCall}
use Rattle.theory.proofs.Demands.Answers.{read_refused_when, write_refused_when, strong_refused_when}
use Rattle.theory.proofs.Demands.Answers.{reach_refused_when, skeleton_refused_when, plan_refused_when}
use Rattle.theory.proofs.Demands.Answers.{records_refused_when}
use Rattle.theory.proofs.Demands.Accepts.{question_of, rooms, LongEnough, rooms_pass, rooms_say, write_rooms}
use Rattle.theory.proofs.Demands.Accepts.{strong_rooms, reach_rooms, skeleton_rooms, plan_rooms}
use Rattle.theory.proofs.Demands.Accepts.{records_rooms}

-- READ: what its refusal names is wrong at that place of the file
pub read_points : {file : List ℕ} (c : ReadCall file) {r : Trouble} → c.answer ≡ Err r
    → Points file (length c.lent.tails) (length c.lent.heads) r
read_points {file} c e = file_points file _ _ ((read_refused_when c).0 e)

-- and the number that this place is in is found by counting: before it as many numbers end as bytes below 128 stand
pub read_counted : {file : List ℕ} (c : ReadCall file) {r : Trouble} → c.answer ≡ Err r
    → CountedTo file r.place
read_counted {file} c e = file_counted file _ _ ((read_refused_when c).0 e)

-- RANGE: there the tail of some arc i begins, and it is no zone. Of the bytes before, 2 + 2 i are below 128: each ends
-- a number, so the arc is found by counting.
pub read_range : {file : List ℕ} (c : ReadCall file) {p : ℕ} → c.answer ≡ Err (refusal Range p)
    → (n i z : ℕ) × TailAt file n i p z × (n ≤ z) × (ends_before file p ≡ 2 + 2 * i)
read_range {file} c e =
    let w = read_points c e in
    (w.0, w.1, w.2, w.3, w.4, begins_count file w.3.number.begins)

-- HEAD: there the head of some arc i begins, and it is no zone. Of the bytes before, 3 + 2 i are below 128.
pub read_head : {file : List ℕ} (c : ReadCall file) {p : ℕ} → c.answer ≡ Err (refusal Head p)
    → (n i z : ℕ) × HeadAt file n i p z × (n ≤ z) × (ends_before file p ≡ 3 + 2 * i)
read_head {file} c e =
    let w = read_points c e in
    (w.0, w.1, w.2, w.3, w.4, begins_count file w.3.number.begins)

-- the zones of a question about a network of n zones: the first is none, and the second is none where the first is one
abbrev pub FirstBad : ℕ → Option (ℕ × ℕ) → Type 0
FirstBad n none = ⊥
FirstBad n (some q) = n ≤ q.0

abbrev pub SecondBad : ℕ → Option (ℕ × ℕ) → Type 0
SecondBad n none = ⊥
SecondBad n (some q) = (q.0 < n) × (n ≤ q.1)

-- one of them is withdrawn
abbrev pub EitherGone : List ℕ → Option (ℕ × ℕ) → Type 0
EitherGone gone none = ⊥
EitherGone gone (some q) = In q.0 gone ⊎ In q.1 gone

-- the numbers of a list ascend, and all are below n
abbrev pub GoodList : ℕ → List ℕ → Type 0
GoodList n xs = Ascending xs × ((z : ℕ) → In z xs → z < n)

-- a list of which LIST is not said is one
rising_good : (n : ℕ) (xs : List ℕ) → Rising n 0 xs → GoodList n xs
rising_good n xs R = (rising_ascending n 0 xs R, λ z m. rising_below n 0 xs R m)

-- GONE is said of two zones of which one is withdrawn
one_gone : (gone : List ℕ) (a b : ℕ) → (listed gone a || listed gone b) ≡ true → In a gone ⊎ In b gone
one_gone gone a b e =
    ⊎_elim (λ f. inl (listed_true gone a f)) (λ f. inr (listed_true gone b f))
    (or_true (listed gone a) (listed gone b) e)

-- what is to be shown of every refusal of an arc, where tests of n zones are followed by more
module _ (n : ℕ) (gone : List ℕ) (P : Trouble → Type 0) (more : List Test) where
  -- of the arcs of two lists, the first of which has the index j
  abbrev Each : ℕ → List ℕ → List ℕ → Type 0
  Each j ts hs =
      (p k : ℕ) → p ≡ j + k → k < length ts
      → (n ≤ get_or ts k 0 → P (refusal Range p))
      × (get_or ts k 0 < n → n ≤ get_or hs k 0 → P (refusal Head p))
      × (get_or ts k 0 < n → get_or ts k 0 ≡ get_or hs k 0 → P (refusal SelfArc p))
      × (In (get_or ts k 0) gone ⊎ In (get_or hs k 0) gone → P (refusal Gone p))

  -- a refusal is that of an arc, or the arcs pass
  arcs_tell : (j : ℕ) (ts hs : List ℕ) {r : Trouble} → length ts ≡ length hs → Each j ts hs
      → first_trouble (arcs_tests n j (arcs_of ts hs) (listed gone) ++ more) ≡ some r
      → P r ⊎ (first_trouble more ≡ some r)
  unfolding arcs_of zip_with
  arcs_tell j [] hs e each f = inr f
  arcs_tell j (a ∷ ts) [] e each f = absurd (omega arith)
  arcs_tell j (a ∷ ts) (b ∷ hs) e each f =
      let here = each j 0 (omega arith) (omega arith) in
      elim (fails_or (leb n a) _ _ f) [
        | inl g ↦ inl (subst P g.1 (here.0 (leb-true n a g.0)))
        | inr g ↦
            let tail = leb-false n a g.0 in
            elim (fails_or (leb n b) _ _ g.1) [
              | inl h ↦ inl (subst P h.1 (here.1 tail (leb-true n b h.0)))
              | inr h ↦ elim (fails_or (eqb a b) _ _ h.1) [
                | inl l ↦ inl (subst P l.1 (here.2 tail (eqb-true a b l.0)))
                | inr l ↦ elim (fails_or (listed gone a || listed gone b) _ _ l.1) [
                  | inl o ↦ inl (subst P o.1 (here.3 (one_gone gone a b o.0)))
                  | inr o ↦
                      arcs_tell (suc j) ts hs (omega arith)
                      (λ p k at inside. each p (suc k) (omega arith) (omega arith)) o.1
                ]
              ]
            ]
      ]

module _ (i : HandedIn) (q : Option (ℕ × ℕ)) (ps : List (ℕ × ℕ)) where
  -- the tail and the head of the arc of an index
  abbrev tail_of : ℕ → ℕ
  tail_of p = get_or i.tails p 0

  abbrev head_of : ℕ → ℕ
  head_of p = get_or i.heads p 0

  -- what is wrong at a place, by the kind of the refusal
  abbrev pub WrongIn : TroubleKind → ℕ → Type 0
  -- the lists do not pair up
  WrongIn Pair p = (p ≡ 0) × (length i.tails ≡ length i.heads → ⊥)
  -- the zone count, and the arc count
  WrongIn Zones p = (p ≡ 0) × ((i.zones ≡ 0) ⊎ (1024 < i.zones))
  WrongIn Arcs p = (p ≡ 0) × (4096 < length i.tails)
  -- the tail of the arc of that index; or, at the arc count, the first zone of the question
  WrongIn Range p =
      ((p < length i.tails) × (i.zones ≤ tail_of p)) ⊎ ((p ≡ length i.tails) × FirstBad i.zones q)
  -- its head, where its tail is a zone; or the second
  WrongIn Head p =
      ((p < length i.tails) × (tail_of p < i.zones) × (i.zones ≤ head_of p))
      ⊎ ((p ≡ length i.tails) × SecondBad i.zones q)
  -- both, where the tail is a zone
  WrongIn SelfArc p = (p < length i.tails) × (tail_of p < i.zones) × (tail_of p ≡ head_of p)
  -- the withdrawn number of that index: those before it are a good list, and with it they are none
  WrongIn ZoneList p =
      (p < length i.gone) × GoodList i.zones (take p i.gone)
      × (GoodList i.zones (take (suc p) i.gone) → ⊥)
  -- all withdrawn numbers: no zone remains
  WrongIn None p = (p ≡ 0) × ((z : ℕ) → Remains i z → ⊥)
  -- the tail or the head of the arc of that index, which is withdrawn; or, at the arc count, a zone of the question
  WrongIn Gone p =
      ((p < length i.tails) × (In (tail_of p) i.gone ⊎ In (head_of p) i.gone))
      ⊎ ((p ≡ length i.tails) × EitherGone i.gone q)
  -- something that was lent
  WrongIn Room p = (p ≡ 0) × (LongEnough ps → ⊥)
  -- these are said of files alone
  WrongIn Short p = ⊥
  WrongIn Long p = ⊥
  WrongIn Loose p = ⊥
  WrongIn Extra p = ⊥

  -- a refusal tells what is wrong at its place
  abbrev pub Tells : Trouble → Type 0
  Tells r = WrongIn r.kind r.place

  -- the list of withdrawn numbers: the refusal is one of its own, or it passes
  list_tells : {r : Trouble} (more : List Test) → first_trouble (list_tests i.zones 0 0 i.gone ++ more) ≡ some r
      → Tells r ⊎ (first_trouble more ≡ some r)
  list_tells {r} more e =
      elim (either_fails (list_tests i.zones 0 0 i.gone) more e) [
        | inl f ↦
            let b = list_place i.zones 0 0 i.gone r f in
            let at : 0 + b.index ≡ b.index = omega arith in
            inl (subst Tells (ap (refusal ZoneList) (sym at) ∙ sym b.says) (
              b.inside,
              rising_good _ _ b.good_so_far,
              λ g. b.not_further (ascending_rising i.zones _ g.0 g.1),
            ))
        | inr f ↦ inr f
      ]

  -- then NONE, and the arcs
  rest_tells : {r : Trouble} (more : List Test) → length i.tails ≡ length i.heads
      → first_trouble
      ((list_tests i.zones 0 0 i.gone
      ++ (none_test i.zones i.gone ∷ arcs_tests i.zones 0 (arcs_of i.tails i.heads) (listed i.gone)))
      ++ more)
      ≡ some r
      → Tells r ⊎ (first_trouble more ≡ some r)
  rest_tells more paired e =
      elim (list_tells _ (sym (ap first_trouble (append_assoc (list_tests i.zones 0 0 i.gone) _ more)) ∙ e)) [
        | inl t ↦ inl t
        | inr f ↦ elim (fails_or (every (listed i.gone) (span 0 i.zones)) _ _ f) [
          | inl g ↦ inl (subst Tells g.1 (refl, λ z m. true_not_false g.0 (remains_some i.zones i.gone m)))
          | inr g ↦
              arcs_tell i.zones i.gone Tells more 0 i.tails i.heads paired
              (λ p k at inside.
              let same : p ≡ k = omega arith in
              rw same (
                λ large. inl (inside, large),
                λ tail large. inl (inside, tail, large),
                λ tail self. (inside, tail, self),
                λ gone. inl (inside, gone),
              ))
              g.1
        ]
      ]

  -- the network: the refusal is one of its own, or it passes
  network_tells : {r : Trouble} (more : List Test) → first_trouble (tests_of i ++ more) ≡ some r
      → Tells r ⊎ (first_trouble more ≡ some r)
  unfolding arcs_of
  network_tells more e =
      let n = i.zones in
      elim (fails_or (not (eqb (length i.tails) (length i.heads))) _ _ e) [
        | inl f ↦ inl (subst Tells f.1 (refl, eqb-false _ _ (not-true _ f.0)))
        | inr f ↦ elim (fails_or (zones_bad n) _ _ f.1) [
          | inl g ↦ inl (subst Tells g.1 (refl, zones_wrong n g.0))
          | inr g ↦ elim (fails_or (arcs_bad (length i.tails)) _ _ g.1) [
            | inl h ↦ inl (subst Tells h.1 (refl, ltb-true _ _ h.0))
            | inr h ↦ rest_tells more (eqb-true _ _ (not-false _ f.0)) h.1
          ]
        ]
      ]

-- the tests of the question, if there is one
abbrev asked : HandedIn → Option (ℕ × ℕ) → List Test
asked i none = []
asked i (some q) = question_of i q.0 q.1

-- then the question: the refusal is one of its own, or it passes
question_tells : (i : HandedIn) (q : Option (ℕ × ℕ)) (ps : List (ℕ × ℕ)) {r : Trouble} (more : List Test)
    → first_trouble (asked i q ++ more) ≡ some r → Tells i q ps r ⊎ (first_trouble more ≡ some r)
question_tells i none ps more e = inr e
question_tells i (some q) ps more e =
    elim (fails_or (leb i.zones q.0) _ _ e) [
      | inl f ↦ inl (subst (Tells i (some q) ps) f.1 (inr (refl, leb-true _ _ f.0)))
      | inr f ↦ elim (fails_or (leb i.zones q.1) _ _ f.1) [
        | inl g ↦
            inl (subst (Tells i (some q) ps) g.1 (inr (refl, (leb-false _ _ f.0, leb-true _ _ g.0))))
        | inr g ↦ elim (fails_or (listed i.gone q.0 || listed i.gone q.1) _ _ g.1) [
          | inl h ↦ inl (subst (Tells i (some q) ps) h.1 (inr (refl, one_gone _ _ _ h.0)))
          | inr h ↦ inr h.1
        ]
      ]
    ]

-- and then what was lent: whatever is refused, what it names is wrong at its place
all_tell : (i : HandedIn) (q : Option (ℕ × ℕ)) (ps : List (ℕ × ℕ)) {r : Trouble}
    → first_trouble (tests_of i ++ (asked i q ++ rooms ps)) ≡ some r → Tells i q ps r
all_tell i q ps e =
    elim (network_tells i q ps (asked i q ++ rooms ps) e) [
      | inl t ↦ t
      | inr f ↦ elim (question_tells i q ps (rooms ps) f) [
        | inl t ↦ t
        | inr g ↦
            subst (Tells i q ps) (sym (rooms_say ps g)) (refl, λ long. none_not_some (rooms_pass ps long) g)
      ]
    ]

module _ {i : HandedIn} where
  -- WRITE
  pub write_points : (c : WriteCall i) {r : Trouble} → c.answer ≡ Err r
      → Tells i none (write_rooms c) r
  unfolding write_trouble
  write_points c e = all_tell i none (write_rooms c) ((write_refused_when c).0 e)

  -- STRONG
  pub strong_points : (c : StrongCall i) {r : Trouble} → c.answer ≡ Err r
      → Tells i none (strong_rooms c) r
  unfolding strong_trouble
  strong_points c e = all_tell i none (strong_rooms c) ((strong_refused_when c).0 e)

  -- REACH, from x to y
  pub reach_points : {x y : ℕ} (c : ReachCall i x y) {r : Trouble} → c.answer ≡ Err r
      → Tells i (some (x, y)) (reach_rooms c) r
  unfolding reach_trouble
  reach_points {x} {y} c e = all_tell i (some (x, y)) (reach_rooms c) ((reach_refused_when c).0 e)

  -- SKELETON
  pub skeleton_points : (c : SkeletonCall i) {r : Trouble} → c.answer ≡ Err r
      → Tells i none (skeleton_rooms c) r
  unfolding skeleton_trouble
  skeleton_points c e = all_tell i none (skeleton_rooms c) ((skeleton_refused_when c).0 e)

  -- PLAN
  pub plan_points : (c : PlanCall i) {r : Trouble} → c.answer ≡ Err r
      → Tells i none (plan_rooms c) r
  unfolding plan_trouble
  plan_points c e = all_tell i none (plan_rooms c) ((plan_refused_when c).0 e)

  -- PLAN over records
  pub records_points : (c : RecordsCall i) {r : Trouble} → c.answer ≡ Err r
      → Tells i none (records_rooms c) r
  unfolding records_trouble
  records_points c e = all_tell i none (records_rooms c) ((records_refused_when c).0 e)
