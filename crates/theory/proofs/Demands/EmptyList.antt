-- Document 02, No. 2, of the calls: with no number withdrawn every call is as it was before.
--   old_network_tests, old_question_tests   document 01's tests, with No. 1's HEAD: no LIST, NONE and GONE
--   network_tests_none   with the empty list a network has the trouble that it had, whatever tests follow
--   handed_none          (Accepting) and the network that the calls speak of is the one that it was
--   X_as_before          so each call's answer, and what it leaves, are those of the tests and the network before
-- LIST has no number to be said of, GONE is said of nothing, and NONE only of no zones at all, of which ZONES is said
-- before. READ has no list. Assumes nothing.
use Prim.Native.Nat.{ℕ, zero, suc}
use mathlib.Core.Path.{◌≡◌, refl, sym, ap, ◌∙◌}
use mathlib.Core.Bool.{Bool, true, false, not}
use mathlib.Core.List.{List, [], ◌∷◌, ◌++◌, map}
use mathlib.Core.Option.{Option, some}
use lib.ListN.{length}
use lib.Dec.{leb, eqb}
use Rattle.rules.specs.declared.Trouble.{Trouble}
use Rattle.rules.specs.declared.TroubleKind.TheVariants.{Zones, Arcs, Range, SelfArc, Pair, Head}
use Rattle.rules.specs.declared.Link.{Link}
use Rattle.rules.specs.Lists.{listed, over}
use Rattle.rules.specs.Answers.{refusal, Told, yes_number}
use Rattle.rules.specs.Network.{Arc, Network, arc_tails, arc_heads, reaches, strong}
use Rattle.rules.specs.Skeleton.{skeleton}
use Rattle.rules.specs.Plan.{link_starts, link_ends, link_whys, record_of, plan, plan_values}
use Rattle.rules.specs.File.{zones_bad, arcs_bad}
use Rattle.rules.specs.Calls.{Test, test, first_trouble, arcs_of, handed, arcs_tests, network_tests}
use Rattle.rules.specs.Calls.{question_tests, room_test, work_test, says, leaves, leaves_work, written}
use Rattle.rules.specs.Calls.{write_trouble, strong_trouble, reach_trouble, skeleton_trouble, plan_trouble}
use Rattle.rules.specs.Calls.{records_trouble}
use Rattle.rules.specs.Promises.{WritePromise, StrongPromise, ReachPromise, SkeletonPromise, PlanPromise}
use Rattle.rules.specs.Promises.{RecordsPromise}
use Rattle.theory.proofs.Files.Troubles.{first_trouble_append}
use Rattle.theory.proofs.Files.Accepting.{handed_none}

-- arc by arc, from index i on, as it was: RANGE for the tail, HEAD for the head, SELF
abbrev pub old_arcs_tests : ℕ → ℕ → List Arc → List Test
old_arcs_tests n i [] = []
old_arcs_tests n i (e ∷ es) =
    test (leb n e.tail) Range i
    ∷ test (leb n e.head) Head i
    ∷ test (eqb e.tail e.head) SelfArc i
    ∷ old_arcs_tests n (suc i) es

-- the tests of a network as they were: PAIR, ZONES, ARCS, then arc by arc
abbrev pub old_network_tests : ℕ → List ℕ → List ℕ → List Test
unfolding arcs_of
old_network_tests n ts hs =
    test (not (eqb (length ts) (length hs))) Pair 0
    ∷ test (zones_bad n) Zones 0
    ∷ test (arcs_bad (length ts)) Arcs 0
    ∷ old_arcs_tests n 0 (arcs_of ts hs)

-- the tests of a question as they were: RANGE for the first zone, HEAD for the second
abbrev pub old_question_tests : ℕ → ℕ → ℕ → ℕ → List Test
old_question_tests n m a b = test (leb n a) Range m ∷ test (leb n b) Head m ∷ []

-- what a test says before a trouble
abbrev before : Bool → Trouble → Option Trouble → Option Trouble
before b r t = elim b [ true ↦ some r | false ↦ t ]

-- with no number withdrawn, the arcs have the trouble that they had, whatever tests follow
arcs_tests_none : (n i : ℕ) (es : List Arc) (more : List Test)
    → first_trouble (arcs_tests n i es (listed []) ++ more) ≡ first_trouble (old_arcs_tests n i es ++ more)
arcs_tests_none n i [] more = refl
arcs_tests_none n i (e ∷ es) more =
    ap
    (λ (t : Option Trouble).
    before (leb n e.tail) (refusal Range i)
    (before (leb n e.head) (refusal Head i) (before (eqb e.tail e.head) (refusal SelfArc i) t)))
    (arcs_tests_none n (suc i) es more)

-- so has the network
pub network_tests_none : (n : ℕ) (ts hs : List ℕ) (more : List Test)
    → first_trouble (network_tests n ts hs [] ++ more) ≡ first_trouble (old_network_tests n ts hs ++ more)
unfolding arcs_of
network_tests_none zero ts hs more = refl
network_tests_none (suc n) ts hs more =
    ap
    (λ (t : Option Trouble).
    before (not (eqb (length ts) (length hs))) (refusal Pair 0)
    (before (zones_bad (suc n)) (refusal Zones 0) (before (arcs_bad (length ts)) (refusal Arcs 0) t)))
    (arcs_tests_none (suc n) 0 (arcs_of ts hs) more)

-- and so have the network and a question about it
pub asked_tests_none : (n : ℕ) (ts hs : List ℕ) (m a b : ℕ) (more : List Test)
    → first_trouble (network_tests n ts hs [] ++ (question_tests n m (listed []) a b ++ more))
    ≡ first_trouble (old_network_tests n ts hs ++ (old_question_tests n m a b ++ more))
asked_tests_none n ts hs m a b more =
    network_tests_none n ts hs (question_tests n m (listed []) a b ++ more)
    ∙ first_trouble_append (old_network_tests n ts hs) (question_tests n m (listed []) a b ++ more)
    ∙ sym (first_trouble_append (old_network_tests n ts hs) (old_question_tests n m a b ++ more))

-- each call on a network: what its promise with the empty list says is what it said before
module _ (n : ℕ) (ts hs : List ℕ) where
  -- the network as it was
  abbrev N : Network
  N = handed n ts hs

  -- the first trouble as it was, where the tests of the network are followed by more
  abbrev old_trouble : List Test → Option Trouble
  old_trouble more = first_trouble (old_network_tests n ts hs ++ more)

  -- the tests of lent lists that follow them, as each call has them
  abbrev write_room : List ℕ → List Test
  write_room file = room_test (length (written n ts hs)) (length file) ∷ []

  abbrev work_room : List ℕ → List Test
  work_room w = work_test n ts hs w ∷ []

  abbrev skeleton_rooms : List ℕ → List ℕ → List ℕ → List Test
  skeleton_rooms ots ohs w =
      work_test n ts hs w ∷ room_test (length ts) (length ots) ∷ room_test (length ts) (length ohs) ∷ []

  abbrev plan_rooms : List ℕ → List ℕ → List ℕ → List ℕ → List Test
  plan_rooms from to why w =
      work_test n ts hs w ∷ room_test n (length from) ∷ room_test n (length to) ∷ room_test n (length why) ∷ []

  abbrev records_rooms : List Link → List ℕ → List Test
  records_rooms ls w = work_test n ts hs w ∷ room_test n (length ls) ∷ []

  -- WRITE
  abbrev pub old_write : List ℕ → Option Trouble
  old_write file = old_trouble (write_room file)

  pub write_as_before : {file file' : List ℕ} {told : Told} → WritePromise n ts hs [] file file' told
      → (told ≡ says 1 (old_write file) (length (written n ts hs) ∷ []))
      × (file' ≡ leaves (old_write file) file (over (written n ts hs) file))
  unfolding write_trouble
  write_as_before {file} p =
      let t = network_tests_none n ts hs (write_room file) in (
        p.told_is ∙ (λ j. says 1 (t j) (length (written n ts hs) ∷ [])),
        p.bytes ∙ (λ j. leaves (t j) file (over (written n ts hs) file)),
      )

  -- STRONG
  abbrev pub old_strong : List ℕ → Option Trouble
  old_strong w = old_trouble (work_room w)

  pub strong_as_before : {w w' : List ℕ} {told : Told} → StrongPromise n ts hs [] w w' told
      → (told ≡ says 1 (old_strong w) (yes_number (strong N) ∷ [])) × (w' ≡ leaves_work n ts hs w (old_strong w))
  unfolding strong_trouble
  strong_as_before {w} p =
      let t = network_tests_none n ts hs (work_room w) in
      let M = handed_none n ts hs in
      (p.told_is ∙ (λ j. says 1 (t j) (yes_number (strong (M j)) ∷ [])), p.work ∙ ap (leaves_work n ts hs w) t)

  -- REACH, from zone a to zone b
  abbrev pub old_reach : ℕ → ℕ → List ℕ → Option Trouble
  old_reach a b w = old_trouble (old_question_tests n (length ts) a b ++ work_room w)

  pub reach_as_before : {a b : ℕ} {w w' : List ℕ} {told : Told} → ReachPromise n ts hs [] a b w w' told
      → (told ≡ says 1 (old_reach a b w) (yes_number (reaches N a b) ∷ []))
      × (w' ≡ leaves_work n ts hs w (old_reach a b w))
  unfolding reach_trouble
  reach_as_before {a} {b} {w} p =
      let t = asked_tests_none n ts hs (length ts) a b (work_room w) in
      let M = handed_none n ts hs in (
        p.told_is ∙ (λ j. says 1 (t j) (yes_number (reaches (M j) a b) ∷ [])),
        p.work ∙ ap (leaves_work n ts hs w) t,
      )

  -- SKELETON
  abbrev pub old_skeleton : List ℕ → List ℕ → List ℕ → Option Trouble
  old_skeleton ots ohs w = old_trouble (skeleton_rooms ots ohs w)

  pub skeleton_as_before : {ots ohs w ots' ohs' w' : List ℕ} {told : Told}
      → SkeletonPromise n ts hs [] ots ohs w ots' ohs' w' told
      → (told ≡ says 1 (old_skeleton ots ohs w) (length (skeleton N) ∷ []))
      × (ots' ≡ leaves (old_skeleton ots ohs w) ots (over (arc_tails (skeleton N)) ots))
      × (ohs' ≡ leaves (old_skeleton ots ohs w) ohs (over (arc_heads (skeleton N)) ohs))
      × (w' ≡ leaves_work n ts hs w (old_skeleton ots ohs w))
  unfolding skeleton_trouble
  skeleton_as_before {ots} {ohs} {w} p =
      let t = network_tests_none n ts hs (skeleton_rooms ots ohs w) in
      let M = handed_none n ts hs in (
        p.told_is ∙ (λ j. says 1 (t j) (length (skeleton (M j)) ∷ [])),
        p.tails ∙ (λ j. leaves (t j) ots (over (arc_tails (skeleton (M j))) ots)),
        p.heads ∙ (λ j. leaves (t j) ohs (over (arc_heads (skeleton (M j))) ohs)),
        p.work ∙ ap (leaves_work n ts hs w) t,
      )

  -- PLAN
  abbrev pub old_plan : List ℕ → List ℕ → List ℕ → List ℕ → Option Trouble
  old_plan from to why w = old_trouble (plan_rooms from to why w)

  pub plan_as_before : {from to why w from' to' why' w' : List ℕ} {told : Told}
      → PlanPromise n ts hs [] from to why w from' to' why' w' told
      → (told ≡ says 5 (old_plan from to why w) (plan_values N))
      × (from' ≡ leaves (old_plan from to why w) from (over (link_starts (plan N)) from))
      × (to' ≡ leaves (old_plan from to why w) to (over (link_ends (plan N)) to))
      × (why' ≡ leaves (old_plan from to why w) why (over (link_whys (plan N)) why))
      × (w' ≡ leaves_work n ts hs w (old_plan from to why w))
  unfolding plan_trouble
  plan_as_before {from} {to} {why} {w} p =
      let t = network_tests_none n ts hs (plan_rooms from to why w) in
      let M = handed_none n ts hs in (
        p.told_is ∙ (λ j. says 5 (t j) (plan_values (M j))),
        p.from_left ∙ (λ j. leaves (t j) from (over (link_starts (plan (M j))) from)),
        p.to_left ∙ (λ j. leaves (t j) to (over (link_ends (plan (M j))) to)),
        p.why_left ∙ (λ j. leaves (t j) why (over (link_whys (plan (M j))) why)),
        p.work_left ∙ ap (leaves_work n ts hs w) t,
      )

  -- PLAN over records
  abbrev pub old_records : List Link → List ℕ → Option Trouble
  old_records ls w = old_trouble (records_rooms ls w)

  pub records_as_before : {ls ls' : List Link} {w w' : List ℕ} {told : Told}
      → RecordsPromise n ts hs [] ls w ls' w' told
      → (told ≡ says 5 (old_records ls w) (plan_values N))
      × (ls' ≡ leaves (old_records ls w) ls (over (map record_of (plan N)) ls))
      × (w' ≡ leaves_work n ts hs w (old_records ls w))
  unfolding records_trouble
  records_as_before {ls} {ls'} {w} p =
      let t = network_tests_none n ts hs (records_rooms ls w) in
      let M = handed_none n ts hs in (
        p.told_is ∙ (λ j. says 5 (t j) (plan_values (M j))),
        p.links_left ∙ (λ j. leaves (t j) ls (over (map record_of (plan (M j))) ls)),
        p.work_left ∙ ap (leaves_work n ts hs w) t,
      )
