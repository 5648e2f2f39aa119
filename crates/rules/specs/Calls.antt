-- The tests of each call, and what a trouble does to the answer and to what was lent (document 01, "When a call says
-- no"; document 02, No. 1 and 2). Promises.antt says with these what each call promises.
--   Test, first_trouble   the tests of a call in their order, and the first that fails
--   list_tests, none_test LIST and NONE, of the list of withdrawn numbers;   gone_test   GONE, of two zones
--   network_tests         PAIR, ZONES, ARCS, LIST, NONE, then arc by arc RANGE of the tail, HEAD, SELF and GONE
--   question_tests        the two zones of a reach question: RANGE, HEAD, GONE
--   room_test             ROOM: a lent list is shorter than asked
--   X_tests, X_trouble    the tests of the call X, in their order, and the first that fails
--   says, leaves, leaves_work   what is said, and what a lent list and work memory hold afterwards, by the trouble
-- A refusal changes no lent list. It leaves lent work memory as it came too, unless `zeroes` says yes of its kind.
use Rattle.std.specs.Prelude.{ℕ, suc, ◌+◌, ◌*◌, Bool, true, false, not, ◌||◌, length, ltb, leb, eqb}
use mathlib.Core.List.{List, [], ◌∷◌, ◌++◌, zip_with}
use Rattle.std.proofs.Math.Option.{Option, none, some}
use Rattle.rules.specs.declared.TroubleKind.{TroubleKind}
use Rattle.rules.specs.declared.TroubleKind.TheVariants.{Zones, Arcs, Range, SelfArc, Room, Pair, Head}
use Rattle.rules.specs.declared.TroubleKind.TheVariants.{ZoneList, None, Gone}
use Rattle.rules.specs.declared.Trouble.{Trouble}
use Rattle.rules.specs.Lists.{span, every, listed, over, cleared}
use Rattle.rules.specs.Answers.{refusal, Told, done, refused}
use Rattle.rules.specs.Network.{Arc, ◌⟶◌, arc_tails, arc_heads, Network, network_of, network_with}
use Rattle.rules.specs.Number.{Reading, got, bad}
use Rattle.rules.specs.File.{Given, file_bytes, zones_bad, arcs_bad}

-- a test of a call: whether it fails, and what is said then
pub record Test : Type 0 where
  pub fails : Bool
  pub says : Trouble

-- the test that fails where b is true, with a refusal of the kind k at a place
abbrev pub test : Bool → TroubleKind → ℕ → Test
test b k at = record { fails = b; says = refusal k at }

-- the first test that fails
abbrev pub first_trouble : List Test → Option Trouble
first_trouble [] = none
first_trouble (t ∷ ts) = elim t.fails [ true ↦ some t.says | false ↦ first_trouble ts ]

-- the arcs of a tail list and a head list
unfoldable pub arcs_of : List ℕ → List ℕ → List Arc
unfolding zip_with
arcs_of ts hs = zip_with ◌⟶◌ ts hs

-- the network that a zone count, a tail list and a head list hand in, as a file holds it
abbrev pub given : ℕ → List ℕ → List ℕ → Given
given n ts hs = record { zones = n; arcs = arcs_of ts hs }

-- and as a network of all numbers below the zone count
unfoldable pub handed : ℕ → List ℕ → List ℕ → Network
unfolding arcs_of
handed n ts hs = network_of n (arcs_of ts hs)

-- and, with a list of withdrawn numbers, of the zones that remain: the network that the calls speak of
unfoldable pub handed_with : ℕ → List ℕ → List ℕ → List ℕ → Network
unfolding arcs_of
handed_with n ts hs gone = network_with n (arcs_of ts hs) gone

-- the tests of a list of numbers below n from index i on: LIST where a number is out of range or not above the one
-- before. The next number has to be at least low, one above the one before, and 0 at the start
abbrev pub list_tests : ℕ → ℕ → ℕ → List ℕ → List Test
list_tests n i low [] = []
list_tests n i low (x ∷ xs) = test (leb n x || ltb x low) ZoneList i ∷ list_tests n (suc i) (suc x) xs

-- NONE: every number below n is withdrawn
abbrev pub none_test : ℕ → List ℕ → Test
none_test n gone = test (every (listed gone) (span 0 n)) None 0

-- GONE: one of two zones is withdrawn
abbrev pub gone_test : (ℕ → Bool) → ℕ → ℕ → ℕ → Test
gone_test gone a b at = test (gone a || gone b) Gone at

-- the tests of the arc of index i: RANGE for the tail, HEAD for the head, SELF, GONE
abbrev pub arc_tests : ℕ → ℕ → Arc → (ℕ → Bool) → List Test
arc_tests n i e gone =
    test (leb n e.tail) Range i
    ∷ test (leb n e.head) Head i
    ∷ test (eqb e.tail e.head) SelfArc i
    ∷ gone_test gone e.tail e.head i
    ∷ []

-- arc by arc, from index i on
abbrev pub arcs_tests : ℕ → ℕ → List Arc → (ℕ → Bool) → List Test
arcs_tests n i [] gone = []
arcs_tests n i (e ∷ es) gone = arc_tests n i e gone ++ arcs_tests n (suc i) es gone

-- the tests of a network that is handed in: PAIR, ZONES, ARCS, LIST, NONE, then arc by arc
abbrev pub network_tests : ℕ → List ℕ → List ℕ → List ℕ → List Test
unfolding arcs_of
network_tests n ts hs gone =
    test (not (eqb (length ts) (length hs))) Pair 0
    ∷ test (zones_bad n) Zones 0
    ∷ test (arcs_bad (length ts)) Arcs 0
    ∷ (list_tests n 0 0 gone ++ (none_test n gone ∷ arcs_tests n 0 (arcs_of ts hs) (listed gone)))

-- the tests of the two zones of a question about a network of n zones and m arcs: RANGE for the first, which counts as
-- a tail, HEAD for the second, and GONE for either, all at the arc count
abbrev pub question_tests : ℕ → ℕ → (ℕ → Bool) → ℕ → ℕ → List Test
question_tests n m gone a b = test (leb n a) Range m ∷ test (leb n b) Head m ∷ gone_test gone a b m ∷ []

-- ROOM: a lent list is shorter than asked
abbrev pub room_test : ℕ → ℕ → Test
room_test asked lent = test (ltb lent asked) Room 0

-- the work memory that a call asks for: 16 times the zone count plus 3 times the arc count
abbrev pub asked_work : ℕ → ℕ → ℕ
asked_work n m = 16 * n + 3 * m

-- a refusal where there is a trouble, else DONE with the values
abbrev pub says : ℕ → Option Trouble → List ℕ → Told
says k t vs = elim t [ some r ↦ refused k r | none ↦ done vs ]

-- whether a refusal leaves the asked work memory zeroed, as a success does: none of document 01's kinds does
abbrev pub zeroes : TroubleKind → Bool
zeroes k = false

-- whether a call leaves it zeroed
abbrev pub zeroed : Option Trouble → Bool
zeroed none = true
zeroed (some t) = zeroes t.kind

-- a lent list: as it came where there is a trouble, else what the call leaves
abbrev pub leaves : {A : Type 0} → Option Trouble → List A → List A → List A
leaves t before after = elim t [ some r ↦ before | none ↦ after ]

-- the two counts that a reading of a file found, or its refusal
abbrev pub found_says : Reading Given → Told
found_says r = elim r [ bad t ↦ refused 2 t | got g end ↦ done (g.zones ∷ length g.arcs ∷ []) ]

-- a lent list of tails: the tails that were found, or as it came
abbrev pub found_tails : Reading Given → List ℕ → List ℕ
found_tails r ts = elim r [ bad t ↦ ts | got g end ↦ over (arc_tails g.arcs) ts ]

-- a lent list of heads: the heads that were found, or as it came
abbrev pub found_heads : Reading Given → List ℕ → List ℕ
found_heads r hs = elim r [ bad t ↦ hs | got g end ↦ over (arc_heads g.arcs) hs ]

-- every other call is handed a network: a zone count, a tail list and a head list, and withdrawn numbers
module _ (n : ℕ) (ts hs : List ℕ) where
  -- the file of the network
  unfoldable pub written : List ℕ
  unfolding file_bytes
  written = file_bytes (given n ts hs)

  -- ROOM for lent work memory
  abbrev pub work_test : List ℕ → Test
  work_test w = room_test (asked_work n (length ts)) (length w)

  -- what lent work memory holds afterwards: the asked part zeros, the rest as it came
  abbrev pub leaves_work : List ℕ → Option Trouble → List ℕ
  leaves_work w t = elim (zeroed t) [ true ↦ cleared (asked_work n (length ts)) w | false ↦ w ]

module _ (n : ℕ) (ts hs gone : List ℕ) where
  -- WRITE: a list of bytes is lent, and ROOM is said exactly when the file is longer. The file holds no list
  abbrev pub write_tests : List ℕ → List Test
  unfolding written
  write_tests file = network_tests n ts hs gone ++ (room_test (length (written n ts hs)) (length file) ∷ [])

  unfoldable pub write_trouble : List ℕ → Option Trouble
  unfolding written arcs_of
  write_trouble file = first_trouble (write_tests file)

  -- STRONG: work memory is lent
  abbrev pub strong_tests : List ℕ → List Test
  strong_tests w = network_tests n ts hs gone ++ (work_test n ts hs w ∷ [])

  unfoldable pub strong_trouble : List ℕ → Option Trouble
  unfolding arcs_of
  strong_trouble w = first_trouble (strong_tests w)

  -- REACH, from zone a to zone b: work memory is lent
  abbrev pub reach_tests : ℕ → ℕ → List ℕ → List Test
  reach_tests a b w =
      network_tests n ts hs gone
      ++ (question_tests n (length ts) (listed gone) a b ++ (work_test n ts hs w ∷ []))

  unfoldable pub reach_trouble : ℕ → ℕ → List ℕ → Option Trouble
  unfolding arcs_of
  reach_trouble a b w = first_trouble (reach_tests a b w)

  -- SKELETON: two lists, each asked to be as long as the input's arc list, and work memory are lent
  abbrev pub skeleton_tests : List ℕ → List ℕ → List ℕ → List Test
  skeleton_tests ots ohs w =
      network_tests n ts hs gone
      ++ (work_test n ts hs w ∷ room_test (length ts) (length ots) ∷ room_test (length ts) (length ohs) ∷ [])

  unfoldable pub skeleton_trouble : List ℕ → List ℕ → List ℕ → Option Trouble
  unfolding arcs_of
  skeleton_trouble ots ohs w = first_trouble (skeleton_tests ots ohs w)

  -- PLAN: three lists, each asked to be as long as the zone count, and work memory are lent
  abbrev pub plan_tests : List ℕ → List ℕ → List ℕ → List ℕ → List Test
  plan_tests from to why w =
      network_tests n ts hs gone
      ++ (work_test n ts hs w ∷ room_test n (length from) ∷ room_test n (length to) ∷ room_test n (length why) ∷ [])

  unfoldable pub plan_trouble : List ℕ → List ℕ → List ℕ → List ℕ → Option Trouble
  unfolding arcs_of
  plan_trouble from to why w = first_trouble (plan_tests from to why w)

  -- PLAN over records: so many records, asked to be as many as the zones, and work memory are lent
  abbrev pub records_tests : ℕ → List ℕ → List Test
  records_tests room w = network_tests n ts hs gone ++ (work_test n ts hs w ∷ room_test n room ∷ [])

  unfoldable pub records_trouble : ℕ → List ℕ → Option Trouble
  unfolding arcs_of
  records_trouble room w = first_trouble (records_tests room w)
