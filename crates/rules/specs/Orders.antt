-- Two troubles at once: of each two neighbouring tests of the documents' order, the earlier is told. No definition to
-- believe: outside examples, computed.
--   both_fail, first_told   what calls find that are handed a network with two troubles, and what is to be told
--   orders_right            they are the same
--   files_fail, files_told  what reading finds in files with two troubles, and what is to be told
--   files_right             they are the same
-- Document 01: "Order: PAIR, ZONES, ARCS, then arc by arc RANGE (tail, then head) and SELF, then the two zones of a
-- reach question (RANGE), then ROOM", and of a file "the first trouble from left to right. A number is tested for 1, 2,
-- 3 and then for its value." Document 02, No. 1: HEAD, "tested and placed where RANGE was for a head"; No. 2: LIST and
-- NONE, "both in that order after ARCS", and GONE, "after SELF for arcs and after both range tests for a question".
-- That HEAD comes before SELF cannot be told: an arc from a zone to itself has a head that is a zone.
use Rattle.std.specs.Prelude.{◌≡◌, refl, List, [], ◌∷◌, replicate}
use Rattle.std.proofs.Math.Option.{Option, none, some}
use Rattle.rules.specs.declared.TroubleKind.TheVariants.{
  Short,
  Long,
  Loose,
  Zones,
  Arcs,
  Range,
  SelfArc,
  Room,
  Pair,
  Head,
  ZoneList,
  None,
  Gone,
}
use Rattle.rules.specs.declared.Trouble.{Trouble}
use Rattle.rules.specs.Answers.{refusal}
use Rattle.rules.specs.Number.{Reading, got, bad}
use Rattle.rules.specs.File.{Given, file_at}
use Rattle.rules.specs.Calls.{arcs_of, written, write_trouble, strong_trouble, reach_trouble}
use Rattle.rules.specs.Calls.{skeleton_trouble, plan_trouble, records_trouble}

-- networks with two troubles, of two tests that stand one after the other, and what the calls find
abbrev pub both_fail : List (Option Trouble)
unfolding arcs_of written write_trouble strong_trouble reach_trouble skeleton_trouble plan_trouble records_trouble
both_fail =
    -- lists of different lengths, and no zone
    strong_trouble 0 (0 ∷ []) [] [] []
    ∷
    -- no zone, and 4,097 arcs
    strong_trouble 0 (replicate 4097 0) (replicate 4097 0) [] []
    ∷
    -- 4,097 arcs, and a tail that is no zone
    strong_trouble 2 (replicate 4097 2) (replicate 4097 1) [] []
    ∷
    -- an arc whose tail and head are no zones
    strong_trouble 2 (0 ∷ 2 ∷ []) (1 ∷ 3 ∷ []) [] []
    ∷
    -- an arc from 2 to itself, where 2 is no zone
    strong_trouble 2 (0 ∷ 2 ∷ []) (1 ∷ 2 ∷ []) [] []
    ∷
    -- a head that is no zone, and a later tail that is none
    strong_trouble 2 (0 ∷ 1 ∷ 2 ∷ []) (1 ∷ 2 ∷ 0 ∷ []) [] []
    ∷
    -- an arc from a zone to itself, and a later one whose head is no zone
    strong_trouble 2 (0 ∷ 1 ∷ 0 ∷ []) (1 ∷ 1 ∷ 2 ∷ []) [] []
    ∷
    -- an arc from a zone to itself, and a question about what is no zone
    reach_trouble 2 (0 ∷ 1 ∷ []) (1 ∷ 1 ∷ []) [] 2 0 []
    ∷
    -- a question from what is no zone to what is none
    reach_trouble 2 (0 ∷ []) (1 ∷ []) [] 9 9 []
    ∷
    -- a question to what is no zone, and no work memory
    reach_trouble 2 (0 ∷ []) (1 ∷ []) [] 0 9 []
    ∷
    -- 4,097 arcs, and a withdrawn number out of range
    strong_trouble 2 (replicate 4097 0) (replicate 4097 1) (2 ∷ []) []
    ∷
    -- a withdrawn number out of range, and one behind it that is not above it
    strong_trouble 7 [] [] (9 ∷ 4 ∷ []) []
    ∷
    -- the same withdrawn number twice, and all zones withdrawn
    strong_trouble 2 [] [] (0 ∷ 1 ∷ 1 ∷ []) []
    ∷
    -- all zones withdrawn, and a tail that is no zone
    strong_trouble 2 (2 ∷ []) (0 ∷ []) (0 ∷ 1 ∷ []) []
    ∷
    -- an arc from a withdrawn zone to itself
    strong_trouble 3 (0 ∷ 2 ∷ []) (1 ∷ 2 ∷ []) (2 ∷ []) []
    ∷
    -- a withdrawn head, and a later tail that is no zone
    strong_trouble 3 (0 ∷ 1 ∷ 3 ∷ []) (1 ∷ 2 ∷ 0 ∷ []) (2 ∷ []) []
    ∷
    -- a withdrawn tail, and a question about what is no zone
    reach_trouble 3 (0 ∷ 2 ∷ []) (1 ∷ 0 ∷ []) (2 ∷ []) 9 0 []
    ∷
    -- a question from a withdrawn zone to what is no zone
    reach_trouble 3 (0 ∷ []) (1 ∷ []) (2 ∷ []) 2 9 []
    ∷
    -- a question to a withdrawn zone, and no work memory
    reach_trouble 3 (0 ∷ []) (1 ∷ []) (2 ∷ []) 0 2 []
    ∷
    -- a withdrawn tail, and no room
    write_trouble 3 (0 ∷ 2 ∷ []) (1 ∷ 0 ∷ []) (2 ∷ []) []
    ∷
    -- an arc from a zone to itself, and no room
    write_trouble 2 (0 ∷ 1 ∷ []) (1 ∷ 1 ∷ []) [] []
    ∷ strong_trouble 2 (0 ∷ 1 ∷ []) (1 ∷ 1 ∷ []) [] []
    ∷ skeleton_trouble 2 (0 ∷ 1 ∷ []) (1 ∷ 1 ∷ []) [] [] [] []
    ∷ plan_trouble 2 (0 ∷ 1 ∷ []) (1 ∷ 1 ∷ []) [] [] [] [] []
    ∷ records_trouble 2 (0 ∷ 1 ∷ []) (1 ∷ 1 ∷ []) [] 0 []
    ∷ []

-- what the documents' order says of each
abbrev pub first_told : List (Option Trouble)
first_told =
    some (refusal Pair 0)
    ∷ some (refusal Zones 0)
    ∷ some (refusal Arcs 0)
    ∷ some (refusal Range 1)
    ∷ some (refusal Range 1)
    ∷ some (refusal Head 1)
    ∷ some (refusal SelfArc 1)
    ∷ some (refusal SelfArc 1)
    ∷ some (refusal Range 1)
    ∷ some (refusal Head 1)
    ∷ some (refusal Arcs 0)
    ∷ some (refusal ZoneList 0)
    ∷ some (refusal ZoneList 2)
    ∷ some (refusal None 0)
    ∷ some (refusal SelfArc 1)
    ∷ some (refusal Gone 1)
    ∷ some (refusal Gone 1)
    ∷ some (refusal Head 1)
    ∷ some (refusal Gone 1)
    ∷ some (refusal Gone 1)
    ∷ replicate 5 (some (refusal SelfArc 1))

-- the earlier of two tests that fail is told
pub orders_right : both_fail ≡ first_told
unfolding arcs_of written write_trouble strong_trouble reach_trouble skeleton_trouble plan_trouble records_trouble
orders_right = refl

-- the trouble that a reading found
abbrev trouble_found : Reading Given → Option Trouble
trouble_found r = elim r [ bad t ↦ some t | got g end ↦ none ]

-- files with two troubles, and what reading finds
abbrev pub files_fail : List (Option Trouble)
unfolding file_at
files_fail =
    -- no zone, and the bytes end before the arc count
    trouble_found (file_at (0x00 ∷ []) 0 0)
    ∷
    -- a zone count in a form that is too long, and above the bound
    trouble_found (file_at (0x81 ∷ 0x88 ∷ 0x00 ∷ []) 0 0)
    ∷
    -- three groups that say that another follows, and the end of the bytes
    trouble_found (file_at (0x80 ∷ 0x80 ∷ 0x80 ∷ []) 0 0)
    ∷
    -- an arc count in a form that is too long, and the bytes end before the arc
    trouble_found (file_at (0x02 ∷ 0x81 ∷ 0x00 ∷ []) 1 1)
    ∷
    -- 4,097 arcs, and no room for them
    trouble_found (file_at (0x02 ∷ 0x81 ∷ 0x20 ∷ []) 0 0)
    ∷
    -- no room for the one head, and a tail that is no zone
    trouble_found (file_at (0x02 ∷ 0x01 ∷ 0x05 ∷ 0x00 ∷ []) 1 0)
    ∷
    -- a tail that is no zone, and the bytes end before the head
    trouble_found (file_at (0x02 ∷ 0x01 ∷ 0x02 ∷ []) 1 1)
    ∷
    -- a tail that is no zone, and a head that is none
    trouble_found (file_at (0x02 ∷ 0x01 ∷ 0x02 ∷ 0x03 ∷ []) 1 1)
    ∷
    -- a tail that is no zone, and a head in a form that is too long
    trouble_found (file_at (0x02 ∷ 0x01 ∷ 0x02 ∷ 0x80 ∷ 0x00 ∷ []) 1 1)
    ∷
    -- an arc from 2 to itself, where 2 is no zone
    trouble_found (file_at (0x02 ∷ 0x01 ∷ 0x02 ∷ 0x02 ∷ []) 1 1)
    ∷
    -- a head that is no zone, and a byte behind it
    trouble_found (file_at (0x02 ∷ 0x01 ∷ 0x00 ∷ 0x02 ∷ 0x00 ∷ []) 1 1)
    ∷
    -- an arc from a zone to itself, and a byte behind it
    trouble_found (file_at (0x02 ∷ 0x01 ∷ 0x01 ∷ 0x01 ∷ 0x00 ∷ []) 1 1)
    ∷
    -- the bytes end inside the last head, whose value would be that of its tail
    trouble_found (file_at (0x02 ∷ 0x01 ∷ 0x01 ∷ 0x81 ∷ []) 1 1)
    ∷ []

-- what the documents say of each
abbrev pub files_told : List (Option Trouble)
files_told =
    some (refusal Zones 0)
    ∷ some (refusal Loose 2)
    ∷ some (refusal Long 2)
    ∷ some (refusal Loose 2)
    ∷ some (refusal Arcs 1)
    ∷ some (refusal Room 1)
    ∷ some (refusal Range 2)
    ∷ some (refusal Range 2)
    ∷ some (refusal Range 2)
    ∷ some (refusal Range 2)
    ∷ some (refusal Head 3)
    ∷ some (refusal SelfArc 3)
    ∷ some (refusal Short 4)
    ∷ []

-- the first trouble from left to right is told
pub files_right : files_fail ≡ files_told
unfolding file_at
files_right = refl
