-- The proved cases: one constant table, one test that is computed over all its rows, one statement.
--   rows             document 01's lettered cases A to L (L is 3 at 2 by document 02, No. 1), eight networks of shapes
--                    that these leave out, and networks with withdrawn zones (document 02, No. 2)
--   row_right r      whether the definitions give what the row wants: links in order and counts, a skeleton's file, a
--                    refusal's number and place, or the answer to a question
--   cases_right      every row is right
--   kinds_right      the kinds of refusal have the numbers of the documents
--   row_numbers r    the row as the numbers of a constant array, as the crate `cases` holds it and runs it
-- An arc is one number, 0x23 for the arc from 2 to 3; a link is one number, 0x150 for the chain link from 5 to 0.
use Rattle.std.specs.Prelude.{ℕ, zero, suc, ◌+◌, ◌-◌, ◌*◌, ◌/◌, ◌%◌, ◌≡◌, refl, List, [], ◌∷◌, ◌++◌, map, Bool, true}
use Rattle.std.specs.Prelude.{false, ◌&&◌, length, get_or, replicate, eqb}
use Rattle.rules.specs.declared.TroubleKind.TheVariants.{
  Short,
  Long,
  Loose,
  Zones,
  Arcs,
  Range,
  SelfArc,
  Extra,
  Room,
  Pair,
  Head,
  ZoneList,
  None,
  Gone,
}
use Rattle.rules.specs.Lists.{span, every}
use Rattle.rules.specs.Answers.{trouble_number, yes_number}
use Rattle.rules.specs.Network.{Arc, ◌⟶◌, arc_tails, arc_heads, Network, network_with, reaches}
use Rattle.rules.specs.Components.{sources, sinks, alone}
use Rattle.rules.specs.Skeleton.{skeleton}
use Rattle.rules.specs.Plan.{Link, why_number, plan, plan_pairs, plan_need, plan_values}
use Rattle.rules.specs.File.{file_bytes, file_at}
use Rattle.rules.specs.Calls.{found_says, says, arcs_of, plan_trouble, reach_trouble}

-- a row: document 01's letter (45, a dash, where it has none), what is asked for (0 the plan, 1 the skeleton, 2
-- reading a file, 3 a plan that is refused, 4 whether a zone reaches another), the zone count, the arcs or the file's
-- bytes, the withdrawn numbers, the links, the bytes of the skeleton's file or the two zones of the question, and the
-- answer's numbers: of a plan s, t, q, p and need, of a skeleton its arc count, of a refusal its number and place, of a
-- question both and then 1 for yes
pub record Row : Type 0 where
  pub letter : ℕ
  pub asks : ℕ
  pub zones : ℕ
  pub input : List ℕ
  pub gone : List ℕ
  pub output : List ℕ
  pub told : List ℕ

-- a row of document 02, No. 2, which gives no letters
abbrev gone_row : ℕ → ℕ → List ℕ → List ℕ → List ℕ → List ℕ → Row
gone_row asks zones input gone output told =
    record { letter = 45; asks = asks; zones = zones; input = input; gone = gone; output = output; told = told }

-- a row with no withdrawn number
abbrev row : ℕ → ℕ → ℕ → List ℕ → List ℕ → List ℕ → Row
row letter asks zones input output told =
    record { letter = letter; asks = asks; zones = zones; input = input; gone = []; output = output; told = told }

-- the table
abbrev pub rows : List Row
rows =
    -- A: ring and chain
    row 65 0 6 (0x02 ∷ 0x23 ∷ 0x04 ∷ 0x14 ∷ 0x45 ∷ [])
    (0x031 ∷ 0x150 ∷ []) (2 ∷ 2 ∷ 0 ∷ 2 ∷ 2 ∷ [])
    ∷
    -- B: one zone is strong, alone 1
    row 66 0 1 []
    [] (0 ∷ 0 ∷ 1 ∷ 0 ∷ 0 ∷ [])
    ∷
    -- C: three alone
    row 67 0 3 []
    (0x101 ∷ 0x112 ∷ 0x120 ∷ []) (0 ∷ 0 ∷ 3 ∷ 0 ∷ 3 ∷ [])
    ∷
    -- D: one source, one sink
    row 68 0 2 (0x01 ∷ [])
    (0x110 ∷ []) (1 ∷ 1 ∷ 0 ∷ 1 ∷ 1 ∷ [])
    ∷
    -- E: surplus sinks
    row 69 0 4 (0x01 ∷ 0x02 ∷ 0x03 ∷ [])
    (0x112 ∷ 0x123 ∷ 0x130 ∷ []) (1 ∷ 3 ∷ 0 ∷ 1 ∷ 3 ∷ [])
    ∷
    -- F: turned round
    row 70 0 4 (0x10 ∷ 0x20 ∷ 0x30 ∷ [])
    (0x121 ∷ 0x132 ∷ 0x103 ∷ []) (3 ∷ 1 ∷ 0 ∷ 1 ∷ 3 ∷ [])
    ∷
    -- G: a pair and a back link, p = 1
    row 71 0 4 (0x02 ∷ 0x03 ∷ 0x12 ∷ [])
    (0x120 ∷ 0x231 ∷ []) (2 ∷ 2 ∷ 0 ∷ 1 ∷ 2 ∷ [])
    ∷
    -- H: one alone
    row 72 0 3 (0x01 ∷ [])
    (0x112 ∷ 0x120 ∷ []) (1 ∷ 1 ∷ 1 ∷ 1 ∷ 2 ∷ [])
    ∷
    -- I: a strong network
    row 73 0 3 (0x01 ∷ 0x12 ∷ 0x20 ∷ [])
    [] (0 ∷ 0 ∷ 1 ∷ 0 ∷ 0 ∷ [])
    ∷
    -- J: a skeleton, as its file
    row 74 1 4 (0x01 ∷ 0x12 ∷ 0x02 ∷ 0x21 ∷ 0x23 ∷ 0x03 ∷ [])
    (0x04 ∷ 0x04 ∷ 0x00 ∷ 0x01 ∷ 0x01 ∷ 0x02 ∷ 0x01 ∷ 0x03 ∷ 0x02 ∷ 0x01 ∷ []) (4 ∷ [])
    ∷
    -- K: the empty file
    row 75 2 0 []
    [] (1 ∷ 0 ∷ [])
    ∷
    -- L: a loose number
    row 76 2 0 (0x80 ∷ 0x80 ∷ 0x00 ∷ [])
    [] (3 ∷ 2 ∷ [])
    ∷
    -- more sinks than sources, and alone
    row 45 0 4 (0x01 ∷ 0x02 ∷ [])
    (0x112 ∷ 0x123 ∷ 0x130 ∷ []) (1 ∷ 2 ∷ 1 ∷ 1 ∷ 3 ∷ [])
    ∷
    -- turned round, and alone
    row 45 0 4 (0x10 ∷ 0x20 ∷ [])
    (0x121 ∷ 0x132 ∷ 0x103 ∷ []) (2 ∷ 1 ∷ 1 ∷ 1 ∷ 3 ∷ [])
    ∷
    -- ring, chain and back
    row 45 0 6 (0x01 ∷ 0x02 ∷ 0x43 ∷ 0x53 ∷ [])
    (0x014 ∷ 0x130 ∷ 0x225 ∷ []) (3 ∷ 3 ∷ 0 ∷ 2 ∷ 3 ∷ [])
    ∷
    -- turned round, with back
    row 45 0 5 (0x04 ∷ 0x13 ∷ 0x23 ∷ 0x03 ∷ [])
    (0x120 ∷ 0x132 ∷ 0x241 ∷ []) (3 ∷ 2 ∷ 0 ∷ 1 ∷ 3 ∷ [])
    ∷
    -- turned round, with ring
    row 45 0 5 (0x01 ∷ 0x23 ∷ 0x43 ∷ [])
    (0x030 ∷ 0x142 ∷ 0x114 ∷ []) (3 ∷ 2 ∷ 0 ∷ 2 ∷ 3 ∷ [])
    ∷
    -- all four at once
    row 45 0 8 (0x01 ∷ 0x51 ∷ 0x71 ∷ 0x63 ∷ 0x62 ∷ [])
    (0x020 ∷ 0x176 ∷ 0x147 ∷ 0x114 ∷ 0x235 ∷ []) (4 ∷ 3 ∷ 1 ∷ 2 ∷ 5 ∷ [])
    ∷
    -- the lowest sink is not the first met
    row 45 0 4 (0x01 ∷ 0x02 ∷ 0x13 ∷ [])
    (0x123 ∷ 0x130 ∷ []) (1 ∷ 2 ∷ 0 ∷ 1 ∷ 2 ∷ [])
    ∷
    -- components of several zones as ends
    row 45 0 5 (0x12 ∷ 0x21 ∷ 0x20 ∷ 0x34 ∷ 0x43 ∷ [])
    (0x103 ∷ 0x131 ∷ []) (1 ∷ 1 ∷ 1 ∷ 1 ∷ 2 ∷ [])
    ∷
    -- three zones, 1 withdrawn, no arc: the other two are alone
    gone_row 0 3 [] (1 ∷ [])
    (0x102 ∷ 0x120 ∷ []) (0 ∷ 0 ∷ 2 ∷ 0 ∷ 2 ∷ [])
    ∷
    -- one zone remains: strong
    gone_row 0 3 [] (0 ∷ 2 ∷ [])
    [] (0 ∷ 0 ∷ 1 ∷ 0 ∷ 0 ∷ [])
    ∷
    -- the lowest number is withdrawn, and one in the middle
    gone_row 0 5 (0x12 ∷ []) (0 ∷ 3 ∷ [])
    (0x124 ∷ 0x141 ∷ []) (1 ∷ 1 ∷ 1 ∷ 1 ∷ 2 ∷ [])
    ∷
    -- turned round, alone, and the highest number withdrawn
    gone_row 0 5 (0x10 ∷ 0x20 ∷ []) (4 ∷ [])
    (0x121 ∷ 0x132 ∷ 0x103 ∷ []) (2 ∷ 1 ∷ 1 ∷ 1 ∷ 3 ∷ [])
    ∷
    -- the zones that remain are strong
    gone_row 0 4 (0x13 ∷ 0x31 ∷ []) (0 ∷ 2 ∷ [])
    [] (0 ∷ 0 ∷ 1 ∷ 0 ∷ 0 ∷ [])
    ∷
    -- a skeleton with a withdrawn zone in the middle of a component's numbers
    gone_row 1 4 (0x02 ∷ 0x20 ∷ 0x03 ∷ 0x23 ∷ []) (1 ∷ [])
    (0x04 ∷ 0x03 ∷ 0x00 ∷ 0x02 ∷ 0x00 ∷ 0x03 ∷ 0x02 ∷ 0x00 ∷ []) (3 ∷ [])
    ∷
    -- LIST at 0: out of range
    gone_row 3 3 (0x01 ∷ []) (3 ∷ [])
    [] (12 ∷ 0 ∷ [])
    ∷
    -- LIST at 1: not above the one before
    gone_row 3 7 (0x01 ∷ []) (4 ∷ 3 ∷ [])
    [] (12 ∷ 1 ∷ [])
    ∷
    -- LIST at 1: the same number again
    gone_row 3 7 (0x01 ∷ []) (4 ∷ 4 ∷ [])
    [] (12 ∷ 1 ∷ [])
    ∷
    -- LIST at 0: out of range comes before the order of the next
    gone_row 3 7 (0x01 ∷ []) (9 ∷ 4 ∷ [])
    [] (12 ∷ 0 ∷ [])
    ∷
    -- NONE: all are withdrawn
    gone_row 3 2 [] (0 ∷ 1 ∷ [])
    [] (13 ∷ 0 ∷ [])
    ∷
    -- GONE of a tail
    gone_row 3 3 (0x01 ∷ 0x20 ∷ []) (2 ∷ [])
    [] (14 ∷ 1 ∷ [])
    ∷
    -- GONE of a head
    gone_row 3 3 (0x01 ∷ 0x12 ∷ []) (2 ∷ [])
    [] (14 ∷ 1 ∷ [])
    ∷
    -- SELF comes before GONE
    gone_row 3 3 (0x01 ∷ 0x22 ∷ []) (2 ∷ [])
    [] (7 ∷ 1 ∷ [])
    ∷
    -- GONE of an arc comes before RANGE of a later one
    gone_row 3 3 (0x20 ∷ 0x31 ∷ []) (2 ∷ [])
    [] (14 ∷ 0 ∷ [])
    ∷
    -- a question between two zones that remain
    gone_row 4 3 (0x02 ∷ []) (1 ∷ [])
    (0 ∷ 2 ∷ []) (0 ∷ 0 ∷ 1 ∷ [])
    ∷
    -- GONE of the first zone of a question
    gone_row 4 3 (0x02 ∷ []) (1 ∷ [])
    (1 ∷ 0 ∷ []) (14 ∷ 1 ∷ 0 ∷ [])
    ∷
    -- GONE of the second
    gone_row 4 3 (0x02 ∷ []) (1 ∷ [])
    (0 ∷ 1 ∷ []) (14 ∷ 1 ∷ 0 ∷ [])
    ∷
    -- GONE of a zone and itself
    gone_row 4 3 (0x02 ∷ []) (1 ∷ [])
    (1 ∷ 1 ∷ []) (14 ∷ 1 ∷ 0 ∷ [])
    ∷
    -- HEAD of the second comes before GONE of the first
    gone_row 4 3 (0x02 ∷ []) (1 ∷ [])
    (1 ∷ 9 ∷ []) (11 ∷ 1 ∷ 0 ∷ [])
    ∷ []

-- whether two lists of numbers are the same
abbrev same_list : List ℕ → List ℕ → Bool
same_list [] [] = true
same_list [] (y ∷ ys) = false
same_list (x ∷ xs) [] = false
same_list (x ∷ xs) (y ∷ ys) = eqb x y && same_list xs ys

-- 0x23 is the arc from 2 to 3
abbrev code_arc : ℕ → Arc
code_arc x = (x / 16) ⟶ (x % 16)

-- the chain link from 5 to 0 is 0x150
abbrev link_code : Link → ℕ
link_code l = why_number l.why * 256 + l.start * 16 + l.end

-- the network of a row
abbrev row_network : Row → Network
row_network r = network_with r.zones (map code_arc r.input) r.gone

-- its tails and its heads
abbrev row_tails : Row → List ℕ
row_tails r = arc_tails (map code_arc r.input)

abbrev row_heads : Row → List ℕ
row_heads r = arc_heads (map code_arc r.input)

-- what is lent to a row's call, as much as any row asks for
abbrev lent : List ℕ
lent = replicate 200 7

-- the plan has the links, in order, and the counts
plan_right : Row → Bool
unfolding plan sources sinks alone plan_pairs plan_need
plan_right r =
    let N = row_network r in
    same_list (map link_code (plan N)) r.output
    && same_list (plan_values N) r.told

-- the skeleton's file has the bytes, and the skeleton the arc count
skeleton_right : Row → Bool
unfolding skeleton file_bytes
skeleton_right r =
    let es = skeleton (row_network r) in
    same_list (file_bytes (record { zones = r.zones; arcs = es })) r.output
    && same_list (length es ∷ []) r.told

-- reading the file is refused with the number, at the place
file_right : Row → Bool
unfolding file_at
file_right r =
    let t = found_says (file_at r.input 0 0) in
    same_list (t.number ∷ t.place ∷ []) r.told

-- the plan is refused with the number, at the place
refused_right : Row → Bool
unfolding plan_trouble arcs_of
refused_right r =
    let t = says 0 (plan_trouble r.zones (row_tails r) (row_heads r) r.gone lent lent lent lent) [] in
    same_list (t.number ∷ t.place ∷ []) r.told

-- the question is answered, or refused with the number, at the place
question_right : Row → Bool
unfolding reach_trouble arcs_of reaches
question_right r =
    let a = get_or r.output 0 0 in
    let b = get_or r.output 1 0 in
    let yes = yes_number (reaches (row_network r) a b) in
    let t = says 1 (reach_trouble r.zones (row_tails r) (row_heads r) r.gone a b lent) (yes ∷ []) in
    same_list (t.number ∷ t.place ∷ t.values) r.told

-- whether the definitions give what a row wants that asks for this
asked_right : ℕ → Row → Bool
unfolding plan_right skeleton_right file_right refused_right question_right
asked_right zero r = plan_right r
asked_right (suc zero) r = skeleton_right r
asked_right (suc (suc zero)) r = file_right r
asked_right (suc (suc (suc zero))) r = refused_right r
asked_right (suc (suc (suc (suc k)))) r = question_right r

-- whether the definitions give what the row wants
pub row_right : Row → Bool
unfolding asked_right
row_right r = asked_right r.asks r

-- every row of the table is right
pub cases_right : every row_right rows ≡ true
unfolding row_right
cases_right = refl

-- the kinds of refusal, in the order of document 01's table and then of document 02, are numbered from 1 on
pub kinds_right :
    map trouble_number
    (Short ∷ Long ∷ Loose ∷ Zones ∷ Arcs ∷ Range ∷ SelfArc ∷ Extra ∷ Room ∷ Pair ∷ Head ∷ ZoneList ∷ None ∷ Gone ∷ [])
    ≡ span 1 14
kinds_right = refl

-- a list with zeros after it, n in all
abbrev padded : ℕ → List ℕ → List ℕ
padded n xs = xs ++ replicate (n - length xs) 0

-- a row as four lists of ten numbers, as a constant array holds it: letter, what is asked for, zone count, how many
-- numbers are given, how many are wanted, and the answer's numbers; then what is given; then what is wanted; then how
-- many numbers are withdrawn, and these
abbrev pub row_numbers : Row → List (List ℕ)
row_numbers r =
    padded 10 (r.letter ∷ r.asks ∷ r.zones ∷ length r.input ∷ length r.output ∷ r.told)
    ∷ padded 10 r.input
    ∷ padded 10 r.output
    ∷ padded 10 (length r.gone ∷ r.gone)
    ∷ []
