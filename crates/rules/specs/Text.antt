-- What linkplan prints (document 01, "linkplan"): from the bytes that it read to the bytes that it writes.
--   word t        the bytes of a quoted text
--   decimal n     the decimal digits of a number
--   printed s     all that is printed for the bytes s
-- After a complete plan the line "done" is written last; a refusal prints one line only.
use Rattle.std.specs.Prelude.{ℕ, zero, suc, ◌+◌, ◌/◌, ◌%◌, List, [], ◌∷◌, ◌++◌, true, false, length, ltb}
use Prim.Native.Char.{code}
use Prim.Native.String.{String}
use Rattle.rules.specs.declared.Trouble.{Trouble}
use Rattle.rules.specs.Answers.{trouble_number}
use Rattle.rules.specs.Network.{Network, network_of}
use Rattle.rules.specs.Components.{sources, sinks, alone}
use Rattle.rules.specs.Plan.{Why, Link, plan, plan_pairs, plan_need}
use Rattle.rules.specs.Plan.Why.{ring, chain, back}
use Rattle.rules.specs.Number.{got, bad}
use Rattle.rules.specs.File.{Given, file_at}

-- the bytes of a quoted text
unfoldable pub word : String → List ℕ
word t = elim t [ String.[] ↦ [] | String.◌∷◌ c (cs → rest) ↦ code c ∷ rest ]

-- the digits of n, written before ds, with at most k steps
unfoldable pub digits : ℕ → ℕ → List ℕ → List ℕ
digits zero n ds = ds
digits (suc k) n ds =
    elim (ltb n 10) [ true ↦ (48 + n) ∷ ds | false ↦ digits k (n / 10) ((48 + n % 10) ∷ ds) ]

-- the decimal digits of a number of the machine, of which there are at most twenty
unfoldable pub decimal : ℕ → List ℕ
unfolding digits
decimal n = digits 20 n []

-- why a link is there, as a word
unfoldable pub why_word : Why → List ℕ
unfolding word
why_word ring = word " ring\n"
why_word chain = word " chain\n"
why_word back = word " back\n"

-- a line for each link: from, to, why
unfoldable pub link_lines : List Link → List ℕ
unfolding word decimal why_word
link_lines [] = []
link_lines (l ∷ ls) = decimal l.start ++ (word " " ++ (decimal l.end ++ (why_word l.why ++ link_lines ls)))

-- the lines of a plan: zone and arc counts; s, t, q, p; the number of links; the links; done
unfoldable pub plan_lines : Given → List ℕ
unfolding word decimal link_lines sources sinks alone plan plan_pairs plan_need
plan_lines g =
    let N : Network = network_of g.zones g.arcs in
    word "zones " ++ (decimal g.zones ++ (word " arcs " ++ (decimal (length g.arcs)
    ++ (word "\nsources " ++ (decimal (length (sources N)) ++ (word " sinks " ++ (decimal (length (sinks N))
    ++ (word " alone " ++ (decimal (length (alone N)) ++ (word " pairs " ++ (decimal (plan_pairs N)
    ++ (word "\nneed " ++ (decimal (plan_need N) ++ (word "\n"
    ++ (link_lines (plan N) ++ word "done\n")))))))))))))))

-- the one line of a refusal
unfoldable pub refusal_line : Trouble → List ℕ
unfolding word decimal
refusal_line t =
    word "refused " ++ (decimal (trouble_number t.kind) ++ (word " at " ++ (decimal t.place ++ word "\n")))

-- all that is printed for the bytes s: linkplan lends the reading lists of 4,096 elements, so that there is always
-- room
unfoldable pub printed : List ℕ → List ℕ
unfolding file_at plan_lines refusal_line
printed s = elim (file_at s 4096 4096) [ bad t ↦ refusal_line t | got g end ↦ plan_lines g ]
