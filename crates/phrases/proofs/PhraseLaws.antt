-- Laws of the lines above the links and of the line of a refusal.
--   refusal_put   a refusal's line of the rules, as it is put
--   head_length   how long the lines above the links are at most
-- The idea: brackets of ++ are moved, and a number has at most 20 digits.
-- Assumes nothing.
use Prim.Native.Nat.{◌≤◌}
use mathlib.Core.Path.{◌≡◌, sym}
use mathlib.Core.List.{◌++◌}
use native.Mathlib.Omega.{arith}
use lib.ListN.{length, length-append}
use Rattle.rules.specs.declared.Trouble.{Trouble}
use Rattle.rules.specs.declared.FileCounts.{FileCounts}
use Rattle.rules.specs.declared.PlanCounts.{PlanCounts}
use Rattle.rules.specs.Answers.{trouble_number}
use Rattle.rules.specs.Text.{word, refusal_line}
use Rattle.buffer.specs.Words.{two}
use Rattle.buffer.proofs.Lengths.{two_parts, labelled_length, two_length}
use Rattle.phrases.specs.Phrases.{head_text}

-- a refusal's line, as it is put
pub refusal_put : (t : Trouble)
    → refusal_line t ≡ two (word "refused ") (trouble_number t.kind) (word " at ") t.place ++ word "\n"
unfolding refusal_line
refusal_put t = sym (two_parts (word "refused ") (trouble_number t.kind) (word " at ") t.place (word "\n"))

-- the lines above the links have at most 189 bytes
pub head_length : (f : FileCounts) (p : PlanCounts) → length (head_text f p) ≤ 189
unfolding head_text word
head_length f p =
    simp length-append
    (omega (
      arith,
      two_length (word "zones ") f.zones (word " arcs ") f.arcs,
      two_length (word "\nsources ") p.sources (word " sinks ") p.sinks,
      two_length (word " alone ") p.alone (word " pairs ") p.pairs,
      labelled_length (word "\nneed ") p.need,
    ))
