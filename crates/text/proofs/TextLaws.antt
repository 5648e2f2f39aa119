-- Laws of linkplan's text: it is the text of the rules, and how long it is at most.
--   file_counts_of g, plan_counts_of g   the numbers above the links of the plan of g
--   plan_lines_text    the lines of a plan, as they are put
--   plan_put           the same over the numbers of the plan's links
--   plan_text_length   how long they are at most
--   cut_lines          lists that are cut behind their links have the lines of those
-- The idea: brackets of ++ are moved.
-- Assumes nothing.
use Prim.Native.Nat.{ℕ, ◌+◌, ◌≤◌}
use mathlib.Core.Path.{◌≡◌, sym}
use mathlib.Core.List.{List, ◌++◌, map, append_assoc}
use native.Mathlib.Omega.{arith}
use native.Mathlib.Nat.{le_refl}
use lib.ListN.{length, take, length-append}
use lib.Seq.{length-take-le}
use Rattle.rules.specs.declared.FileCounts.{FileCounts}
use Rattle.rules.specs.declared.PlanCounts.{PlanCounts}
use Rattle.rules.specs.Network.{Network, network_of}
use Rattle.rules.specs.Components.{sources, sinks, alone}
use Rattle.rules.specs.Plan.{Link, why_number, plan, plan_pairs, plan_need}
use Rattle.rules.specs.File.{Given}
use Rattle.rules.specs.Text.{word, decimal, link_lines, plan_lines}
use Rattle.buffer.specs.Words.{labelled, two}
use Rattle.lines.specs.Lines.{lines_of}
use Rattle.lines.proofs.Links.{links_lines, lines_front}
use Rattle.phrases.specs.Phrases.{head_text}
use Rattle.phrases.proofs.PhraseLaws.{head_length}
use Rattle.text.specs.Texts.{plan_text}

-- the lines of a plan of these numbers, as the rules write them
plan_parts : (f : FileCounts) (p : PlanCounts) (lines : List ℕ)
    → plan_text f p lines
    ≡ word "zones " ++ (decimal f.zones ++ (word " arcs " ++ (decimal f.arcs
    ++ (word "\nsources " ++ (decimal p.sources ++ (word " sinks " ++ (decimal p.sinks
    ++ (word " alone " ++ (decimal p.alone ++ (word " pairs " ++ (decimal p.pairs
    ++ (word "\nneed " ++ (decimal p.need ++ (word "\n"
    ++ (lines ++ word "done\n")))))))))))))))
unfolding plan_text head_text two labelled
plan_parts f p lines = simp append_assoc

-- the counts of a network as it is given
abbrev pub file_counts_of : Given → FileCounts
file_counts_of g = record { zones = g.zones; arcs = length g.arcs }

-- the numbers of the plan of a network
abbrev pub plan_counts_of : Network → PlanCounts
plan_counts_of N =
    record {
      sources = length (sources N);
      sinks = length (sinks N);
      alone = length (alone N);
      pairs = plan_pairs N;
      need = plan_need N;
    }

-- the lines of a plan, as they are put
pub plan_lines_text : (g : Given) →
    let N : Network = network_of g.zones g.arcs in
    plan_lines g ≡ plan_text (file_counts_of g) (plan_counts_of N) (link_lines (plan N))
unfolding plan_lines
plan_lines_text g =
    let N : Network = network_of g.zones g.arcs in
    sym (plan_parts (file_counts_of g) (plan_counts_of N) (link_lines (plan N)))

-- over the numbers of the plan's links, with any others after them, the lines put are those of the rules
pub plan_put : (g : Given) (f t w : List ℕ) →
    let N : Network = network_of g.zones g.arcs in
    plan_text (file_counts_of g) (plan_counts_of N)
    (lines_of (map (λ (l : Link). l.start) (plan N) ++ f) (map (λ (l : Link). l.end) (plan N) ++ t)
    (map (λ (l : Link). why_number l.why) (plan N) ++ w) (length (plan N)))
    ≡ plan_lines g
plan_put g f t w = rw (links_lines (plan (network_of g.zones g.arcs)) f t w) (sym (plan_lines_text g))

-- the lines of a plan have at most 194 bytes beside those of the links
pub plan_text_length : (f : FileCounts) (p : PlanCounts) (lines : List ℕ)
    → length (plan_text f p lines) ≤ 194 + length lines
unfolding plan_text word
plan_text_length f p lines = simp length-append (omega (arith, head_length f p))

-- lists that are cut behind k links have the lines of those
pub cut_lines : (f t w : List ℕ) (k : ℕ) → k ≤ length f
    → lines_of (take k f) (take k t) (take k w) (length (take k f)) ≡ lines_of f t w k
cut_lines f t w k h = rw (length-take-le k f h) (lines_front f t w k k (le_refl k))
