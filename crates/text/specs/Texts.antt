-- linkplan's text over numbers, as its functions put it.
--   plan_text f p lines   all lines of a plan, with the lines of its links handed in
--   Putable ..            what is printed for an answer of PLAN fits
--   answer_lines ..       what is printed for it: the lines of a plan over the three lists, or the line of a refusal
-- Assumes nothing.
use Rattle.std.specs.Prelude.{ℕ, ◌+◌, ◌*◌, ◌≤◌, List, ◌++◌, length, Ok, Err}
use Rattle.rules.specs.declared.FileCounts.{FileCounts}
use Rattle.rules.specs.declared.PlanCounts.{PlanCounts}
use Rattle.rules.specs.Answers.{PlanAnswer}
use Rattle.rules.specs.Text.{word, refusal_line}
use Rattle.buffer.specs.declared.Page.{Page}
use Rattle.buffer.specs.Put.{HasSpace}
use Rattle.lines.specs.Lines.{lines_of}
use Rattle.phrases.specs.Phrases.{head_text}

-- all lines of a plan: the head, the lines of the links, and done
unfoldable pub plan_text : FileCounts → PlanCounts → List ℕ → List ℕ
plan_text f p lines = head_text f p ++ (lines ++ word "done\n")

-- k links stand in the three lists, and the page has room for their lines
pub record LinksFit (k : ℕ) (starts ends whys : List ℕ) (page : Page) : Type 0 where
  pub starts_fit : k ≤ length starts
  pub ends_fit : k ≤ length ends
  pub whys_fit : k ≤ length whys
  pub lines_fit : HasSpace page (200 + 18 * k)

-- what is printed for an answer of PLAN fits
abbrev pub Putable : PlanAnswer → List ℕ → List ℕ → List ℕ → Page → Type 0
Putable (Ok p) starts ends whys page = LinksFit p.need starts ends whys page
Putable (Err t) starts ends whys page = HasSpace page 60

-- what is printed for an answer of PLAN to a file of these counts, over the lists that it left
abbrev pub answer_lines : FileCounts → PlanAnswer → List ℕ → List ℕ → List ℕ → List ℕ
answer_lines f (Ok p) starts ends whys = plan_text f p (lines_of starts ends whys p.need)
answer_lines f (Err t) starts ends whys = refusal_line t
