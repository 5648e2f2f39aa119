-- The lines of links over lists of numbers, as they are put.
--   why_text y          the word of a why
--   line a b y          the line of a link from a to b
--   lines_of f t w n    the lines of the first n links, from the lists of their starts, ends and whys
-- Assumes nothing.
use Rattle.std.specs.Prelude.{ℕ, zero, suc, List, [], ◌++◌, get_or}
use Rattle.rules.specs.declared.Why.{Why}
use Rattle.rules.specs.declared.Why.TheVariants.{Ring, Chain, Back}
use Rattle.rules.specs.Plan.{why_numbered}
use Rattle.rules.specs.Text.{word, decimal}
use Rattle.buffer.specs.Words.{labelled}

-- the word of a why
abbrev pub why_text : Why → List ℕ
why_text Ring = word " ring\n"
why_text Chain = word " chain\n"
why_text Back = word " back\n"

-- the line of a link: from, to, why
unfoldable pub line : ℕ → ℕ → Why → List ℕ
line a b y = decimal a ++ (labelled (word " ") b ++ why_text y)

-- the lines of the first n links
unfoldable pub lines_of : List ℕ → List ℕ → List ℕ → ℕ → List ℕ
lines_of from to why zero = []
lines_of from to why (suc n) =
    lines_of from to why n ++ line (get_or from n 0) (get_or to n 0) (why_numbered (get_or why n 0))
