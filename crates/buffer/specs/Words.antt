-- Words with numbers after them.
--   labelled w n    a word and then a number
--   two w m v n     two of them
-- Assumes nothing.
use Rattle.std.specs.Prelude.{ℕ, List, ◌++◌}
use Rattle.rules.specs.Text.{decimal}

-- a word and then a number
unfoldable pub labelled : List ℕ → ℕ → List ℕ
labelled w n = w ++ decimal n

-- two words, each with a number after it
unfoldable pub two : List ℕ → ℕ → List ℕ → ℕ → List ℕ
two w m v n = labelled w m ++ labelled v n
