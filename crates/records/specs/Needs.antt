-- How many links an answer of PLAN carries.
use Rattle.std.specs.Prelude.{ℕ, Ok, Err}
use Rattle.rules.specs.Answers.{PlanAnswer}

-- how many links an answer carries: none where it refuses
abbrev pub need_of : PlanAnswer → ℕ
need_of (Ok c) = c.need
need_of (Err t) = 0
