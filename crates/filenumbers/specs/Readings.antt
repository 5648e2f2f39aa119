-- What the reader of numbers says, in the words of the rules.
--   number_reading r    what an answer of the code says: a number and the place after it, or the refusal
use Rattle.std.specs.Prelude.{ℕ, Result, Ok, Err}
use Rattle.rules.specs.declared.Trouble.{Trouble}
use Rattle.rules.specs.Number.{Reading, got, bad}
use Rattle.filenumbers.specs.declared.Cursor.{Cursor}

-- a number and the place after it, or the refusal
abbrev pub number_reading : Result (ℕ × Cursor) Trouble → Reading ℕ
number_reading (Ok r) = got r.0 r.1.at
number_reading (Err t) = bad t
