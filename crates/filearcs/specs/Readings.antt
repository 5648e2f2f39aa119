-- What the reader of arcs says, in the words of the rules.
--   arc_reading r    what an answer of the code says: an arc and the place after it, or the refusal
use Rattle.std.specs.Prelude.{Result, Ok, Err}
use Rattle.rules.specs.declared.Trouble.{Trouble}
use Rattle.rules.specs.Network.{Arc, ◌⟶◌}
use Rattle.rules.specs.Number.{Reading, got, bad}
use Rattle.filearcs.specs.declared.ArcRead.{ArcRead}

-- an arc and the place after it, or the refusal
abbrev pub arc_reading : Result ArcRead Trouble → Reading Arc
arc_reading (Ok a) = got (a.tail ⟶ a.head) a.next.at
arc_reading (Err t) = bad t
