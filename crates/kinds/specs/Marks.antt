-- What stands for the name of a component of each kind: where it is noted that it is entered, and that it is left.
use Rattle.std.specs.Prelude.{ℕ}
use Rattle.kinds.specs.declared.Kind.{Kind}
use Rattle.kinds.specs.declared.Kind.TheVariants.{Source, Sink, Alone}

-- 1 where it is entered from another, else 0
abbrev pub entered_mark : Kind → ℕ
entered_mark Source = 0
entered_mark Sink = 1
entered_mark Alone = 0

-- 1 where it is left to another, else 0
abbrev pub exited_mark : Kind → ℕ
exited_mark Source = 1
exited_mark Sink = 0
exited_mark Alone = 0
