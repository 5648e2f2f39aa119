-- What a set of zone numbers holds, as yes or no.
--   held s z    whether z is in the set s: one of 1,024 numbers, whose bit is set
-- A contract says `held` and no caller opens it: what is asked of a set is said by `held` alone.
use Rattle.std.specs.Prelude.{ℕ, Bool, ◌&&◌, ltb}
use Rattle.bits.specs.Bits.{bit_in}
use Rattle.zoneset.specs.declared.ZoneSet.{ZoneSet}

-- whether z is in the set
unfoldable pub held : ZoneSet → ℕ → Bool
held s z = s.any && ltb z 1024 && bit_in s.words 64 0 z
