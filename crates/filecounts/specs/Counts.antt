-- What the readers of the two counts say, in the words of the rules.
--   zones_at, count_at    the zone count of a file, and its arc count with room for a tails and b heads
use Rattle.std.specs.Prelude.{ℕ, List, ◌||◌, ltb}
use Rattle.rules.specs.declared.TroubleKind.TheVariants.{Zones, Arcs, Room}
use Rattle.rules.specs.Answers.{refusal}
use Rattle.rules.specs.Number.{Reading, got, then, unless, number_at}
use Rattle.rules.specs.File.{zones_bad, arcs_bad}

-- the zone count: 4 ZONES at the first byte
unfoldable pub zones_at : List ℕ → Reading ℕ
unfolding number_at
zones_at s = then (number_at s 0) λ n next. unless (zones_bad n) (refusal Zones 0) (got n next)

-- the arc count, with room for a tails and b heads: 5 ARCS, then 9 ROOM
unfoldable pub count_at : List ℕ → ℕ → ℕ → ℕ → Reading ℕ
unfolding number_at
count_at s a b at =
    then (number_at s at) λ m next.
    unless (arcs_bad m) (refusal Arcs at) (unless (ltb a m || ltb b m) (refusal Room at) (got m next))
