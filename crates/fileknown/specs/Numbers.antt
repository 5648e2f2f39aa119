-- Where a known number stands.
--   GoodNumber s at    a good number of at most two groups stands in the bytes s at a place
use Rattle.std.specs.Prelude.{ℕ, ◌<◌, ◌≡◌, List}
use Rattle.rules.specs.Number.{got, number_at}

-- a good number of at most two groups stands there
pub record GoodNumber (s : List ℕ) (at : ℕ) : Type 0 where
  pub value : ℕ
  pub next : ℕ
  pub good : number_at s at ≡ got value next
  pub short : value < 16384
