-- What a quick look says, in the words of the rules. One that asks to look closer says nothing.
--   PlainNumber s at v next    v is the number of the bytes s at a place, where it is below 16,384
--   NumberSeen l s at          the look l says what the number at a place is, where it is below 16,384
--   ArcSeen l r                the look l says where the reading r of an arc ends
use Rattle.std.specs.Prelude.{ℕ, ◌+◌, ◌≤◌, ◌<◌, ◌≡◌, List, Option, Some, None}
use Rattle.rules.specs.Network.{Arc}
use Rattle.rules.specs.Number.{Reading, got, number_at}

-- v is the number at a place, and next the place after it, where v is below 16,384
abbrev pub PlainNumber : List ℕ → ℕ → ℕ → ℕ → Type 0
PlainNumber s at v next = v < 16384 → number_at s at ≡ got v next

-- such a number, and the place after it at most two bytes on
pub record NumberSeen (l : ℕ × ℕ) (s : List ℕ) (at : ℕ) : Type 0 where
  pub near : l.1 ≤ at + 2
  pub plain : PlainNumber s at l.0 l.1

-- the place after a good arc
abbrev pub ArcSeen : Option ℕ → Reading Arc → Type 0
ArcSeen (Some next) r = (e : Arc) × (r ≡ got e next)
ArcSeen None r = Unit {0}
