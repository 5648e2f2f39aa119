-- A zone number and an arc of a file, by cases on what is read there.
--   zone_refused, zone_range, zone_taken   a zone, by the number: refused, at or above the zone count, below it
--   arc_refused, arc_headless              an arc whose tail is refused, and one whose head is
--   arc_self, arc_taken                    an arc whose tail and head are equal, and one where they are distinct
-- Assumes nothing.
use Prim.Native.Nat.{ℕ, ◌≤◌, ◌<◌}
use mathlib.Core.Path.{◌≡◌}
use mathlib.Core.List.{List}
use borrow.Author.Tests.{le-leb, lt-leb, eq-eqb, ne_eqb}
use Rattle.rules.specs.declared.TroubleKind.{TroubleKind}
use Rattle.rules.specs.declared.TroubleKind.TheVariants.{Range, Head, SelfArc}
use Rattle.rules.specs.declared.Trouble.{Trouble}
use Rattle.rules.specs.Answers.{refusal}
use Rattle.rules.specs.Network.{◌⟶◌}
use Rattle.rules.specs.Number.{got, bad, number_at}
use Rattle.rules.specs.File.{zone_at, arc_at}

module _ (s : List ℕ) (k : TroubleKind) (n at : ℕ) where
  -- A number that is refused is no zone number.
  pub zone_refused : {t : Trouble} → number_at s at ≡ bad t → bad t ≡ zone_at s k n at
  unfolding zone_at
  zone_refused e = rw e

  -- A number at or above the zone count is refused.
  pub zone_range : {z next : ℕ} → number_at s at ≡ got z next → n ≤ z → bad (refusal k at) ≡ zone_at s k n at
  unfolding zone_at
  zone_range {z} e h = rw (e, le-leb n z h)

  -- A number below the zone count is taken.
  pub zone_taken : {z next : ℕ} → number_at s at ≡ got z next → z < n → got z next ≡ zone_at s k n at
  unfolding zone_at
  zone_taken {z} e h = rw (e, lt-leb n z h)

module _ (s : List ℕ) (n at : ℕ) where
  -- A tail that is refused: so is the arc.
  pub arc_refused : {t : Trouble} → zone_at s Range n at ≡ bad t → bad t ≡ arc_at s n at
  unfolding arc_at
  arc_refused e = rw e

  module _ {tail mid : ℕ} (e : zone_at s Range n at ≡ got tail mid) where
    -- A head that is refused: so is the arc.
    pub arc_headless : {t : Trouble} → zone_at s Head n mid ≡ bad t → bad t ≡ arc_at s n at
    unfolding arc_at
    arc_headless f = rw (e, f)

    -- Tail and head are equal: the arc is refused, at the head.
    pub arc_self : {head next : ℕ} → zone_at s Head n mid ≡ got head next → tail ≡ head
        → bad (refusal SelfArc mid) ≡ arc_at s n at
    unfolding arc_at
    arc_self {head} f h = rw (e, f, eq-eqb tail head h)

    -- Tail and head are distinct: the arc is taken.
    pub arc_taken : {head next : ℕ} → zone_at s Head n mid ≡ got head next → (tail ≡ head → ⊥)
        → got (tail ⟶ head) next ≡ arc_at s n at
    unfolding arc_at
    arc_taken {head} f h = rw (e, f, ne_eqb tail head h)

-- The cases of a zone number, and those of an arc.
pub ruleset zone_cases = (zone_refused, zone_range, zone_taken)

pub ruleset arc_cases = (arc_refused, arc_headless, arc_self, arc_taken)
