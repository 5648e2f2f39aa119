-- A file, by its two counts.
--   zones_few, count_fits      what holds of the counts that are found
--   file_refused, file_goes_on         a file by its zone count
--   counted_refused, counted_goes_on   what follows the zone count, by the arc count
-- Assumes nothing.
use Prim.Native.Nat.{ℕ, ◌≤◌}
use mathlib.Core.Path.{◌≡◌, ap, ◌∙◌}
use mathlib.Core.List.{List}
use mathlib.Core.Bool.{◌||◌}
use lib.Dec.{ltb, eqb}
use borrow.Author.Tests.{ltb-false}
use Rattle.rules.specs.declared.TroubleKind.TheVariants.{Zones, Arcs, Room}
use Rattle.rules.specs.declared.Trouble.{Trouble}
use Rattle.rules.specs.Answers.{refusal}
use Rattle.rules.specs.Number.{Reading, got, bad, then, unless, number_at}
use Rattle.rules.specs.File.{Given, zones_bad, arcs_bad, body_at, counted_at, file_at}
use Rattle.theory.proofs.Ground.Bools.{or_false}
use Rattle.theory.proofs.Files.Readings.{then_got, unless_got}
use Rattle.filecounts.specs.Counts.{zones_at, count_at}
use Rattle.filecounts.proofs.Thens.{unless_then, then_agree}

module _ (s : List ℕ) where
  -- A zone count that is found is within its bound.
  pub zones_few : {n next : ℕ} → zones_at s ≡ got n next → n ≤ 1024
  unfolding zones_at
  zones_few {n} e =
      let p = then_got (number_at s 0) _ e in
      let q = unless_got (zones_bad p.0) _ _ p.3 in
      let w : p.0 ≡ n = cc in
      rw w at (ltb-false 1024 p.0 (or_false (eqb p.0 0) (ltb 1024 p.0) q.0).1)

  module _ (a b : ℕ) where
    -- An arc count that is found has room in both lists.
    pub count_fits : (at : ℕ) {m next : ℕ} → count_at s a b at ≡ got m next → (m ≤ a) × (m ≤ b)
    unfolding count_at
    count_fits at {m} e =
        let p = then_got (number_at s at) _ e in
        let q = unless_got (arcs_bad p.0) _ _ p.3 in
        let r = unless_got (ltb a p.0 || ltb b p.0) _ _ q.1 in
        let w : p.0 ≡ m = cc in
        let f = or_false (ltb a p.0) (ltb b p.0) r.0 in
        (rw w at (ltb-false a p.0 f.0), rw w at (ltb-false b p.0 f.1))

    -- A file is its zone count and what follows.
    file_parts : then (zones_at s) (counted_at s a b) ≡ file_at s a b
    unfolding zones_at file_at
    file_parts =
        then_agree (number_at s 0) _ _ _ λ n next.
        unless_then (zones_bad n) (refusal Zones 0) (got n next) (counted_at s a b)

    -- What follows the zone count is the arc count and the arcs.
    counted_parts : (n at : ℕ) → then (count_at s a b at) (body_at s n) ≡ counted_at s a b n at
    unfolding count_at counted_at
    counted_parts n at =
        then_agree (number_at s at) _ _ _ λ m next.
        unless_then (arcs_bad m) (refusal Arcs at) _ (body_at s n)
        ∙ ap (λ (r : Reading Given). unless (arcs_bad m) (refusal Arcs at) r)
        (unless_then (ltb a m || ltb b m) (refusal Room at) (got m next) (body_at s n))

    -- A zone count that is refused: the file is refused.
    pub file_refused : {t : Trouble} → zones_at s ≡ bad t → file_at s a b ≡ bad t
    file_refused e = rw (← file_parts, e)

    -- A zone count that is found: the file is what follows.
    pub file_goes_on : {n next : ℕ} → zones_at s ≡ got n next → file_at s a b ≡ counted_at s a b n next
    file_goes_on e = rw (← file_parts, e)

    -- An arc count that is refused: the file is refused.
    pub counted_refused : (n at : ℕ) {t : Trouble} → count_at s a b at ≡ bad t → counted_at s a b n at ≡ bad t
    counted_refused n at e = rw (← counted_parts n at, e)

    -- An arc count that is found: what follows is the arcs.
    pub counted_goes_on : (n at : ℕ) {m next : ℕ} → count_at s a b at ≡ got m next
        → counted_at s a b n at ≡ body_at s n m next
    counted_goes_on n at e = rw (← counted_parts n at, e)
