-- An arc of an accepted file, number by number.
--   Due s n at            an arc between zones of n stands at a place
--   arc_due               an arc that is found is due
--   due_tail, due_head    the numbers that stand there: of at most two groups, where n is at most 1,024
--   due_arc               the tail and the head that were read are those of the arc, and zones
-- The laws of reading take the arc apart, and a number is read in one way only. Assumes nothing.
use Prim.Native.Nat.{ℕ, ◌≤◌, ◌<◌}
use native.Mathlib.Omega.{arith}
use mathlib.Core.Path.{◌≡◌, sym, ◌∙◌}
use mathlib.Core.List.{List}
use lib.Dec.{eqb}
use Rattle.rules.specs.declared.TroubleKind.TheVariants.{Range, Head}
use Rattle.rules.specs.Network.{Arc, ◌⟶◌}
use Rattle.rules.specs.Number.{got, number_at}
use Rattle.rules.specs.File.{zone_at, arc_at}
use Rattle.theory.proofs.Files.Readings.{then_got, unless_got, got_value, got_place}
use Rattle.theory.proofs.Files.FileLaws.{zone_got}
use Rattle.fileknown.specs.Numbers.{GoodNumber}

-- An arc between zones of n stands at a place.
pub record Due (s : List ℕ) (n at : ℕ) : Type 0 where
  pub tail : ℕ
  pub mid : ℕ
  pub head : ℕ
  pub next : ℕ
  pub whole : arc_at s n at ≡ got (tail ⟶ head) next
  pub tail_zone : zone_at s Range n at ≡ got tail mid
  pub head_zone : zone_at s Head n mid ≡ got head next

-- An arc that is found is due.
pub arc_due : (s : List ℕ) (n at : ℕ) {e : Arc} {next : ℕ} → arc_at s n at ≡ got e next → Due s n at
unfolding arc_at
arc_due s n at q =
    let t = then_got (zone_at s Range n at) _ q in
    let h = then_got (zone_at s Head n t.1) _ t.3 in
    let u = unless_got (eqb t.0 h.0) _ _ h.3 in
    record {
      tail = t.0;
      mid = t.1;
      head = h.0;
      next = h.1;
      whole = q ∙ sym u.1;
      tail_zone = t.2;
      head_zone = h.2;
    }

module _ {s : List ℕ} {n at : ℕ} (d : Due s n at) where
  -- The tail stands there.
  pub due_tail : n ≤ 1024 → GoodNumber s at
  due_tail l =
      let t = zone_got s n Range at d.tail_zone in
      record { value = d.tail; next = d.mid; good = t.1; short = omega (arith, t.0) }

  module _ {t mid : ℕ} (r : number_at s at ≡ got t mid) where
    -- The tail that was read is that of the arc.
    same_tail : d.tail ≡ t
    same_tail = got_value (sym (zone_got s n Range at d.tail_zone).1 ∙ r)

    -- The head is read after it.
    head_after : zone_at s Head n mid ≡ got d.head d.next
    head_after =
        let e = got_place (sym (zone_got s n Range at d.tail_zone).1 ∙ r) in
        rw e at d.head_zone

    -- The head stands there.
    pub due_head : n ≤ 1024 → GoodNumber s mid
    due_head l =
        let h = zone_got s n Head mid head_after in
        record { value = d.head; next = d.next; good = h.1; short = omega (arith, h.0) }

    -- The tail and the head that were read are those of the arc, and zones.
    pub due_arc : {h next : ℕ} → number_at s mid ≡ got h next
        → (arc_at s n at ≡ got (t ⟶ h) next) × (t < n) × (h < n)
    due_arc {h} {next} q =
        let z = zone_got s n Head mid head_after in
        let e : got d.head d.next ≡ got h next = sym z.1 ∙ q in (
          rw (same_tail, got_value e, got_place e) at d.whole,
          omega (arith, same_tail, (zone_got s n Range at d.tail_zone).0),
          omega (arith, got_value e, z.0),
        )
