-- A file that is accepted, cut off anywhere, is refused with 1 SHORT at its length.
--   CutOff at r c    r reads all the bytes from `at` on, and c the first k: where r ends by k, c says the same as r,
--                    and where r ends beyond k, c is 1 SHORT at k
--   got_cut_off, bad_cut_off, cond_cut_off, unless_cut_off, then_cut_off, byte_cut_off      each step of a reader
--   number_cut_off ..           so each reader
--   cut_short, printed_cut      an accepted file that is cut off is refused, and linkplan prints that refusal
-- A reader of all the bytes and one of the first k differ only where they ask for a byte: before k it is the same byte
-- in both, and from k on the first k have none. Nothing follows the arcs of an accepted file, so they end beyond k.
-- Assumes nothing.
use Prim.Native.Nat.{ℕ, zero, suc, ◌+◌, ◌-◌, ◌*◌, ◌<◌, ◌≤◌}
use native.Mathlib.Omega.{arith}
use native.Mathlib.Decide.{dec_lt}
use mathlib.Core.Path.{◌≡◌, refl, sym, ◌∙◌, ap}
use mathlib.Core.Bool.{Bool, true, false, cond, ◌||◌}
use mathlib.Core.List.{List, [], ◌∷◌}
use lib.ListN.{length, get_or, take}
use lib.Seq.{get_or-take, length-take-le}
use lib.Dec.{ltb, leb, eqb}
use borrow.Author.Tests.{ltb-false, lt-ltb, le-ltb, lt-leb, le-leb}
use Rattle.rules.specs.declared.Trouble.{Trouble}
use Rattle.rules.specs.declared.TroubleKind.{TroubleKind}
use Rattle.rules.specs.declared.TroubleKind.TheVariants.{Short, Range, Head}
use Rattle.rules.specs.Answers.{refusal}
use Rattle.rules.specs.Network.{◌⟶◌}
use Rattle.rules.specs.Number.{Reading, got, bad, then, unless, short, long, loose}
use Rattle.rules.specs.Number.{third_group, second_group, number_at}
use Rattle.rules.specs.File.{Given, zone_at, arc_at, arcs_at, body_at, counted_at, file_at, zones_bad, arcs_bad}
use Rattle.rules.specs.Text.{printed, refusal_line}
use Rattle.theory.proofs.Files.Readings.{bad_not_got, got_place, unless_got, then_got}
use Rattle.theory.proofs.Files.FileLaws.{file_read}

module _ (k : ℕ) where
  -- r reads all the bytes, from `at` onward, and c the first k: c says what r says, unless r ends beyond k, and then c
  -- is 1 SHORT at k
  record CutOff {A : Type 0} (at : ℕ) (r c : Reading A) : Type 0 where
    onward : {x : A} {next : ℕ} → r ≡ got x next → at ≤ next
    reads : {x : A} {next : ℕ} → at ≤ k → r ≡ got x next → c ≡ unless (ltb k next) (refusal Short k) (got x next)

  -- a value that is there with no byte read
  got_cut_off : {A : Type 0} (x : A) (at : ℕ) → CutOff at (got x at) (got x at)
  got_cut_off x at = record {
    onward = λ e. omega (arith, got_place e);
    reads = λ {next} l e. e ∙ sym (rw (le-ltb k next (omega (arith, got_place e))));
  }

  -- a refusal is no reading that ends
  bad_cut_off : {A : Type 0} (t : Trouble) (at : ℕ) → CutOff {A = A} at (bad t) (bad t)
  bad_cut_off t at = record { onward = λ e. absurd (bad_not_got e); reads = λ l e. absurd (bad_not_got e) }

  -- a choice by the same test
  cond_cut_off : {A : Type 0} {at : ℕ} (b : Bool) {p q c d : Reading A}
      → CutOff at p c → CutOff at q d → CutOff at (cond b p q) (cond b c d)
  cond_cut_off true f g = f
  cond_cut_off false f g = g

  -- a refusal by the same test
  unless_cut_off : {A : Type 0} {at : ℕ} (b : Bool) (t : Trouble) {r c : Reading A}
      → CutOff at r c → CutOff at (unless b t r) (unless b t c)
  unless_cut_off {at} b t f = cond_cut_off b (bad_cut_off t at) f

  -- reading on: where the first reading ends beyond k, the second ends further on
  then_cut_off : {A B : Type 0} {at : ℕ} {r c : Reading A} {f g : A → ℕ → Reading B}
      → CutOff at r c → ((x : A) (mid : ℕ) → CutOff mid (f x mid) (g x mid)) → CutOff at (then r f) (then c g)
  then_cut_off {r} {f} {g} h rest = record {
    onward = λ e.
        let q = then_got r f e in
        omega (arith, h.onward q.2, (rest q.0 q.1).onward q.3);
    reads = λ {next} l e.
        let q = then_got r f e in
        let first = h.reads l q.2 in
        let second = rest q.0 q.1 in
        elim (dec_lt k q.1) [
          | yes m ↦
              let far : k < next = omega (arith, second.onward q.3) in
              ap (λ p. then p g) (rw (lt-ltb k q.1 m) at first) ∙ sym (rw (lt-ltb k next far))
          | no m ↦
              let near : q.1 ≤ k = omega arith in
              ap (λ p. then p g) (rw (le-ltb k q.1 near) at first) ∙ second.reads near q.3
        ];
  }

  module _ (s : List ℕ) (inside : k < length s) where
    -- the first k bytes
    abbrev part : List ℕ
    part = take k s

    -- there are k of them
    part_length : length part ≡ k
    part_length = length-take-le k s (omega arith)

    -- a byte, and what is read from the next place on
    byte_cut_off : {A : Type 0} (at : ℕ) {mid : ℕ} (f g : ℕ → Reading A) → mid ≡ at + 1
        → ((b : ℕ) → CutOff mid (f b) (g b))
        → CutOff at (unless (leb (length s) at) (short s at) (f (get_or s at 0)))
        (unless (leb (length part) at) (short part at) (g (get_or part at 0)))
    byte_cut_off at f g m h = record {
      onward = λ e.
          let u = unless_got (leb (length s) at) _ _ e in
          omega (arith, (h _).onward u.1);
      reads = λ {next} l e.
          let u = unless_got (leb (length s) at) _ _ e in
          let far = (h _).onward u.1 in
          elim (dec_lt at k) [
            | yes i ↦ rw (part_length, lt-leb k at i, get_or-take k s at 0 i) ((h _).reads (omega arith) u.1)
            | no i ↦ rw (part_length, le-leb k at (omega arith), lt-ltb k next (omega arith))
          ];
    }

    -- a third group
    third_cut_off : (at low : ℕ) → CutOff (at + 2) (third_group s at low) (third_group part at low)
    unfolding third_group
    third_cut_off at low =
        byte_cut_off (at + 2) _ _ (omega arith) λ b.
        unless_cut_off (eqb b 0) (loose s at 2)
        (cond_cut_off (ltb b 128) (got_cut_off (low + 16384 * b) (at + 3)) (bad_cut_off (long s at) (at + 3)))

    -- a second group
    second_cut_off : (at low : ℕ) → CutOff (at + 1) (second_group s at low) (second_group part at low)
    unfolding second_group
    second_cut_off at low =
        byte_cut_off (at + 1) _ _ (omega arith) λ b.
        unless_cut_off (eqb b 0) (loose s at 1)
        (cond_cut_off (ltb b 128) (got_cut_off (low + 128 * b) (at + 2)) (third_cut_off at (low + 128 * (b - 128))))

    -- a number: one, two or three groups
    number_cut_off : (at : ℕ) → CutOff at (number_at s at) (number_at part at)
    unfolding number_at
    number_cut_off at =
        byte_cut_off at _ _ refl λ b.
        cond_cut_off (ltb b 128) (got_cut_off b (at + 1)) (second_cut_off at (b - 128))

    -- a zone number
    zone_cut_off : (j : TroubleKind) (n at : ℕ) → CutOff at (zone_at s j n at) (zone_at part j n at)
    unfolding zone_at
    zone_cut_off j n at = then_cut_off (number_cut_off at) λ z next. unless_cut_off (leb n z) _ (got_cut_off z next)

    -- an arc: its tail and its head
    arc_cut_off : (n at : ℕ) → CutOff at (arc_at s n at) (arc_at part n at)
    unfolding arc_at
    arc_cut_off n at =
        then_cut_off (zone_cut_off Range n at) λ t mid.
        then_cut_off (zone_cut_off Head n mid) λ h next. unless_cut_off (eqb t h) _ (got_cut_off (t ⟶ h) next)

    -- arcs, one after the other
    arcs_cut_off : (n m at : ℕ) → CutOff at (arcs_at s n m at) (arcs_at part n m at)
    unfolding arcs_at
    arcs_cut_off n zero at = got_cut_off [] at
    arcs_cut_off n (suc m) at =
        then_cut_off (arc_cut_off n at) λ e next.
        then_cut_off (arcs_cut_off n m next) λ es end. got_cut_off (e ∷ es) end

    -- the end of the arcs: where nothing follows them, it is beyond k
    end_cut_off : {A : Type 0} (x : A) (end : ℕ) (t : Trouble) (c : Reading A)
        → CutOff end (unless (ltb end (length s)) t (got x end)) c
    end_cut_off x end t c = record {
      onward = λ e. omega (arith, got_place (unless_got (ltb end (length s)) t _ e).1);
      reads = λ l e. absurd (omega (arith, ltb-false end (length s) (unless_got (ltb end (length s)) t _ e).0));
    }

    -- the arcs and nothing after them
    body_cut_off : (n m at : ℕ) → CutOff at (body_at s n m at) (body_at part n m at)
    unfolding body_at
    body_cut_off n m at = then_cut_off (arcs_cut_off n m at) λ es end. end_cut_off _ end _ _

    module _ (a b : ℕ) where
      -- the arc count, and what follows it
      counted_cut_off : (n at : ℕ) → CutOff at (counted_at s a b n at) (counted_at part a b n at)
      unfolding counted_at
      counted_cut_off n at =
          then_cut_off (number_cut_off at) λ m next.
          unless_cut_off (arcs_bad m) _ (unless_cut_off (ltb a m || ltb b m) _ (body_cut_off n m next))

      -- the whole file
      file_cut_off : CutOff 0 (file_at s a b) (file_at part a b)
      unfolding file_at
      file_cut_off = then_cut_off (number_cut_off 0) λ n next. unless_cut_off (zones_bad n) _ (counted_cut_off n next)

-- an accepted file that is cut off anywhere is refused with 1 SHORT at its length
pub cut_short : (s : List ℕ) (a b : ℕ) {g : Given} {end : ℕ} → file_at s a b ≡ got g end → (k : ℕ) → k < length s
    → file_at (take k s) a b ≡ bad (refusal Short k)
cut_short s a b {end} e k h =
    rw (lt-ltb k end (omega (arith, (file_read s a b e).ends))) at ((file_cut_off k s h a b).reads (omega arith) e)

-- linkplan prints that refusal
pub printed_cut : (s : List ℕ) {g : Given} {end : ℕ} → file_at s 4096 4096 ≡ got g end → (k : ℕ) → k < length s
    → printed (take k s) ≡ refusal_line (refusal Short k)
unfolding printed
printed_cut s e k h = rw (cut_short s 4096 4096 e k h, printed)
