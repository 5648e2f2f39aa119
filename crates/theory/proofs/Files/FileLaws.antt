-- The network file: reading undoes writing, and an accepted file is the file that its network is written as.
--   ReadingSound n e            the arc e is between two different zones of n
--   zone_got, arc_got .. what a reading that succeeds has read
--   arc_stands ..        the bytes of what was read stand there
--   stands_zone ..       where the bytes stand, the reading succeeds
--   read_written         reading a written file gives the same zones and arcs
--   accepted_acceptable, accepted_is_written, accepted_length      what is known of an accepted file
--   same_file_same_network      a file stands for one network only
-- Each reader is inverted by the laws of reading, number by number, and the bytes of the parts are put together.
-- Assumes nothing.
use Prim.Native.Nat.{ℕ, zero, suc, ◌+◌, ◌*◌, ◌<◌, ◌≤◌}
use native.Mathlib.Omega.{arith}
use mathlib.Core.Path.{◌≡◌, refl, sym, ◌∙◌, ap, ap₂, subst, subst₂}
use mathlib.Core.Logic.{inl, inr, ◌↔◌}
use mathlib.Core.Bool.{◌||◌}
use mathlib.Core.List.Memᴰ
use mathlib.Core.List.{List, [], ◌∷◌, ◌++◌, Memᴰ as In}
use lib.ListN.{length}
use lib.Dec.{ltb, leb, eqb}
use borrow.Author.Tests.{ltb-false, leb-false, eqb-false, le-ltb, lt-leb, ne_eqb}
use Rattle.rules.specs.declared.TroubleKind.{TroubleKind}
use Rattle.rules.specs.declared.TroubleKind.TheVariants.{Range, Head}
use Rattle.rules.specs.Network.{Arc}
use Rattle.rules.specs.Number.{number_bytes, got, number_at}
use Rattle.rules.specs.File.{Given, Acceptable, arc_bytes, arcs_bytes, file_bytes}
use Rattle.rules.specs.File.{zone_at, arc_at, arcs_at, body_at, counted_at, file_at}
use Rattle.theory.proofs.Ground.Bools.{or_false}
use Rattle.theory.proofs.Files.Readings.{unless_got, then_got, got_value, got_place, Stands}
use Rattle.theory.proofs.Files.Readings.{stands_nothing, stands_whole, stands_join, stands_left, stands_right}
use Rattle.theory.proofs.Files.Readings.{stands_all}
use Rattle.theory.proofs.Files.NumberLaws.{Bytes, number_stands, stands_number, number_next}

-- the arc e is between two different zones of n
abbrev pub ReadingSound : ℕ → Arc → Type 0
ReadingSound n e = (e.tail < n) × (e.head < n) × (e.tail ≡ e.head → ⊥)

-- an arc that is read from `at` up to `next`: a number for its tail, one for its head, and nothing wrong with them
pub record ArcGot (s : List ℕ) (n at : ℕ) (e : Arc) (next : ℕ) : Type 0 where
  pub mid : ℕ
  pub tail_read : number_at s at ≡ got e.tail mid
  pub head_read : number_at s mid ≡ got e.head next
  pub sound : ReadingSound n e

-- a file that is read whole, with room for a tails and b heads
pub record FileRead (s : List ℕ) (a b : ℕ) (g : Given) (end : ℕ) : Type 0 where
  pub mid : ℕ
  pub start : ℕ
  pub zones_read : number_at s 0 ≡ got g.zones mid
  pub count_read : number_at s mid ≡ got (length g.arcs) start
  pub arcs_read : arcs_at s g.zones (length g.arcs) start ≡ got g.arcs end
  pub zones_fit : (1 ≤ g.zones) × (g.zones ≤ 1024)
  pub arcs_fit : length g.arcs ≤ 4096
  pub room : (length g.arcs ≤ a) × (length g.arcs ≤ b)
  pub ends : length s ≤ end

-- the arcs of a network that a call accepts are between different zones
acceptable_sound : (g : Given) → Acceptable g → (x : Arc) → In x g.arcs → ReadingSound g.zones x
acceptable_sound g h x i = (h.tails i, h.heads i, h.apart i)

module _ (s : List ℕ) (n : ℕ) where
  -- a zone number that is read is a number below the zone count
  pub zone_got : (k : TroubleKind) (at : ℕ) {z next : ℕ} → zone_at s k n at ≡ got z next
      → (z < n) × (number_at s at ≡ got z next)
  unfolding zone_at
  zone_got k at e =
      let r = then_got (number_at s at) _ e in
      let u = unless_got (leb n r.0) _ _ r.3 in
      (rw (got_value u.1) at (leb-false n r.0 u.0), r.2 ∙ u.1)

  -- an arc that is read is two numbers
  arc_got : (at : ℕ) {e : Arc} {next : ℕ} → arc_at s n at ≡ got e next → ArcGot s n at e next
  unfolding arc_at
  arc_got at e =
      let r = then_got (zone_at s Range n at) _ e in
      let q = then_got (zone_at s Head n r.1) _ r.3 in
      let u = unless_got (eqb r.0 q.0) _ _ q.3 in
      let t = zone_got Range at r.2 in
      let h = zone_got Head r.1 q.2 in
      subst₂ (ArcGot s n at) (got_value u.1) (got_place u.1)
      (record {
        mid = r.1;
        tail_read = t.1;
        head_read = h.1;
        sound = (t.0, h.0, eqb-false r.0 q.0 u.0);
      })

  -- arcs that are read are a first arc and the others
  arcs_got : (m at : ℕ) {es : List Arc} {end : ℕ} → arcs_at s n (suc m) at ≡ got es end
      → (e : Arc) × (mid : ℕ) × (rest : List Arc) × (arc_at s n at ≡ got e mid)
      × (arcs_at s n m mid ≡ got rest end) × (e ∷ rest ≡ es)
  unfolding arcs_at
  arcs_got m at e =
      let r = then_got (arc_at s n at) _ e in
      let q = then_got (arcs_at s n m r.1) _ r.3 in
      (r.0, r.1, q.0, r.2, q.2 ∙ ap (got q.0) (got_place q.3), got_value q.3)

  -- as many arcs are read as are asked for
  pub arcs_count : (m at : ℕ) {es : List Arc} {end : ℕ} → arcs_at s n m at ≡ got es end → length es ≡ m
  unfolding arcs_at
  arcs_count zero at e = ap length (sym (got_value e))
  arcs_count (suc m) at e =
      let r = arcs_got m at e in
      ap length (sym r.5) ∙ ap suc (arcs_count m r.1 r.4)

  -- a body that is read is the arcs and nothing after them
  body_got : (m at : ℕ) {g : Given} {end : ℕ} → body_at s n m at ≡ got g end
      → (g.zones ≡ n) × (length g.arcs ≡ m) × (arcs_at s n m at ≡ got g.arcs end) × (length s ≤ end)
  unfolding body_at
  body_got m at {g} {end} e =
      let r = then_got (arcs_at s n m at) _ e in
      let u = unless_got (ltb r.1 (length s)) _ _ r.3 in
      let same : r.0 ≡ g.arcs = ap (λ (h : Given). h.arcs) (got_value u.1) in
      let stop : r.1 ≡ end = got_place u.1 in (
        sym (ap (λ (h : Given). h.zones) (got_value u.1)),
        ap length (sym same) ∙ arcs_count m at r.2,
        r.2 ∙ ap₂ got same stop,
        rw (stop) at (ltb-false r.1 (length s) u.0),
      )

  -- counted arcs that are read are a count in bounds, with room for it, and a body
  counted_got : (a b at : ℕ) {g : Given} {end : ℕ} → counted_at s a b n at ≡ got g end
      → (m : ℕ) × (start : ℕ) × (number_at s at ≡ got m start) × (m ≤ 4096) × (m ≤ a) × (m ≤ b)
      × (body_at s n m start ≡ got g end)
  unfolding counted_at
  counted_got a b at e =
      let c = then_got (number_at s at) _ e in
      let many = unless_got (ltb 4096 c.0) _ _ c.3 in
      let room = unless_got (ltb a c.0 || ltb b c.0) _ _ many.1 in
      let both = or_false (ltb a c.0) (ltb b c.0) room.0 in (
        c.0,
        c.1,
        c.2,
        ltb-false 4096 c.0 many.0,
        ltb-false a c.0 both.0,
        ltb-false b c.0 both.1,
        room.1,
      )

-- a file that is read is a zone count in bounds, and counted arcs
file_got : (s : List ℕ) (a b : ℕ) {g : Given} {end : ℕ} → file_at s a b ≡ got g end
    → (n : ℕ) × (mid : ℕ) × (number_at s 0 ≡ got n mid) × (1 ≤ n) × (n ≤ 1024) × (counted_at s a b n mid ≡ got g end)
unfolding file_at
file_got s a b e =
    let z = then_got (number_at s 0) _ e in
    let fit = unless_got (eqb z.0 0 || ltb 1024 z.0) _ _ z.3 in
    let both = or_false (eqb z.0 0) (ltb 1024 z.0) fit.0 in
    let some : z.0 ≡ 0 → ⊥ = eqb-false z.0 0 both.0 in
    (z.0, z.1, z.2, omega arith, ltb-false 1024 z.0 both.1, fit.1)

-- a file that is read is two counts and as many arcs as the second says
pub file_read : (s : List ℕ) (a b : ℕ) {g : Given} {end : ℕ} → file_at s a b ≡ got g end → FileRead s a b g end
file_read s a b e =
    let z = file_got s a b e in
    let c = counted_got s z.0 a b z.1 z.5 in
    let r = body_got s z.0 c.0 c.1 c.6 in
    record {
      mid = z.1;
      start = c.1;
      zones_read = z.2 ∙ ap (λ (n : ℕ). got n z.1) (sym r.0);
      count_read = c.2 ∙ ap (λ (m : ℕ). got m c.1) (sym r.1);
      arcs_read = ap₂ (λ (n m : ℕ). arcs_at s n m c.1) r.0 r.1 ∙ r.2;
      zones_fit = omega arith;
      arcs_fit = omega arith;
      room = omega arith;
      ends = r.3;
    }

module _ (s : List ℕ) (bytes : Bytes s) where
  -- an arc that is read stands there, tail and head
  arc_stands : (n at : ℕ) {e : Arc} {next : ℕ} → arc_at s n at ≡ got e next → Stands s at (arc_bytes e) next
  unfolding arc_bytes
  arc_stands n at e =
      let r = arc_got s n at e in
      stands_join s (number_stands s at bytes r.tail_read).1 (number_stands s r.mid bytes r.head_read).1

  -- arcs that are read stand there one after the other
  arcs_stand : (n m at : ℕ) {es : List Arc} {end : ℕ}
      → arcs_at s n m at ≡ got es end → Stands s at (arcs_bytes es) end
  unfolding arcs_bytes arcs_at
  arcs_stand n zero at e =
      subst₂ (λ (l : List Arc). Stands s at (arcs_bytes l)) (got_value e) (got_place e) (stands_nothing s at)
  arcs_stand n (suc m) at {end} e =
      let r = arcs_got s n m at e in
      subst (λ (l : List Arc). Stands s at (arcs_bytes l) end) r.5
      (stands_join s (arc_stands n at r.3) (arcs_stand n m r.1 r.4))

  -- a file that is read stands there from the first byte to the last
  file_stands : (a b : ℕ) {g : Given} {end : ℕ} → file_at s a b ≡ got g end → Stands s 0 (file_bytes g) end
  unfolding file_bytes
  file_stands a b {g} e =
      let r = file_read s a b e in
      stands_join s (number_stands s 0 bytes r.zones_read).1
      (stands_join s (number_stands s r.mid bytes r.count_read).1
      (arcs_stand g.zones (length g.arcs) r.start r.arcs_read))

  -- each accepted file is, byte for byte, the file that its network is written as
  pub accepted_is_written : (a b : ℕ) {g : Given} {end : ℕ} → file_at s a b ≡ got g end
      → (s ≡ file_bytes g) × (end ≡ length s)
  accepted_is_written a b e =
      let f = file_stands a b e in
      let all = stands_all s f (file_read s a b e).ends in
      (all, omega (arith, ap length all, f.places))

-- every arc that is read is between two different zones
arcs_sound : (s : List ℕ) (n m at : ℕ) {es : List Arc} {end : ℕ} → arcs_at s n m at ≡ got es end
    → (x : Arc) → In x es → ReadingSound n x
unfolding arcs_at
arcs_sound s n zero at e x i = absurd (Memᴰ.not-nil (subst (In x) (sym (got_value e)) i))
arcs_sound s n (suc m) at e x i =
    let r = arcs_got s n m at e in
    elim (Memᴰ.cases_cons (subst (In x) (sym r.5) i)) [
      | inl p ↦ subst (ReadingSound n) (sym p) (arc_got s n at r.3).sound
      | inr j ↦ arcs_sound s n m r.1 r.4 x j
    ]

-- the network of an accepted file is one that a call accepts
pub accepted_acceptable : (s : List ℕ) (a b : ℕ) {g : Given} {end : ℕ} → file_at s a b ≡ got g end → Acceptable g
accepted_acceptable s a b {g} e =
    let r = file_read s a b e in
    let sound : (x : Arc) → In x g.arcs → ReadingSound g.zones x = arcs_sound s _ _ _ r.arcs_read in
    record {
      zones_least = r.zones_fit.0;
      zones_most = r.zones_fit.1;
      arcs_most = r.arcs_fit;
      tails = λ i. (sound _ i).0;
      heads = λ i. (sound _ i).1;
      apart = λ i. (sound _ i).2;
    }

module _ (s : List ℕ) where
  -- where the bytes of a zone number stand, it is read
  stands_zone : (k : TroubleKind) (n at : ℕ) {z next : ℕ} → n ≤ 1024 → z < n → Stands s at (number_bytes z) next
      → zone_at s k n at ≡ got z next
  unfolding zone_at
  stands_zone k n at {z} l h f = rw (stands_number s at (omega arith) f, lt-leb n z h)

  -- where the bytes of an arc stand, it is read
  stands_arc : (n at : ℕ) {next : ℕ} (e : Arc) → n ≤ 1024 → ReadingSound n e → Stands s at (arc_bytes e) next
      → arc_at s n at ≡ got e next
  unfolding arc_at arc_bytes
  stands_arc n at e k h f =
      let t = stands_zone Range n at k h.0 (stands_left s (number_bytes e.tail) (number_bytes e.head) f) in
      let d = stands_zone Head n _ k h.1 (stands_right s (number_bytes e.tail) (number_bytes e.head) f) in
      rw (t, d, ne_eqb e.tail e.head h.2)

  -- where the bytes of arcs stand, they are read
  stands_arcs : (n at : ℕ) {end : ℕ} (es : List Arc) → n ≤ 1024 → ((x : Arc) → In x es → ReadingSound n x)
      → Stands s at (arcs_bytes es) end → arcs_at s n (length es) at ≡ got es end
  unfolding arcs_at arcs_bytes
  stands_arcs n at {end} [] k h f = ap (got []) (let z : at ≡ end = omega arith in z)
  stands_arcs n at (e ∷ es) k h f =
      let d = stands_arc n at e k (h e (In.head refl)) (stands_left s (arc_bytes e) (arcs_bytes es) f) in
      let rest = stands_right s (arc_bytes e) (arcs_bytes es) f in
      let r = stands_arcs n (at + length (arc_bytes e)) es k (λ x i. h x (In.tail i)) rest in
      rw (d, r)

  -- where the bytes of all arcs stand up to the end, the body is read
  stands_body : (at : ℕ) {end : ℕ} (g : Given) → Acceptable g
      → Stands s at (arcs_bytes g.arcs) end → length s ≤ end
      → body_at s g.zones (length g.arcs) at ≡ got g end
  unfolding body_at
  stands_body at {end} g h f stop =
      let r = stands_arcs g.zones at g.arcs h.zones_most (acceptable_sound g h) f in
      rw (r, le-ltb end (length s) stop)

  module _ (a b : ℕ) where
    -- where a file stands from the first byte to the last, it is read
    stands_file : (g : Given) {end : ℕ} → Acceptable g → length g.arcs ≤ a → length g.arcs ≤ b
        → Stands s 0 (file_bytes g) end → length s ≤ end → file_at s a b ≡ got g end
    unfolding file_at counted_at file_bytes
    stands_file g h ra rb f stop =
        let n = g.zones in
        let m = length g.arcs in
        let body = arcs_bytes g.arcs in
        let rest = number_bytes m ++ body in
        let after = stands_right s (number_bytes n) rest f in
        let z = stands_number s 0 {n = n} (omega (arith, h.zones_most)) (stands_left s (number_bytes n) rest f) in
        let c = stands_number s _ {n = m} (omega (arith, h.arcs_most)) (stands_left s (number_bytes m) body after) in
        let d = stands_body _ g h (stands_right s (number_bytes m) body after) stop in
        rw (
          z,
          ne_eqb n 0 (omega (arith, h.zones_least)),
          le-ltb 1024 n h.zones_most,
          c,
          le-ltb 4096 m h.arcs_most,
          le-ltb a m ra,
          le-ltb b m rb,
        ) d

-- reading a written file gives the same zones and arcs
pub read_written : (g : Given) (a b : ℕ) → Acceptable g → length g.arcs ≤ a → length g.arcs ≤ b
    → file_at (file_bytes g) a b ≡ got g (length (file_bytes g))
read_written g a b h ra rb =
    let s = file_bytes g in
    stands_file s a b g h ra rb (stands_whole s) (omega arith)

-- lists of 4,096 elements have room for every written file
pub written_accepted : (g : Given) → Acceptable g → file_at (file_bytes g) 4096 4096 ≡ got g (length (file_bytes g))
written_accepted g h = read_written g 4096 4096 h h.arcs_most h.arcs_most

-- two networks that calls accept have the same file exactly when they have the same zones and arcs
pub same_file_same_network : (g h : Given) → Acceptable g → Acceptable h → (file_bytes g ≡ file_bytes h) ↔ (g ≡ h)
same_file_same_network g h p q = (
  λ e. got_value (sym (written_accepted g p) ∙ ap (λ (l : List ℕ). file_at l 4096 4096) e ∙ written_accepted h q),
  ap file_bytes,
)

module _ (s : List ℕ) where
  -- an arc that is read has at most four bytes
  pub arc_end : (n at : ℕ) {e : Arc} {next : ℕ} → n ≤ 1024 → arc_at s n at ≡ got e next → next ≤ at + 4
  arc_end n at k e =
      let r = arc_got s n at e in
      let t = number_next s at r.tail_read (omega (arith, r.sound.0)) in
      omega (arith, number_next s r.mid r.head_read (omega (arith, r.sound.1)))

  -- arcs that are read have at most four bytes each
  pub arcs_end : (n m at : ℕ) {es : List Arc} {end : ℕ} → n ≤ 1024 → arcs_at s n m at ≡ got es end → end ≤ at + 4 * m
  unfolding arcs_at
  arcs_end n zero at k e = omega (arith, got_place e)
  arcs_end n (suc m) at k e =
      let r = arcs_got s n m at e in
      omega (arith, arc_end n at k r.3, arcs_end n m r.1 k r.4)

  -- no accepted file is longer than 16,388 bytes
  pub accepted_length : (a b : ℕ) {g : Given} {end : ℕ} → file_at s a b ≡ got g end → length s ≤ 16388
  accepted_length a b {g} e =
      let r = file_read s a b e in
      let z = number_next s 0 r.zones_read (omega arith) in
      let c = number_next s r.mid r.count_read (omega arith) in
      omega (arith, arcs_end g.zones (length g.arcs) r.start r.zones_fit.1 r.arcs_read)
