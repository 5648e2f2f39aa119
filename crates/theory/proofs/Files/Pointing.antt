-- A refusal of a file points at what is wrong: which number of the file it is, and which byte.
--   TailAt, HeadAt    the tail, and the head, of arc i begins at p, and is z; the zone count is n
--   zones_wrong         a zone count that is refused is 0 or above 1,024
--   WrongAt k p        what stands at p, by the kind k of the refusal
--   file_points         what reading a file refuses is wrong there
--   file_counted        and the number that it is in is found by counting bytes below 128
-- Reading goes from number to number, so each place that it comes to is where a number begins (Files/Numbering); a
-- refusal is one test that failed there. Assumes nothing.
use Prim.Native.Nat.{ℕ, zero, suc, ◌+◌, ◌*◌, ◌<◌, ◌≤◌}
use native.Mathlib.Omega.{arith}
use native.Mathlib.Decide.{dec_lt}
use mathlib.Core.Path.{◌≡◌, refl, sym, subst}
use mathlib.Core.Logic.{◌⊎◌, inl, inr, ⊎_elim}
use mathlib.Core.Bool.{Bool, true, cond, ◌||◌}
use mathlib.Core.List.{List}
use lib.ListN.{length, get_or}
use lib.Dec.{ltb, leb, eqb}
use borrow.Author.Tests.{ltb-true, leb-true, eqb-true, ltb-false, leb-false}
use Rattle.rules.specs.declared.TroubleKind.{TroubleKind}
use Rattle.rules.specs.declared.TroubleKind.TheVariants.{Short, Long, Loose, Zones, Arcs, Range, SelfArc}
use Rattle.rules.specs.declared.TroubleKind.TheVariants.{Extra, Room, Pair, ZoneList, None, Gone, Head}
use Rattle.rules.specs.declared.Trouble.{Trouble}
use Rattle.rules.specs.Network.{Arc}
use Rattle.rules.specs.Number.{Reading, got, bad, unless, short, long, loose}
use Rattle.rules.specs.Number.{number_at, second_group, third_group}
use Rattle.rules.specs.File.{zones_bad, arcs_bad, zone_at, arc_at, arcs_at, body_at, counted_at, file_at}
use Rattle.theory.proofs.Ground.Bools.{or_true}
use Rattle.theory.proofs.Files.Readings.{unless_got, then_got, bad_not_got, bad_once, got_place}
use Rattle.theory.proofs.Files.Readings.{unless_bad, then_bad, cond_cases}
use Rattle.theory.proofs.Files.FileLaws.{zone_got}
use Rattle.theory.proofs.Files.Numbering.{Begins, first, next, Numbered, Within, CountedTo}
use Rattle.theory.proofs.Files.Numbering.{begins_within, begins_inside, within_counted, begins_counted}

-- the end j of arc i, 0 its tail and 1 its head, begins at p, and is z; the zone count is n
pub record EndAt (j : ℕ) (s : List ℕ) (n i p z : ℕ) : Type 0 where
  pub arcs_place : ℕ
  pub arcs : ℕ
  pub zone_count : Numbered s 0 0 n
  pub arc_count : Numbered s 1 arcs_place arcs
  pub one_of : i < arcs
  pub number : Numbered s (2 + j + 2 * i) p z

-- the tail of an arc, and the head
abbrev pub TailAt : List ℕ → ℕ → ℕ → ℕ → ℕ → Type 0
TailAt = EndAt 0

abbrev pub HeadAt : List ℕ → ℕ → ℕ → ℕ → ℕ → Type 0
HeadAt = EndAt 1

-- one of two tests that fails says what it says
either : {a b : Bool} {A B : Type 0} → (a ≡ true → A) → (b ≡ true → B) → (a || b) ≡ true → A ⊎ B
either {a} {b} f g e = ⊎_elim (λ h. inl (f h)) (λ h. inr (g h)) (or_true a b e)

-- a zone count that is refused is 0 or above 1,024
pub zones_wrong : (n : ℕ) → zones_bad n ≡ true → (n ≡ 0) ⊎ (1024 < n)
zones_wrong n e = either (eqb-true n 0) (ltb-true 1024 n) e

-- what stands in the bytes s at a place, by the kind of the refusal, where a tails and b heads were lent
module _ (s : List ℕ) (a b : ℕ) where
  abbrev pub WrongAt : TroubleKind → ℕ → Type 0
  -- the end of the bytes, and a number is not over or due
  WrongAt Short p = (k at : ℕ) × Within s k at p × (p ≡ length s)
  -- the third byte of a number, and it says that another follows
  WrongAt Long p = (k at : ℕ) × Within s k at p × (p < length s) × (p ≡ at + 2) × (128 ≤ get_or s p 0)
  -- the second or the third byte of a number, and it is zero
  WrongAt Loose p =
      (k at : ℕ) × Within s k at p × (p < length s) × ((p ≡ at + 1) ⊎ (p ≡ at + 2)) × (get_or s p 0 ≡ 0)
  -- the zone count
  WrongAt Zones p = (n : ℕ) × Numbered s 0 p n × ((n ≡ 0) ⊎ (1024 < n))
  -- the arc count
  WrongAt Arcs p = (m : ℕ) × Numbered s 1 p m × (4096 < m)
  WrongAt Room p = (m : ℕ) × Numbered s 1 p m × ((a < m) ⊎ (b < m))
  -- a tail that is no zone
  WrongAt Range p = (n i z : ℕ) × TailAt s n i p z × (n ≤ z)
  -- a head that is no zone
  WrongAt Head p = (n i z : ℕ) × HeadAt s n i p z × (n ≤ z)
  -- a head that is its arc's tail
  WrongAt SelfArc p = (n i z at : ℕ) × TailAt s n i at z × HeadAt s n i p z
  -- the byte after the last arc
  WrongAt Extra p = (m at : ℕ) × Numbered s 1 at m × Begins s (2 + 2 * m) p × (p < length s)
  -- no file is refused so: it has one list of numbers, and no withdrawn ones
  WrongAt Pair p = ⊥
  WrongAt ZoneList p = ⊥
  WrongAt None p = ⊥
  WrongAt Gone p = ⊥

  -- a refusal is right where what it says is wrong stands at its place
  abbrev pub Points : Trouble → Type 0
  Points t = WrongAt t.kind t.place

  -- the refusal of a test that failed
  points_as : {t u : Trouble} → Points u → u ≡ t → Points t
  points_as w e = subst Points e w

  module _ {k at : ℕ} (here : Begins s k at) where
    -- the second byte of a number, after one that says that it follows
    second_byte : 128 ≤ get_or s at 0 → Within s k at (at + 1)
    second_byte more = record {
      begins = here;
      from = omega arith;
      before = λ i low high. subst (λ j. 128 ≤ get_or s j 0) (let e : at ≡ i = omega arith in e) more;
    }

    -- the third, after two
    third_byte : 128 ≤ get_or s at 0 → 128 ≤ get_or s (at + 1) 0 → Within s k at (at + 2)
    third_byte more again = record {
      begins = here;
      from = omega arith;
      before = λ i low high. elim (dec_lt i (at + 1)) [
        | yes l ↦ (second_byte more).before i low l
        | no l ↦ subst (λ j. 128 ≤ get_or s j 0) (let e : at + 1 ≡ i = omega arith in e) again
      ];
    }

    -- the bytes end before the next of its bytes
    short_points : {t : Trouble} {p : ℕ} → Within s k at p → p ≡ length s → short s at ≡ t → Points t
    short_points there e f = points_as (k, at, rw (sym e) there, refl) f

    -- a further group, j after the first, that is refused: the bytes end before it, it is zero, or it says that another
    -- follows, and what is read then is refused
    group_points : {t : Trouble} (j v end : ℕ) (rest : Reading ℕ) → at + j ≤ length s → Within s k at (at + j)
        → (at + j ≡ at + 1) ⊎ (at + j ≡ at + 2)
        → (at + j < length s → 128 ≤ get_or s (at + j) 0 → rest ≡ bad t → Points t)
        → unless (leb (length s) (at + j)) (short s at)
        (unless (eqb (get_or s (at + j) 0) 0) (loose s at j) (cond (ltb (get_or s (at + j) 0) 128) (got v end) rest))
        ≡ bad t
        → Points t
    group_points j v end rest before there second_or_third more e =
        elim (unless_bad (leb (length s) (at + j)) _ _ e) [
          | inl f ↦ short_points there (omega (arith, leb-true (length s) (at + j) f.0)) f.1
          | inr f ↦
              let inside = leb-false _ _ f.0 in
              elim (unless_bad (eqb (get_or s (at + j) 0) 0) _ _ f.1) [
                | inl g ↦ points_as (k, at, there, inside, second_or_third, eqb-true _ _ g.0) g.1
                | inr g ↦ elim (cond_cases (ltb (get_or s (at + j) 0) 128) _ _ g.1) [
                  | inl h ↦ absurd (bad_not_got (sym h.1))
                  | inr h ↦ more inside (ltb-false _ _ h.0) h.1
                ]
              ]
        ]

    -- a third group that is refused: LONG where it says that another follows
    third_points : {t : Trouble} (low : ℕ) → at + 1 < length s → 128 ≤ get_or s at 0 → 128 ≤ get_or s (at + 1) 0
        → third_group s at low ≡ bad t → Points t
    unfolding third_group
    third_points low before more again e =
        group_points 2 _ _ (bad (long s at)) (omega arith) (third_byte more again) (inr refl)
        (λ inside third f. points_as (k, at, third_byte more again, inside, refl, third) (bad_once f)) e

    -- a second group that is refused: where it says that another follows, the third is refused
    second_points : {t : Trouble} (low : ℕ) → at < length s → 128 ≤ get_or s at 0 → second_group s at low ≡ bad t
        → Points t
    unfolding second_group
    second_points low before more e =
        group_points 1 _ _ _ (omega arith) (second_byte more) (inl refl)
        (λ inside again f. third_points _ inside more again f) e

    -- a number that is refused: the bytes end before it, or its second group is refused
    number_points : {t : Trouble} → number_at s at ≡ bad t → Points t
    unfolding number_at
    number_points e =
        let b = get_or s at 0 in
        elim (unless_bad (leb (length s) at) _ _ e) [
          | inl f ↦
              let end = leb-true (length s) at f.0 in
              short_points (begins_within s here) (omega (arith, end, begins_inside s here)) f.1
          | inr f ↦ elim (cond_cases (ltb b 128) _ _ f.1) [
            | inl g ↦ absurd (bad_not_got (sym g.1))
            | inr g ↦ second_points _ (leb-false _ _ f.0) (ltb-false _ _ g.0) g.1
          ]
        ]

  -- an end of an arc that is refused: as a number, or with the kind of a number that is no zone
  zone_points : {k at : ℕ} {t : Trouble} → Begins s k at → (j : TroubleKind) (n : ℕ)
      → ((z : ℕ) → Numbered s k at z → n ≤ z → WrongAt j at) → zone_at s j n at ≡ bad t → Points t
  unfolding zone_at
  zone_points {k} {at} here j n wrong e =
      elim (then_bad (number_at s at) _ e) [
        | inl f ↦ number_points here f
        | inr f ↦
            let z = f.0 in
            elim (unless_bad (leb n z) _ _ f.3) [
              | inl g ↦
                  points_as (wrong z (record { begins = here; end = f.1; reads = f.2 }) (leb-true n z g.0)) g.1
              | inr g ↦ absurd (bad_not_got (sym g.1))
            ]
      ]

  -- the counts of the file: n zones, and m arcs
  module _ {n m counted : ℕ} (zones : Numbered s 0 0 n) (arcs : Numbered s 1 counted m) where
    -- the end j of arc i
    end_of : {j i p z : ℕ} → i < m → Numbered s (2 + j + 2 * i) p z → EndAt j s n i p z
    end_of inside number = record {
      arcs_place = counted;
      arcs = m;
      zone_count = zones;
      arc_count = arcs;
      one_of = inside;
      number = number;
    }

    -- an arc that is refused
    arc_points : (i : ℕ) {at : ℕ} {t : Trouble} → i < m → Begins s (2 + 2 * i) at → arc_at s n at ≡ bad t → Points t
    unfolding arc_at
    arc_points i {at} inside here e =
        elim (then_bad (zone_at s Range n at) _ e) [
          | inl f ↦ zone_points here Range n (λ z a large. (n, i, z, end_of inside a, large)) f
          | inr f ↦
              let tail = (zone_got s n Range at f.2).1 in
              let mid : Begins s (3 + 2 * i) f.1 = next {l = 3 + 2 * i} here tail (omega arith) in
              elim (then_bad (zone_at s Head n f.1) _ f.3) [
                | inl g ↦ zone_points mid Head n (λ z a large. (n, i, z, end_of inside a, large)) g
                | inr g ↦ elim (unless_bad (eqb f.0 g.0) _ _ g.3) [
                  | inl h ↦
                      let head = (zone_got s n Head f.1 g.2).1 in
                      let same : g.0 ≡ f.0 = sym (eqb-true _ _ h.0) in
                      points_as (
                        n,
                        i,
                        f.0,
                        at,
                        end_of inside (record { begins = here; end = f.1; reads = tail }),
                        end_of inside (record { begins = mid; end = g.1; reads = rw same at head }),
                      )
                      h.1
                  | inr h ↦ absurd (bad_not_got (sym h.1))
                ]
              ]
        ]

    -- past an arc that is read the next one begins
    arc_passed : (i : ℕ) {at mid : ℕ} {e : Arc} → Begins s (2 + 2 * i) at → arc_at s n at ≡ got e mid
        → Begins s (2 + 2 * suc i) mid
    unfolding arc_at
    arc_passed i {at} here e =
        let f = then_got (zone_at s Range n at) _ e in
        let g = then_got (zone_at s Head n f.1) _ f.3 in
        let place = got_place (unless_got (eqb f.0 g.0) _ _ g.3).1 in
        let tail : Begins s (3 + 2 * i) f.1 =
        next {l = 3 + 2 * i} here (zone_got s n Range at f.2).1 (omega arith) in
        next {l = 2 + 2 * suc i} tail (rw place at (zone_got s n Head f.1 g.2).1) (omega arith)

    -- the arcs from arc i on: one that is refused
    arcs_points : (left i : ℕ) {at : ℕ} {t : Trouble} → i + left ≤ m → Begins s (2 + 2 * i) at
        → arcs_at s n left at ≡ bad t → Points t
    unfolding arcs_at
    arcs_points zero i fits here e = absurd (bad_not_got (sym e))
    arcs_points (suc left) i {at} fits here e =
        elim (then_bad (arc_at s n at) _ e) [
          | inl f ↦ arc_points i (omega arith) here f
          | inr f ↦ elim (then_bad (arcs_at s n left f.1) _ f.3) [
            | inl g ↦ arcs_points left (suc i) (omega arith) (arc_passed i here f.2) g
            | inr g ↦ absurd (bad_not_got (sym g.3))
          ]
        ]

    -- and past them all
    arcs_passed : (left i : ℕ) {at end : ℕ} {es : List Arc} → i + left ≡ m → Begins s (2 + 2 * i) at
        → arcs_at s n left at ≡ got es end → Begins s (2 + 2 * m) end
    unfolding arcs_at
    arcs_passed zero i {at} {end} fits here e =
        let all : i ≡ m = omega arith in
        rw (sym (got_place e), sym all) here
    arcs_passed (suc left) i {at} fits here e =
        let f = then_got (arc_at s n at) _ e in
        let g = then_got (arcs_at s n left f.1) _ f.3 in
        rw (sym (got_place g.3)) (arcs_passed left (suc i) (omega arith) (arc_passed i here f.2) g.2)

    -- the arcs, and what follows them
    body_points : {at : ℕ} {t : Trouble} → Begins s 2 at → body_at s n m at ≡ bad t → Points t
    unfolding body_at
    body_points {at} here e =
        elim (then_bad (arcs_at s n m at) _ e) [
          | inl f ↦ arcs_points m 0 (omega arith) here f
          | inr f ↦ elim (unless_bad (ltb f.1 (length s)) _ _ f.3) [
            | inl g ↦
                points_as (m, counted, arcs, arcs_passed m 0 (omega arith) here f.2, ltb-true _ _ g.0)
                g.1
            | inr g ↦ absurd (bad_not_got (sym g.1))
          ]
        ]

  -- the arc count, and what follows it
  counted_points : {n at : ℕ} {t : Trouble} → Numbered s 0 0 n → Begins s 1 at → counted_at s a b n at ≡ bad t
      → Points t
  unfolding counted_at
  counted_points {n} {at} zones here e =
      elim (then_bad (number_at s at) _ e) [
        | inl f ↦ number_points here f
        | inr f ↦
            let m = f.0 in
            let arcs : Numbered s 1 at m = record { begins = here; end = f.1; reads = f.2 } in
            elim (unless_bad (arcs_bad m) _ _ f.3) [
              | inl g ↦ points_as (m, arcs, ltb-true _ _ g.0) g.1
              | inr g ↦ elim (unless_bad (ltb a m || ltb b m) _ _ g.1) [
                | inl h ↦ points_as (m, arcs, either (ltb-true a m) (ltb-true b m) h.0) h.1
                | inr h ↦ body_points zones arcs (next here f.2 refl) h.1
              ]
            ]
      ]

  -- what reading a file refuses is wrong at its place
  pub file_points : {t : Trouble} → file_at s a b ≡ bad t → Points t
  unfolding file_at
  file_points e =
      elim (then_bad (number_at s 0) _ e) [
        | inl f ↦ number_points first f
        | inr f ↦
            let n = f.0 in
            let zones : Numbered s 0 0 n = record { begins = first; end = f.1; reads = f.2 } in
            elim (unless_bad (zones_bad n) _ _ f.3) [
              | inl g ↦
                  points_as (n, zones, zones_wrong n g.0) g.1
              | inr g ↦ counted_points zones (next first f.2 refl) g.1
            ]
      ]

  -- a place where something is wrong is counted to
  wrong_counted : (k : TroubleKind) {p : ℕ} → WrongAt k p → CountedTo s p
  wrong_counted Short w = within_counted s w.2 (omega (arith, w.3))
  wrong_counted Long w = within_counted s w.2 (omega (arith, w.3))
  wrong_counted Loose w = within_counted s w.2 (omega (arith, w.3))
  wrong_counted Zones w = begins_counted s w.1.begins
  wrong_counted Arcs w = begins_counted s w.1.begins
  wrong_counted Room w = begins_counted s w.1.begins
  wrong_counted Range w = begins_counted s w.3.number.begins
  wrong_counted Head w = begins_counted s w.3.number.begins
  wrong_counted SelfArc w = begins_counted s w.5.number.begins
  wrong_counted Extra w = begins_counted s w.3
  wrong_counted Pair w = absurd w
  wrong_counted ZoneList w = absurd w
  wrong_counted None w = absurd w
  wrong_counted Gone w = absurd w

  -- so is the place of every refusal
  pub file_counted : {t : Trouble} → file_at s a b ≡ bad t → CountedTo s t.place
  file_counted {t} e = wrong_counted t.kind (file_points e)
