-- Laws of reading from left to right, and of the bytes that stand at a place.
--   unless_got, then_got, cond_cases          what a reading that succeeds has passed
--   unless_bad, then_bad                      where a reading that is refused was
--   unless_alike, then_alike                  readings that go on alike are alike
--   Stands s at w next                        the bytes w stand in s from the place `at` up to the place `next`
--   stands_join, stands_left, stands_right    a text of two parts stands where its parts stand one after the other
--   stands_first, first_stands                its first byte, as the readers ask for it
-- By cases on the test or on what was read; the places by linear arithmetic. Assumes nothing.
use Prim.Native.Nat.{ℕ, ◌+◌, ◌<◌, ◌≤◌}
use native.Mathlib.Omega.{arith}
use native.Mathlib.Nat.{add-zero}
use native.Mathlib.Numerals.{add-one}
use mathlib.Core.Path.{◌≡◌, refl, sym, ◌∙◌, ap, ap₂}
use mathlib.Core.Logic.{◌⊎◌, inl, inr}
use mathlib.Core.Bool.{Bool, true, false, cond}
use mathlib.Core.List.{List, [], ◌∷◌, ◌++◌, append_assoc, append-nil}
use lib.ListN.{length, get_or, drop, length-append, length-drop, drop_of_length-le}
use lib.Seq.{drop-cons, drop-drop, drop-length, drop-append_seam, get_or-drop}
use Rattle.rules.specs.declared.Trouble.{Trouble}
use Rattle.rules.specs.Number.{Reading, got, bad, then, unless}

-- a reading cannot both succeed and be a refusal
pub bad_not_got : {A : Type 0} {t : Trouble} {x : A} {k : ℕ} → bad t ≡ got x k → ⊥
bad_not_got e = let z : ◌≡◌ {A = ℕ} 0 1 = cc in omega arith

-- equal refusals are of one trouble
pub bad_once : {A : Type 0} {t u : Trouble} → ◌≡◌ {A = Reading A} (bad t) (bad u) → t ≡ u
bad_once e = cc

-- equal readings have equal values
pub got_value : {A : Type 0} {x y : A} {k l : ℕ} → got x k ≡ got y l → x ≡ y
got_value e = cc

-- equal readings end at equal places
pub got_place : {A : Type 0} {x y : A} {k l : ℕ} → got x k ≡ got y l → k ≡ l
got_place e = cc

-- a reading that succeeds past a test: the test did not fail, and the reading after it succeeds
pub unless_got : {A : Type 0} (b : Bool) (t : Trouble) (r : Reading A) {x : A} {k : ℕ}
    → unless b t r ≡ got x k → (b ≡ false) × (r ≡ got x k)
unless_got true t r e = absurd (bad_not_got e)
unless_got false t r e = (refl, e)

-- two readings one after the other that succeed: the first succeeds, and the second goes on from it
pub then_got : {A B : Type 0} (r : Reading A) (f : A → ℕ → Reading B) {y : B} {k : ℕ}
    → then r f ≡ got y k → (x : A) × (at : ℕ) × (r ≡ got x at) × (f x at ≡ got y k)
then_got (got x at) f e = (x, at, refl, e)
then_got (bad t) f e = absurd (bad_not_got e)

-- a reading that is refused past a test: the test failed, and that is the refusal, or the reading after it is refused
pub unless_bad : {A : Type 0} (b : Bool) (u : Trouble) (r : Reading A) {t : Trouble}
    → unless b u r ≡ bad t → ((b ≡ true) × (u ≡ t)) ⊎ ((b ≡ false) × (r ≡ bad t))
unless_bad true u r e = inl (refl, cc)
unless_bad false u r e = inr (refl, e)

-- two readings one after the other that are refused: the first is, or it succeeds and the second is
pub then_bad : {A B : Type 0} (r : Reading A) (f : A → ℕ → Reading B) {t : Trouble}
    → then r f ≡ bad t → (r ≡ bad t) ⊎ ((x : A) × (at : ℕ) × (r ≡ got x at) × (f x at ≡ bad t))
then_bad (got x at) f e = inr (x, at, refl, e)
then_bad (bad u) f e = inl (ap bad (bad_once e))

-- readings that go on alike from the same first reading
pub then_alike : {A B : Type 0} (q : Reading A) {r : Reading A} (f g : A → ℕ → Reading B) → q ≡ r
    → ((x : A) (at : ℕ) → q ≡ got x at → f x at ≡ g x at) → then q f ≡ then r g
then_alike (got x at) f g e h = h x at refl ∙ ap (λ p. then p g) e
then_alike (bad t) f g e h = ap (λ p. then p g) e

-- readings that go on alike past the same test
pub unless_alike : {A : Type 0} (b : Bool) (t : Trouble) (q r : Reading A) → (b ≡ false → q ≡ r)
    → unless b t q ≡ unless b t r
unless_alike true t q r h = refl
unless_alike false t q r h = h refl

-- a choice between two readings is the first where the test holds, and else the second
pub cond_cases : {A : Type 0} (b : Bool) (r q : Reading A) {p : Reading A}
    → cond b r q ≡ p → ((b ≡ true) × (r ≡ p)) ⊎ ((b ≡ false) × (q ≡ p))
cond_cases true r q e = inl (refl, e)
cond_cases false r q e = inr (refl, e)

-- the bytes w stand in s from the place `at` up to the place `next`
pub record Stands (s : List ℕ) (at : ℕ) (w : List ℕ) (next : ℕ) : Type 0 where
  pub bytes : drop at s ≡ w ++ drop next s
  pub places : next ≡ at + length w

module _ (s : List ℕ) where
  -- nothing stands everywhere
  pub stands_nothing : (at : ℕ) → Stands s at [] at
  stands_nothing at = record { bytes = refl; places = omega arith }

  -- a list stands in itself from its first place to its length
  pub stands_whole : Stands s 0 s (length s)
  stands_whole = record {
    bytes = sym (ap (λ (l : List ℕ). s ++ l) (drop-length s) ∙ append-nil s);
    places = omega arith;
  }

  -- two texts that stand one after the other stand there as one
  pub stands_join : {at mid next : ℕ} {v w : List ℕ}
      → Stands s at v mid → Stands s mid w next → Stands s at (v ++ w) next
  stands_join {next} {v} {w} f g = record {
    bytes = f.bytes ∙ ap (λ (l : List ℕ). v ++ l) g.bytes ∙ sym (append_assoc v w (drop next s));
    places = rw (length-append) (omega arith);
  }

  -- a text that is followed by something stands up to where that begins
  pub stands_at : (at : ℕ) (v ys : List ℕ) → drop at s ≡ v ++ ys → Stands s at v (at + length v)
  stands_at at v ys e = record {
    bytes =
        e
        ∙ ap (λ (l : List ℕ). v ++ l)
        (sym (drop-append_seam v ys) ∙ ap (drop (length v)) (sym e) ∙ drop-drop (length v) at s);
    places = refl;
  }

  -- the first part of a text stands at the text's place
  pub stands_left : {at next : ℕ} (v w : List ℕ) → Stands s at (v ++ w) next → Stands s at v (at + length v)
  stands_left {at} {next} v w f =
      stands_at at v (w ++ drop next s) (f.bytes ∙ append_assoc v w (drop next s))

  -- the second part of a text stands right after the first
  pub stands_right : {at next : ℕ} (v w : List ℕ) → Stands s at (v ++ w) next → Stands s (at + length v) w next
  stands_right {at} {next} v w f = record {
    bytes =
        sym (drop-drop (length v) at s)
        ∙ ap (drop (length v)) (f.bytes ∙ append_assoc v w (drop next s))
        ∙ drop-append_seam v (w ++ drop next s);
    places = f.places ∙ rw (length-append) (omega arith);
  }

  -- a byte that stands at a place is inside, and is what the readers find there
  pub stands_first : {at next x : ℕ} (w : List ℕ) → Stands s at (x ∷ w) next → (at < length s) × (get_or s at 0 ≡ x)
  stands_first {at} w f = (
    omega (arith, length-drop at s, ap length f.bytes),
    ap (λ (k : ℕ). get_or s k 0) (sym (add-zero at)) ∙ sym (get_or-drop at s 0 0)
        ∙ ap (λ (l : List ℕ). get_or l 0 0) f.bytes,
  )

  -- what the readers find at a place inside, before a text that stands from the next place on, stands there with it
  pub first_stands : {at mid next x : ℕ} {w : List ℕ}
      → at < length s → get_or s at 0 ≡ x → mid ≡ at + 1 → Stands s mid w next → Stands s at (x ∷ w) next
  first_stands {at} {w} h e m f = record {
    bytes =
        drop-cons s at 0 h
        ∙ ap₂ (λ (y : ℕ) (l : List ℕ). y ∷ l) e (ap (λ (k : ℕ). drop k s) (sym (m ∙ add-one at)) ∙ f.bytes);
    places = omega arith;
  }

  -- nothing follows a text that stands up to the length
  pub stands_all : {w : List ℕ} {next : ℕ} → Stands s 0 w next → length s ≤ next → s ≡ w
  stands_all {w} {next} f h =
      f.bytes ∙ ap (λ (l : List ℕ). w ++ l) (drop_of_length-le s h) ∙ append-nil w
