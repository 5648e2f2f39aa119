-- The memory while arcs are noted.
--   names_around            names stay;   room_around   so the memory keeps its room
--   noted_same, noted_read  an arc whose ends have one name changes nothing; another raises two places
--   marking_more            one arc more is noted
-- The place of a name c is raised by an arc exactly where the arc's one end has the name c and the other has not.
-- Assumes nothing.
use mathlib.Core.Path.{◌≡◌, refl, sym, ◌∙◌}
use mathlib.Core.Logic.{inl, inr, ◌≢◌}
use mathlib.Core.Bool.{Bool, true, false, not, ◌&&◌}
use mathlib.Core.List.{List}
use Prim.Native.Nat.{ℕ, ◌+◌, ◌<◌}
use native.Mathlib.Omega.{arith}
use lib.Dec.{eqb}
use lib.ListN.{length, get_or, set, take, length-set}
use lib.Seq.{get_or-set_same, get_or-set_other, drop-set-lt}
use borrow.Author.Tests.{eq-eqb, ne_eqb}
use Rattle.rules.specs.Network.{◌⟶◌}
use Rattle.rules.specs.Calls.{arcs_of}
use Rattle.workmap.specs.declared.KindsAt.{KindsAt}
use Rattle.memory.specs.Regions.{cell}
use Rattle.memory.proofs.Regions.{at_kept}
use Rattle.memory.proofs.Numbers.{same?}
use Rattle.arccounts.proofs.Heads.{arcs_more}
use Rattle.borders.specs.Borders.{comes, goes, raised, Around, KindsRoom, Noted, Marking}
use Rattle.borders.proofs.Tests.{raised_one}

-- Names are kept.
pub names_around : {k : KindsAt} {w w' : List ℕ} → KindsRoom k w → Around k w w' →
    (v : ℕ) → cell w' k.names v ≡ cell w k.names v
names_around {k} {w} {w'} R A v =
    at_kept w w' (k.exited + k.zones) (k.names + v) (omega (arith, R.exited_low)) A.back

-- The memory keeps its room.
pub room_around : {k : KindsAt} {w w' : List ℕ} → KindsRoom k w → Around k w w' → KindsRoom k w'
room_around R A =
    record {
      small = R.small;
      entered_low = R.entered_low;
      exited_low = R.exited_low;
      fits = omega (arith, R.fits, A.long);
      zone = λ v l. rw (names_around R A v) (R.zone v l);
    }

-- Where both ends have one name, nothing is raised.
raised_none : (b : Bool) (x : ℕ) → x ≡ raised (b && not b) x
raised_none true x = refl
raised_none false x = refl

-- Where the ends have the names x and y, which differ, the place of x alone is raised.
raised_put : (x y c old new : ℕ) → x ≢ y → (c ≡ x → new ≡ 1) → (c ≢ x → new ≡ old) →
    new ≡ raised (eqb x c && not (eqb y c)) old
raised_put x y c old new ne hit miss =
    elim (same? c x) [
      | inl e ↦ rw (eq-eqb x c (sym e), ne_eqb y c (λ q. ne (sym e ∙ sym q))) (hit e)
      | inr e ↦ rw (ne_eqb x c (λ q. e (sym q))) (miss e)
    ]

-- An arc whose ends have one name changes nothing.
pub noted_same : {k : KindsAt} {w : List ℕ} (tail head : ℕ) → cell w k.names tail ≡ cell w k.names head →
    Noted k tail head w w
noted_same {k} {w} tail head e =
    record {
      around = record { long = refl; back = refl };
      entered = λ c l. rw e (raised_none (eqb (cell w k.names head) c) (cell w k.entered c));
      exited = λ c l. rw e (raised_none (eqb (cell w k.names head) c) (cell w k.exited c));
    }

-- the ends of an arc have the names a and b, which differ, and both their places are raised
module _
    {k : KindsAt}
    {w w' : List ℕ}
    {tail head a b : ℕ}
    (R : KindsRoom k w)
    (tail_zone : tail < k.zones)
    (head_zone : head < k.zones)
    (tail_name : a ≡ cell w k.names tail)
    (head_name : b ≡ cell w k.names head)
    (ne : a ≢ b)
    (made : w' ≡ set (set w (k.entered + b) 1) (k.exited + a) 1)
  where
    -- Both names are zones.
    low : (a < k.zones) × (b < k.zones)
    low = (rw (sym tail_name) at (R.zone tail tail_zone), rw (sym head_name) at (R.zone head head_zone))

    -- Elsewhere the memory has what it had.
    other : (j : ℕ) → j ≢ k.entered + b → j ≢ k.exited + a → get_or w' j 0 ≡ get_or w j 0
    other j p q =
        rw made
        (get_or-set_other (set w (k.entered + b) 1) (k.exited + a) j 1 0 q
        ∙ get_or-set_other w (k.entered + b) j 1 0 p)

    -- Behind the two regions nothing changes.
    noted_around : Around k w w'
    noted_around =
        record {
          long = rw made (simp length-set);
          back =
              rw made
              (drop-set-lt (k.exited + k.zones) (set w (k.entered + b) 1) (k.exited + a) 1 (omega (arith, low))
              ∙ drop-set-lt (k.exited + k.zones) w (k.entered + b) 1 (omega (arith, low, R.entered_low)));
        }

    -- The place of the head's name is raised.
    entered_put : cell w' k.entered b ≡ 1
    entered_put =
        rw made
        (get_or-set_other (set w (k.entered + b) 1) (k.exited + a) (k.entered + b) 1 0
        (λ e. omega (arith, low, R.entered_low))
        ∙ get_or-set_same w (k.entered + b) 1 0 (omega (arith, low, R.entered_low, R.exited_low, R.fits)))

    -- The place of the tail's name is raised.
    exited_put : cell w' k.exited a ≡ 1
    exited_put =
        rw made
        (get_or-set_same (set w (k.entered + b) 1) (k.exited + a) 1 0
        (simp length-set (omega (arith, low, R.exited_low, R.fits))))

    -- The arc is noted at both names.
    pub noted_read : Noted k tail head w w'
    noted_read =
        record {
          around = noted_around;
          entered =
              λ c l.
              rw (sym head_name, sym tail_name)
              (raised_put b a c (cell w k.entered c) (cell w' k.entered c) (λ e. ne (sym e))
              (λ e. rw e entered_put)
              (λ e. other (k.entered + c) (λ q. e (omega arith)) (λ q. omega (arith, R.entered_low))));
          exited =
              λ c l.
              rw (sym head_name, sym tail_name)
              (raised_put a b c (cell w k.exited c) (cell w' k.exited c) ne
              (λ e. rw e exited_put)
              (λ e. other (k.exited + c) (λ q. omega (arith, low, R.entered_low)) (λ q. e (omega arith))));
        }

-- What two steps change lies before the same place.
around_then : {k : KindsAt} {w w' w'' : List ℕ} → Around k w w' → Around k w' w'' → Around k w w''
around_then A B = record { long = B.long ∙ A.long; back = B.back ∙ A.back }

-- One arc more is noted.
pub marking_more : {k : KindsAt} {w₀ w w' : List ℕ} (ts hs : List ℕ) {i : ℕ} → i < length ts → i < length hs →
    KindsRoom k w₀ → Marking k (arcs_of ts hs) i w₀ w → Noted k (get_or ts i 0) (get_or hs i 0) w w' →
    Marking k (arcs_of ts hs) (i + 1) w₀ w'
marking_more {k} {w₀} {w} {w'} ts hs {i} l h R M N =
    let t = names_around R M.around (get_or ts i 0) in
    let u = names_around R M.around (get_or hs i 0) in
    let e = get_or ts i 0 ⟶ get_or hs i 0 in
    let f = cell w₀ k.names in
    record {
      around = around_then M.around N.around;
      entered =
          λ c z.
          rw (arcs_more ts hs i l h)
          (rw (t, u, M.entered c z) at (N.entered c z) ∙ raised_one (comes f c) (take i (arcs_of ts hs)) e);
      exited =
          λ c z.
          rw (arcs_more ts hs i l h)
          (rw (t, u, M.exited c z) at (N.exited c z) ∙ raised_one (goes f c) (take i (arcs_of ts hs)) e);
    }
