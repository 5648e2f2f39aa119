-- Arcs that are put into two lent lists, one behind the other.
--   put_none, put_one, put_then   no arc, one arc, and arcs behind arcs
--   put_long                      the lists stay as long
--   put_over                      arcs put from the first place on lie over what was there
-- What is put is a run of stores into each list. Assumes nothing.
use mathlib.Core.Path.{◌≡◌, refl, sym, ap, ◌∙◌}
use mathlib.Core.List.{List, [], ◌∷◌, ◌++◌, map, map-append}
use Prim.Native.Nat.{ℕ, ◌+◌}
use native.Mathlib.Omega.{arith}
use lib.ListN.{length, set, length-append, length-map}
use lib.Seq.{sets, length-sets}
use Rattle.rules.specs.Lists.{over}
use Rattle.rules.specs.Network.{Arc, ◌⟶◌}
use Rattle.theory.proofs.Ground.Storing.{sets_append, sets_whole}
use Rattle.memory.specs.Putting.{ArcsFit, ArcsPut}

-- no arc is put
pub put_none : (ts hs : List ℕ) (at : ℕ) → ArcsPut ts hs ts hs at [] at
put_none ts hs at = record { tails = refl; heads = refl; behind = omega arith }

-- one arc is put
pub put_one : (ts hs : List ℕ) (at a b : ℕ) → ArcsPut ts hs (set ts at a) (set hs at b) at ((a ⟶ b) ∷ []) (at + 1)
put_one ts hs at a b = record { tails = refl; heads = refl; behind = refl }

-- values stored behind values
stores_then : (f : Arc → ℕ) (l l' l'' : List ℕ) (at r : ℕ) (es fs : List Arc) → l' ≡ sets l at (map f es) →
    r ≡ at + length es → l'' ≡ sets l' r (map f fs) → l'' ≡ sets l at (map f (es ++ fs))
stores_then f l l' l'' at r es fs first behind second =
    let place : r ≡ at + length (map f es) = omega (arith, length-map es f) in
    second
    ∙ ap (λ (x : List ℕ). sets x r (map f fs)) first
    ∙ ap (λ (k : ℕ). sets (sets l at (map f es)) k (map f fs)) place
    ∙ sym (sets_append l at (map f es) (map f fs))
    ∙ ap (sets l at) (sym (map-append f es fs))

-- arcs are put behind arcs
pub put_then : {ts hs ts' hs' ts'' hs'' : List ℕ} {at r s : ℕ} {es fs : List Arc} →
    ArcsPut ts hs ts' hs' at es r → ArcsPut ts' hs' ts'' hs'' r fs s → ArcsPut ts hs ts'' hs'' at (es ++ fs) s
put_then {ts} {hs} {ts'} {hs'} {ts''} {hs''} {at} {r} {s} {es} {fs} P Q =
    record {
      tails = stores_then (λ (e : Arc). e.tail) ts ts' ts'' at r es fs P.tails P.behind Q.tails;
      heads = stores_then (λ (e : Arc). e.head) hs hs' hs'' at r es fs P.heads P.behind Q.heads;
      behind = omega (arith, P.behind, Q.behind, length-append es fs);
    }

-- the lists stay as long as they were
pub put_long : {ts hs ts' hs' : List ℕ} {at r : ℕ} {es : List Arc} → ArcsPut ts hs ts' hs' at es r →
    (length ts' ≡ length ts) × (length hs' ≡ length hs)
put_long {ts} {hs} {at = at} {es = es} P = (
  ap length P.tails ∙ length-sets ts at (map (λ (e : Arc). e.tail) es),
  ap length P.heads ∙ length-sets hs at (map (λ (e : Arc). e.head) es),
)

-- arcs put from the first place on lie over what was there
pub put_over : (ts hs ts' hs' : List ℕ) (r : ℕ) (es : List Arc) → ArcsFit ts hs 0 es → ArcsPut ts hs ts' hs' 0 es r →
    (ts' ≡ over (map (λ (e : Arc). e.tail) es) ts) × (hs' ≡ over (map (λ (e : Arc). e.head) es) hs)
put_over ts hs ts' hs' r es R P = (
  P.tails
      ∙ sets_whole ts (map (λ (e : Arc). e.tail) es)
      (omega (arith, R.tails, length-map es (λ (e : Arc). e.tail))),
  P.heads
      ∙ sets_whole hs (map (λ (e : Arc). e.head) es)
      (omega (arith, R.heads, length-map es (λ (e : Arc). e.head))),
)
