-- The arcs that a tail list and a head list hand in.
--   arcs_length   there are as many arcs as tails
--   index_arcs    what stands at one index of both lists is an arc
--   arcs_split    the arcs of the tails and the heads of arcs are the arcs
--   tails_again, heads_again   the tails and the heads of the arcs of two lists of one length are the lists
--   arcs_join     the arcs of lists put one after the other are the arcs of both
--   arcs_exchanged   with tails and heads exchanged the arcs are turned round
-- By induction on the tails. Assumes nothing.
use mathlib.Core.Path.{◌≡◌, refl, ap}
use mathlib.Core.List.{List, [], ◌∷◌, ◌++◌, map, zip_with, Memᴰ as In}
use Prim.Native.Nat.{ℕ, zero, suc, ◌<◌}
use native.Mathlib.Nat.{not-suc-le-zero}
use native.Mathlib.Omega.{arith}
use lib.ListN.{length, get_or}
use Rattle.rules.specs.Network.{Arc, ◌⟶◌, arc_tails, arc_heads}
use Rattle.rules.specs.Calls.{arcs_of}

-- there are as many arcs as tails
pub arcs_length : (ts hs : List ℕ) → length ts ≡ length hs → length (arcs_of ts hs) ≡ length ts
unfolding arcs_of zip_with
arcs_length [] hs e = refl
arcs_length (t ∷ ts) [] e = omega arith
arcs_length (t ∷ ts) (h ∷ hs) e = ap suc (arcs_length ts hs (omega arith))

-- what stands at one index of both lists is an arc
pub index_arcs : (ts hs : List ℕ) (k : ℕ) → k < length ts → k < length hs
    → In (get_or ts k 0 ⟶ get_or hs k 0) (arcs_of ts hs)
unfolding arcs_of zip_with
index_arcs [] hs k l h = absurd (not-suc-le-zero l)
index_arcs (t ∷ ts) [] k l h = absurd (not-suc-le-zero h)
index_arcs (t ∷ ts) (x ∷ hs) zero l h = In.head refl
index_arcs (t ∷ ts) (x ∷ hs) (suc k) l h = In.tail (index_arcs ts hs k (omega arith) (omega arith))

-- the arcs of the tails and the heads of arcs are the arcs
pub arcs_split : (es : List Arc) → arcs_of (arc_tails es) (arc_heads es) ≡ es
unfolding arcs_of zip_with
arcs_split [] = refl
arcs_split (e ∷ es) = ap (λ (l : List Arc). e ∷ l) (arcs_split es)

-- the tails of the arcs of two lists of one length are the first list
pub tails_again : (ts hs : List ℕ) → length ts ≡ length hs → arc_tails (arcs_of ts hs) ≡ ts
unfolding arcs_of zip_with
tails_again [] hs e = refl
tails_again (t ∷ ts) [] e = absurd (omega arith)
tails_again (t ∷ ts) (h ∷ hs) e = ap (λ (l : List ℕ). t ∷ l) (tails_again ts hs (omega arith))

-- and the heads are the second
pub heads_again : (ts hs : List ℕ) → length ts ≡ length hs → arc_heads (arcs_of ts hs) ≡ hs
unfolding arcs_of zip_with
heads_again [] [] e = refl
heads_again [] (h ∷ hs) e = absurd (omega arith)
heads_again (t ∷ ts) [] e = absurd (omega arith)
heads_again (t ∷ ts) (h ∷ hs) e = ap (λ (l : List ℕ). h ∷ l) (heads_again ts hs (omega arith))

-- the arcs of lists put one after the other are the arcs of both
pub arcs_join : (ts hs us vs : List ℕ) → length ts ≡ length hs
    → arcs_of (ts ++ us) (hs ++ vs) ≡ arcs_of ts hs ++ arcs_of us vs
unfolding arcs_of zip_with
arcs_join [] [] us vs e = refl
arcs_join [] (h ∷ hs) us vs e = absurd (omega arith)
arcs_join (t ∷ ts) [] us vs e = absurd (omega arith)
arcs_join (t ∷ ts) (h ∷ hs) us vs e = ap (λ (l : List Arc). (t ⟶ h) ∷ l) (arcs_join ts hs us vs (omega arith))

-- with tails and heads exchanged the arcs are turned round
pub arcs_exchanged : (ts hs : List ℕ) → map (λ (e : Arc). e.head ⟶ e.tail) (arcs_of ts hs) ≡ arcs_of hs ts
unfolding arcs_of zip_with
arcs_exchanged [] [] = refl
arcs_exchanged [] (h ∷ hs) = refl
arcs_exchanged (t ∷ ts) [] = refl
arcs_exchanged (t ∷ ts) (h ∷ hs) = ap {B = List Arc} (λ es. (h ⟶ t) ∷ es) (arcs_exchanged ts hs)
