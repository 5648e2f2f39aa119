-- What a run of stores, `sets w at vs`, leaves: vs from `at` on, and everything else as it was.
--   take_sets, drop_sets, getD_sets_low, getD_sets_high   what lies before and behind the run is kept
--   drop_sets_at, getD_sets_at            what stands where the run stored
--   sets_holds                            the memory holds what was stored
--   part_sets, holds_sets, holds_more     a part and a list elsewhere stay; a list right before the run gets longer
-- Each is by induction on the stored list, from the law of one store. Assumes nothing.
use mathlib.Core.Path.{◌≡◌, refl, sym, ap, ◌∙◌}
use mathlib.Core.Logic.{◌≢◌, ◌⊎◌, inl, ⊎_elim}
use mathlib.Core.List.{List, [], ◌∷◌, ◌++◌, append_assoc}
use Prim.Native.Nat.{ℕ, suc, ◌+◌, ◌≤◌, ◌<◌}
use native.Mathlib.Omega.{arith}
use lib.ListN.{length, get_or, take, drop, set, get_or-append}
use lib.Seq.{sets, sets-eq, take-set-le, drop-set-lt, get_or-set_other, length-take-le, drop_at, get_or-drop}
use lib.Seq.{take-append_seam}
use Rattle.theory.proofs.Ground.Storing.{sets_append}
use Rattle.memory.specs.Regions.{part, Holds}
use Rattle.memory.proofs.Regions.{part_below, part_kept, holds_append}

-- storing a list and then one element behind it
pub sets_more : (w : List ℕ) (at : ℕ) (vs : List ℕ) (x n : ℕ) → n ≡ at + length vs
    → set (sets w at vs) n x ≡ sets w at (vs ++ (x ∷ []))
sets_more w at vs x n e = rw e (sym (sets_append w at vs (x ∷ [])))

-- what lies before the run is kept
pub take_sets : (w : List ℕ) (at : ℕ) (vs : List ℕ) (n : ℕ) → n ≤ at → take n (sets w at vs) ≡ take n w
take_sets w at [] n h = refl
take_sets w at (v ∷ vs) n h = take_sets (set w at v) (suc at) vs n (omega arith) ∙ take-set-le n w at v h

-- what lies behind the run is kept
pub drop_sets : (w : List ℕ) (at : ℕ) (vs : List ℕ) (n : ℕ) → at + length vs ≤ n → drop n (sets w at vs) ≡ drop n w
drop_sets w at [] n h = refl
drop_sets w at (v ∷ vs) n h =
    drop_sets (set w at v) (suc at) vs n (omega arith) ∙ drop-set-lt n w at v (omega arith)

-- an element before the run is kept
pub getD_sets_low : (w : List ℕ) (at : ℕ) (vs : List ℕ) (i : ℕ) → i < at → get_or (sets w at vs) i 0 ≡ get_or w i 0
getD_sets_low w at [] i h = refl
getD_sets_low w at (v ∷ vs) i h =
    let apart : i ≢ at = λ e. omega arith in
    getD_sets_low (set w at v) (suc at) vs i (omega arith) ∙ get_or-set_other w at i v 0 apart

-- an element behind the run is kept
pub getD_sets_high : (w : List ℕ) (at : ℕ) (vs : List ℕ) (i : ℕ) → at + length vs ≤ i →
    get_or (sets w at vs) i 0 ≡ get_or w i 0
getD_sets_high w at [] i h = refl
getD_sets_high w at (v ∷ vs) i h =
    let apart : i ≢ at = λ e. omega arith in
    getD_sets_high (set w at v) (suc at) vs i (omega arith) ∙ get_or-set_other w at i v 0 apart

-- from where the run began the memory holds what was stored, and then what was there
pub drop_sets_at : (w : List ℕ) (at : ℕ) (vs : List ℕ) → at + length vs ≤ length w
    → drop at (sets w at vs) ≡ vs ++ drop (at + length vs) w
drop_sets_at w at vs h =
    ap (λ (u : List ℕ). drop at u) (sets-eq vs w at h ∙ append_assoc (take at w) vs (drop (at + length vs) w))
    ∙ drop_at (take at w) (vs ++ drop (at + length vs) w) at (length-take-le at w (omega arith))

-- an element of what was stored
pub getD_sets_at : (w : List ℕ) (at : ℕ) (vs : List ℕ) (i : ℕ) → at + length vs ≤ length w → i < length vs
    → get_or (sets w at vs) (at + i) 0 ≡ get_or vs i 0
getD_sets_at w at vs i h l =
    sym (get_or-drop at (sets w at vs) i 0)
    ∙ ap (λ (u : List ℕ). get_or u i 0) (drop_sets_at w at vs h)
    ∙ get_or-append vs (drop (at + length vs) w) 0 i l

-- the memory holds what was stored
pub sets_holds : (w : List ℕ) (at : ℕ) (vs : List ℕ) → at + length vs ≤ length w → Holds (sets w at vs) at vs
sets_holds w at vs h =
    ap (λ (l : List ℕ). take (length vs) l) (drop_sets_at w at vs h)
    ∙ take-append_seam vs (drop (at + length vs) w)

-- stores elsewhere leave a part as it is
pub part_sets : (w : List ℕ) (i : ℕ) (vs : List ℕ) (at m : ℕ) → (at + m ≤ i) ⊎ (i + length vs ≤ at) →
    part (sets w i vs) at m ≡ part w at m
part_sets w i vs at m apart =
    ⊎_elim
    (λ (low : at + m ≤ i). part_below w (sets w i vs) (at + m) at m (omega arith) (take_sets w i vs (at + m) low))
    (λ (high : i + length vs ≤ at). part_kept w (sets w i vs) at at m (omega arith) (drop_sets w i vs at high))
    apart

-- stores elsewhere leave a list where it is
pub holds_sets : (w : List ℕ) (i : ℕ) (vs : List ℕ) (at : ℕ) (xs : List ℕ) →
    (at + length xs ≤ i) ⊎ (i + length vs ≤ at) → Holds w at xs → Holds (sets w i vs) at xs
holds_sets w i vs at xs apart h = part_sets w i vs at (length xs) apart ∙ h

-- stores right behind a list make it longer
pub holds_more : (w : List ℕ) (at k : ℕ) (xs vs : List ℕ) → k ≡ length xs → at + k + length vs ≤ length w →
    Holds w at xs → Holds (sets w (at + k) vs) at (xs ++ vs)
holds_more w at k xs vs long fits h =
    holds_append (sets w (at + k) vs) at xs vs (holds_sets w (at + k) vs at xs (inl (omega arith)) h)
    (ap (λ (i : ℕ). part (sets w (at + k) vs) (at + i) (length vs)) (sym long) ∙ sets_holds w (at + k) vs fits)
