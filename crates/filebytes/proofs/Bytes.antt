-- The bytes of a network, and lists of bytes with others put into them.
--   rest_bytes i ts hs    the bytes of the arcs from index i on, with rest_cons, rest_length, rest_turn and rest_none
--   arc_length p          how many bytes an arc is written as, with arcs_summed and sum_short of their sum
-- Assumes nothing.
use Prim.Native.Nat.{ℕ, suc, ◌+◌, ◌*◌, ◌≤◌, ◌<◌, min}
use native.Mathlib.Numerals.{add-one}
use native.Mathlib.Omega.{arith}
use native.Mathlib.Decide.{dec_lt}
use mathlib.Core.Path.{◌≡◌, refl}
use mathlib.Core.List.{List, [], ◌∷◌, ◌++◌, append_assoc, zip_with}
use lib.ListN.{length, get_or, drop, length-append, drop_of_length-le}
use lib.Seq.{drop-cons, sets}
use Rattle.std.specs.List.{zip, sum_by}
use Rattle.std.proofs.lemmas.List.Sums.{sum_by-cons}
use Rattle.theory.proofs.Files.NumberLaws.{length_bounds}
use Rattle.rules.specs.Number.{number_bytes}
use Rattle.rules.specs.File.{arc_bytes, arcs_bytes}
use Rattle.rules.specs.Calls.{arcs_of}
use Rattle.theory.proofs.Ground.Storing.{sets_append}

-- How many bytes an arc is written as.
abbrev pub arc_length : ℕ × ℕ → ℕ
arc_length p = length (number_bytes p.0) + length (number_bytes p.1)

-- The arcs are written as the sum of these.
pub arcs_summed : (ts hs : List ℕ) → sum_by arc_length (zip ts hs) ≡ length (arcs_bytes (arcs_of ts hs))
unfolding arcs_of zip_with arcs_bytes arc_bytes
arcs_summed [] hs = refl
arcs_summed (t ∷ ts) [] = refl
arcs_summed (t ∷ ts) (h ∷ hs) =
    let first = sum_by-cons arc_length (t, h) (zip ts hs) in
    let rest = arcs_summed ts hs in
    simp length-append (omega arith)

-- The sum is at most six for each tail.
pub sum_short : (ts hs : List ℕ) → sum_by arc_length (zip ts hs) ≤ 6 * length ts
sum_short [] hs = omega arith
sum_short (t ∷ ts) [] = omega arith
sum_short (t ∷ ts) (h ∷ hs) =
    let first = sum_by-cons arc_length (t, h) (zip ts hs) in
    omega (arith, first, length_bounds t, length_bounds h, sum_short ts hs)

-- The bytes of the arcs from index i on.
abbrev pub rest_bytes : ℕ → List ℕ → List ℕ → List ℕ
rest_bytes i ts hs = arcs_bytes (arcs_of (drop i ts) (drop i hs))

-- They are those of the arc i, and then the rest.
pub rest_cons : (i : ℕ) (ts hs : List ℕ) → i < length ts → i < length hs
    → rest_bytes i ts hs ≡ number_bytes (get_or ts i 0) ++ (number_bytes (get_or hs i 0) ++ rest_bytes (i + 1) ts hs)
unfolding arcs_of zip_with arcs_bytes arc_bytes
rest_cons i ts hs p q =
    let rest = arcs_bytes (arcs_of (drop (suc i) ts) (drop (suc i) hs)) in
    rw (add-one, drop-cons ts i 0, drop-cons hs i 0)
    (append_assoc (number_bytes (get_or ts i 0)) (number_bytes (get_or hs i 0)) rest)

-- Their length.
pub rest_length : (i : ℕ) (ts hs : List ℕ) → i < length ts → i < length hs
    → length (rest_bytes i ts hs)
    ≡ length (number_bytes (get_or ts i 0)) + length (number_bytes (get_or hs i 0)) + length (rest_bytes (i + 1) ts hs)
rest_length i ts hs p q = rw (rest_cons i ts hs p q) (simp length-append (omega arith))

-- A turn of the loop that puts them in: a tail at one place, a head at the next.
pub rest_turn : (file : List ℕ) (i at : ℕ) (ts hs : List ℕ) {mid next : ℕ} {f f' : List ℕ}
    → i < length ts → i < length hs
    → mid ≡ at + length (number_bytes (get_or ts i 0)) → f ≡ sets file at (number_bytes (get_or ts i 0))
    → next ≡ mid + length (number_bytes (get_or hs i 0)) → f' ≡ sets f mid (number_bytes (get_or hs i 0))
    → sets file at (rest_bytes i ts hs) ≡ sets f' next (rest_bytes (i + 1) ts hs)
rest_turn file i at ts hs p q m e n e' =
    rw (rest_cons i ts hs p q, sets_append, sets_append, e', n, e, m)

-- Tails with no heads are no arcs.
tails_alone : (ts : List ℕ) → arcs_bytes (arcs_of ts []) ≡ []
unfolding arcs_of zip_with arcs_bytes
tails_alone [] = refl
tails_alone (t ∷ ts) = refl

-- Past the last arc there are none.
pub rest_none : (i : ℕ) (ts hs : List ℕ) → min (length ts) (length hs) ≤ i → rest_bytes i ts hs ≡ []
unfolding arcs_of zip_with arcs_bytes
rest_none i ts hs e =
    elim (dec_lt i (length ts)) [
      | yes h ↦
          let f : drop i hs ≡ [] = drop_of_length-le hs (omega arith) in
          rw f (tails_alone (drop i ts))
      | no h ↦
          let f : drop i ts ≡ [] = drop_of_length-le ts (omega arith) in
          rw f
    ]
