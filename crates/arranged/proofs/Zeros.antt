-- How many marks are clear: the number that falls with every mark, by which a search ends.
--   zeros_other      a store outside the marks changes nothing
--   zeros_mark       a mark on a zone that had none takes one off
--   zeros_clear, zeros_none, zeros_same   all are clear; none is; equal marks give equal numbers
--   zeros_few, zeros_some    at most all are clear; fewer where one is not
-- Each is by induction on the number of zones. Assumes nothing.
use mathlib.Core.Path.{◌≡◌, refl, sym, ap, ◌∙◌}
use mathlib.Core.Logic.{◌⊎◌, inl, inr, ⊎_elim, ◌≢◌}
use mathlib.Core.List.{List}
use Prim.Native.Nat.{ℕ, zero, suc, ◌+◌, ◌≤◌, ◌<◌}
use native.Mathlib.Nat.{eq-or-lt_of_le}
use native.Mathlib.Omega.{arith}
use lib.Dec.{eqb}
use lib.ListN.{length, get_or, set}
use lib.Seq.{get_or-set_same, get_or-set_other}
use borrow.Author.Tests.{ne_eqb}
use Rattle.theory.proofs.Files.AnswerLaws.{yes_few}
use Rattle.arranged.specs.Marks.{zeros}

-- a store outside the marks changes nothing
pub zeros_other : (w : List ℕ) (i x at n : ℕ) → (i < at) ⊎ (at + n ≤ i) → zeros (set w i x) at n ≡ zeros w at n
unfolding zeros
zeros_other w i x at zero h = refl
zeros_other w i x at (suc n) h =
    let ne : at + n ≢ i = λ e. ⊎_elim (λ l. omega arith) (λ l. omega arith) h in
    rw (get_or-set_other w i (at + n) x 0 ne, zeros_other w i x at n (⊎_elim (λ l. inl l) (λ l. inr (omega arith)) h))

-- a mark on a zone that had none takes one off
pub zeros_mark : (w : List ℕ) (at n v x : ℕ) → x ≢ 0 → v < n → at + n ≤ length w → get_or w (at + v) 0 ≡ 0
    → suc (zeros (set w (at + v) x) at n) ≡ zeros w at n
unfolding zeros
zeros_mark w at zero v x ne h fits e = omega arith
zeros_mark w at (suc n) v x ne h fits e =
    ⊎_elim
    last
    (λ l. earlier l (zeros_mark w at n v x ne l (omega arith) e))
    (eq-or-lt_of_le {n = v} {m = n} (omega arith))
  where
    last : v ≡ n → suc (zeros (set w (at + v) x) at (suc n)) ≡ zeros w at (suc n)
    last q =
        let clear : get_or w (at + n) 0 ≡ 0 = ap (λ (k : ℕ). get_or w (at + k) 0) (sym q) ∙ e in
        let stored : get_or (set w (at + v) x) (at + n) 0 ≡ x = rw q (get_or-set_same w (at + n) x 0 (omega arith)) in
        let rest : zeros (set w (at + v) x) at n ≡ zeros w at n = zeros_other w (at + v) x at n (inr (omega arith)) in
        rw (clear, stored, rest, ne_eqb x 0 ne) (omega arith)

    earlier : v < n → suc (zeros (set w (at + v) x) at n) ≡ zeros w at n
        → suc (zeros (set w (at + v) x) at (suc n)) ≡ zeros w at (suc n)
    earlier l rest =
        let apart : at + n ≢ at + v = λ q. omega arith in
        rw (get_or-set_other w (at + v) (at + n) x 0 apart) (omega arith)

-- where every mark is clear
pub zeros_clear : (w : List ℕ) (at n : ℕ) → ((v : ℕ) → v < n → get_or w (at + v) 0 ≡ 0) → zeros w at n ≡ n
unfolding zeros
zeros_clear w at zero h = refl
zeros_clear w at (suc n) h = rw (h n (omega arith), zeros_clear w at n (λ v l. h v (omega arith))) (omega arith)

-- where no mark is clear
pub zeros_none : (w : List ℕ) (at n : ℕ) → ((v : ℕ) → v < n → get_or w (at + v) 0 ≡ 0 → ⊥) → zeros w at n ≡ 0
unfolding zeros
zeros_none w at zero h = refl
zeros_none w at (suc n) h =
    rw (zeros_none w at n (λ v l. h v (omega arith)), ne_eqb (get_or w (at + n) 0) 0 (h n (omega arith)))

-- no more are clear than there are
pub zeros_few : (w : List ℕ) (at n : ℕ) → zeros w at n ≤ n
unfolding zeros
zeros_few w at zero = omega arith
zeros_few w at (suc n) = omega (arith, zeros_few w at n, yes_few (eqb (get_or w (at + n) 0) 0))

-- where one is not clear, fewer are clear than there are
pub zeros_some : (w : List ℕ) (at n v : ℕ) → v < n → (get_or w (at + v) 0 ≡ 0 → ⊥) → zeros w at n < n
unfolding zeros
zeros_some w at zero v h ne = absurd (omega arith)
zeros_some w at (suc n) v h ne =
    ⊎_elim
    (λ (q : v ≡ n).
    let last : get_or w (at + n) 0 ≡ 0 → ⊥ = rw q at ne in
    rw (ne_eqb (get_or w (at + n) 0) 0 last) (omega (arith, zeros_few w at n)))
    (λ l. omega (arith, zeros_some w at n v l ne, yes_few (eqb (get_or w (at + n) 0) 0)))
    (eq-or-lt_of_le {n = v} {m = n} (omega arith))

-- equal marks, equal counts
pub zeros_same : (w w' : List ℕ) (at n : ℕ) → ((v : ℕ) → v < n → get_or w' (at + v) 0 ≡ get_or w (at + v) 0)
    → zeros w' at n ≡ zeros w at n
unfolding zeros
zeros_same w w' at zero h = refl
zeros_same w w' at (suc n) h = rw (h n (omega arith), zeros_same w w' at n (λ v l. h v (omega arith)))
