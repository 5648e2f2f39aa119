-- Laws of lists that ascend.
--   above_ascending, above_lower  what ascends from above a number ascends, and does so from above a lower one
--   span_in, in_span, span_ascending, span_length, span_more   the numbers in a row
--   ascending_few                 a list that ascends below n has no more than n numbers
--   keep_ascending                what a test keeps of a list that ascends
--   first_lowest                  the first element that passes is the lowest
--   network_proper                document 01's network of n zones is proper
-- By induction on the lists. Assumes nothing.
use Prim.Native.Nat.{ℕ, zero, suc, ◌+◌, ◌≤◌, ◌<◌}
use mathlib.Core.Path.{◌≡◌, refl, ◌∙◌, ap}
use mathlib.Core.Logic.{inl, inr}
use mathlib.Core.Bool.{Bool, true}
use mathlib.Core.List.Memᴰ
use mathlib.Core.List.{List, [], ◌∷◌, ◌++◌, Memᴰ as In}
use native.Mathlib.Omega.{arith}
use native.Mathlib.Decide.{ℕ_discrete}
use lib.ListN.{length}
use Rattle.rules.specs.Lists.{keep, first, span}
use Rattle.rules.specs.Network.{Above, Ascending, Arc, ◌⟶◌, Proper, network_of}
use Rattle.theory.proofs.Ground.Bools.{bool_cases, true_not_false}
use Rattle.theory.proofs.Ground.Lists.{first_hit, first_miss, keep_hit, keep_miss}
use Rattle.theory.proofs.Ground.Counting.{above_less, ascending_distinct, answers_count}

-- a list that ascends from above a number ascends
pub above_ascending : (a : ℕ) (xs : List ℕ) → Above a xs → Ascending xs
above_ascending a [] h = tt
above_ascending a (x ∷ xs) h = h.1

-- a list that ascends from above a number does so from above a lower one
pub above_lower : {a b : ℕ} (xs : List ℕ) → a ≤ b → Above b xs → Above a xs
above_lower [] l h = tt
above_lower (x ∷ xs) l h = (omega arith, h.1)

-- the numbers in a row from a on are at least a and below a + n
pub span_in : (a n : ℕ) {x : ℕ} → In x (span a n) → (a ≤ x) × (x < a + n)
span_in a zero m = elim m [ ]
span_in a (suc n) {x} m =
    elim (Memᴰ.cases_cons m) [
      | inl e ↦ omega arith
      | inr k ↦ let r = span_in (suc a) n k in omega arith
    ]

-- a number that is at least a and below a + n is in the row
pub in_span : (a n : ℕ) {x : ℕ} → a ≤ x → x < a + n → In x (span a n)
in_span a zero l h = absurd (omega arith)
in_span a (suc n) {x} l h =
    elim (ℕ_discrete x a) [
      | yes e ↦ In.head e
      | no k ↦ In.tail (in_span (suc a) n (omega arith) (omega arith))
    ]

-- a row that begins above a number ascends from above it
span_above : (a b n : ℕ) → a < b → Above a (span b n)
span_above a b zero h = tt
span_above a b (suc n) h = (h, span_above b (suc b) n (omega arith))

-- a row ascends
pub span_ascending : (a n : ℕ) → Ascending (span a n)
span_ascending a zero = tt
span_ascending a (suc n) = span_above a (suc a) n (omega arith)

-- a row of n numbers has n numbers
pub span_length : (a n : ℕ) → length (span a n) ≡ n
span_length a zero = refl
span_length a (suc n) = ap suc (span_length (suc a) n)

-- a list that ascends below n has no more than n numbers
pub ascending_few : (n : ℕ) (xs : List ℕ) → Ascending xs → ((x : ℕ) → In x xs → x < n) → length xs ≤ n
ascending_few n xs up below =
    omega (
      arith,
      answers_count (λ (x : ℕ). x) xs (span 0 n) (ascending_distinct xs up)
          (λ x m. let l = below x m in (x, in_span 0 n (omega arith) (omega arith), refl)),
      span_length 0 n,
    )

module _ (p : ℕ → Bool) where
  -- what a test keeps ascends from above whatever the list does
  keep_above : (a : ℕ) (xs : List ℕ) → Above a xs → Above a (keep p xs)
  keep_above a [] h = tt
  keep_above a (x ∷ xs) h =
      elim (bool_cases (p x)) [
        | inl e ↦ rw (keep_hit p xs e) (h.0, keep_above x xs h.1)
        | inr e ↦ rw (keep_miss p xs e) (keep_above a xs (above_lower xs (omega arith) h.1))
      ]

  -- what a test keeps of a list that ascends ascends
  pub keep_ascending : (xs : List ℕ) → Ascending xs → Ascending (keep p xs)
  keep_ascending [] h = tt
  keep_ascending (x ∷ xs) h =
      elim (bool_cases (p x)) [
        | inl e ↦ rw (keep_hit p xs e) (keep_above x xs h)
        | inr e ↦ rw (keep_miss p xs e) (above_ascending x (keep p xs) (keep_above x xs h))
      ]

  -- of a list that ascends the first element that passes is the lowest that passes
  pub first_lowest : (d : ℕ) {x : ℕ} (xs : List ℕ) → Ascending xs → In x xs → p x ≡ true → first p d xs ≤ x
  first_lowest d [] h m t = elim m [ ]
  first_lowest d {x} (y ∷ ys) h m t =
      elim (bool_cases (p y)) [
        | inl e ↦ rw (first_hit p d ys e) (elim (Memᴰ.cases_cons m) [
          | inl q ↦ omega arith
          | inr k ↦ let l = above_less ys h k in omega arith
        ])
        | inr e ↦ rw (first_miss p d ys e) (elim (Memᴰ.cases_cons m) [
          | inl q ↦ absurd (true_not_false t (ap p q ∙ e))
          | inr k ↦ first_lowest d ys (above_ascending y ys h) k t
        ])
      ]

-- a network of n zones whose arcs join numbers below n is proper
pub network_proper : (n : ℕ) (es : List Arc)
    → ((a b : ℕ) → In (a ⟶ b) es → (a < n) × (b < n)) → Proper (network_of n es)
network_proper n es h =
    record {
      ascending = span_ascending 0 n;
      tails = λ {a} {b} m. let l = h a b m in in_span 0 n (omega arith) (omega arith);
      heads = λ {a} {b} m. let l = h a b m in in_span 0 n (omega arith) (omega arith);
    }

-- a run of numbers is cut anywhere
span_append : (a m k : ℕ) → span a (m + k) ≡ span a m ++ span (a + m) k
span_append a zero k = rw (zero_plus k, plus_zero a)
  where
    zero_plus : (k : ℕ) → 0 + k ≡ k
    zero_plus k = omega arith

    plus_zero : (a : ℕ) → a + 0 ≡ a
    plus_zero a = omega arith
span_append a (suc m) k =
    let front : suc m + k ≡ suc (m + k) = omega arith in
    let next : a + suc m ≡ suc a + m = omega arith in
    rw (front, next) (ap {B = List ℕ} (λ l. a ∷ l) (span_append (suc a) m k))

-- one number more
pub span_more : (b : ℕ) → span 0 (b + 1) ≡ span 0 b ++ (b ∷ [])
span_more b =
    let e : 0 + b ≡ b = omega arith in
    rw e at (span_append 0 b 1)
