-- The turns of the picking: an element that names itself is added to the list, and another is passed by.
-- Assumes nothing.
use mathlib.Core.Path.{◌≡◌, sym, ap, ◌∙◌}
use mathlib.Core.Logic.{inl, inr, ◌≢◌}
use Prim.Native.Nat.{ℕ, ◌+◌, ◌<◌}
use native.Mathlib.Omega.{arith}
use Rattle.memory.proofs.Numbers.{same?}
use Rattle.search.specs.Marking.{Queued}
use Rattle.naming.specs.Picks.{Rise, Picks}

-- An element stands among more elements.
queued_more : {q : ℕ → ℕ} {n v : ℕ} → Queued q 0 n v → Queued q 0 (n + 1) v
queued_more s = record { at = s.at; low = s.low; high = omega (arith, s.high); is = s.is }

-- Two elements stand in their order among more elements.
rise_more : {q : ℕ → ℕ} {n x y : ℕ} → Rise q n x y → Rise q (n + 1) x y
rise_more s = record {
  at = s.at;
  later = s.later;
  order = s.order;
  low = omega (arith, s.low);
  is = s.is;
  next = s.next;
}

-- The element at place n does not name itself, and is passed by.
pub picks_skip : {q names t : ℕ → ℕ} {n m : ℕ} → names (q n) ≢ q n → Picks q names t n m → Picks q names t (n + 1) m
picks_skip {q} {names} {t} {n} {m} ne P = record {
  few = omega (arith, P.few);
  own = P.own;
  from = λ j l. queued_more (P.from j l);
  rising = λ j k l h. rise_more (P.rising j k l h);
  all = all_now;
}
  where
    all_now : (i : ℕ) → i < n + 1 → names (q i) ≡ q i → Queued t 0 m (q i)
    all_now i l e = elim (same? i n) [ inl y ↦ absurd (ne (rw y at e)) | inr y ↦ P.all i (omega arith) e ]

-- the element at place n names itself, and is added; t' is the list then
module _ {q names t : ℕ → ℕ} (t' : ℕ → ℕ) {n m : ℕ} (own : names (q n) ≡ q n) (put : t' m ≡ q n)
    (other : (j : ℕ) → j < m → t' j ≡ t j) (P : Picks q names t n m) where
  -- What was picked names itself.
  own_now : (j : ℕ) → j < m + 1 → names (t' j) ≡ t' j
  own_now j l = elim (same? j m) [
    | inl e ↦ rw (e, put) own
    | inr e ↦ let b : j < m = omega arith in rw (other j b) (P.own j b)
  ]

  -- What was picked is an element.
  from_now : (j : ℕ) → j < m + 1 → Queued q 0 (n + 1) (t' j)
  from_now j l = elim (same? j m) [
    | inl e ↦ record { at = n; low = omega arith; high = omega arith; is = sym (ap t' e ∙ put) }
    | inr e ↦ let b : j < m = omega arith in rw (other j b) (queued_more (P.from j b))
  ]

  -- What was picked stands in the order of the elements.
  rising_now : (j k : ℕ) → j < k → k < m + 1 → Rise q (n + 1) (t' j) (t' k)
  rising_now j k l h =
      let a : j < m = omega arith in
      elim (same? k m) [
        | inl e ↦
            let s = P.from j a in
            record {
              at = s.at;
              later = n;
              order = s.high;
              low = omega arith;
              is = s.is ∙ sym (other j a);
              next = sym (ap t' e ∙ put);
            }
        | inr e ↦ let b : k < m = omega arith in rw (other j a, other k b) (rise_more (P.rising j k l b))
      ]

  -- Every element that names itself was picked.
  all_now : (i : ℕ) → i < n + 1 → names (q i) ≡ q i → Queued t' 0 (m + 1) (q i)
  all_now i l e = elim (same? i n) [
    | inl y ↦ record { at = m; low = omega arith; high = omega arith; is = put ∙ sym (ap q y) }
    | inr y ↦
        let s = P.all i (omega arith) e in
        record { at = s.at; low = s.low; high = omega (arith, s.high); is = other s.at s.high ∙ s.is }
  ]

  -- The list with one element more.
  pub picks_more : Picks q names t' (n + 1) (m + 1)
  picks_more = record {
    few = omega (arith, P.few);
    own = own_now;
    from = from_now;
    rising = rising_now;
    all = all_now;
  }
