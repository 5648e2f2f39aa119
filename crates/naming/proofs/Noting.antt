-- The turns of the naming: the zone v gets the lowest zone with its root, which is the one that is noted for the
-- root, or v itself where none is.
--   naming_more   a turn;   first_one   the lowest zone of a root is one zone
-- Assumes nothing.
use mathlib.Core.Path.{◌≡◌, sym, ap, ◌∙◌}
use mathlib.Core.Logic.{◌⊎◌, inl, inr, ◌≢◌}
use Prim.Native.Nat.{ℕ, ◌+◌, ◌<◌}
use native.Mathlib.Omega.{arith}
use Rattle.memory.proofs.Numbers.{same?, below?}
use Rattle.naming.specs.Naming.{First, Naming}

-- Two zones that are the lowest of one root are one.
pub first_one : {root : ℕ → ℕ} {a b : ℕ} → First root a a → First root b b → root a ≡ root b → a ≡ b
first_one {a = a} {b = b} f g e = elim (below? a b) [
  | inl l ↦ absurd (g.least a l e)
  | inr l ↦ elim (same? a b) [ inl q ↦ q | inr q ↦ absurd (f.least b (omega arith) (sym e)) ]
]

-- the zone v, whose root number is r + 1, gets the name x, which was noted or is v and is noted now
module _ {root low : ℕ → ℕ} (low' : ℕ → ℕ) {names : ℕ → ℕ} (names' : ℕ → ℕ) {zones v r x : ℕ}
    (N : Naming root low names zones v) (is : root v ≡ r + 1) (zone : r < zones)
    (put : names' v ≡ x) (put_other : (u : ℕ) → u < v → names' u ≡ names u)
    (noted : low' r ≡ x + 1) (NotedOther : (s : ℕ) → s < zones → s ≢ r → low' s ≡ low s)
    (from : (low r ≡ x + 1) ⊎ ((low r ≡ 0) × (x ≡ v))) where
  -- x is the lowest with root number r + 1.
  lowest : (root x ≡ r + 1) × ((x < v + 1) × ((t : ℕ) → t < x → root t ≡ r + 1 → ⊥))
  lowest = elim from [
    | inl e ↦ let k = N.known r x zone e in (k.0, (omega (arith, k.1.0), k.1.1))
    | inr e ↦ rw e.1 (is, (omega arith, λ t l y. N.unknown r t zone e.0 l y))
  ]

  -- What is noted is the lowest of its root.
  known_now : (s y : ℕ) → s < zones → low' s ≡ y + 1
      → (root y ≡ s + 1) × ((y < v + 1) × ((t : ℕ) → t < y → root t ≡ s + 1 → ⊥))
  known_now s y l e = elim (same? s r) [
    | inl q ↦ let z : y ≡ x = omega (arith, noted, ap low' q, e) in rw (z, q) lowest
    | inr q ↦
        let k = N.known s y l (sym (NotedOther s l q) ∙ e) in
        (k.0, (omega (arith, k.1.0), k.1.1))
  ]

  -- A root for which nothing is noted was not met.
  unknown_now : (s t : ℕ) → s < zones → low' s ≡ 0 → t < v + 1 → root t ≡ s + 1 → ⊥
  unknown_now s t l e h y = elim (same? s r) [
    | inl q ↦ omega (arith, noted, ap low' q, e)
    | inr q ↦ elim (same? t v) [
      | inl b ↦ q (omega (arith, is, ap root b, y))
      | inr b ↦ N.unknown s t l (sym (NotedOther s l q) ∙ e) (omega arith) y
    ]
  ]

  -- The name of v is the lowest zone with its root.
  v_named : First root v x
  v_named = record {
    low = omega (arith, lowest.1.0);
    same = lowest.0 ∙ sym is;
    least = λ t h y. lowest.1.1 t h (y ∙ is);
  }

  -- Names are the lowest zones of their roots.
  named_now : (u : ℕ) → u < v + 1 → First root u (names' u)
  named_now u l = elim (same? u v) [
    | inl q ↦ rw (q, put) v_named
    | inr q ↦ rw (put_other u (omega arith)) (N.named u (omega arith))
  ]

  -- The zone v has its name.
  pub naming_more : Naming root low' names' zones (v + 1)
  naming_more = record { known = known_now; unknown = unknown_now; named = named_now }
