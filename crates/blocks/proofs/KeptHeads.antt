-- Which heads of a row are kept: those of the block that were not in row j, each once.
--   kept_in, in_kept    a kept head is a head of the block that was not in row j, and each such head is kept
--   kept_distinct       no head is kept twice
-- A head that is kept is in row j from then on, and a head that is in row j is not kept. Assumes nothing.
use mathlib.Core.Path.{◌≡◌, refl, sym, ◌∙◌}
use mathlib.Core.Logic.{◌⊎◌, inl, inr}
use mathlib.Core.Bool.{true, false, ◌&&◌, ◌||◌}
use mathlib.Core.List.Memᴰ
use mathlib.Core.List.{List, [], ◌∷◌, Memᴰ as In}
use Prim.Native.Nat.{ℕ, ◌+◌, ◌-◌, ◌*◌, ◌≤◌, ◌<◌}
use native.Mathlib.Decide.{ℕ_discrete}
use native.Mathlib.Omega.{arith}
use borrow.Author.Tests.{eqb-true, eq-eqb}
use lib.Dec.{eqb}
use lib.ListN.{length}
use Rattle.theory.proofs.Ground.Bools.{bool_cases, true_not_false, true_and, or_true, or_false, false_unless, and_true}
use Rattle.theory.proofs.Ground.Bools.{false_not}
use Rattle.theory.proofs.Ground.Counting.{Distinct, distinct_append}
use Rattle.bits.specs.Bits.{bit_in}
use Rattle.taking.specs.Taking.{fresh, taken}
use Rattle.turning.specs.Steps.{kept_heads}
use Rattle.taking.proofs.Fresh.{fresh_inside, fresh_true}
use Rattle.taking.proofs.Taken.{taken_long}
use Rattle.taking.proofs.Taking.{taken_heads, heads_yes, heads_no}
use Rattle.turning.proofs.Kept.{kept_step}
use Rattle.blocks.proofs.RowBits.{taken_bits}

-- a head of the block that is not in row j
pub record OpenHead (w : List ℕ) (first j k : ℕ) : Type 0 where
  pub low : first ≤ k
  pub high : k - first < 128
  pub clear : bit_in w 8 j (k - first) ≡ false

module _ (first j : ℕ) where
  -- a fresh head is such a one
  fresh_open : (w : List ℕ) (k : ℕ) → fresh w first j k ≡ true → OpenHead w first j k
  fresh_open w k e = let f = fresh_true w first j k e in record { low = f.0; high = f.1.0; clear = f.1.1 }

  -- and such a one is fresh
  open_fresh : {w : List ℕ} {k : ℕ} → OpenHead w first j k → fresh w first j k ≡ true
  open_fresh {w} {k} O = sym (fresh_inside w first j k O.low O.high) ∙ false_not O.clear

  -- what is taken is the head itself, fresh
  taken_in : (w : List ℕ) (k x : ℕ) → In x (taken_heads w first j k) → (x ≡ k) × OpenHead w first j k
  taken_in w k x m =
      elim (bool_cases (fresh w first j k)) [
        | inl e ↦ elim (Memᴰ.cases_cons (rw (heads_yes w first j k e) at m)) [
          | inl q ↦ (q, fresh_open w k e)
          | inr n ↦ elim n [ ]
        ]
        | inr e ↦ absurd (nothing (rw (heads_no w first j k e) at m))
      ]
    where
      nothing : {y : ℕ} → In y [] → ⊥
      nothing m = elim m [ ]

  -- one that is open after another was taken was open before, and is another
  open_back : (w : List ℕ) (k x : ℕ) → j * 8 + 8 ≤ length w → OpenHead (taken w first j k) first j x
      → OpenHead w first j x × (x ≡ k → ⊥)
  open_back w k x room O =
      let now = or_false (bit_in w 8 j (x - first)) (eqb j j && eqb k (first + (x - first)))
      (sym (taken_bits w first j k j (x - first) room O.high) ∙ O.clear) in (
        record { low = O.low; high = O.high; clear = now.0 },
        λ e.
            let low = O.low in
            true_not_false
            (true_and (eq-eqb j j refl) (eq-eqb k (first + (x - first)) (omega arith)))
            now.1,
      )

  -- one that is open stays so when another is taken
  open_on : (w : List ℕ) (k x : ℕ) → j * 8 + 8 ≤ length w → OpenHead w first j x → (x ≡ k → ⊥)
      → OpenHead (taken w first j k) first j x
  open_on w k x room O n =
      record {
        low = O.low;
        high = O.high;
        clear =
            taken_bits w first j k j (x - first) room O.high
            ∙ false_unless (bit_in w 8 j (x - first) || (eqb j j && eqb k (first + (x - first))))
            (λ t. elim (or_true (bit_in w 8 j (x - first)) (eqb j j && eqb k (first + (x - first))) t) [
              | inl q ↦ true_not_false q O.clear
              | inr q ↦
                  let low = O.low in
                  let e = eqb-true k (first + (x - first)) (and_true (eqb j j) (eqb k (first + (x - first))) q).1 in
                  n (omega arith)
            ]);
      }

  -- a kept head is a head of the block that was not in row j
  pub kept_in : (w : List ℕ) (ks : List ℕ) (x : ℕ) → j * 8 + 8 ≤ length w → In x (kept_heads w first j ks)
      → In x ks × OpenHead w first j x
  unfolding kept_heads
  kept_in w [] x room m = elim m [ ]
  kept_in w (k ∷ ks) x room m =
      elim (Memᴰ.append_cases (taken_heads w first j k) (rw (kept_step w first j k ks) at m)) [
        | inl a ↦
            let t = taken_in w k x a in
            (In.head t.0, rw t.0 t.1)
        | inr b ↦
            let room' : j * 8 + 8 ≤ length (taken w first j k) = omega (arith, taken_long w first j k) in
            let r = kept_in (taken w first j k) ks x room' b in
            (In.tail r.0, (open_back w k x room r.1).0)
      ]

  -- each such head is kept
  pub in_kept : (w : List ℕ) (ks : List ℕ) (x : ℕ) → j * 8 + 8 ≤ length w → In x ks → OpenHead w first j x
      → In x (kept_heads w first j ks)
  in_kept w [] x room m O = elim m [ ]
  in_kept w (k ∷ ks) x room m O =
      rw (kept_step w first j k ks)
      (elim (ℕ_discrete x k) [
        | yes e ↦
            let fresh_now : fresh w first j k ≡ true = open_fresh (rw e at O) in
            Memᴰ.append_left {s = taken_heads w first j k} (kept_heads (taken w first j k) first j ks)
            (rw (heads_yes w first j k fresh_now) (In.head e))
        | no n ↦
            let room' : j * 8 + 8 ≤ length (taken w first j k) = omega (arith, taken_long w first j k) in
            Memᴰ.append_right (taken_heads w first j k)
            (in_kept (taken w first j k) ks x room'
            (elim (Memᴰ.cases_cons m) [ inl e ↦ absurd (n e) | inr i ↦ i ])
            (open_on w k x room O n))
      ])

  -- no head is kept twice
  pub kept_distinct : (w : List ℕ) (ks : List ℕ) → j * 8 + 8 ≤ length w → Distinct (kept_heads w first j ks)
  unfolding kept_heads
  kept_distinct w [] room = tt
  kept_distinct w (k ∷ ks) room =
      let room' : j * 8 + 8 ≤ length (taken w first j k) = omega (arith, taken_long w first j k) in
      rw (kept_step w first j k ks)
      (distinct_append (taken_heads w first j k) (kept_heads (taken w first j k) first j ks)
      (one (bool_cases (fresh w first j k)))
      (kept_distinct (taken w first j k) ks room')
      (λ x a b. (open_back w k x room (kept_in (taken w first j k) ks x room' b).1).1 (taken_in w k x a).0))
    where
      nothing : {y : ℕ} → In y [] → ⊥
      nothing m = elim m [ ]

      one : (fresh w first j k ≡ true) ⊎ (fresh w first j k ≡ false) → Distinct (taken_heads w first j k)
      one (inl e) = rw (heads_yes w first j k e) (nothing, tt)
      one (inr e) = rw (heads_no w first j k e) tt
