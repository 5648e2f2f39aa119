-- The table of a block is right: bit l - first of row c tells whether the component at c reaches the one at l.
--   places_turned_long, places_turned_behind   the length, and what stands behind the table, after some turns
--   BlockGiven ..   what the table is computed from: an order of the names, the rows of heads, and a clear table
--   table_right      after m turns every row from e - m on is right, and every row before is clear
-- By induction on the turns: the step is the theory's `place_one`. Assumes nothing.
use mathlib.Core.Path.{◌≡◌, refl, sym, ◌∙◌}
use mathlib.Core.Bool.{false, or-false}
use mathlib.Core.List.{List, Memᴰ as In}
use Prim.Native.Nat.{ℕ, zero, suc, ◌+◌, ◌-◌, ◌*◌, ◌≤◌, ◌<◌}
use native.Mathlib.Decide.{ℕ_discrete}
use native.Mathlib.Omega.{arith}
use borrow.Author.Tests.{eq-eqb, ne_eqb}
use lib.ListN.{length, drop}
use Rattle.rules.specs.Network.{Network, Proper}
use Rattle.theory.proofs.Ground.Bools.{false_unless}
use Rattle.theory.proofs.Skeletons.SkeletonOrder.{Ordered}
use Rattle.theory.proofs.Skeletons.TableStep.{beyond, beyond_true}
use Rattle.theory.proofs.Skeletons.TablePlaces.{Row, later, place_one}
use Rattle.bits.specs.Bits.{bit_in}
use Rattle.bits.proofs.Tables.{row_room}
use Rattle.turning.proofs.Memory.{place_turned_long, place_turned_behind}
use Rattle.blocks.specs.Sweeps.{places_turned}
use Rattle.blocks.proofs.RowBits.{place_turned_bits}

-- some turns keep the length
pub places_turned_long : (w : List ℕ) (first : ℕ) (row : ℕ → List ℕ) (e m : ℕ) →
    length (places_turned w first row e m) ≡ length w
unfolding places_turned
places_turned_long w first row e zero = refl
places_turned_long w first row e (suc m) =
    place_turned_long (places_turned w first row e m) first (e - suc m) (row (e - suc m))
    ∙ places_turned_long w first row e m

-- some turns keep what stands behind the table
pub places_turned_behind : (k : ℕ) (w : List ℕ) (first : ℕ) (row : ℕ → List ℕ) (n e m : ℕ) → n * 8 ≤ k → e ≤ n → m ≤ e →
    drop k (places_turned w first row e m) ≡ drop k w
unfolding places_turned
places_turned_behind k w first row n e zero h l i = refl
places_turned_behind k w first row n e (suc m) h l i =
    place_turned_behind k (places_turned w first row e m) first (e - suc m) (row (e - suc m))
    (omega (arith, row_room 8 n (e - suc m) (omega arith)))
    ∙ places_turned_behind k w first row n e m h l (omega arith)

-- what the table is computed from; the places below e are all that have a bit in the block or a head with one
pub record BlockGiven (N : Network) (top : ℕ → ℕ) (n : ℕ) (row : ℕ → List ℕ) (w : List ℕ) (first e : ℕ) : Type 0 where
  pub proper : Proper N
  pub ordered : Ordered N top n
  pub rows : (j : ℕ) → j < n → Row N top n j (row j)
  pub room : n * 8 ≤ length w
  pub clear : (c d : ℕ) → c < n → d < 128 → bit_in w 8 c d ≡ false
  pub low : e ≤ n
  pub all : (l : ℕ) → l < n → l - first < 128 → l < e

module _ {N : Network} {top : ℕ → ℕ} {n : ℕ} {row : ℕ → List ℕ} {w : List ℕ} {first e : ℕ}
    (G : BlockGiven N top n row w first e) where
  -- nothing reaches a component that stands before it
  back_false : (c l : ℕ) → l < c → c < n → beyond N (top c) (top l) ≡ false
  back_false c l h k =
      false_unless (beyond N (top c) (top l))
      (λ t. G.ordered.after l c h k (beyond_true N (top c) (top l) t).1)

  -- the row of a place lies in the memory, after any turns
  pub turn_inside : (m j : ℕ) → j < n → j * 8 + 8 ≤ length (places_turned w first row e m)
  turn_inside m j h = omega (arith, row_room 8 n j h, G.room, places_turned_long w first row e m)

  -- no place is a head of itself
  pub not_own : (j : ℕ) → j < n → (k : ℕ) → In k (row j) → k ≡ j → ⊥
  not_own j h k m q =
      let l = later G.proper G.ordered j k h ((G.rows j h).sound k m) in
      omega arith

  -- the rows from e - m on are right, and those before are clear
  pub table_right : (m : ℕ) → m ≤ e → (c l : ℕ) → c < n → l < n → first ≤ l → l - first < 128
      → (e - m ≤ c → bit_in (places_turned w first row e m) 8 c (l - first) ≡ beyond N (top c) (top l))
      × (c < e - m → bit_in (places_turned w first row e m) 8 c (l - first) ≡ false)
  unfolding places_turned
  table_right zero h c l lc ll low high = (
    λ k.
        let last = G.all l ll high in
        G.clear c (l - first) lc high ∙ sym (back_false c l (omega arith) lc),
    λ k. G.clear c (l - first) lc high,
  )
  table_right (suc m) h c l lc ll low high =
      let j = e - suc m in
      let v = places_turned w first row e m in
      let top_e = G.low in
      let lj : j < n = omega arith in
      let before = table_right m (omega arith) in
      let cut = place_turned_bits v first j (row j) c l (turn_inside m j lj) low high (not_own j lj) in
      elim (ℕ_discrete c j) [
        | yes q ↦ (
          λ k.
              cut
              ∙ rw (q, eq-eqb j j refl, (before j l lj ll low high).1 (omega arith))
              (place_one G.proper G.ordered j l (row j) lj ll (G.rows j lj) (λ x b. bit_in v 8 x (b - first))
              (λ x g b. (before x l b ll low high).0 (omega arith))),
          λ k. absurd (omega arith),
        )
        | no q ↦ (
          λ k.
              cut
              ∙ rw (ne_eqb c j q)
              (or-false (bit_in v 8 c (l - first)) ∙ (before c l lc ll low high).0 (omega (arith, q))),
          λ k.
              cut
              ∙ rw (ne_eqb c j q)
              (or-false (bit_in v 8 c (l - first)) ∙ (before c l lc ll low high).1 (omega arith)),
        )
      ]
