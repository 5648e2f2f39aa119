-- The arcs that a block keeps are those between components that cross to a component of the block, each once.
--   Stays N top n first lo x         x is such an arc, from a component at or behind the place lo
--   earlier                          then it is one from a component at or behind an earlier place
--   place_arcs_in, in_place_arcs     the arcs of one turn
--   places_arcs_in, in_places_arcs   the arcs of the last m turns
--   places_arcs_distinct             none stands twice
-- What is kept of a row is not in U, and that is the theory's `place_crosses`. Assumes nothing.
use mathlib.Core.Path.{◌≡◌, refl, sym, ap, ◌∙◌}
use mathlib.Core.Logic.{inl, inr}
use mathlib.Core.Bool.{true, not, ◌&&◌}
use mathlib.Core.List.Memᴰ
use mathlib.Core.List.{List, Memᴰ as In}
use Prim.Native.Nat.{ℕ, zero, suc, ◌+◌, ◌-◌, ◌*◌, ◌≤◌, ◌<◌}
use native.Mathlib.Decide.{ℕ_discrete}
use native.Mathlib.Omega.{arith}
use borrow.Author.Tests.{eqb-true, eq-eqb, not-true}
use lib.Dec.{eqb}
use lib.ListN.{length}
use Rattle.rules.specs.Lists.{any}
use Rattle.rules.specs.Network.{Arc, ◌⟶◌, Network}
use Rattle.rules.specs.Skeleton.{crosses}
use Rattle.theory.proofs.Ground.Bools.{and_true, true_and, false_not}
use Rattle.theory.proofs.Ground.Lists.{map_in, in_map, any_true, true_any}
use Rattle.theory.proofs.Ground.Counting.{Distinct, distinct_append, distinct_map}
use Rattle.theory.proofs.Skeletons.TableStep.{by_two}
use Rattle.theory.proofs.Skeletons.TablePlaces.{top_once, place_crosses}
use Rattle.bits.specs.Bits.{bit_in}
use Rattle.uniting.specs.Uniting.{united}
use Rattle.turning.specs.Steps.{kept_heads, noted_arcs, place_arcs}
use Rattle.uniting.proofs.United.{united_long}
use Rattle.blocks.specs.Sweeps.{places_turned, places_arcs}
use Rattle.blocks.proofs.RowBits.{united_bits}
use Rattle.blocks.proofs.KeptHeads.{kept_in, in_kept, kept_distinct}
use Rattle.blocks.proofs.TableRight.{BlockGiven, turn_inside, not_own, table_right}

-- an arc that crosses from the component at `from`, which is at or behind the place lo, to the one at `into`, which is
-- of the block
pub record Stays (N : Network) (top : ℕ → ℕ) (n first lo : ℕ) (x : Arc) : Type 0 where
  pub from : ℕ
  pub into : ℕ
  pub late : lo ≤ from
  pub from_low : from < n
  pub into_low : into < n
  pub first_low : first ≤ into
  pub inside : into - first < 128
  pub is : x ≡ (top from ⟶ top into)
  pub crossing : crosses N (top from) (top into) ≡ true

module _ {N : Network} {top : ℕ → ℕ} {n : ℕ} {row : ℕ → List ℕ} {w : List ℕ} {first e : ℕ}
    (G : BlockGiven N top n row w first e) where
  module _ (m : ℕ) (h : suc m ≤ e) where
    -- the place that has its turn, and the memory before
    abbrev here : ℕ
    here = e - suc m

    abbrev v : List ℕ
    v = places_turned w first row e m

    here_low : here < n
    here_low = omega (arith, G.low)

    -- U, in the row of the place
    united_two : (l : ℕ) → l < n → first ≤ l → l - first < 128
        → bit_in (united v here (row here)) 8 here (l - first) ≡ by_two (λ x b. bit_in v 8 x (b - first)) (row here) l
    united_two l ll low high =
        united_bits v here (row here) here (l - first) (turn_inside G m here here_low) high (not_own G here here_low)
        ∙ rw (eq-eqb here here refl, (table_right G m (omega arith) here l here_low ll low high).1 (omega arith))

    -- which arcs cross from the place
    crossing_is : (l : ℕ) → l < n → first ≤ l → l - first < 128
        → crosses N (top here) (top l)
        ≡ (any (λ k. eqb k l) (row here) && not (by_two (λ x b. bit_in v 8 x (b - first)) (row here) l))
    crossing_is l ll low high =
        place_crosses G.proper G.ordered here l (row here) here_low ll (G.rows here here_low)
        (λ x b. bit_in v 8 x (b - first))
        (λ x g b. (table_right G m (omega arith) x l b ll low high).0 (omega arith))

    room : here * 8 + 8 ≤ length (united v here (row here))
    room = omega (arith, united_long v here (row here), turn_inside G m here here_low)

    -- an arc that the turn keeps stays
    place_arcs_in : (x : Arc) → In x (place_arcs top v first here (row here)) → Stays N top n first here x
    unfolding place_arcs noted_arcs
    place_arcs_in x i =
        let f = map_in (λ k. top here ⟶ top k) (kept_heads (united v here (row here)) first here (row here)) i in
        let k = f.0 in
        let o = kept_in first here (united v here (row here)) (row here) k room f.1 in
        let O = o.1 in
        let lk : k < n = (G.rows here here_low).low k o.0 in
        record {
          from = here;
          into = k;
          late = omega arith;
          from_low = here_low;
          into_low = lk;
          first_low = O.low;
          inside = O.high;
          is = f.2;
          crossing =
              crossing_is k lk O.low O.high
              ∙ true_and
              (true_any (λ y. eqb y k) o.0 (eq-eqb k k refl))
              (false_not (sym (united_two k lk O.low O.high) ∙ O.clear));
        }

    -- its tail is the place that has its turn
    place_arcs_tail : (x : Arc) → In x (place_arcs top v first here (row here)) → x.tail ≡ top here
    unfolding place_arcs noted_arcs
    place_arcs_tail x i =
        ap (λ (z : Arc). z.tail)
        (map_in (λ k. top here ⟶ top k) (kept_heads (united v here (row here)) first here (row here)) i).2

    -- an arc that stays is kept by the turn of its tail
    in_place_arcs : (l : ℕ) → l < n → first ≤ l → l - first < 128 → crosses N (top here) (top l) ≡ true
        → In (top here ⟶ top l) (place_arcs top v first here (row here))
    unfolding place_arcs noted_arcs
    in_place_arcs l ll low high c =
        let both = and_true (any (λ k. eqb k l) (row here))
        (not (by_two (λ x b. bit_in v 8 x (b - first)) (row here) l)) (sym (crossing_is l ll low high) ∙ c) in
        let f = any_true (λ k. eqb k l) (row here) both.0 in
        let i : In l (row here) = Memᴰ.cast (sym (eqb-true f.0 l f.2)) f.1 in
        in_map (λ k. top here ⟶ top k)
        (in_kept first here (united v here (row here)) (row here) l room i
        (record {
          low = low;
          high = high;
          clear =
              united_two l ll low high
              ∙ not-true (by_two (λ x b. bit_in v 8 x (b - first)) (row here) l) both.1;
        }))

    -- no arc of a turn stands twice
    place_arcs_distinct : Distinct (place_arcs top v first here (row here))
    unfolding place_arcs noted_arcs
    place_arcs_distinct =
        distinct_map (λ k. top here ⟶ top k) (kept_heads (united v here (row here)) first here (row here))
        (λ x y i j q.
        top_once G.proper G.ordered x y
        ((G.rows here here_low).low x (kept_in first here (united v here (row here)) (row here) x room i).0)
        ((G.rows here here_low).low y (kept_in first here (united v here (row here)) (row here) y room j).0)
        (ap (λ (z : Arc). z.head) q))
        (kept_distinct first here (united v here (row here)) (row here) room)

  -- an arc that stays from a later place stays from an earlier one
  pub earlier : (lo lo' : ℕ) (x : Arc) → lo' ≤ lo → Stays N top n first lo x → Stays N top n first lo' x
  earlier lo lo' x h S =
      record {
        from = S.from;
        into = S.into;
        late = omega (arith, S.late);
        from_low = S.from_low;
        into_low = S.into_low;
        first_low = S.first_low;
        inside = S.inside;
        is = S.is;
        crossing = S.crossing;
      }

  -- an arc that the last m turns keep stays
  pub places_arcs_in : (m : ℕ) → m ≤ e → (x : Arc) → In x (places_arcs top w first row e m) →
      Stays N top n first (e - m) x
  unfolding places_arcs
  places_arcs_in zero h x i = elim i [ ]
  places_arcs_in (suc m) h x i =
      elim (Memᴰ.append_cases (places_arcs top w first row e m) i) [
        | inl a ↦ earlier (e - m) (e - suc m) x (omega arith) (places_arcs_in m (omega arith) x a)
        | inr b ↦ place_arcs_in m h x b
      ]

  -- an arc that stays, from one of the last m places, is kept
  pub in_places_arcs : (m : ℕ) → m ≤ e → (j l : ℕ) → e - m ≤ j → j < e → l < n → first ≤ l → l - first < 128
      → crosses N (top j) (top l) ≡ true → In (top j ⟶ top l) (places_arcs top w first row e m)
  unfolding places_arcs
  in_places_arcs zero h j l late lj ll low high c = absurd (omega arith)
  in_places_arcs (suc m) h j l late lj ll low high c =
      elim (ℕ_discrete j (e - suc m)) [
        | yes q ↦
            Memᴰ.append_right (places_arcs top w first row e m)
            (rw q (in_place_arcs m h l ll low high (rw q at c)))
        | no q ↦
            Memᴰ.append_left _
            (in_places_arcs m (omega arith) j l (omega (arith, q)) lj ll low high c)
      ]

  -- none stands twice
  pub places_arcs_distinct : (m : ℕ) → m ≤ e → Distinct (places_arcs top w first row e m)
  unfolding places_arcs
  places_arcs_distinct zero h = tt
  places_arcs_distinct (suc m) h =
      distinct_append (places_arcs top w first row e m)
      (place_arcs top (places_turned w first row e m) first (e - suc m) (row (e - suc m)))
      (places_arcs_distinct m (omega arith))
      (place_arcs_distinct m h)
      (λ x a b.
      let S = places_arcs_in m (omega arith) x a in
      let late = S.late in
      let f : S.from ≡ e - suc m =
      top_once G.proper G.ordered S.from (e - suc m) S.from_low (here_low m h)
      (ap (λ (z : Arc). z.tail) (sym S.is) ∙ place_arcs_tail m h x b) in
      omega arith)
