-- The course of the pairing in lent work memory: its begin, one source's turn, and its end.
--   others_holds    a list that the pairing does not touch stands where it stood
--   course_begun    nothing is paired yet
--   turnable        the next source can have its turn
--   course_lone     the source reaches no sink left: it is stored behind the lone sources
--   course_paired   the source takes a sink: both are stored behind those of the pairs
--   course_done     every source has had its turn: the memory holds the ordering
-- Idea: the regions lie apart, so a turn and its stores leave the other lists where they are. Assumes nothing.
use mathlib.Core.Path.{◌≡◌, refl, sym, ap, ◌∙◌}
use mathlib.Core.Logic.{◌⊎◌, inl, inr, ⊎_elim, ◌≢◌}
use mathlib.Core.List.{List, [], ◌∷◌, ◌++◌}
use Prim.Native.Nat.{ℕ, ◌+◌, ◌-◌, ◌≤◌, ◌<◌}
use native.Mathlib.Omega.{arith}
use lib.ListN.{length, get_or, drop, set, length-set, length-append, length-drop}
use lib.Seq.{ext_get_or, get_or-drop, get_or-set_other}
use Rattle.rules.specs.Network.{Arc}
use Rattle.rules.specs.Plan.{pick}
use Rattle.memory.specs.Regions.{part, Holds}
use Rattle.std.proofs.Common.{Option, Some, None}
use Rattle.memory.proofs.Regions.{part_long, holds_part, holds_at, holds_apart, holds_none, holds_snoc, holds_store}
use Rattle.arranged.proofs.ArrangedLaws.{arranged_kept}
use Rattle.search.specs.Marking.{Laid}
use Rattle.search.proofs.Course.{laid_same}
use Rattle.workmap.specs.declared.Side.{Side}
use Rattle.turns.specs.Turn.{Along, Turnable, answered, Turned}
use Rattle.pairing.specs.Pairs.{sources_in, sinks_in, reach_in, firsts, seconds}
use Rattle.pairing.specs.Pairs.{Pairable, Others, Course, Paired}
use Rattle.pairing.proofs.PairLaws.{
  couple,
  lone_more,
  pair_more,
  pairing_done,
  firsts_more,
  seconds_more,
  firsts_long,
  seconds_long,
}

-- two memories as long with the same elements from n on are the same from there on
drop_same : (w w' : List ℕ) (n : ℕ) → length w' ≡ length w → ((i : ℕ) → n ≤ i → get_or w' i 0 ≡ get_or w i 0) →
    drop n w' ≡ drop n w
drop_same w w' n long same =
    ext_get_or 0 (drop n w') (drop n w) (simp length-drop (omega arith))
    (λ i h. get_or-drop n w' i 0 ∙ same (n + i) (omega arith) ∙ sym (get_or-drop n w i 0))

-- a store right behind the list, at a place that is given as such, makes it one element longer
holds_next : (w : List ℕ) (at : ℕ) (xs : List ℕ) (k x : ℕ) → k ≡ at + length xs → Holds w at xs → k < length w →
    Holds (set w k x) at (xs ++ (x ∷ []))
holds_next w at xs k x e h fits = rw e (holds_snoc w at xs x h (omega arith))

-- a store into the lists of the result changes nothing else
store_others : (v w : List ℕ) (L : Side) (k x : ℕ) → Others v w L → L.pairs.firsts ≤ k →
    k < L.pairs.lone + L.rows.zones → Others v (set w k x) L
store_others v w L k x O low high =
    record {
      long = simp length-set O.long;
      same = λ i behind out far.
          let apart : i ≢ k =
          λ e. ⊎_elim (λ (l : i < L.pairs.firsts). omega arith)
          (λ (l : L.pairs.lone + L.rows.zones ≤ i). omega arith) far
          in
          get_or-set_other w k i x 0 apart ∙ O.same i behind out far;
    }

-- a list before those of the result, and apart from the sinks, stands where it stood
pub others_holds : (v w : List ℕ) (L : Side) (at : ℕ) (xs : List ℕ) → Others v w L → L.search.queue + L.rows.zones
    ≤ at →
    (at + length xs ≤ L.lists.sinks) ⊎ (L.lists.sinks + L.rows.zones ≤ at) → at + length xs ≤ L.pairs.firsts →
    Holds v at xs →
    Holds w at xs
others_holds v w L at xs O low apart high h =
    holds_apart v w at xs O.long
    (λ k l m.
    O.same k
    (omega arith)
    (⊎_elim
    (λ (s : at + length xs ≤ L.lists.sinks). inl (omega arith))
    (λ (s : L.lists.sinks + L.rows.zones ≤ at). inr (omega arith))
    apart)
    (inl (omega arith)))
    h

-- nothing is paired yet
pub course_begun : (w : List ℕ) (L : Side) (s t : ℕ) → Pairable w L s t → Course w w L s t 0 0
course_begun w L s t P =
    let D = P.laid in
    let fits : L.lists.sinks + t ≤ length w = omega arith in
    let long : length (sinks_in w L t) ≡ t = part_long w L.lists.sinks t (omega arith) in
    record {
      able = P;
      pairs = [];
      lone = [];
      left = sinks_in w L t;
      turns = omega arith;
      pairs_long = refl;
      lone_long = refl;
      left_long = omega arith;
      small = P.sinks_small;
      others = record { long = refl; same = λ i low out far. refl };
      firsts_held = holds_none w L.pairs.firsts;
      seconds_held = holds_none w L.pairs.seconds;
      lone_held = holds_none w L.pairs.lone;
      left_held = holds_part w L.lists.sinks t fits;
      so_far = λ es A. refl;
    }

module _ (v w : List ℕ) (L : Side) (s t i p : ℕ) (C : Course v w L s t i p) where
  -- what lies behind the lone sources is as it was
  behind_kept : (n : ℕ) → L.pairs.lone + L.rows.zones ≤ n → drop n w ≡ drop n v
  behind_kept n far =
      let P = C.able in
      drop_same v w n C.others.long
      (λ k h. C.others.same k (omega arith) (inr (omega arith)) (inr (omega arith)))

  -- so the rows are
  rows_kept : drop L.rows.starts w ≡ drop L.rows.starts v
  rows_kept = behind_kept L.rows.starts C.able.lone_before

  -- so the memory is laid out still
  laid : Laid w L.rows L.search
  laid = laid_same v w L.rows.zones L.rows.starts L.rows.rows L.search.marks L.search.queue
      C.others.long rows_kept C.able.laid

  -- the sources are as many as the call says
  sources_long : length (sources_in v L s) ≡ s
  sources_long =
      let P = C.able in
      let D = P.laid in
      part_long v L.lists.sources s (omega arith)

  -- a source stands where it stood
  source_at : (k : ℕ) → k < s → get_or w (L.lists.sources + k) 0 ≡ get_or (sources_in v L s) k 0
  source_at k h =
      let P = C.able in
      let D = P.laid in
      let long = sources_long in
      holds_at w L.lists.sources (sources_in v L s)
      (others_holds v w L L.lists.sources (sources_in v L s) C.others P.sources_behind
      (⊎_elim
      (λ (l : L.lists.sources + L.rows.zones ≤ L.lists.sinks). inl (omega arith))
      (λ (l : L.lists.sinks + L.rows.zones ≤ L.lists.sources). inr l)
      P.apart)
      (omega arith)
      (holds_part v L.lists.sources s (omega arith)))
      k
      (omega arith)

  -- the sinks left stand where the sinks stood
  left_is : part w L.lists.sinks (t - p) ≡ C.left
  left_is =
      let few : t - p ≡ length C.left = omega (arith, C.left_long) in
      ap (λ (n : ℕ). part w L.lists.sinks n) few ∙ C.left_held

  module _ (x : ℕ) (is : x ≡ get_or w (L.lists.sources + i) 0) (more : i < s) where
    -- the source is the next of those given
    source_is : x ≡ get_or (sources_in v L s) i 0
    source_is = is ∙ source_at i more

    -- it is a zone
    source_zone : x < L.rows.zones
    source_zone = rw source_is (C.able.sources_small i (omega (arith, sources_long)))

    -- it can have its turn
    pub turnable : Turnable w L.rows L.search x L.lists.sinks (t - p)
    turnable =
        let P = C.able in
        record {
          laid = laid;
          zone = source_zone;
          behind = P.sinks_behind;
          before = omega arith;
          small = rw left_is C.small;
        }

    -- the source has had its turn
    module _
        (w' : List ℕ)
        (r : Option ℕ)
        (T : Turned w w' L.rows L.search x L.lists.sinks (t - p) r)
      where
        -- nothing else has changed
        turn_others : Others v w' L
        turn_others =
            let P = C.able in
            record {
              long = T.long ∙ C.others.long;
              same = λ k low out far.
                  T.others k low
                  (⊎_elim
                  (λ (l : k < L.lists.sinks). inl l)
                  (λ (l : L.lists.sinks + L.rows.zones ≤ k). inr (omega arith))
                  out)
                  ∙ C.others.same k low out far;
            }

        -- a list behind the sinks stands where it stood
        turn_holds : (at : ℕ) (xs : List ℕ) → L.lists.sinks + L.rows.zones ≤ at → Holds w at xs → Holds w' at xs
        turn_holds at xs low h =
            let P = C.able in
            holds_apart w w' at xs T.long (λ k l m. T.others k (omega arith) (inr (omega arith))) h

        -- what was found is what the source picks of the sinks left
        turn_picks : (es : List Arc) → Along v L.rows es →
            pick (reach_in L es x) C.left ≡ answered r T.rest
        turn_picks es A =
            rw left_is at
            (T.found es
            (record {
              arranged =
                  arranged_kept v w L.rows es rows_kept A.arranged;
              between = A.between;
            }))

    -- the source reaches none of the sinks left, and goes behind the lone sources
    pub course_lone : (w' : List ℕ) →
        Turned w w' L.rows L.search x L.lists.sinks (t - p) None →
        Course v (set w' (L.pairs.lone + i - p) x) L s t (i + 1) p
    course_lone w' T =
        let P = C.able in
        let D = P.laid in
        let O = turn_others w' None T in
        let place = L.pairs.lone + i - p in
        let is_place : place ≡ L.pairs.lone + length C.lone = omega arith in
        let long : length w' ≡ length v = O.long in
        let cs = C.pairs in
        let first_long : length (firsts cs) ≡ p = firsts_long cs ∙ C.pairs_long in
        let second_long : length (seconds cs) ≡ p = seconds_long cs ∙ C.pairs_long in
        let lone_long : length C.lone + p ≡ i = C.lone_long in
        record {
          able = P;
          pairs = cs;
          lone = C.lone ++ (x ∷ []);
          left = C.left;
          turns = omega arith;
          pairs_long = C.pairs_long;
          lone_long = simp length-append (omega arith);
          left_long = C.left_long;
          small = C.small;
          others = store_others v w' L place x O (omega arith) (omega arith);
          firsts_held =
              holds_store w' L.pairs.firsts (firsts cs) place x (inr (omega arith))
              (turn_holds w' None T L.pairs.firsts (firsts cs) (omega arith) C.firsts_held);
          seconds_held =
              holds_store w' L.pairs.seconds (seconds cs) place x (inr (omega arith))
              (turn_holds w' None T L.pairs.seconds (seconds cs) (omega arith) C.seconds_held);
          lone_held =
              holds_next w' L.pairs.lone C.lone place x is_place
              (turn_holds w' None T L.pairs.lone C.lone (omega arith) C.lone_held)
              (omega arith);
          left_held =
              holds_store w' L.lists.sinks C.left place x (inr (omega (arith, C.left_long)))
              (rw (T.over ∙ left_is) at T.held);
          so_far = λ es A.
              C.so_far es A
              ∙ lone_more (reach_in L es) cs C.lone (sources_in v L s) C.left i x
              (omega (arith, sources_long)) source_is (turn_picks w' None T es A);
        }

    -- the source takes the sink z, and both go behind those of the pairs
    pub course_paired : (w' : List ℕ) (z : ℕ) →
        Turned w w' L.rows L.search x L.lists.sinks (t - p) (Some z) →
        Course v (set (set w' (L.pairs.firsts + p) x) (L.pairs.seconds + p) z) L s t (i + 1) (p + 1)
    course_paired w' z T =
        let P = C.able in
        let D = P.laid in
        let O = turn_others w' (Some z) T in
        let long : length w' ≡ length v = O.long in
        let cs = C.pairs in
        let u = set w' (L.pairs.firsts + p) x in
        let u_long : length u ≡ length w' = length-set w' (L.pairs.firsts + p) x in
        let first_long : length (firsts cs) ≡ p = firsts_long cs ∙ C.pairs_long in
        let second_long : length (seconds cs) ≡ p = seconds_long cs ∙ C.pairs_long in
        let first_next : L.pairs.firsts + p ≡ L.pairs.firsts + length (firsts cs) = omega arith in
        let second_next : L.pairs.seconds + p ≡ L.pairs.seconds + length (seconds cs) = omega arith in
        let few : p < L.rows.zones = omega (arith, C.lone_long) in
        let left_fewer : length T.rest + 1 + p ≡ t =
        omega (arith, T.over.1, ap length left_is, C.left_long)
        in
        record {
          able = P;
          pairs = cs ++ (couple x z ∷ []);
          lone = C.lone;
          left = T.rest;
          turns = omega arith;
          pairs_long = simp length-append (omega (arith, C.pairs_long));
          lone_long = omega (arith, C.lone_long);
          left_long = omega arith;
          small = T.small;
          others =
              store_others v u L (L.pairs.seconds + p) z
              (store_others v w' L (L.pairs.firsts + p) x O (omega arith) (omega arith))
              (omega arith)
              (omega arith);
          firsts_held =
              rw (firsts_more cs x z)
              (holds_store u L.pairs.firsts (firsts cs ++ (x ∷ [])) (L.pairs.seconds + p) z
              (inr (simp length-append (omega arith)))
              (holds_next w' L.pairs.firsts (firsts cs) (L.pairs.firsts + p) x first_next
              (turn_holds w' (Some z) T L.pairs.firsts (firsts cs) (omega arith) C.firsts_held)
              (omega arith)));
          seconds_held =
              rw (seconds_more cs x z)
              (holds_next u L.pairs.seconds (seconds cs) (L.pairs.seconds + p) z second_next
              (holds_store w' L.pairs.seconds (seconds cs) (L.pairs.firsts + p) x (inl (omega arith))
              (turn_holds w' (Some z) T L.pairs.seconds (seconds cs) (omega arith) C.seconds_held))
              (omega arith));
          lone_held =
              holds_store u L.pairs.lone C.lone (L.pairs.seconds + p) z (inl (omega arith))
              (holds_store w' L.pairs.lone C.lone (L.pairs.firsts + p) x (inl (omega arith))
              (turn_holds w' (Some z) T L.pairs.lone C.lone (omega arith) C.lone_held));
          left_held =
              holds_store u L.lists.sinks T.rest (L.pairs.seconds + p) z (inr (omega arith))
              (holds_store w' L.lists.sinks T.rest (L.pairs.firsts + p) x (inr (omega arith)) T.held);
          so_far = λ es A.
              C.so_far es A
              ∙ pair_more (reach_in L es) cs C.lone (sources_in v L s) C.left i x (omega (arith, sources_long))
              source_is z T.rest (turn_picks w' (Some z) T es A);
        }

-- every source has had its turn: the memory holds the ordering
pub course_done : (v w : List ℕ) (L : Side) (s t p : ℕ) → Course v w L s t s p → Paired v w L s t p
course_done v w L s t p C =
    record {
      others = C.others;
      behind = behind_kept v w L s t s p C;
      ordered = λ es A.
          rw
          (C.so_far es A
          ∙ pairing_done (reach_in L es) C.pairs C.lone (sources_in v L s) C.left s
          (omega (arith, sources_long v w L s t s p C)))
          (record {
            count = sym C.pairs_long;
            firsts_held = C.firsts_held;
            seconds_held = C.seconds_held;
            lone_sources_held = C.lone_held;
            lone_sinks_held = C.left_held;
          });
    }
