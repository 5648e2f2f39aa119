-- The chain's stations are four pieces of the work memory: the last pair's sink, the surplus sinks, the zones alone,
-- and the first pair's source or the first zone alone. Copied one behind the other they are the stations.
--   last_piece, surplus_piece, first_piece   each piece, as the plan rule tells it
--   stations_pieces   the four pieces together are the stations
--   piece_more        one piece more behind those that are copied
--   stationed         four copies put the stations
-- The idea: a piece lies behind the stretch that changes, so that it is copied as it was at the start. Assumes
-- nothing.
use mathlib.Core.Path.{◌≡◌, refl, sym, ap, ◌∙◌}
use mathlib.Core.List.{List, ◌++◌, map, append_assoc}
use Prim.Native.Nat.{ℕ, zero, suc, ◌+◌, ◌-◌, ◌≤◌, ◌<◌, min}
use native.Mathlib.Nat.{zero-add}
use native.Mathlib.Omega.{arith}
use lib.ListN.{length, take, drop, length-append}
use lib.Seq.{sets, take-append-le}
use Rattle.rules.specs.Plan.{Couple, last_sink, first_of, middle, stations}
use Rattle.theory.proofs.Ground.Storing.{sets_append}
use Rattle.memory.specs.Regions.{part}
use Rattle.memory.proofs.Regions.{part_long, part_take, part_drop, part_kept}
use Rattle.stations.specs.declared.Counts.{Counts}
use Rattle.workmap.specs.declared.Side.{Side}
use Rattle.memory.specs.Storing.{Copied}
use Rattle.stations.specs.Stations.{couples, stations_in, first_at, stations_end, ListsApart, Stationed}
use Rattle.memory.proofs.Stores.{drop_sets}
use Rattle.stations.proofs.Couples.{couples_v, last_sink_drop, first_of_take}

-- the front of one element of a part, where it has one
take_one : (w : List ℕ) (at n : ℕ) → part w at (min 1 n) ≡ take 1 (part w at n)
take_one w at zero = refl
take_one w at (suc n) =
    ap (λ (k : ℕ). part w at k) {x = min 1 (suc n)} {y = 1} (omega arith)
    ∙ sym (part_take w at 1 (suc n) (omega arith))

-- the last element of a part, where it has one
last_piece : (w : List ℕ) (at n : ℕ) → part w (at + (n - min 1 n)) (min 1 n) ≡ drop (n - 1) (part w at n)
last_piece w at n =
    ap (λ (k : ℕ). part w (at + k) (min 1 n)) {x = n - min 1 n} {y = n - 1} (omega arith)
    ∙ sym (part_drop w at (n - 1) (min 1 n))
    ∙ ap (λ (k : ℕ). drop (n - 1) (part w at k)) {x = n - 1 + min 1 n} {y = n} (omega arith)

-- a part without its first k elements
surplus_piece : (w : List ℕ) (at k n : ℕ) → k ≤ n → part w (at + k) (n - k) ≡ drop k (part w at n)
surplus_piece w at k n low =
    sym (part_drop w at k (n - k)) ∙ ap (λ (m : ℕ). drop k (part w at m)) {x = k + (n - k)} {y = n} (omega arith)

-- where there is a pair, the last station is the first pair's source
pub first_at_some : (k v x : ℕ) → 0 < k → first_at k v x ≡ v
first_at_some zero v x h = absurd (omega arith)
first_at_some (suc k) v x h = refl

-- where there is none, it is the first zone alone
pub first_at_none : (k v x : ℕ) → k ≤ 0 → first_at k v x ≡ x
first_at_none zero v x h = refl
first_at_none (suc k) v x h = absurd (omega arith)

-- the first element of two parts, one behind the other, where there is one
first_piece : (w : List ℕ) (k q v x : ℕ) → v + k ≤ length w →
    part w (first_at k v x) (min 1 (k + q)) ≡ take 1 (part w v k ++ part w x q)
first_piece w zero q v x fits = ap (λ (m : ℕ). part w x (min 1 m)) (zero-add q) ∙ take_one w x q
first_piece w (suc k) q v x fits =
    ap (λ (m : ℕ). part w v m) {x = min 1 (suc k + q)} {y = min 1 (suc k)} (omega arith)
    ∙ take_one w v (suc k)
    ∙ sym
    (take-append-le 1 (part w v (suc k)) (part w x q)
    (omega (arith, part_long w v (suc k) (omega arith))))

-- the last station lies behind the stretch that changes, and in the memory
pub first_inside : (low long k q v x : ℕ) → low ≤ v → low ≤ x → v + k ≤ long → x + q ≤ long →
    (low ≤ first_at k v x) × (first_at k v x + min 1 (k + q) ≤ long)
first_inside low long zero q v x a b f g = (b, omega arith)
first_inside low long (suc k) q v x a b f g = (a, omega arith)

-- one piece more behind those that are copied
piece_more : (w w₁ w₂ : List ℕ) (st : ℕ) (xs : List ℕ) (from n to : ℕ) → to ≡ st + length xs → to ≤ from →
    w₁ ≡ sets w st xs → Copied w₁ w₂ from n to → w₂ ≡ sets w st (xs ++ part w from n)
piece_more w w₁ w₂ st xs from n to at low e C =
    let kept : part w₁ from n ≡ part w from n =
    part_kept w w₁ from from n (omega arith)
    (ap (λ (l : List ℕ). drop from l) e ∙ drop_sets w st xs from (omega arith))
    in
    C.is
    ∙ ap (λ (l : List ℕ). sets w₁ to l) kept
    ∙ ap (λ (l : List ℕ). sets l to (part w from n)) e
    ∙ ap (λ (k : ℕ). sets (sets w st xs) k (part w from n)) at
    ∙ sym (sets_append w st xs (part w from n))

module _ (w : List ℕ) (n : Counts) (p : Side) (P : ListsApart w n p) where
  -- the last pair's sink
  abbrev last_part : List ℕ
  last_part = part w (p.pairs.seconds + (n.pairs - min 1 n.pairs)) (min 1 n.pairs)

  -- the surplus sinks
  abbrev surplus_part : List ℕ
  surplus_part = part w (p.lists.sinks + n.sources) (n.sinks - n.sources)

  -- the zones alone
  abbrev alone_part : List ℕ
  alone_part = part w p.lists.alone n.alone

  -- the first pair's source, or the first zone alone
  abbrev first_part : List ℕ
  first_part = part w (first_at n.pairs p.pairs.firsts p.lists.alone) (min 1 (n.pairs + n.alone))

  -- the pairs' sources and sinks are as many
  pub as_many : length (part w p.pairs.firsts n.pairs) ≡ length (part w p.pairs.seconds n.pairs)
  as_many =
      part_long w p.pairs.firsts n.pairs (omega (arith, P.v_fits, P.why_fits))
      ∙ sym (part_long w p.pairs.seconds n.pairs (omega (arith, P.w_fits, P.why_fits)))

  -- the four pieces together are the stations
  stations_pieces : ((last_part ++ surplus_part) ++ alone_part) ++ first_part ≡ stations_in w n p
  unfolding stations_in stations middle
  stations_pieces =
      let vs : List ℕ = part w p.pairs.firsts n.pairs in
      let ws : List ℕ = part w p.pairs.seconds n.pairs in
      let long : length ws ≡ n.pairs = part_long w p.pairs.seconds n.pairs
      (omega (arith, P.w_fits, P.why_fits)) in
      let lone : length (part w p.pairs.lone n.sources) ≡ n.sources =
      part_long w p.pairs.lone n.sources (omega (arith, P.sources_fit, P.why_fits))
      in
      let a : last_part ≡ last_sink (couples vs ws) =
      last_piece w p.pairs.seconds n.pairs ∙ ap (λ (k : ℕ). drop (k - 1) ws) (sym long) ∙ sym
      (last_sink_drop vs ws as_many)
      in
      let b : surplus_part ≡ drop (length (part w p.pairs.lone n.sources))
      (part w p.lists.sinks n.sinks) =
      surplus_piece w p.lists.sinks n.sources n.sinks P.order
      ∙ ap (λ (k : ℕ). drop k (part w p.lists.sinks n.sinks)) (sym lone)
      in
      let d : first_part ≡ first_of (map (λ (a : Couple). a.v) (couples vs ws) ++ alone_part) =
      first_piece w n.pairs n.alone p.pairs.firsts p.lists.alone (omega (arith, P.v_fits, P.why_fits))
      ∙ sym (first_of_take (vs ++ alone_part))
      ∙ ap (λ (l : List ℕ). first_of (l ++ alone_part)) (sym (couples_v vs ws as_many))
      in
      ap (λ (l : List ℕ). l ++ first_part) (append_assoc last_part surplus_part alone_part) ∙ (cc (a, b, d))

  -- the length of the last pair's sink
  last_long : length last_part ≡ min 1 n.pairs
  last_long =
      part_long w (p.pairs.seconds + (n.pairs - min 1 n.pairs)) (min 1 n.pairs)
      (omega (arith, P.w_fits, P.why_fits))

  -- the length of the surplus sinks
  surplus_long : length surplus_part ≡ n.sinks - n.sources
  surplus_long =
      part_long w (p.lists.sinks + n.sources) (n.sinks - n.sources)
      (omega (arith, P.sinks_fit, P.why_fits, P.order))

  -- the length of the zones alone
  alone_long : length alone_part ≡ n.alone
  alone_long = part_long w p.lists.alone n.alone (omega (arith, P.alone_fit, P.why_fits))

  -- the length of the last station
  first_long : length first_part ≡ min 1 (n.pairs + n.alone)
  first_long =
      let inside = first_inside 0 (length w) n.pairs n.alone p.pairs.firsts p.lists.alone (omega arith)
      (omega arith)
      (omega (arith, P.v_fits, P.why_fits)) (omega (arith, P.alone_fit, P.why_fits))
      in
      part_long w (first_at n.pairs p.pairs.firsts p.lists.alone) (min 1 (n.pairs + n.alone))
      (omega (arith, inside.1))

  -- how many stations there are
  pub stations_long : length (stations_in w n p)
      ≡ min 1 n.pairs + (n.sinks - n.sources) + n.alone + min 1 (n.pairs + n.alone)
  stations_long =
      ap length (sym stations_pieces)
      ∙ simp length-append (omega (arith, last_long, surplus_long, alone_long, first_long))

  -- four copies put the stations
  pub stationed : (w₁ w₂ w₃ w₄ : List ℕ) (last first start : ℕ) →
      last ≡ min 1 n.pairs → first ≡ min 1 (n.pairs + n.alone) → start ≡ first_at n.pairs p.pairs.firsts
      p.lists.alone →
      Copied w w₁ (p.pairs.seconds + (n.pairs - last)) last p.links.stations →
      Copied w₁ w₂ (p.lists.sinks + n.sources) (n.sinks - n.sources) (p.links.stations + last) →
      Copied w₂ w₃ p.lists.alone n.alone (p.links.stations + (last + (n.sinks - n.sources))) →
      Copied w₃ w₄ start first (p.links.stations + (last + (n.sinks - n.sources) + n.alone)) →
      Stationed w w₄ n p (last + (n.sinks - n.sources) + n.alone + first)
  stationed w₁ w₂ w₃ w₄ last first start l f s K₁ K₂ K₃ K₄ =
      let inside = first_inside (stations_end p) (length w) n.pairs n.alone p.pairs.firsts p.lists.alone
      P.v_apart P.alone_apart (omega (arith, P.v_fits, P.why_fits)) (omega (arith, P.alone_fit, P.why_fits))
      in
      let e₁ : w₁ ≡ sets w p.links.stations last_part = rw l at K₁.is in
      let e₂ : w₂ ≡ sets w p.links.stations (last_part ++ surplus_part) =
      piece_more w w₁ w₂ p.links.stations last_part (p.lists.sinks + n.sources) (n.sinks - n.sources)
      (p.links.stations + last)
      (omega (arith, last_long)) (omega (arith, P.sinks_apart, P.room)) e₁ K₂
      in
      let ab : length (last_part ++ surplus_part) ≡ last + (n.sinks - n.sources) =
      simp length-append (omega (arith, last_long, surplus_long))
      in
      let e₃ : w₃ ≡ sets w p.links.stations ((last_part ++ surplus_part) ++ alone_part) =
      piece_more w w₂ w₃ p.links.stations (last_part ++ surplus_part) p.lists.alone n.alone
      (p.links.stations + (last + (n.sinks - n.sources)))
      (omega (arith, ab)) (omega (arith, P.alone_apart, P.room)) e₂ K₃
      in
      let abc : length ((last_part ++ surplus_part) ++ alone_part) ≡ last + (n.sinks - n.sources) + n.alone =
      simp length-append (omega (arith, last_long, surplus_long, alone_long))
      in
      let e₄ : w₄ ≡ sets w p.links.stations (((last_part ++ surplus_part) ++ alone_part) ++ first_part) =
      piece_more w w₃ w₄ p.links.stations ((last_part ++ surplus_part) ++ alone_part)
      (first_at n.pairs p.pairs.firsts p.lists.alone) (min 1 (n.pairs + n.alone))
      (p.links.stations + (last + (n.sinks - n.sources) + n.alone)) (omega (arith, abc))
      (omega (arith, inside.0, P.room)) e₃ (rw (f, s) at K₄)
      in
      record {
        count = omega (arith, stations_long, l, f);
        is = rw stations_pieces at e₄;
      }
