-- Three rows of links, put one behind the other, are the links of the ordering that stands in the memory.
--   ring_row, chain_row, back_row             the three rows of the plan rule, once the stations are put
--   ring_joinable, chain_joinable, back_joinable   there is room for each
--   links_long    how many links there are
--   linked        the three rows together are the links
-- The idea: the memory still has the ordering's lists and the stations when the links are put. Assumes nothing.
use mathlib.Core.Path.{◌≡◌, refl, sym, ap, ◌∙◌}
use mathlib.Core.List.{List, [], ◌++◌, append_assoc}
use Prim.Native.Nat.{ℕ, zero, suc, ◌+◌, ◌-◌, ◌≤◌}
use native.Mathlib.Omega.{arith}
use lib.ListN.{length, take, drop, length-append}
use lib.Seq.{length-sets}
use Rattle.rules.specs.Plan.{ring, chain, back, rings, chains, backs, stations, links}
use Rattle.memory.specs.Regions.{part}
use Rattle.memory.proofs.Regions.{part_long, part_take, part_drop, part_kept}
use Rattle.stations.specs.declared.Counts.{Counts}
use Rattle.workmap.specs.declared.Side.{Side}
use Rattle.links.specs.Stores.{Joinable, LinksJoined}
use Rattle.stations.specs.Stations.{couples, stations_in, stations_end, ListsApart, Stationed}
use Rattle.links.specs.Linking.{links_in, Linkable, LinksPut}
use Rattle.memory.proofs.Stores.{drop_sets, sets_holds}
use Rattle.links.proofs.Shapes.{rings_joins, chains_joins, backs_joins}
use Rattle.stations.proofs.Pieces.{as_many, stations_long}
use Rattle.links.proofs.Columns.{RowOf, row_joins, Inside, Wrote, wrote_none, wrote_more, joinable}

-- a part without its first element
part_rest : (w : List ℕ) (at n : ℕ) → part w (at + 1) (n - 1) ≡ drop 1 (part w at n)
part_rest w at zero = refl
part_rest w at (suc n) =
    ap (λ (k : ℕ). part w (at + 1) k) {x = suc n - 1} {y = n} (omega arith)
    ∙ sym (part_drop w at 1 n)
    ∙ ap (λ (k : ℕ). drop 1 (part w at k)) {x = 1 + n} {y = suc n} (omega arith)

module _
    {w w' : List ℕ}
    {n : Counts}
    {p : Side}
    {m : ℕ}
    (L : Linkable w n p)
    (S : Stationed w w' n p m)
  where
    -- where the lists lie
    abbrev P : ListsApart w n p
    P = L.placed

    -- the stations fit their stretch
    pub room : p.links.stations + m ≤ stations_end p
    room = omega (arith, P.room, stations_long w n p P, S.count)

    -- the memory keeps its length
    pub memory_long : length w' ≡ length w
    memory_long = ap length S.is ∙ length-sets w p.links.stations (stations_in w n p)

    -- the memory behind the stretch is as it was
    pub above : (at : ℕ) → stations_end p ≤ at → drop at w' ≡ drop at w
    above at low =
        ap (λ (l : List ℕ). drop at l) S.is
        ∙ drop_sets w p.links.stations (stations_in w n p) at (omega (arith, room, S.count))

    -- a part behind the stretch is as it was
    kept : (at k : ℕ) → stations_end p ≤ at → part w' at k ≡ part w at k
    kept at k low = part_kept w w' at at k (omega arith) (above at low)

    -- the stations stand in their stretch
    held : part w' p.links.stations m ≡ stations_in w n p
    held =
        let fits : p.links.stations + length (stations_in w n p) ≤ length w =
        omega (arith, room, S.count, P.w_apart, P.w_fits, P.why_fits)
        in
        ap (λ (k : ℕ). part w' p.links.stations k) S.count
        ∙ ap (λ (l : List ℕ). part l p.links.stations (length (stations_in w n p))) S.is
        ∙ sets_holds w p.links.stations (stations_in w n p) fits

    -- the rings
    ring_row : RowOf w' p.pairs.seconds (p.pairs.firsts + 1) (n.pairs - 1) 0
        (rings (couples (part w p.pairs.firsts n.pairs) (part w p.pairs.seconds n.pairs)))
    ring_row =
        let vs : List ℕ = part w p.pairs.firsts n.pairs in
        let ws : List ℕ = part w p.pairs.seconds n.pairs in
        let long : length ws ≡ n.pairs = part_long w p.pairs.seconds n.pairs
        (omega (arith, P.w_fits, P.why_fits)) in
        let from : part w' p.pairs.seconds (n.pairs - 1) ≡ take (length ws - 1) ws =
        kept p.pairs.seconds (n.pairs - 1) P.w_apart ∙ sym
        (part_take w p.pairs.seconds (n.pairs - 1) n.pairs (omega arith))
        ∙ ap (λ (k : ℕ). take (k - 1) ws) (sym long)
        in
        let to : part w' (p.pairs.firsts + 1) (n.pairs - 1) ≡ drop 1 vs =
        kept (p.pairs.firsts + 1) (n.pairs - 1) (omega (arith, P.v_apart)) ∙ part_rest w p.pairs.firsts
        n.pairs
        in
        rw (rings_joins vs ws (as_many w n p P))
        (row_joins w' p.pairs.seconds (p.pairs.firsts + 1) (n.pairs - 1) ring (take (length ws - 1) ws)
        (drop 1 vs) from to
        (ap length (sym from)
        ∙ part_long w' p.pairs.seconds (n.pairs - 1) (omega (arith, P.w_fits, P.why_fits, memory_long)))
        (ap length (sym to)
        ∙ part_long w' (p.pairs.firsts + 1) (n.pairs - 1) (omega (arith, P.v_fits, P.why_fits, memory_long))))

    -- the chain
    chain_row : RowOf w' p.links.stations (p.links.stations + 1) (m - 1) 1 (chains (stations_in w n p))
    chain_row =
        let xs : List ℕ = stations_in w n p in
        let from : part w' p.links.stations (m - 1) ≡ take (length xs - 1) xs =
        sym (part_take w' p.links.stations (m - 1) m (omega arith))
        ∙ ap (λ (l : List ℕ). take (m - 1) l) held
        ∙ ap (λ (k : ℕ). take (k - 1) xs) S.count
        in
        let to : part w' (p.links.stations + 1) (m - 1) ≡ drop 1 xs =
        part_rest w' p.links.stations m ∙ ap (λ (l : List ℕ). drop 1 l) held
        in
        rw (chains_joins xs)
        (row_joins w' p.links.stations (p.links.stations + 1) (m - 1) chain (take (length xs - 1) xs)
        (drop 1 xs) from to
        (ap length (sym from)
        ∙ part_long w' p.links.stations (m - 1)
        (omega (arith, room, P.w_apart, P.w_fits, P.why_fits, memory_long)))
        (ap length (sym to)
        ∙ part_long w' (p.links.stations + 1) (m - 1)
        (omega (arith, room, P.w_apart, P.w_fits, P.why_fits, memory_long))))

    -- the links back
    back_row : RowOf w' p.lists.sinks p.pairs.lone n.sources 2
        (backs (part w p.lists.sinks n.sinks) (part w p.pairs.lone n.sources))
    back_row =
        let ws : List ℕ = part w p.lists.sinks n.sinks in
        let vs : List ℕ = part w p.pairs.lone n.sources in
        let long : length vs ≡ n.sources =
        part_long w p.pairs.lone n.sources (omega (arith, P.sources_fit, P.why_fits))
        in
        let wide : length ws ≡ n.sinks =
        part_long w p.lists.sinks n.sinks (omega (arith, P.sinks_fit, P.why_fits))
        in
        let from : part w' p.lists.sinks n.sources ≡ take (length vs) ws =
        kept p.lists.sinks n.sources P.sinks_apart ∙ sym
        (part_take w p.lists.sinks n.sources n.sinks P.order)
        ∙ ap (λ (k : ℕ). take k ws) (sym long)
        in
        rw (backs_joins ws vs (omega (arith, long, wide, P.order)))
        (row_joins w' p.lists.sinks p.pairs.lone n.sources back (take (length vs) ws) vs from
        (kept p.pairs.lone n.sources P.sources_apart)
        (ap length (sym from)
        ∙ part_long w' p.lists.sinks n.sources
        (omega (arith, P.sinks_fit, P.why_fits, P.order, memory_long)))
        long)

    -- how many links there are
    pub links_long : length (links_in w n p) ≡ n.pairs - 1 + (m - 1) + n.sources
    unfolding links_in links stations_in stations
    links_long = simp length-append (omega (arith, ring_row.long, chain_row.long, back_row.long))

    -- where the rows' elements lie
    stations_inside : Inside p p.links.stations (m - 1)
    stations_inside = record { low = omega arith; high = omega (arith, room, P.w_apart, P.w_fits) }

    next_inside : Inside p (p.links.stations + 1) (m - 1)
    next_inside = record { low = omega arith; high = omega (arith, room, P.room, P.w_apart, P.w_fits) }

    w_inside : Inside p p.pairs.seconds (n.pairs - 1)
    w_inside = record { low = omega (arith, P.w_apart); high = omega (arith, P.w_fits) }

    v_inside : Inside p (p.pairs.firsts + 1) (n.pairs - 1)
    v_inside = record { low = omega (arith, P.v_apart); high = omega (arith, P.v_fits) }

    sinks_inside : Inside p p.lists.sinks n.sources
    sinks_inside = record { low = omega (arith, P.sinks_apart); high = omega (arith, P.sinks_fit, P.order) }

    sources_inside : Inside p p.pairs.lone n.sources
    sources_inside = record { low = omega (arith, P.sources_apart); high = omega (arith, P.sources_fit) }

    module _ {r q : ℕ} (er : r ≡ n.pairs - 1) (eq : q ≡ m - 1) where
      -- all links are no more than the zones
      pub all_few : r + q + n.sources ≤ p.rows.zones
      all_few = omega (arith, links_long, L.few)

      -- there is room for the rings
      pub ring_joinable : (u : List ℕ) → length u ≡ length w → Joinable u p.links p.pairs.seconds
          (p.pairs.firsts + 1) r 0
      ring_joinable u long =
          joinable w n p L u p.pairs.seconds (p.pairs.firsts + 1) r 0 long (omega (arith, all_few))
          (rw er w_inside)
          (rw er v_inside)

      -- there is room for the chain
      pub chain_joinable : (u : List ℕ) → length u ≡ length w → Joinable u p.links p.links.stations
          (p.links.stations + 1) q r
      chain_joinable u long =
          joinable w n p L u p.links.stations (p.links.stations + 1) q r long (omega (arith, all_few))
          (rw eq stations_inside) (rw eq next_inside)

      -- there is room for the links back
      pub back_joinable : (u : List ℕ) → length u ≡ length w
          → Joinable u p.links p.lists.sinks p.pairs.lone n.sources (r + q)
      back_joinable u long =
          joinable w n p L u p.lists.sinks p.pairs.lone n.sources (r + q) long all_few sinks_inside
          sources_inside

      -- the three rows together are the links
      pub linked : {u₁ u₂ u₃ : List ℕ} →
          LinksJoined w' u₁ p.links p.pairs.seconds (p.pairs.firsts + 1) r 0 0 →
          LinksJoined u₁ u₂ p.links p.links.stations (p.links.stations + 1) q 1 r →
          LinksJoined u₂ u₃ p.links p.lists.sinks p.pairs.lone n.sources 2 (r + q) →
          LinksPut w u₃ n p (r + q + n.sources)
      unfolding links_in links stations_in stations
      linked {u₁} {u₂} {u₃} A B C =
          let rs = rings (couples (part w p.pairs.firsts n.pairs) (part w p.pairs.seconds n.pairs)) in
          let cs = chains (stations_in w n p) in
          let bs = backs (part w p.lists.sinks n.sinks) (part w p.pairs.lone n.sources) in
          let W₁ : Wrote p w' u₁ rs =
          wrote_more w n p L w' w' [] rs memory_long (omega (arith, all_few, ring_row.long))
          (wrote_none p w')
          u₁ p.pairs.seconds (p.pairs.firsts + 1) r 0 0 (rw er ring_row) (rw er w_inside) (rw er v_inside) refl A
          in
          let W₂ : Wrote p w' u₂ (rs ++ cs) =
          wrote_more w n p L w' u₁ rs cs memory_long (omega (arith, all_few, ring_row.long, chain_row.long)) W₁
          u₂ p.links.stations (p.links.stations + 1) q 1 r (rw eq chain_row) (rw eq stations_inside)
          (rw eq next_inside)
          (omega (arith, ring_row.long)) B
          in
          let W₃ : Wrote p w' u₃ ((rs ++ cs) ++ bs) =
          wrote_more w n p L w' u₂ (rs ++ cs) bs memory_long
          (simp length-append (omega (arith, all_few, ring_row.long, chain_row.long, back_row.long))) W₂
          u₃ p.lists.sinks p.pairs.lone n.sources 2 (r + q) back_row sinks_inside sources_inside
          (simp length-append (omega (arith, ring_row.long, chain_row.long))) C
          in
          let W : Wrote p w' u₃ (links_in w n p) = rw (append_assoc rs cs bs) at W₃ in
          record {
            count = omega (arith, links_long);
            start = W.start;
            end = W.end;
            why = W.why;
            long = W.long ∙ memory_long;
            behind = W.behind ∙ above (p.links.why + p.rows.zones) (omega (arith, P.w_apart, P.w_fits));
          }
