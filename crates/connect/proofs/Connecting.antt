-- Connecting sources and sinks: the pairing gives the ordering of the network, and the links put are those of the
-- rule.
--   pairable     sources and sinks may be paired
--   same_ordering   the rows have a place for every number, and the pairing along them is that of the network
--   ordered      the pairing leaves the network's ordering;  pairs_low   no more pairs than sources, or than sinks
--   tallied      the counts are those of the ordering
--   linkable     the links may be put;  connected   they are those of the rule for s ≤ t
-- The lists lie in places of their own, so each step keeps what the next one reads. A number that is no zone has an
-- empty row, and reach depends on the arcs alone. Assumes nothing.
use mathlib.Core.Path.{◌≡◌, refl, sym, ap, ap₂, ◌∙◌}
use mathlib.Core.Logic.{inl, inr}
use mathlib.Core.Bool.{true}
use mathlib.Core.List.{List, Memᴰ as In}
use Prim.Native.Nat.{ℕ, ◌+◌, ◌≤◌}
use native.Mathlib.Omega.{arith}
use lib.ListN.{length, get_or}
use borrow.Author.Tests.{le-leb}
use Rattle.rules.specs.Network.{Network, network_of, Proper, reaches}
use Rattle.rules.specs.Components.{names, sources, sinks, alone}
use Rattle.rules.specs.Plan.{pairing, is_upright, ordering, upright_plan}
use Rattle.memory.specs.Regions.{part, Holds}
use Rattle.memory.proofs.Regions.{holds_apart}
use Rattle.arranged.specs.Arranged.{Between}
use Rattle.theory.proofs.Ground.Indices.{at_in}
use Rattle.search.proofs.Laying.{arranged_laid}
use Rattle.theory.proofs.Ground.Ascending.{network_proper}
use Rattle.theory.proofs.Reaching.Reach.{reaches_arcs}
use Rattle.theory.proofs.Reaching.Components.{names_zone}
use Rattle.theory.proofs.Reaching.KindLaws.{source_is, sink_is}
use Rattle.theory.proofs.Planning.PlanStrong.{plan_of_upright}
use Rattle.theory.proofs.Planning.PlanSame.{pairing_agree}
use Rattle.theory.proofs.Planning.PlanCount.{sources_split, sinks_split, plan_length}
use Rattle.workmap.specs.declared.Side.{Side}
use Rattle.turns.specs.Turn.{AllBelow}
use Rattle.pairing.specs.Pairs.{reach_in, sources_in, sinks_in, Pairable, Paired, OrderingStands}
use Rattle.stations.specs.declared.Counts.{Counts}
use Rattle.stations.specs.Stations.{ListsApart}
use Rattle.links.specs.Linking.{links_in, Held, Linkable, LinksPut}
use Rattle.links.proofs.Standing.{links_held}
use Rattle.sides.specs.Sides.{Tallied, Tally}
use Rattle.connect.specs.Connect.{Connectable, Connected}
use Rattle.theory.proofs.Planning.Few.{kinds_few, need_few, zones_few, weak_sum}

module _ {w : List ℕ} {d : Side} {s t q : ℕ} {N : Network} (C : Connectable w d s t q N) where
  -- how many rows there are
  abbrev n : ℕ
  n = d.rows.zones

  -- the network is proper
  abbrev proper : Proper N
  proper = C.stands.proper

  -- its zones are no more than the rows
  zones_all : length N.zones ≤ n
  zones_all = zones_few proper n C.stands.numbered

  -- every arc is between numbers that have a row
  between : Between n N.arcs
  between =
      record {
        tails = λ {a} {b} m. C.stands.numbered a (proper.tails m);
        heads = λ {a} {b} m. C.stands.numbered b (proper.heads m);
      }

  -- so the network of these arcs over all numbers is proper
  all_proper : Proper (network_of n N.arcs)
  all_proper = network_proper n N.arcs (λ a b m. (between.tails m, between.heads m))

  -- names have a row
  names_below : (xs : List ℕ) → ((x : ℕ) → In x xs → In x (names N)) → AllBelow n xs
  names_below xs f k l = C.stands.numbered (get_or xs k 0) (names_zone N (f (get_or xs k 0) (at_in xs k l))).0

  -- the components of the three kinds are no more than the rows
  kinds_all : s + t + q ≤ n
  kinds_all = omega (arith, zones_all, kinds_few N, C.sources_are, C.sinks_are, C.alone_are)

  -- and two or more
  kinds_two : 2 ≤ s + t + q
  kinds_two = omega (arith, weak_sum proper C.weak, C.sources_are, C.sinks_are, C.alone_are)

  -- the sources stand in their place
  sources_there : part w d.lists.sources s ≡ sources N
  sources_there = ap (λ (k : ℕ). part w d.lists.sources k) C.sources_are ∙ C.stands.sources_held

  -- the sinks stand in theirs
  sinks_there : part w d.lists.sinks t ≡ sinks N
  sinks_there = ap (λ (k : ℕ). part w d.lists.sinks k) C.sinks_are ∙ C.stands.sinks_held

  -- sources and sinks may be paired
  pub pairable : Pairable w d s t
  pairable =
      let R = C.roomy in
      let S = C.stands in
      record {
        laid =
            arranged_laid w n d.rows.starts d.rows.rows d.search.marks d.search.queue N.arcs
            S.arranged between C.small R.marks_before (omega arith) S.fits;
        sources_few = omega (arith, kinds_all);
        sinks_few = omega (arith, kinds_all);
        sources_small = rw sources_there (names_below (sources N) (λ x i. (source_is N i).0));
        sinks_small = rw sinks_there (names_below (sinks N) (λ x i. (sink_is N i).0));
        sources_behind = R.sources_behind;
        sinks_behind = R.sinks_behind;
        apart = R.lists_apart;
        sources_before = R.sources_before;
        sinks_before = omega arith;
        firsts_before = R.firsts_before;
        seconds_before = R.seconds_before;
        lone_before = omega arith;
      }

  -- the rule runs on the network as it is
  upright : is_upright N ≡ true
  unfolding is_upright
  upright =
      le-leb (length (sources N)) (length (sinks N)) (omega (arith, C.order, C.sources_are, C.sinks_are))

  -- the links are no more than the rows
  links_few : length (upright_plan N) ≤ n
  links_few =
      omega (
        arith,
        ap length (sym (plan_of_upright N C.weak upright)) ∙ plan_length proper,
        need_few N,
        zones_all,
      )

  -- the pairing along the rows is that of the network
  same_ordering : ordering N ≡ pairing (reach_in d N.arcs) (sources_in w d s) (sinks_in w d t)
  unfolding ordering
  same_ordering =
      pairing_agree (reaches N) (reach_in d N.arcs) (sources N) (sinks N)
      (λ v x i j. reaches_arcs proper all_proper refl v x)
      ∙ ap₂ (pairing (reach_in d N.arcs)) (sym sources_there) (sym sinks_there)

  -- the pairing is done
  module _ {w₁ : List ℕ} {p : ℕ} (Q : Paired w w₁ d s t p) where
    -- it leaves the network's ordering
    ordered : OrderingStands w₁ d p (ordering N)
    ordered = rw same_ordering (Q.ordered N.arcs (record { arranged = C.stands.arranged; between = between }))

    -- pairs and lone sources are the sources
    sources_both : s ≡ length (ordering N).pairs + length (ordering N).lone_sources
    sources_both = omega (arith, sources_split proper, C.sources_are)

    -- pairs and lone sinks are the sinks
    sinks_both : t ≡ length (ordering N).pairs + length (ordering N).lone_sinks
    sinks_both = omega (arith, sinks_split proper, C.sinks_are)

    -- no more pairs than sources, or than sinks
    pub pairs_low : (p ≤ s) × (p ≤ t)
    pairs_low = (omega (arith, ordered.count, sources_both), omega (arith, ordered.count, sinks_both))

    -- the pairing keeps the components alone
    alone_stays : Holds w₁ d.lists.alone (alone N)
    alone_stays =
        let R = C.roomy in
        holds_apart w w₁ d.lists.alone (alone N) Q.others.long
        (λ i low high.
        Q.others.same i (omega arith) (inr (omega arith)) (inl (omega (arith, kinds_all, C.alone_are))))
        C.stands.alone_held

    -- the counts are made
    module _ {k : Counts} (K : Tallied s t q p k) where
      -- they are those of the ordering
      tallied : Tally (ordering N) (alone N) k
      tallied = K (ordering N) (alone N) ordered.count sources_both sinks_both C.alone_are

      -- the ordering and the components alone stand there
      held : Held w₁ k d (ordering N) (alone N)
      held =
          let T = tallied in
          record {
            pairs = T.pairs;
            sources = T.sources;
            sinks = T.sinks;
            alone = T.alone;
            v_held = ordered.firsts_held;
            w_held = ordered.seconds_held;
            sources_held = ordered.lone_sources_held;
            sinks_held = ordered.lone_sinks_held;
            alone_held = alone_stays;
          }

      -- the links of what stands there are those of the rule
      links_are : links_in w₁ k d ≡ upright_plan N
      unfolding upright_plan
      links_are = links_held w₁ k d (ordering N) (alone N) held

      -- the lists lie where the links ask for them
      placed : ListsApart w₁ k d
      placed =
          let R = C.roomy in
          let T = tallied in
          let a : k.pairs + k.sources ≡ s = omega (arith, sources_both, T.pairs, T.sources) in
          let b : k.pairs + k.sinks ≡ t = omega (arith, sinks_both, T.pairs, T.sinks) in
          let c : k.alone ≡ q = omega (arith, T.alone, C.alone_are) in
          let all = kinds_all in
          let two = kinds_two in
          let le = C.order in
          record {
            order = omega arith;
            room = omega arith;
            v_apart = omega arith;
            w_apart = omega arith;
            sources_apart = omega arith;
            sinks_apart = omega arith;
            alone_apart = omega arith;
            v_fits = omega arith;
            w_fits = omega arith;
            sources_fit = omega arith;
            sinks_fit = omega arith;
            alone_fit = omega arith;
            why_fits = omega (arith, C.stands.arranged.order, C.stands.fits, Q.others.long);
          }

      -- the links may be put
      pub linkable : Linkable w₁ k d
      linkable =
          record {
            placed = placed;
            few = rw links_are links_few;
            start_before = C.roomy.from_before;
            end_before = C.roomy.to_before;
            apart = C.roomy.columns_apart;
          }

      -- they are put
      pub connected : {w₂ : List ℕ} {r : ℕ} → LinksPut w₁ w₂ k d r →
          Connected w w₂ d N (record { pairs = p; need = r })
      connected L =
          record {
            pairs = ordered.count;
            need = L.count ∙ ap length links_are;
            columns =
                record {
                  starts_held = rw links_are at L.start;
                  ends_held = rw links_are at L.end;
                  whys_held = rw links_are at L.why;
                };
            long = L.long ∙ Q.others.long;
            back = L.behind ∙ Q.behind (d.links.why + n) (omega (arith, C.roomy.lone_before));
          }
