-- The survey of a network: what each of its steps asks for is left by those before it.
--   for_naming    the components may be named where the rows are arranged and all below them is zero
--   for_leaving_out, for_listing   the kinds may be found and listed where the components are named, with the withdrawn
--                 zones left out
--   stands_both   where the rows stand, and the names of each kind, the network does, both ways
--   surveyed      the rows stand, and the names of each kind
-- The rows lie last, and each step keeps them. Assumes nothing.
use mathlib.Core.Path.{◌≡◌, sym, subst, ◌∙◌}
use mathlib.Core.List.{List}
use Prim.Native.Nat.{ℕ, ◌+◌, ◌<◌, ◌≤◌}
use native.Mathlib.Omega.{arith}
use lib.ListN.{length, get_or, drop}
use Rattle.rules.specs.Network.{Network, network_of, network_with}
use Rattle.rules.specs.Components.{sources, sinks, alone}
use Rattle.rules.specs.Calls.{arcs_of, handed_with}
use Rattle.theory.proofs.Withdrawn.Remaining.{remaining_in}
use Rattle.theory.proofs.Files.Accepting.{fine_with_proper}
use Rattle.workmap.specs.declared.Map.{Map}
use Rattle.workmap.proofs.Places.{placed, names_placed, kinds_placed, lists_placed}
use Rattle.memory.specs.Regions.{Holds}
use Rattle.memory.proofs.Regions.{at_below}
use Rattle.memory.proofs.Places.{drop_deeper}
use Rattle.arranged.specs.Ready.{Readyable, Standing, Readied}
use Rattle.arranged.proofs.ReadyLaws.{arcs_within, rows_fit, turned_fit, standing_kept, readied_zero}
use Rattle.withdrawn.specs.Withdrawn.{ReadyWith}
use Rattle.components.specs.Components.{Lent, Components}
use Rattle.components.proofs.Lending.{lent_ready}
use Rattle.kinds.specs.declared.Counts.{Counts}
use Rattle.kinds.specs.Lists.{Nameable, Withdrawable, Listed}
use Rattle.sides.specs.Standing.{BothWays}
use Rattle.sides.proofs.Turning.{handed_turned}
use Rattle.survey.specs.Survey.{Surveyed}

module _
    {m : Map}
    {ts hs gone w w₁ : List ℕ}
    (G : ReadyWith m ts hs gone w)
    (R : Readied w w₁ m ts hs)
  where
    -- what was asked, the withdrawn numbers apart
    abbrev A : Readyable m ts hs w
    A = G.ready

    -- the memory is as long as asked
    long_enough : m.asked ≤ length w₁
    long_enough = omega (arith, A.room, R.standing.long)

    -- the components may be named
    pub for_naming : Lent w₁ m ts hs
    for_naming = lent_ready A R

    -- the withdrawn zones may be left out
    pub for_leaving_out : Withdrawable m.kinds.zones (arcs_of ts hs) gone
    for_leaving_out =
        rw (kinds_placed A.map).zones (record { below = G.fine.below; free = G.fine.free })

    -- the network of the zones that remain
    abbrev N : Network
    N = handed_with m.zones ts hs gone

    -- where the rows stand both ways, and the names of each kind, the network does
    stands_both : (v : List ℕ) → Standing w v m ts hs → Holds v m.lists.sources (sources N) →
        Holds v m.lists.sinks (sinks N) → Holds v m.lists.alone (alone N) → BothWays v m N
    unfolding handed_with
    stands_both v S s t q =
        let p = placed A.map in
        let back = handed_turned m.zones ts hs gone in
        record {
          given =
              record {
                proper = fine_with_proper m.zones ts hs gone G.fine;
                numbered = λ z i. omega (arith, (remaining_in m.zones gone i).0, p.rows_zones);
                arranged = S.rows;
                fits = omega (arith, rows_fit m ts hs w A, A.room, S.long);
                sources_held = s;
                sinks_held = t;
                alone_held = q;
              };
          turned_round = rw back S.turned;
          turned_fits = rw back (omega (arith, turned_fit m ts hs w A, A.room, S.long));
        }

    -- the components are named in w₂
    module _ {w₂ : List ℕ} {c : ℕ} (C : Components w₁ w₂ m (network_of m.zones (arcs_of ts hs)) c) where
      -- what lies before the names is zero
      zero_before : (i : ℕ) → i < m.names.tops → get_or w₂ i 0 ≡ 0
      zero_before i l =
          let p = placed A.map in
          let o = names_placed A.map in
          at_below w₁ w₂ m.names.tops i (omega arith) C.front ∙ readied_zero R i (omega arith)

      -- the kinds may be found and listed
      pub for_listing : Nameable m.kinds m.lists ts hs w₂
      for_listing =
          let p = placed A.map in
          let o = names_placed A.map in
          let k = kinds_placed A.map in
          let l = lists_placed A.map in
          record {
            small = omega (arith, A.fine.accepted.zones_most);
            apart =
                record {
                  entered_low = omega arith;
                  exited_low = omega arith;
                  sources_low = omega arith;
                  names_low = omega arith;
                  sinks_low = omega arith;
                };
            fits = omega (arith, long_enough, C.long);
            pairs = A.fine.paired;
            between = rw k.zones (arcs_within m.zones ts hs A.fine);
            named = rw (k.zones, k.names ∙ sym o.names) C.named;
            entered_clear = λ v h. zero_before (m.kinds.entered + v) (omega arith);
            exited_clear = λ v h. zero_before (m.kinds.exited + v) (omega arith);
          }

      -- the rows stand, and the names of each kind
      pub surveyed : {w₃ : List ℕ} {r : Counts} →
          Listed m.kinds m.lists (network_with m.kinds.zones (arcs_of ts hs) gone) r w₂ w₃ →
          Surveyed w w₃ m N r
      unfolding handed_with
      surveyed {w₃} {r} K =
          let p = placed A.map in
          let k = kinds_placed A.map in
          let l = lists_placed A.map in
          let L =
          subst (λ (n : ℕ). Listed m.kinds m.lists (network_with n (arcs_of ts hs) gone) r w₂ w₃) k.zones K
          in
          let named : drop m.rows.starts w₂ ≡ drop m.rows.starts w₁ = C.back in
          let S : Standing w w₃ m ts hs =
          standing_kept m ts hs w A w w₁ w₃ (L.long ∙ C.long)
          (drop_deeper w₂ w₃ (m.lists.alone + m.kinds.zones) m.rows.starts (omega arith) L.back ∙ named)
          R.standing
          in
          record {
            long = S.long;
            beyond = S.beyond;
            both_ways = stands_both w₃ S L.sources_held L.sinks_held L.alone_held;
            sources_are = L.sources_are;
            sinks_are = L.sinks_are;
            alone_are = L.alone_are;
          }
