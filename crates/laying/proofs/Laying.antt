-- Laying a plan out: what stands in the memory is the plan, whether the network is strong or not.
--   laid_by         a memory in which the plan's links stand
--   laid_strong     a strong network has no link
--   rule_able       the rule may run on the side that was picked;   rule_laid   what it then leaves is the plan
-- Assumes nothing.
use mathlib.Core.Path.{◌≡◌, refl, sym, ap, ◌∙◌}
use mathlib.Core.Bool.{true, false}
use mathlib.Core.List.{List, [], Memᴰ as In}
use Prim.Native.Nat.{ℕ, ◌+◌, ◌≤◌, min, max}
use native.Mathlib.Omega.{arith}
use lib.ListN.{length, drop}
use Rattle.rules.specs.Network.{Network, Proper, strong}
use Rattle.rules.specs.Components.{sources}
use Rattle.rules.specs.Plan.{upright, ordering, plan, plan_pairs, plan_need}
use Rattle.rules.specs.Calls.{handed_with}
use Rattle.theory.proofs.Reaching.Reach.{strong_sound}
use Rattle.theory.proofs.Reaching.KindCounts.{strong_kinds}
use Rattle.theory.proofs.Planning.PlanStrong.{plan_of_strong}
use Rattle.theory.proofs.Planning.PlanCount.{plan_length}
use Rattle.workmap.specs.declared.Map.{Map}
use Rattle.workmap.specs.declared.Side.{Side}
use Rattle.workmap.proofs.Places.{placed}
use Rattle.memory.proofs.Places.{drop_deeper}
use Rattle.withdrawn.specs.Withdrawn.{ReadyWith}
use Rattle.kinds.specs.declared.Counts.{Counts}
use Rattle.sides.specs.Standing.{Columns}
use Rattle.sides.specs.Sides.{RuleSide}
use Rattle.connect.specs.declared.Connection.{Connection}
use Rattle.connect.specs.Connect.{Connectable, Connected}
use Rattle.theory.proofs.Planning.Few.{need_few, zones_few, sum_strong, sum_weak}
use Rattle.survey.specs.Survey.{Surveyed}
use Rattle.laying.specs.Layout.{counts_with, LaidOut}
use Rattle.laying.proofs.Upright.{upright_weak, upright_sources, upright_sinks, upright_alone}
use Rattle.laying.proofs.Upright.{upright_links, pairs_few}

-- the plan's pairs are those of the network on which the rule runs
pairs_are : (N : Network) → plan_pairs N ≡ length (ordering (upright N)).pairs
unfolding plan_pairs
pairs_are N = refl

module _
    {m : Map}
    {ts hs gone w w₁ : List ℕ}
    {k : Counts}
    (A : ReadyWith m ts hs gone w)
    (S : Surveyed w w₁ m (handed_with m.zones ts hs gone) k)
  where
    -- the network of the zones that remain
    abbrev N : Network
    N = handed_with m.zones ts hs gone

    -- it is proper
    abbrev proper : Proper N
    proper = S.both_ways.given.proper

    -- a zone remains
    zone : (z : ℕ) × In z N.zones
    unfolding handed_with
    zone = A.fine.remains

    -- the zones that remain are no more than the zone count
    zones_all : length N.zones ≤ m.zones
    zones_all =
        omega (
          arith,
          zones_few proper m.rows.zones S.both_ways.given.numbered,
          (placed A.ready.map).rows_zones,
        )

    -- a memory in which the plan's links stand
    laid_by : (w₂ : List ℕ) (c : Connection) → c.pairs ≡ plan_pairs N → c.need ≡ length (plan N) →
        Columns w₂ m.links (plan N) → length w₂ ≡ length w₁ →
        drop m.rows.starts w₂ ≡ drop m.rows.starts w₁ → LaidOut w w₂ m N (counts_with k c)
    laid_by w₂ c pairs count columns long back =
        let p = placed A.ready.map in
        let need : c.need ≡ plan_need N = count ∙ plan_length proper in
        record {
          figures =
              record {
                sources_are = S.sources_are;
                sinks_are = S.sinks_are;
                alone_are = S.alone_are;
                pairs_are = pairs;
                need_is = need;
              };
          links_are = count;
          few = omega (arith, need_few N, zones_all);
          columns = columns;
          long = long ∙ S.long;
          beyond = drop_deeper w₁ w₂ m.rows.starts m.asked (omega arith) back ∙ S.beyond;
        }

    -- a strong network has no link
    pub laid_strong : k.sources + k.sinks + k.alone ≡ 1 → {c : Connection} → c.pairs ≡ 0 → c.need ≡ 0 →
        LaidOut w w₁ m N (counts_with k c)
    laid_strong e {c} pairs need =
        let is : strong N ≡ true = sum_strong proper (omega (arith, S.sources_are, S.sinks_are, S.alone_are)) in
        let none : length (sources N) ≡ 0 = ap length (strong_kinds proper (strong_sound N is) zone.1).0 in
        let empty : plan N ≡ [] = plan_of_strong N is in
        laid_by w₁ c (omega (arith, pairs_few proper)) (need ∙ ap length (sym empty))
        (rw empty (record { starts_held = refl; ends_held = refl; whys_held = refl })) refl refl

    -- s + t + q is another number, and a side is picked
    module _
        {d : Side}
        (other : k.sources + k.sinks + k.alone ≡ 1 → ⊥)
        (D : RuleSide m k.sources k.sinks d)
      where
        -- the network is not strong
        weak : strong N ≡ false
        weak = sum_weak proper zone.1 (λ e. other (omega (arith, S.sources_are, S.sinks_are, S.alone_are)))

        -- the rule may run on the side
        pub rule_able : {s t : ℕ} → s ≡ min k.sources k.sinks → t ≡ max k.sources k.sinks →
            Connectable w₁ d s t k.alone (upright N)
        rule_able es et =
            let a = S.sources_are in
            let b = S.sinks_are in
            record {
              small = omega (arith, D.zones, (placed A.ready.map).rows_zones, A.fine.fine.accepted.zones_most);
              roomy = D.roomy;
              stands = D.stands w₁ N S.both_ways S.sources_are S.sinks_are;
              weak = upright_weak proper weak;
              order = omega arith;
              sources_are = omega (arith, upright_sources proper);
              sinks_are = omega (arith, upright_sinks proper);
              alone_are = S.alone_are ∙ sym (upright_alone proper);
            }

        -- and what it leaves is the plan
        pub rule_laid : {w₂ : List ℕ} {c : Connection} → Connected w₁ w₂ d (upright N) c →
            LaidOut w w₂ m N (counts_with k c)
        rule_laid {w₂} {c} C =
            laid_by w₂ c (C.pairs ∙ sym (pairs_are N)) (C.need ∙ upright_links proper weak)
            (D.links w₂ N weak S.sources_are S.sinks_are C.columns) C.long
            (drop_deeper w₁ w₂ (d.links.why + d.rows.zones) m.rows.starts D.below C.back)
