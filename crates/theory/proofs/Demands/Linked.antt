-- What demand 2 says of the links of a plan, over any lists that hold them: for PLAN over lists and over records.
--   Smallest i es need     the arcs es are need many, no more than the zones that remain; each joins two distinct zones
--                          that remain; with them the network i is strong, and no smaller list makes it so
--   plan_smallest          the arcs of the plan are so
--   smallest_spares        none of them is at a withdrawn zone
--   columns_arcs           the starts and the ends of links, as two lists of arcs, are the links' arcs
--   extended i us vs       the network i with the arcs of two more lists handed in after its own; its withdrawn numbers
--                          stay
--   extended_strong        STRONG called on a network with the plan's links added says yes
--   extended_refused       it refuses for ARCS or for ROOM only, and for ARCS where there are more than 4,096 arcs
--   same_counts            networks with the same plan have the same numbers in its answer
--   one_zone_strong        a network of which no second zone remains is strong
-- Two more lists that hold the plan's links add them to the arcs, so the theorems on the rules' plan say it all; the
-- links join distinct zones that remain, so of the tests only that of the arc count can fail. Assumes nothing.
use Prim.Native.Nat.{ℕ, ◌≤◌, ◌<◌}
use native.Mathlib.Omega.{arith}
use mathlib.Core.Path.{◌≡◌, refl, sym, ap, ◌∙◌}
use mathlib.Core.Logic.{◌⊎◌, inl, inr, ◌≢◌}
use mathlib.Core.Bool.{Bool, true, false, not}
use mathlib.Core.Option.{some}
use mathlib.Core.List.Memᴰ
use mathlib.Core.List.{List, [], ◌∷◌, ◌++◌, map, zip_with, Memᴰ as In}
use lib.ListN.{length, length-append, length-map}
use lib.Dec.{ltb, eqb}
use borrow.Author.Tests.{ltb-true, ltb-false, eqb-true, eqb-false, lt-ltb, le-ltb, eq-eqb, ne_eqb}
use Rattle.std.specs.Prelude.{Ok, Err}
use Rattle.rules.specs.declared.Trouble.{Trouble}
use Rattle.rules.specs.declared.TroubleKind.TheVariants.{Arcs, Room}
use Rattle.rules.specs.Answers.{refusal}
use Rattle.rules.specs.Network.{Arc, ◌⟶◌, Network, remaining, network_with, added, same, Strong}
use Rattle.rules.specs.File.{zones_bad}
use Rattle.rules.specs.Plan.{Link, link_arc, link_starts, link_ends, with_links, plan, plan_need}
use Rattle.rules.specs.Calls.{Test, first_trouble, arcs_of, handed_with, strong_trouble}
use Rattle.theory.proofs.Ground.Bools.{bool_cases}
use Rattle.theory.proofs.Ground.Lists.{map_in}
use Rattle.theory.proofs.Ground.Few.{two_in}
use Rattle.theory.proofs.Ground.ArcLists.{arcs_length, arcs_join}
use Rattle.theory.proofs.Reaching.Components.{names_zone}
use Rattle.theory.proofs.Planning.Fewest.{need_fewest}
use Rattle.theory.proofs.Planning.Few.{need_few}
use Rattle.theory.proofs.Planning.PlanStrong.{plan_strong}
use Rattle.theory.proofs.Planning.PlanCount.{plan_length, plan_ends}
use Rattle.theory.proofs.Planning.PlanSame.{SamePlan}
use Rattle.theory.proofs.Files.Troubles.{goes_on, stops}
use Rattle.theory.proofs.Demands.Calls.{HandedIn, network, Remains, tests_of, IsAccepted, StrongCall}
use Rattle.theory.proofs.Demands.Answers.{PlanCounts, strong_refused_when}
use Rattle.theory.proofs.Demands.Accepts.{accepted_proper, remains_in, Spares, remain_spares, strong_room}
use Rattle.theory.proofs.Demands.Questions.{strong_says}

-- the arcs es are need many, and no more than the zones that remain; with them the network is strong, which no smaller
-- list makes it; and each joins two distinct zones that remain
pub record Smallest (i : HandedIn) (es : List Arc) (need : ℕ) : Type 0 where
  pub count : length es ≡ need
  pub few : need ≤ length (remaining i.zones i.gone)
  pub strong : Strong (added (network i) es)
  pub fewest : (fs : List Arc) → Strong (added (network i) fs) → need ≤ length fs
  pub distinct : (e : Arc) → In e es → Remains i e.tail × Remains i e.head × (e.tail ≢ e.head)

-- the arcs of the plan are so
pub plan_smallest : {i : HandedIn} → IsAccepted i → {es : List Arc} {need : ℕ}
    → es ≡ map link_arc (plan (network i)) → need ≡ plan_need (network i) → Smallest i es need
unfolding handed_with
plan_smallest {i} a links need =
    let N = network i in
    let P = accepted_proper i a in
    record {
      count = ap length links ∙ length-map (plan N) link_arc ∙ plan_length P ∙ sym need;
      few = rw need (need_few (network i));
      strong = rw links (plan_strong P);
      fewest = λ fs S. rw need (need_fewest P fs S);
      distinct = λ e m.
          let l = map_in link_arc (plan N) (rw links at m) in
          let k = plan_ends P l.0 l.1 in
          rw l.2 ((names_zone N k.0).0, (names_zone N k.1).0, k.2);
    }

-- none of them is at a withdrawn zone
pub smallest_spares : {i : HandedIn} {es : List Arc} {need : ℕ} → Smallest i es need → Spares i es
smallest_spares {i} S = remain_spares i (λ e m. let d = S.distinct e m in (d.0, d.1))

-- the arcs of the starts and the ends of links are the links' arcs
pub columns_arcs : (ps : List Link) → arcs_of (link_starts ps) (link_ends ps) ≡ map link_arc ps
unfolding arcs_of zip_with
columns_arcs [] = refl
columns_arcs (p ∷ ps) = ap (λ (es : List Arc). (p.start ⟶ p.end) ∷ es) (columns_arcs ps)

-- the network i with the arcs of two more lists handed in after its own
abbrev pub extended : HandedIn → List ℕ → List ℕ → HandedIn
extended i us vs = record { zones = i.zones; tails = i.tails ++ us; heads = i.heads ++ vs; gone = i.gone }

-- two more lists for a network that a call accepts, which hold its plan's links
module _ {i : HandedIn} (a : IsAccepted i) (us vs : List ℕ) (paired : length us ≡ length vs)
    (links : arcs_of us vs ≡ map link_arc (plan (network i))) where
  -- they add the links to the arcs
  extended_arcs : arcs_of (i.tails ++ us) (i.heads ++ vs)
      ≡ arcs_of i.tails i.heads ++ map link_arc (plan (network i))
  extended_arcs =
      arcs_join i.tails i.heads us vs a.fine.paired
      ∙ ap (λ (es : List Arc). arcs_of i.tails i.heads ++ es) links

  -- so the network is the one with the plan's links
  extended_network : network (extended i us vs) ≡ with_links (network i) (plan (network i))
  unfolding handed_with
  extended_network = ap (λ (es : List Arc). network_with i.zones es i.gone) extended_arcs

  -- STRONG called on it says yes
  pub extended_strong : (d : StrongCall (extended i us vs)) {b : Bool} → d.answer ≡ Ok b → b ≡ true
  extended_strong d e =
      (strong_says d e).yes_when.1 (rw extended_network (plan_strong (accepted_proper i a)))

  -- the ends of the plan's links are two distinct zones that remain
  link_zones : {x y : ℕ} → In (x ⟶ y) (map link_arc (plan (network i))) → Remains i x × Remains i y × (x ≢ y)
  link_zones m = (plan_smallest a refl refl).distinct _ m

  -- an arc of the longer lists is one of the network or one of the plan
  arc_cases : {x y : ℕ} → In (x ⟶ y) (arcs_of (i.tails ++ us) (i.heads ++ vs))
      → In (x ⟶ y) (arcs_of i.tails i.heads) ⊎ In (x ⟶ y) (map link_arc (plan (network i)))
  arc_cases m = Memᴰ.append_cases (arcs_of i.tails i.heads) (rw extended_arcs at m)

  -- a call accepts it where it has at most 4,096 arcs
  pub extended_accepted : length (i.tails ++ us) ≤ 4096 → IsAccepted (extended i us vs)
  extended_accepted few =
      let t = length-append i.tails us in
      let h = length-append i.heads vs in
      let both : length (i.tails ++ us) ≡ length (i.heads ++ vs) = omega (arith, t, h, a.fine.paired) in
      let A = a.fine.accepted in
      record {
        fine =
            record {
              paired = both;
              accepted =
                  record {
                    zones_least = A.zones_least;
                    zones_most = A.zones_most;
                    arcs_most = omega (arith, arcs_length (i.tails ++ us) (i.heads ++ vs) both);
                    tails = λ m. elim (arc_cases m) [ inl o ↦ A.tails o | inr o ↦ (remains_in i (link_zones o).0).0 ];
                    heads = λ m. elim (arc_cases m) [ inl o ↦ A.heads o | inr o ↦ (remains_in i (link_zones o).1).0 ];
                    apart = λ m. elim (arc_cases m) [ inl o ↦ A.apart o | inr o ↦ (link_zones o).2 ];
                  };
            };
        ascending = a.ascending;
        below = a.below;
        remains = a.remains;
        free =
            record {
              tails = λ m. elim (arc_cases m) [ inl o ↦ a.free.tails o | inr o ↦ (remains_in i (link_zones o).0).1 ];
              heads = λ m. elim (arc_cases m) [ inl o ↦ a.free.heads o | inr o ↦ (remains_in i (link_zones o).1).1 ];
            };
      }

  -- where it has more, ARCS is the first trouble of every call
  extended_many : 4096 < length (i.tails ++ us) → (more : List Test)
      → first_trouble (tests_of (extended i us vs) ++ more) ≡ some (refusal Arcs 0)
  unfolding arcs_of
  extended_many many more =
      let t = length-append i.tails us in
      let h = length-append i.heads vs in
      let both = eq-eqb (length (i.tails ++ us)) (length (i.heads ++ vs)) (omega (arith, t, h, a.fine.paired)) in
      let some_zone : i.zones ≡ 0 → ⊥ = λ z. omega (arith, z, a.fine.accepted.zones_least) in
      let zones : zones_bad i.zones ≡ false =
      rw (ne_eqb i.zones 0 some_zone, le-ltb 1024 i.zones a.fine.accepted.zones_most) in
      goes_on _ _ (ap not both) ∙ goes_on _ _ zones ∙ stops _ _ (lt-ltb 4096 (length (i.tails ++ us)) many)

  -- STRONG called on it refuses for ARCS only where there are more than 4,096 arcs, and else for ROOM
  pub extended_refused : (d : StrongCall (extended i us vs)) {r : Trouble} → d.answer ≡ Err r
      → ((r ≡ refusal Arcs 0) × (4096 < length (i.tails ++ us))) ⊎ (r ≡ refusal Room 0)
  unfolding strong_trouble
  extended_refused d {r} e =
      elim (bool_cases (ltb 4096 (length (i.tails ++ us)))) [
        | inl b ↦
            let many = ltb-true 4096 (length (i.tails ++ us)) b in
            let first : some (refusal Arcs 0) ≡ some r = sym (extended_many many _) ∙ (strong_refused_when d).0 e in
            inl (cc, many)
        | inr b ↦ inr (strong_room (extended_accepted (ltb-false 4096 (length (i.tails ++ us)) b)) d e)
      ]

-- networks with the same plan have the same numbers in its answer
pub same_counts : {M N : Network} → SamePlan M N → {s t q p need : ℕ} → PlanCounts M s t q p need
    → PlanCounts N s t q p need
same_counts S c = record {
  sources_are = c.sources_are ∙ ap length S.same_sources;
  sinks_are = c.sinks_are ∙ ap length S.same_sinks;
  alone_are = c.alone_are ∙ ap length S.same_alone;
  pairs_are = c.pairs_are ∙ S.same_pairs;
  need_is = c.need_is ∙ S.same_need;
}

-- a network of which no second zone remains is strong
pub one_zone_strong : (i : HandedIn) → length (remaining i.zones i.gone) ≤ 1 → Strong (network i)
unfolding handed_with
one_zone_strong i one x y m k =
    elim (bool_cases (eqb x y)) [
      | inl e ↦ same (eqb-true x y e)
      | inr e ↦ absurd (omega (arith, one, two_in _ m k (eqb-false x y e)))
    ]
