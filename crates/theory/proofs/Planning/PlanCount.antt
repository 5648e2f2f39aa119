-- The plan has exactly the number of links that its answer carries, and each joins two distinct zones.
--   plan_length          max(s, t) + q links, or none for a strong network
--   plan_ends            each link joins two distinct names
--   plan_fewest          no list of arcs that makes the network strong is shorter than the plan;
--   plan_fewest_links    nor any list of links
-- A network that is not strong has a pair, or no source, no sink and two components alone; so the links of its
-- ordering are counted and joined as `OrderingLinks` says. Where s > t the same holds of the network turned round,
-- whose sources are the sinks, and a link turned round has the same ends. Assumes nothing.
use Prim.Native.Nat.{ℕ, ◌+◌, ◌≤◌, max}
use mathlib.Core.Path.{◌≡◌, refl, sym, ap, subst, ◌∙◌}
use mathlib.Core.Bool.{false}
use mathlib.Core.Logic.{◌⊎◌, inl, inr, ◌≢◌}
use mathlib.Core.List.Memᴰ
use mathlib.Core.List.{List, [], ◌∷◌, map, Memᴰ as In}
use native.Mathlib.Omega.{arith}
use lib.ListN.{length, length-map}
use Rattle.rules.specs.Network.{Arc, Network, added, Proper, Strong, reaches, strong}
use Rattle.rules.specs.Components.{names, sources, sinks, alone}
use Rattle.rules.specs.Plan.{Link, link_arc, with_links, turned, turned_link, is_upright, ordering}
use Rattle.rules.specs.Plan.{upright_plan, plan, plan_need}
use Rattle.theory.proofs.Ground.Bools.{bool_cases}
use Rattle.theory.proofs.Reaching.KindLaws.{
  source_is,
  sink_is,
  alone_is,
  source_not_sink,
  source_not_alone,
  sink_not_alone,
  sinks_distinct,
  alone_distinct,
}
use Rattle.theory.proofs.Ground.Few.{length_none}
use Rattle.theory.proofs.Reaching.KindCounts.{no_source_no_sink, weak_kinds}
use Rattle.theory.proofs.Reaching.Turned.{
  turned_proper,
  turned_names,
  turned_sources,
  turned_sinks,
  turned_alone,
  turned_strong,
}
use Rattle.theory.proofs.Ground.Shuffled.{shuffled_in, in_shuffled}
use Rattle.theory.proofs.Planning.Augment.{Tied, sources_of, sinks_of}
use Rattle.theory.proofs.Planning.Pairing.{
  made_sources,
  made_sinks,
  made_sinks_distinct,
  made_source_count,
  made_sink_count,
}
use Rattle.theory.proofs.Planning.PlanStrong.{
  ordering_made,
  pairs_some,
  plan_of_strong,
  plan_of_upright,
  plan_of_turned,
  upright_true,
  upright_false,
}
use Rattle.theory.proofs.Planning.OrderingLinks.{Joins, Clear, Enough, enough_one, links_count, links_join}
use Rattle.theory.proofs.Planning.Fewest.{need_fewest, strong_needs_none, weak_need}

module _ {N : Network} (P : Proper N) where
  -- the stations of the network's ordering are names, with no sink and no component alone twice
  ordering_clear : Clear (λ z. In z (names N)) (ordering N) (alone N)
  ordering_clear =
      record {
        source_in = λ z m. (source_is N (source m)).0;
        sink_in = λ z m. (sink_is N (sink m)).0;
        alone_in = λ z m. (alone_is N m).0;
        sinks_once = made_sinks_distinct (reaches N) (ordering_made P) (sinks_distinct P);
        alone_once = alone_distinct P;
        source_no_sink = λ z m n. source_not_sink N (source m) (sink n);
        source_not_alone = λ z m n. source_not_alone N (source m) n;
        sink_not_alone = λ z m n. sink_not_alone N (sink m) n;
      }
    where
      source : {z : ℕ} → In z (sources_of (ordering N)) → In z (sources N)
      source m = in_shuffled (made_sources (reaches N) (ordering_made P)) m

      sink : {z : ℕ} → In z (sinks_of (ordering N)) → In z (sinks N)
      sink m = shuffled_in (made_sinks (reaches N) (ordering_made P)) m

  -- p and the lone sources are s
  pub sources_split : length (ordering N).pairs + length (ordering N).lone_sources ≡ length (sources N)
  sources_split = made_source_count (reaches N) (ordering_made P)

  -- p and the lone sinks are t
  pub sinks_split : length (ordering N).pairs + length (ordering N).lone_sinks ≡ length (sinks N)
  sinks_split = made_sink_count (reaches N) (ordering_made P)

  -- where there is no source there is no lone sink
  no_lone_sink : sources N ≡ [] → (ordering N).lone_sinks ≡ []
  no_lone_sink e =
      let none : length (sinks N) ≡ 0 = ap length (no_source_no_sink P e) in
      length_none (ordering N).lone_sinks (omega (arith, sinks_split))

  -- a network that is not strong has a pair, or no lone sink and two components alone
  ordering_enough : strong N ≡ false → Enough (ordering N) (alone N)
  ordering_enough weak = go (sources N) refl (weak_kinds P weak)
    where
      go : (vs : List ℕ) → sources N ≡ vs
          → (1 ≤ length (sources N)) ⊎ (2 ≤ length (alone N))
          → Enough (ordering N) (alone N)
      go [] e (inl one) = absurd (omega (arith, ap length e))
      go [] e (inr two) = inr (no_lone_sink e, two)
      go (v ∷ vs) e k = inl (pairs_some P (rw e (omega arith)))

  -- the rule for s ≤ t gives t + q links
  upright_length : strong N ≡ false → length (sources N) ≤ length (sinks N)
      → length (upright_plan N) ≡ length (sinks N) + length (alone N)
  unfolding upright_plan
  upright_length weak le =
      let count = links_count (ordering N) (alone N)
      (omega (arith, sources_split, sinks_split)) (enough_one (ordering N) (alone N) (ordering_enough weak)) in
      omega (arith, count, sinks_split)

  -- the rule's links join two distinct names
  upright_ends : strong N ≡ false → Tied (Joins (λ z. In z (names N))) (upright_plan N)
  unfolding upright_plan
  upright_ends weak = links_join (λ z. In z (names N)) (ordering N) (alone N) ordering_clear (ordering_enough weak)

-- the links that a network that is not strong gets are max(s, t) + q
weak_length : {N : Network} → Proper N → strong N ≡ false
    → length (plan N) ≡ max (length (sources N)) (length (sinks N)) + length (alone N)
weak_length {N} P weak =
    elim (bool_cases (is_upright N)) [
      | inl e ↦
          let le = upright_true N e in
          rw (plan_of_upright N weak e, upright_length P weak le) (omega arith)
      | inr e ↦
          let ge : length (sinks N) ≤ length (sources N) =
          rw (turned_sources P, turned_sinks P) at (upright_false N P e) in
          rw (plan_of_turned N weak e, length-map (upright_plan (turned N)) turned_link, turned_length e)
          (omega arith)
    ]
  where
    turned_length : is_upright N ≡ false
        → length (upright_plan (turned N)) ≡ length (sources N) + length (alone N)
    turned_length e =
        upright_length (turned_proper P) (turned_strong P ∙ weak) (upright_false N P e)
        ∙ rw (turned_sinks P, turned_alone P)

-- the plan has exactly the number of links that its answer carries: max(s, t) + q, or 0 for a strong network
pub plan_length : {N : Network} → Proper N → length (plan N) ≡ plan_need N
plan_length {N} P =
    elim (bool_cases (strong N)) [
      | inl e ↦ ap length (plan_of_strong N e) ∙ sym (strong_needs_none N e)
      | inr weak ↦ weak_length P weak ∙ sym (weak_need N weak)
    ]

-- a link turned round has the same ends
turned_ends : (P : ℕ → Type 0) (ls : List Link) → Tied (Joins P) ls → Tied (Joins P) (map turned_link ls)
unfolding turned_link
turned_ends P ls f l m =
    let r = Memᴰ.of_map turned_link ls m in
    let j = f r.0 r.1 in
    subst (λ (k : Link). Joins P k.start k.end) r.2 (j.1, j.0, λ e. j.2 (sym e))

-- the plan's links join two distinct names
plan_joins : {N : Network} → Proper N → Tied (Joins (λ z. In z (names N))) (plan N)
plan_joins {N} P =
    elim (bool_cases (strong N)) [
      | inl e ↦ rw (plan_of_strong N e) (λ l m. absurd (Memᴰ.not-nil m))
      | inr weak ↦ elim (bool_cases (is_upright N)) [
        | inl e ↦ rw (plan_of_upright N weak e) (upright_ends P weak)
        | inr e ↦
            rw (plan_of_turned N weak e, ← turned_names P)
            (turned_ends (λ z. In z (names (turned N))) (upright_plan (turned N))
            (upright_ends (turned_proper P) (turned_strong P ∙ weak)))
      ]
    ]

-- each link of the plan starts and ends at names of components, and not at the same one
pub plan_ends : {N : Network} → Proper N → (l : Link) → In l (plan N)
    → In l.start (names N) × In l.end (names N) × (l.start ≢ l.end)
plan_ends P = plan_joins P

-- the plan is a smallest set: no list of arcs that makes the network strong is shorter
pub plan_fewest : {N : Network} → Proper N → (es : List Arc) → Strong (added N es) → length (plan N) ≤ length es
plan_fewest P es S = rw (plan_length P) (need_fewest P es S)

-- and so for links: no list of links that makes the network strong is shorter than the plan
pub plan_fewest_links : {N : Network} → Proper N → (ls : List Link) → Strong (with_links N ls)
    → length (plan N) ≤ length ls
plan_fewest_links P ls S =
    rw (← length-map ls link_arc) (plan_fewest P (map link_arc ls) S)
