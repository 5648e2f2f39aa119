-- Demands 2 and 3, of PLAN over three lists: what it puts out.
--   links_over ps l         three lists with the links ps put into them
--   plan_leaves             PLAN that ends with DONE leaves the rules' plan in the lists that were lent
--   plan_counts             its answer has s, t, q, p and the number of links of the rules
--   put_out c need          the links that it put out, as arcs: the first need elements of its lists
--   put_out_smallest        with them every zone that remains reaches every other, no smaller set does that, they are
--                           no more than the zones that remain, and each joins two distinct ones
--   put_out_spares          none of them is at a withdrawn zone
--   put_out_none            an already strong network gets no link, and the lent lists stay as they came
--   put_out_one_zone        one zone that remains alone included
--   strong_after_plan       STRONG called on the network with the links added says yes
--   strong_after_plan_refused   it refuses for ARCS (more than 4,096 arcs with them) or for ROOM only
--   same_skeleton_outputs   networks of which SKELETON left the same, with equal withdrawn numbers, get the same answer
--                           and the same lists
-- The call leaves what the rules say, and the theorems are of the rules' plan. Assumes nothing.
use Prim.Native.Nat.{ℕ, ◌<◌, ◌≤◌}
use mathlib.Core.Path.{◌≡◌, sym, ap, ap₂, ◌∙◌}
use mathlib.Core.Logic.{◌⊎◌}
use mathlib.Core.Bool.{Bool, true}
use mathlib.Core.List.{List, map}
use mathlib.Core.Option.{none}
use lib.ListN.{length, take, length-map}
use Rattle.rules.specs.Answers.{plan_done}
use Rattle.std.specs.Prelude.{Ok, Err}
use Rattle.rules.specs.declared.Trouble.{Trouble}
use Rattle.rules.specs.declared.TroubleKind.TheVariants.{Arcs, Room}
use Rattle.rules.specs.Lists.{over}
use Rattle.rules.specs.Answers.{refusal}
use Rattle.rules.specs.Network.{Arc, remaining, Proper, Strong}
use Rattle.rules.specs.Plan.{Link, link_arc, link_starts, link_ends, link_whys, plan}
use Rattle.rules.specs.Calls.{arcs_of}
use Rattle.theory.proofs.Ground.Storing.{over_front}
use Rattle.theory.proofs.Reaching.Reach.{strong_complete}
use Rattle.theory.proofs.Planning.Fewest.{strong_needs_none}
use Rattle.theory.proofs.Planning.PlanStrong.{plan_of_strong}
use Rattle.theory.proofs.Planning.PlanCount.{plan_length}
use Rattle.theory.proofs.Planning.PlanSame.{SamePlan, plan_of_skeleton}
use Rattle.theory.proofs.Demands.Calls.{HandedIn, network, LinkLists, link_lists_are, StrongCall}
use Rattle.theory.proofs.Demands.Calls.{SkeletonCall, PlanCall, plan_call_trouble}
use Rattle.theory.proofs.Demands.Answers.{PlanCounts, plan_done_when}
use Rattle.theory.proofs.Demands.Accepts.{accepted_proper, Spares, plan_accepts}
use Rattle.theory.proofs.Demands.Skeletons.{skeleton_left, same_skeletons}
use Rattle.theory.proofs.Demands.Linked.{Smallest, plan_smallest, extended, extended_strong, extended_refused}
use Rattle.theory.proofs.Demands.Linked.{smallest_spares, columns_arcs, same_counts, one_zone_strong}

-- three lists with the links ps put into them
abbrev pub links_over : List Link → LinkLists → LinkLists
links_over ps l = record {
  from = over (link_starts ps) l.from;
  to = over (link_ends ps) l.to;
  why = over (link_whys ps) l.why;
}

-- the links that PLAN put out, as arcs: the first need elements of its lists
abbrev pub put_out : {i : HandedIn} → PlanCall i → ℕ → List Arc
put_out c need = arcs_of (take need c.left.from) (take need c.left.to)

-- the network with these links handed in after its arcs
abbrev pub with_put_out : {i : HandedIn} → PlanCall i → ℕ → HandedIn
with_put_out {i} c need = extended i (take need c.left.from) (take need c.left.to)

-- without a trouble PLAN leaves the rules' plan in the lists that were lent
pub plan_leaves : {i : HandedIn} (c : PlanCall i) → plan_call_trouble c ≡ none
    → c.left ≡ links_over (plan (network i)) c.lent
plan_leaves c e =
    link_lists_are (rw e at c.promise.from_left) (rw e at c.promise.to_left) (rw e at c.promise.why_left)

module _ {i : HandedIn} (c : PlanCall i) {s t q p need : ℕ} (e : c.answer ≡ plan_done s t q p need) where
  -- the network is proper
  proper : Proper (network i)
  proper = accepted_proper i (plan_accepts c e)

  -- the answer has s, t, q, p and the number of links of the rules
  pub plan_counts : PlanCounts (network i) s t q p need
  plan_counts = ((plan_done_when c).0 e).1

  -- the lists have the rules' plan in front, and past it what was there
  pub plan_lists : c.left ≡ links_over (plan (network i)) c.lent
  plan_lists = plan_leaves c ((plan_done_when c).0 e).0

  -- the number of links is the length of a column of the plan
  column_length : (f : Link → ℕ) → need ≡ length (map f (plan (network i)))
  column_length f = plan_counts.need_is ∙ sym (plan_length proper) ∙ sym (length-map (plan (network i)) f)

  -- so the first of them, as many as the answer says, are the plan's starts, ends and whys
  pub plan_fronts :
      (take need c.left.from ≡ link_starts (plan (network i)))
      × (take need c.left.to ≡ link_ends (plan (network i)))
      × (take need c.left.why ≡ link_whys (plan (network i)))
  plan_fronts = (
    ap (λ (l : LinkLists). take need l.from) plan_lists ∙ over_front _ c.lent.from (column_length _),
    ap (λ (l : LinkLists). take need l.to) plan_lists ∙ over_front _ c.lent.to (column_length _),
    ap (λ (l : LinkLists). take need l.why) plan_lists ∙ over_front _ c.lent.why (column_length _),
  )

  -- what PLAN put out are the plan's links
  pub put_out_plan : put_out c need ≡ map link_arc (plan (network i))
  put_out_plan = ap₂ arcs_of plan_fronts.0 plan_fronts.1 ∙ columns_arcs (plan (network i))

  -- with them every zone that remains reaches every other, no smaller set does that, they are no more than the zones
  -- that remain, and each joins two distinct ones
  pub put_out_smallest : Smallest i (put_out c need) need
  put_out_smallest = plan_smallest (plan_accepts c e) put_out_plan plan_counts.need_is

  -- none of them is at a withdrawn zone
  pub put_out_spares : Spares i (put_out c need)
  put_out_spares = smallest_spares put_out_smallest

  -- an already strong network gets no link, and the lent lists stay as they came
  pub put_out_none : Strong (network i) → (need ≡ 0) × (c.left ≡ c.lent)
  put_out_none S =
      let yes = strong_complete proper S in (
        plan_counts.need_is ∙ strong_needs_none (network i) yes,
        plan_lists ∙ ap (λ (ps : List Link). links_over ps c.lent) (plan_of_strong (network i) yes),
      )

  -- one zone that remains alone included
  pub put_out_one_zone : length (remaining i.zones i.gone) ≤ 1 → (need ≡ 0) × (c.left ≡ c.lent)
  put_out_one_zone one = put_out_none (one_zone_strong i one)

  -- the two fronts are of one length
  fronts_paired : length (take need c.left.from) ≡ length (take need c.left.to)
  fronts_paired =
      ap length plan_fronts.0 ∙ sym (column_length (λ l. l.start)) ∙ column_length (λ l. l.end)
      ∙ sym (ap length plan_fronts.1)

  -- STRONG called on the network with the links added says yes
  pub strong_after_plan : (d : StrongCall (with_put_out c need)) {b : Bool} → d.answer ≡ Ok b
      → b ≡ true
  strong_after_plan = extended_strong (plan_accepts c e) _ _ fronts_paired put_out_plan

  -- it refuses for ARCS only where there are more than 4,096 arcs with them, and else for ROOM
  pub strong_after_plan_refused : (d : StrongCall (with_put_out c need)) {r : Trouble}
      → d.answer ≡ Err r
      → ((r ≡ refusal Arcs 0) × (4096 < length (with_put_out c need).tails)) ⊎ (r ≡ refusal Room 0)
  strong_after_plan_refused = extended_refused (plan_accepts c e) _ _ fronts_paired put_out_plan

-- networks of which SKELETON left the same, with equal withdrawn numbers, get from PLAN the same answer, and the same
-- lists where the same were lent
pub same_skeleton_outputs : {i j : HandedIn} (c : SkeletonCall i) (d : SkeletonCall j) {k l : ℕ}
    → c.answer ≡ Ok k → d.answer ≡ Ok l → skeleton_left c k ≡ skeleton_left d l
    → (x : PlanCall i) (y : PlanCall j) {s t q p need : ℕ} → x.answer ≡ plan_done s t q p need
    → {s' t' q' p' need' : ℕ} → y.answer ≡ plan_done s' t' q' p' need' → x.lent ≡ y.lent
    → (x.answer ≡ y.answer) × (x.left ≡ y.left)
same_skeleton_outputs {i} {j} c d done_c done_d same x y done_x done_y lent =
    let both = same_skeletons c d done_c done_d same in
    let S : SamePlan (network i) (network j) =
    plan_of_skeleton (proper x done_x) (proper y done_y) both.0 both.1 in
    let none_y = ((plan_done_when y).0 done_y).0 in (
      done_x ∙ sym ((plan_done_when y).1 (none_y, same_counts S (plan_counts x done_x))),
      plan_lists x done_x ∙ ap₂ links_over S.same_plan lent ∙ sym (plan_lists y done_y),
    )
