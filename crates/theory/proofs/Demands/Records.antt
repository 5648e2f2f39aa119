-- Demands 2 and 3, of PLAN over records: what it puts out.
--   records_counts          its answer has s, t, q, p and the number of links of the rules
--   records_leaves          PLAN that ends with DONE leaves the rules' plan, record by record, in what was lent
--   records_front           the first need records are the plan's
--   records_front_columns         and, column by column, its starts, ends and whys
--   records_out c need      the links that it put out, as arcs
--   records_smallest        with them every zone that remains reaches every other, no smaller set does that, they are
--                           no more than the zones that remain, and each joins two distinct ones
--   records_spare           none of them is at a withdrawn zone
--   records_none            an already strong network gets no link, and the records stay as they came
--   records_one_zone        one zone that remains alone included
--   strong_after_records    STRONG called on the network with the links added says yes
--   same_skeleton_records   networks of which SKELETON left the same, with equal withdrawn numbers, get the same answer
--                           and the same records
-- The call leaves what the rules say, and the theorems are of the rules' plan. Assumes nothing.
use Prim.Native.Nat.{ℕ, ◌<◌, ◌≤◌}
use mathlib.Core.Path.{◌≡◌, refl, sym, ap, ap₂, ◌∙◌}
use mathlib.Core.Logic.{◌⊎◌}
use mathlib.Core.Bool.{Bool, true}
use mathlib.Core.List.{List, [], ◌∷◌, map}
use lib.ListN.{length, take, length-map}
use Rattle.rules.specs.Answers.{plan_done}
use Rattle.std.specs.Prelude.{Ok, Err}
use Rattle.rules.specs.declared.Trouble.{Trouble}
use Rattle.rules.specs.declared.TroubleKind.TheVariants.{Arcs, Room}
use Rattle.rules.specs.declared.Link.{Link as RecordLink}
use Rattle.rules.specs.declared.Why.{Why as RecordWhy}
use Rattle.rules.specs.Lists.{over}
use Rattle.rules.specs.Answers.{refusal}
use Rattle.rules.specs.Network.{Arc, remaining, Proper, Strong}
use Rattle.rules.specs.Plan.{Link, link_arc, link_starts, link_ends, why_of, record_of, plan}
use Rattle.rules.specs.Calls.{arcs_of}
use Rattle.theory.proofs.Ground.Storing.{over_front}
use Rattle.theory.proofs.Reaching.Reach.{strong_complete}
use Rattle.theory.proofs.Planning.Fewest.{strong_needs_none}
use Rattle.theory.proofs.Planning.PlanStrong.{plan_of_strong}
use Rattle.theory.proofs.Planning.PlanCount.{plan_length}
use Rattle.theory.proofs.Planning.PlanSame.{SamePlan, plan_of_skeleton}
use Rattle.theory.proofs.Demands.Calls.{HandedIn, network, StrongCall, SkeletonCall, RecordsCall}
use Rattle.theory.proofs.Demands.Answers.{PlanCounts, records_done_when}
use Rattle.theory.proofs.Demands.Accepts.{accepted_proper, Spares, records_accepts}
use Rattle.theory.proofs.Demands.Skeletons.{skeleton_left, same_skeletons}
use Rattle.theory.proofs.Demands.Linked.{Smallest, plan_smallest, extended, extended_strong, extended_refused}
use Rattle.theory.proofs.Demands.Linked.{smallest_spares, columns_arcs, same_counts, one_zone_strong}

-- the columns of records
abbrev pub record_starts : List RecordLink → List ℕ
record_starts ls = map (λ (l : RecordLink). l.from) ls

abbrev pub record_ends : List RecordLink → List ℕ
record_ends ls = map (λ (l : RecordLink). l.to) ls

abbrev pub record_whys : List RecordLink → List RecordWhy
record_whys ls = map (λ (l : RecordLink). l.why) ls

-- a column of the records of links is a column of the links
column : {A : Type 0} (f : RecordLink → A) (g : Link → A) → ((l : Link) → f (record_of l) ≡ g l) → (ps : List Link)
    → map f (map record_of ps) ≡ map g ps
column f g e [] = refl
column f g e (p ∷ ps) = λ j. e p j ∷ column f g e ps j

-- the links that PLAN put out, as arcs: of the first need records
abbrev pub records_out : {i : HandedIn} → RecordsCall i → ℕ → List Arc
records_out c need = arcs_of (record_starts (take need c.left)) (record_ends (take need c.left))

-- the network with these links handed in after its arcs
abbrev pub with_records_out : {i : HandedIn} → RecordsCall i → ℕ → HandedIn
with_records_out {i} c need = extended i (record_starts (take need c.left)) (record_ends (take need c.left))

module _ {i : HandedIn} (c : RecordsCall i) {s t q p need : ℕ} (e : c.answer ≡ plan_done s t q p need) where
  -- the network is proper
  proper : Proper (network i)
  proper = accepted_proper i (records_accepts c e)

  -- the answer has s, t, q, p and the number of links of the rules
  pub records_counts : PlanCounts (network i) s t q p need
  records_counts = ((records_done_when c).0 e).1

  -- the rules' plan, record by record, is in front, and past it what was there
  pub records_leaves : c.left ≡ over (map record_of (plan (network i))) c.lent
  records_leaves = rw ((records_done_when c).0 e).0 at c.promise.links_left

  -- so the first records, as many as the answer says, are the plan's
  pub records_front : take need c.left ≡ map record_of (plan (network i))
  records_front =
      ap (take need) records_leaves
      ∙ over_front _ c.lent
      (records_counts.need_is ∙ sym (plan_length proper) ∙ sym (length-map (plan (network i)) record_of))

  -- and, column by column, its starts, ends and whys
  pub records_front_columns :
      (record_starts (take need c.left) ≡ link_starts (plan (network i)))
      × (record_ends (take need c.left) ≡ link_ends (plan (network i)))
      × (record_whys (take need c.left) ≡ map (λ (l : Link). why_of l.why) (plan (network i)))
  records_front_columns = (
    ap record_starts records_front ∙ column _ _ (λ l. refl) (plan (network i)),
    ap record_ends records_front ∙ column _ _ (λ l. refl) (plan (network i)),
    ap record_whys records_front ∙ column _ _ (λ l. refl) (plan (network i)),
  )

  -- what PLAN put out are the plan's links
  pub records_out_plan : records_out c need ≡ map link_arc (plan (network i))
  records_out_plan = ap₂ arcs_of records_front_columns.0 records_front_columns.1 ∙ columns_arcs (plan (network i))

  -- with them every zone that remains reaches every other, no smaller set does that, they are no more than the zones
  -- that remain, and each joins two distinct ones
  pub records_smallest : Smallest i (records_out c need) need
  records_smallest = plan_smallest (records_accepts c e) records_out_plan records_counts.need_is

  -- none of them is at a withdrawn zone
  pub records_spare : Spares i (records_out c need)
  records_spare = smallest_spares records_smallest

  -- an already strong network gets no link, and the records stay as they came
  pub records_none : Strong (network i) → (need ≡ 0) × (c.left ≡ c.lent)
  records_none S =
      let yes = strong_complete proper S in (
        records_counts.need_is ∙ strong_needs_none (network i) yes,
        records_leaves
            ∙ ap (λ (ps : List Link). over (map record_of ps) c.lent) (plan_of_strong (network i) yes),
      )

  -- one zone that remains alone included
  pub records_one_zone : length (remaining i.zones i.gone) ≤ 1 → (need ≡ 0) × (c.left ≡ c.lent)
  records_one_zone one = records_none (one_zone_strong i one)

  -- the two columns are of one length
  columns_paired : length (record_starts (take need c.left)) ≡ length (record_ends (take need c.left))
  columns_paired = length-map (take need c.left) _ ∙ sym (length-map (take need c.left) _)

  -- STRONG called on the network with the links added says yes
  pub strong_after_records : (d : StrongCall (with_records_out c need)) {b : Bool} → d.answer ≡ Ok b
      → b ≡ true
  strong_after_records = extended_strong (records_accepts c e) _ _ columns_paired records_out_plan

  -- it refuses for ARCS only where there are more than 4,096 arcs with them, and else for ROOM
  pub strong_after_records_refused : (d : StrongCall (with_records_out c need)) {r : Trouble}
      → d.answer ≡ Err r
      → ((r ≡ refusal Arcs 0) × (4096 < length (with_records_out c need).tails)) ⊎ (r ≡ refusal Room 0)
  strong_after_records_refused = extended_refused (records_accepts c e) _ _ columns_paired records_out_plan

-- networks of which SKELETON left the same, with equal withdrawn numbers, get from PLAN the same answer, and the same
-- records where the same were lent
pub same_skeleton_records : {i j : HandedIn} (c : SkeletonCall i) (d : SkeletonCall j) {k l : ℕ}
    → c.answer ≡ Ok k → d.answer ≡ Ok l → skeleton_left c k ≡ skeleton_left d l
    → (x : RecordsCall i) (y : RecordsCall j) {s t q p need : ℕ} → x.answer ≡ plan_done s t q p need
    → {s' t' q' p' need' : ℕ} → y.answer ≡ plan_done s' t' q' p' need' → x.lent ≡ y.lent
    → (x.answer ≡ y.answer) × (x.left ≡ y.left)
same_skeleton_records {i} {j} c d done_c done_d same x y done_x done_y lent =
    let both = same_skeletons c d done_c done_d same in
    let S : SamePlan (network i) (network j) =
    plan_of_skeleton (proper x done_x) (proper y done_y) both.0 both.1 in
    let none_y = ((records_done_when y).0 done_y).0 in (
      done_x ∙ sym ((records_done_when y).1 (none_y, same_counts S (records_counts x done_x))),
      records_leaves x done_x
          ∙ ap₂ (λ (ps : List Link) (l : List RecordLink). over (map record_of ps) l) S.same_plan lent
          ∙ sym (records_leaves y done_y),
    )
