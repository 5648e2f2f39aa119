-- The records that PLAN leaves, and the three lists that PLAN over lists leaves, have the same links.
--   SameColumns k ..     the first k records are, column by column, the first k elements of three lists
--   records_columns       they are after PLAN over records and PLAN over lists, k being the number that is answered
-- Without a trouble both put the plan in front of what was lent; with one the answer carries no links.
-- Assumes nothing.
use mathlib.Core.Path.{◌≡◌, refl, sym, ap, subst, ◌∙◌}
use mathlib.Core.List.{List, [], ◌∷◌, map}
use mathlib.Core.Option.{Option, none, some}
use Prim.Native.Nat.{ℕ, min}
use lib.ListN.{length, get_or, take, drop, length-map}
use lib.Seq.{take_at}
use Rattle.rules.specs.Lists.{over}
use Rattle.rules.specs.declared.Trouble.{Trouble}
use Rattle.std.specs.Prelude.{Ok, Err}
use Rattle.rules.specs.Answers.{Told, PlanAnswer, plan_told}
use Rattle.rules.specs.Network.{Network}
use Rattle.rules.specs.Plan.{ring, chain, back, why_number, why_of, record_why_number, record_of, plan, plan_values}
use Rattle.rules.specs.Plan as Plan
use Rattle.rules.specs.Calls.{handed_with, says, plan_trouble, records_trouble}
use Rattle.rules.specs.Promises.{PlanPromise, RecordsPromise}
use Rattle.theory.proofs.Planning.PlanCount.{plan_length}
use Rattle.theory.proofs.Files.Accepting.{fine_with_proper}
use Rattle.rules.specs.declared.Link.{Link}
use Rattle.records.specs.Needs.{need_of}
use Rattle.records.proofs.Answering.{records_ready}
use Rattle.records.proofs.Rooms.{rooms_tested}

-- the first k records are, column by column, the first k elements of three lists
pub record SameColumns (k : ℕ) (ls : List Link) (from to why : List ℕ) : Type 0 where
  pub starts : map (λ (l : Link). l.from) (take k ls) ≡ take k from
  pub ends : map (λ (l : Link). l.to) (take k ls) ≡ take k to
  pub whys : map (λ (l : Link). record_why_number l.why) (take k ls) ≡ take k why

-- the number of the why of a link is that of its record's why
why_again : (y : Plan.Why) → record_why_number (why_of y) ≡ why_number y
why_again ring = refl
why_again chain = refl
why_again back = refl

-- a column of the records of links is the links' column
column : (f : Link → ℕ) (g : Plan.Link → ℕ) → ((l : Plan.Link) → f (record_of l) ≡ g l) → (ps : List Plan.Link) →
    map f (map record_of ps) ≡ map g ps
column f g e [] = refl
column f g e (p ∷ ps) = λ j. e p j ∷ column f g e ps j

-- so it is where both stand in front of other elements
front : (f : Link → ℕ) (g : Plan.Link → ℕ) → ((l : Plan.Link) → f (record_of l) ≡ g l) → (ps : List Plan.Link)
    (ls : List Link) (xs : List ℕ) →
    map f (take (length ps) (over (map record_of ps) ls)) ≡ take (length ps) (over (map g ps) xs)
front f g e ps ls xs =
    ap (map f) (take_at (map record_of ps) (drop (length (map record_of ps)) ls) (length ps) (length-map ps record_of))
    ∙ column f g e ps
    ∙ sym (take_at (map g ps) (drop (length (map g ps)) xs) (length ps) (length-map ps g))

-- the number of links that an answer carries is the last number that it says
need_told : (a : PlanAnswer) → need_of a ≡ get_or (plan_told a).values 4 0
need_told (Ok c) = refl
need_told (Err t) = refl

module _ (n : ℕ) (ts hs gone from to why w : List ℕ) (ls : List Link) (a b : PlanAnswer)
    {w₁ from₂ to₂ why₂ w₂ : List ℕ} {ls₁ : List Link}
    (shortest : length ls ≡ min (length from) (min (length to) (length why)))
    (P : RecordsPromise n ts hs gone ls w ls₁ w₁ (plan_told a))
    (Q : PlanPromise n ts hs gone from to why w from₂ to₂ why₂ w₂ (plan_told b)) where
  -- the first test that fails is the same
  trouble_same : plan_trouble n ts hs gone from to why w ≡ records_trouble n ts hs gone (length ls) w
  unfolding records_trouble
  trouble_same = rooms_tested n ts hs gone from to why w (length ls) shortest

  -- the last number that is said
  need_said :
      need_of a
      ≡ get_or (says 5 (records_trouble n ts hs gone (length ls) w) (plan_values (handed_with n ts hs gone))).values 4 0
  need_said = need_told a ∙ ap (λ (t : Told). get_or t.values 4 0) P.told_is

  -- the same columns, where the number of links is known
  same_at : (k : ℕ) → need_of a ≡ k → SameColumns k ls₁ from₂ to₂ why₂ →
      SameColumns (need_of a) ls₁ from₂ to₂ why₂
  same_at k e s = subst (λ (m : ℕ). SameColumns m ls₁ from₂ to₂ why₂) (sym e) s

  -- after the tests
  same_after : (t : Option Trouble) → records_trouble n ts hs gone (length ls) w ≡ t →
      SameColumns (need_of a) ls₁ from₂ to₂ why₂
  same_after (some r) e =
      same_at 0 (rw e at need_said) (record { starts = refl; ends = refl; whys = refl })
  same_after none e =
      let N : Network = handed_with n ts hs gone in
      let count = plan_length (fine_with_proper n ts hs gone (records_ready e).0.fine) in
      let f : plan_trouble n ts hs gone from to why w ≡ none = trouble_same ∙ e in
      let left = rw e at P.links_left in
      same_at (length (plan N)) (rw e at need_said ∙ sym count)
      (record {
        starts = rw (left, rw f at Q.from_left) (front _ _ (λ _. refl) (plan N) ls from);
        ends = rw (left, rw f at Q.to_left) (front _ _ (λ _. refl) (plan N) ls to);
        whys = rw (left, rw f at Q.why_left) (front _ _ (λ l. why_again l.why) (plan N) ls why);
      })

  -- PLAN over records leaves in its records what PLAN over lists leaves in front of its lists
  pub records_columns : SameColumns (need_of a) ls₁ from₂ to₂ why₂
  records_columns = same_after (records_trouble n ts hs gone (length ls) w) refl
