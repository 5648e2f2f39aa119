-- What PLAN over records gives back, from what its tests say and from what stands in the work memory.
--   front_filled     a filled front of a list leaves what stands behind it
--   records_ready    no trouble: the input passes the tests, and there are as many records as asked
--   readable         then the laid out plan can be read from its columns
--   records_done     the records are filled from there, and the work memory cleared
-- Assumes nothing.
use mathlib.Core.Path.{◌≡◌, sym, ap, ◌∙◌}
use mathlib.Core.List.{List, [], ◌∷◌, ◌++◌}
use mathlib.Core.Option.{none}
use Prim.Native.Nat.{ℕ, ◌≤◌}
use native.Mathlib.Omega.{arith}
use lib.Dec.{ltb}
use lib.ListN.{length, take, drop}
use lib.Seq.{length-take-le}
use Rattle.std.proofs.lemmas.List.{take-append-drop}
use borrow.Author.Tests.{ltb-false}
use Rattle.std.specs.Prelude.{Ok}
use Rattle.rules.specs.declared.PlanCounts.{PlanCounts}
use Rattle.rules.specs.declared.Link.{Link}
use Rattle.rules.specs.Lists.{cleared}
use Rattle.rules.specs.Answers.{plan_told}
use Rattle.rules.specs.Plan.{plan}
use Rattle.rules.specs.Calls.{network_tests, room_test, asked_work, handed_with, records_trouble}
use Rattle.rules.specs.Promises.{RecordsPromise}
use Rattle.theory.proofs.Files.Troubles.{passes, both_pass}
use Rattle.workmap.specs.declared.Map.{Map}
use Rattle.workmap.specs.declared.LinksAt.{LinksAt}
use Rattle.workmap.specs.Map.{links_at, map_of}
use Rattle.workmap.proofs.Places.{placed, links_placed}
use Rattle.memory.proofs.Cleared.{cleared_back}
use Rattle.withdrawn.specs.Withdrawn.{ReadyWith}
use Rattle.withdrawn.proofs.Readying.{tests_ready}
use Rattle.laying.specs.Layout.{LaidOut}
use Rattle.laying.proofs.Carrying.{carried}
use Rattle.columns.specs.Columns.{Readable, filled}
use Rattle.columns.proofs.FillLaws.{filled_is, filled_front}

-- the records at the front of those lent are filled, and what stands behind them is as it came
pub front_filled : (xs : List Link) (k : ℕ) (v : List ℕ) (at : LinksAt) {ls : List Link} → k ≤ length xs →
    ls ≡ filled v at (take k xs) (length (take k xs)) → ls ++ drop k xs ≡ filled v at xs k
front_filled xs k v at fits f =
    ap (λ (l : List Link). l ++ drop k xs) (rw (length-take-le k xs fits) at f)
    ∙ sym (filled_front v at (take k xs) (drop k xs) k (omega (arith, length-take-le k xs fits)))
    ∙ ap (λ (l : List Link). filled v at l k) (take-append-drop k xs)

module _ {n : ℕ} {ts hs gone w : List ℕ} where
  -- without a trouble the input passes the tests, and there are as many records as asked
  pub records_ready : {room : ℕ} → records_trouble n ts hs gone room w ≡ none →
      ReadyWith (map_of n (length ts)) ts hs gone w × (n ≤ room)
  unfolding records_trouble
  records_ready {room} e =
      let asked = asked_work n (length ts) in
      let p = both_pass (network_tests n ts hs gone) (room_test asked (length w) ∷ room_test n room ∷ []) e in
      let a = passes (ltb (length w) asked) _ _ p.1 in
      let b = passes (ltb room n) _ _ a.1 in (tests_ready n ts hs gone w p.0 a.0, ltb-false room n b.0)

  -- then the laid out plan can be read from its columns, and there are as many records as links
  pub readable : {m : Map} {w₁ : List ℕ} {l : PlanCounts} {room : ℕ} → m ≡ map_of n (length ts) →
      ReadyWith (map_of n (length ts)) ts hs gone w → n ≤ room → LaidOut w w₁ m (handed_with m.zones ts hs gone) l →
      (l.need ≤ room) × Readable w₁ m.links l.need
  readable {room = room} made R fits D =
      let r = R.ready.room in
      let b = placed made in
      let k = links_placed made in (
        omega (arith, D.few),
        λ i h.
            record {
              start_in = omega (arith, D.few, D.long);
              end_in = omega (arith, D.few, D.long);
              why_in = omega (arith, D.few, D.long);
            },
      )

  -- PLAN over records answers
  pub records_done : {m : Map} {w₁ w' : List ℕ} {l : PlanCounts} {xs ls : List Link} →
      m ≡ map_of n (length ts) → records_trouble n ts hs gone (length xs) w ≡ none →
      LaidOut w w₁ m (handed_with m.zones ts hs gone) l → ls ≡ filled w₁ m.links xs l.need →
      w' ≡ cleared m.asked w₁ → RecordsPromise n ts hs gone xs w ls w' (plan_told (Ok l))
  records_done {m} {w₁} {l = l} {xs} made e D f c =
      let L : LaidOut w w₁ (map_of n (length ts)) (handed_with n ts hs gone) l = rw made at D in
      let R = records_ready e in
      let asked : m.asked ≡ asked_work n (length ts) = ap (λ (x : Map). x.asked) made in
      record {
        told_is = rw e (carried L.figures);
        links_left =
            rw e
            (f
            ∙ ap (λ (x : Map). filled w₁ x.links xs l.need) made
            ∙ ap (λ (k : ℕ). filled w₁ (links_at n) xs k) L.links_are
            ∙ filled_is w₁ (links_at n) (plan (handed_with n ts hs gone)) L.columns.starts_held L.columns.ends_held
            L.columns.whys_held xs
            (omega (arith, L.links_are, L.few, R.1)));
        work_left = rw e (rw asked at c ∙ cleared_back (asked_work n (length ts)) w w₁ L.beyond);
      }
