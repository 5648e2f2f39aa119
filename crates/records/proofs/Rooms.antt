-- The tests of three lent lists are the test of the shortest.
--   rooms_two      two lists are as long as asked exactly where the shorter one is
--   rooms_three    three lists are as long as asked exactly where the shortest one is
--   rooms_tested   the tests of PLAN over three lists are those over as many records as the shortest has elements
-- By cases on which list is too short. Assumes nothing.
use mathlib.Core.Path.{◌≡◌, sym, ap, ◌∙◌}
use mathlib.Core.Logic.{inl, inr}
use mathlib.Core.Bool.{true, false}
use mathlib.Core.Option.{Option, some}
use mathlib.Core.List.{List, [], ◌∷◌}
use Prim.Native.Nat.{ℕ, min}
use native.Mathlib.Omega.{arith}
use lib.Dec.{ltb}
use lib.ListN.{length}
use borrow.Author.Tests.{lt-ltb, le-ltb}
use Rattle.rules.specs.declared.TroubleKind.TheVariants.{Room}
use Rattle.rules.specs.declared.Trouble.{Trouble}
use Rattle.rules.specs.Answers.{refusal}
use Rattle.rules.specs.Calls.{first_trouble, network_tests, room_test, asked_work, plan_trouble, records_trouble}
use Rattle.memory.proofs.Numbers.{below?}
use Rattle.theory.proofs.Files.Troubles.{or_else, first_trouble_append}

-- two lists are as long as asked exactly where the shorter one is
rooms_two : (n a b : ℕ) →
    first_trouble (room_test n a ∷ room_test n b ∷ []) ≡ first_trouble (room_test n (min a b) ∷ [])
rooms_two n a b =
    elim (below? a n) [
      | inl l ↦ rw (lt-ltb a n l, lt-ltb (min a b) n (omega arith))
      | inr l ↦
          elim (below? b n) [
            | inl m ↦ rw (le-ltb a n l, lt-ltb b n m, lt-ltb (min a b) n (omega arith))
            | inr m ↦ rw (le-ltb a n l, le-ltb b n m, le-ltb (min a b) n (omega arith))
          ]
    ]

-- three lists are as long as asked exactly where the shortest one is
rooms_three : (n a b c : ℕ) →
    first_trouble (room_test n a ∷ room_test n b ∷ room_test n c ∷ [])
    ≡ first_trouble (room_test n (min a (min b c)) ∷ [])
rooms_three n a b c =
    ap (λ (u : Option Trouble). elim (ltb a n) [ true ↦ some (refusal Room 0) | false ↦ u ]) (rooms_two n b c)
    ∙ rooms_two n a (min b c)

-- the tests of PLAN over three lists are those over records, of which there are as many as the shortest list has
-- elements
pub rooms_tested : (n : ℕ) (ts hs gone from to why w : List ℕ) (room : ℕ) →
    room ≡ min (length from) (min (length to) (length why)) →
    plan_trouble n ts hs gone from to why w ≡ records_trouble n ts hs gone room w
unfolding plan_trouble records_trouble
rooms_tested n ts hs gone from to why w room e =
    let asked = asked_work n (length ts) in
    let before = network_tests n ts hs gone in
    let lists = room_test n (length from) ∷ room_test n (length to) ∷ room_test n (length why) ∷ [] in
    first_trouble_append before (room_test asked (length w) ∷ lists)
    ∙ ap
    (λ (u : Option Trouble).
    or_else (first_trouble before) (elim (ltb (length w) asked) [ true ↦ some (refusal Room 0) | false ↦ u ]))
    (rooms_three n (length from) (length to) (length why)
    ∙ ap (λ (k : ℕ). first_trouble (room_test n k ∷ [])) (sym e))
    ∙ sym (first_trouble_append before (room_test asked (length w) ∷ room_test n room ∷ []))
