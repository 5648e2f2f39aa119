-- `joined` meets its contract. The lowest zone that is not withdrawn is one that remains. The first sweep leaves the
-- rows, the turned rows and the second marks as they were, so the second can go, and clearing leaves what came behind.
-- Assumes nothing.
use native.Mathlib.Omega.{arith}
use Prim.Native.Nat.{ℕ, ◌+◌, ◌<◌}
use mathlib.Core.Path.{◌≡◌, ◌∙◌}
use mathlib.Core.Bool.{Bool, ◌&&◌}
use mathlib.Core.List.{List, Memᴰ as In}
use lib.ListN.{get_or}
use Rattle.rules.specs.Lists.{cleared}
use Rattle.rules.specs.Network.{remaining, strong}
use Rattle.rules.specs.Calls.{handed_with}
use Rattle.theory.proofs.Withdrawn.Remaining.{remaining_in}
use Rattle.workmap.specs.declared.Map.{Map}
use Rattle.workmap.proofs.Places.{placed, searches_placed}
use Rattle.memory.proofs.Cleared.{cleared_back}
use Rattle.arranged.specs.Ready.{Standing, Stood}
use Rattle.arranged.proofs.ReadyLaws.{stood_standing, stood_zero}
use Rattle.search.specs.Marking.{Clear}
use Rattle.search.proofs.Keeping.{kept_at}
use Rattle.withdrawn.specs.Withdrawn.{ReadyWith, Lowest}
use Rattle.withdrawn.proofs.Fronts.{lowest_remains}
use Rattle.reaching.specs.Questions.{Answered}
use Rattle.reaching.proofs.Memory.{rows_searchable}
use Rattle.strength.specs.Marks.{Swept}
use Rattle.strength.proofs.Memory.{kept_standing, turned_searchable}
use Rattle.strength.proofs.Truth.{joined_truth}
use Rattle.strength.proofs.joined.Goals as goal

module _ {m : Map} {ts hs gone w : List ℕ} (P : ReadyWith m ts hs gone w) where
  -- the lowest zone that is not withdrawn remains
  remains : {z : ℕ} → Lowest gone z → In z (remaining m.zones gone)
  remains L = lowest_remains m.zones gone P.fine.remains.1 L

  -- so it is a zone
  zone : {z : ℕ} → Lowest gone z → z < m.zones
  zone L = (remaining_in m.zones gone (remains L)).0

  -- what arranging left, in a memory that was cleared up to the second queue
  module _ {w₁ w₂ : List ℕ} (C : w₁ ≡ cleared m.back.queue w) (B : Stood w₁ w₂ m ts hs) where
    stood_here : Stood (cleared m.back.queue w) w₂ m ts hs
    stood_here = rw C at B

    -- both directions stand
    standing_first : Standing w w₂ m ts hs
    standing_first =
        let p = placed P.ready.map in
        let q = searches_placed P.ready.map in
        stood_standing m ts hs w P.ready w₂ m.back.queue (omega arith) stood_here

    -- what lies below the second queue is zero
    zero_first : (i : ℕ) → i < m.back.queue → get_or w₂ i 0 ≡ 0
    zero_first i h =
        let p = placed P.ready.map in
        let q = searches_placed P.ready.map in
        stood_zero m ts hs w P.ready w₂ m.back.queue (omega arith) stood_here i h

    -- the first sweep is done
    module _ {from : ℕ} {yes : Bool} {w₃ : List ℕ} (D : Swept w₂ w₃ m.rows m.search from gone yes) where
      -- both directions stand still
      standing_here : Standing w w₃ m ts hs
      standing_here =
          let p = placed P.ready.map in
          let q = searches_placed P.ready.map in
          kept_standing m ts hs w P.ready w w₂ w₃ m.search.marks m.search.queue m.rows.zones (omega arith) D.kept
          standing_first

      -- the marks of the second sweep are clear
      clear_here : Clear w₃ m.back.marks m.turned.zones
      clear_here v h =
          let p = placed P.ready.map in
          let q = searches_placed P.ready.map in
          kept_at w₂ w₃ m.search.marks m.search.queue m.rows.zones D.kept (m.back.marks + v) (omega arith)
          ∙ zero_first (m.back.marks + v) (omega arith)

      -- and with the second sweep, both answers together say whether the network is strong
      joined_here : Lowest gone from → {back : Bool} {w₄ w₅ : List ℕ} → Swept w₃ w₄ m.turned m.back from gone back →
          w₅ ≡ cleared m.asked w₄ → Answered (yes && back) (strong (handed_with m.zones ts hs gone)) m.asked w w₅
      joined_here L {back} {w₄} E e =
          let p = placed P.ready.map in
          let q = searches_placed P.ready.map in
          let after =
          kept_standing m ts hs w P.ready w w₃ w₄ m.back.marks m.back.queue m.turned.zones (omega arith) E.kept
          standing_here in
          record {
            answer =
                joined_truth m.zones ts hs gone P.fine from (remains L) w w₂ w₃ w₃ w₄ m m.search m.back yes back
                p.rows_zones p.turned_zones standing_first standing_here D E;
            work = e ∙ cleared_back m.asked w w₄ after.beyond;
          }

pub sweep-there-requires : goal.sweep-there-requires
sweep-there-requires c =
    let a = c.args in
    let P = c.requires in
    let w = c.both_ways.new.work in
    let p = placed P.ready.map in
    let q = searches_placed P.ready.map in
    let C = c.clear.ensures in
    let B = c.both_ways.ensures in
    let S = standing_first P C B in
    let clear : Clear w a.m.search.marks a.m.rows.zones = λ v h. zero_first P C B _ (omega arith) in
    record {
      able =
          rows_searchable a.m a.net.tails.now a.net.heads.now a.work.now P.ready w
          S.long a.m.search (omega arith) (omega arith) _
          (omega (arith, zone P c.lowest-from.ensures, P.ready.fine.accepted.zones_least))
          clear S.rows;
      clear = clear;
      zones = λ z i. rw p.rows_zones (P.fine.below z i);
    }

pub sweep-back-requires : goal.sweep-back-requires
sweep-back-requires c =
    let a = c.args in
    let P = c.requires in
    let p = placed P.ready.map in
    let q = searches_placed P.ready.map in
    let S = standing_here P c.clear.ensures c.both_ways.ensures c.sweep-there.ensures in
    let clear = clear_here P c.clear.ensures c.both_ways.ensures c.sweep-there.ensures in
    record {
      able =
          turned_searchable a.m a.net.tails.now a.net.heads.now a.work.now P.ready c.sweep-there.new.work
          S.long a.m.back (omega arith) (omega arith) _
          (omega (arith, zone P c.lowest-from.ensures, P.ready.fine.accepted.zones_least))
          clear S.turned;
      clear = clear;
      zones = λ z i. rw p.turned_zones (P.fine.below z i);
    }

pub returns-then-there : goal.returns-then-there
returns-then-there c =
    rw c.if-there.true
    at (joined_here c.requires c.clear.ensures c.both_ways.ensures c.sweep-there.ensures c.lowest-from.ensures
    c.sweep-back.ensures c.clear-2.ensures)

pub returns-else-there : goal.returns-else-there
returns-else-there c =
    rw c.if-there.false
    (rw c.if-there.false
    at (joined_here c.requires c.clear.ensures c.both_ways.ensures c.sweep-there.ensures c.lowest-from.ensures
    c.sweep-back.ensures c.clear-2.ensures))
