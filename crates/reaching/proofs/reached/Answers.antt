-- `reached` meets its contract: the rows stand behind clear marks, the search marks what the zone reaches,
-- and clearing leaves what came behind. Assumes nothing.
use borrow.Author.Rules.{rules}
use native.Mathlib.Omega.{arith}
use mathlib.Core.Path.{◌≡◌, ◌∙◌}
use mathlib.Core.List.{List}
use Prim.Native.Nat.{ℕ}
use Rattle.rules.specs.Lists.{cleared}
use Rattle.rules.specs.Calls.{arcs_of}
use Rattle.workmap.specs.declared.Map.{Map}
use Rattle.workmap.proofs.Places.{placed, searches_placed}
use Rattle.memory.proofs.Cleared.{cleared_back}
use Rattle.arranged.specs.Arranged.{Arranged}
use Rattle.arranged.specs.Ready.{Readyable}
use Rattle.arranged.proofs.ReadyLaws.{Fresh, cleared_fresh, arranged_fresh, fresh_zero, rows_fit, rows_room}
use Rattle.search.specs.Marking.{Clear}
use Rattle.search.proofs.Keeping.{kept_rows}
use Rattle.reaching.proofs.Memory.{rows_searchable}
use Rattle.reaching.proofs.Truth.{reached_truth}
use Rattle.reaching.proofs.reached.Goals as goal

-- the rows are arranged in a memory that is cleared up to the queue
module _ {m : Map} {ts hs w w₁ w₂ : List ℕ} (P : Readyable m ts hs w) (C : w₁ ≡ cleared m.search.queue w)
    (T : Arranged w₁ w₂ m.rows (arcs_of ts hs)) where
  -- the memory with the rows in it is fresh: its marks are zero, and past the asked part it is as it came
  fresh_here : Fresh w w₂ m.search.queue m.asked
  fresh_here =
      let p = placed P.map in
      let q = searches_placed P.map in
      arranged_fresh (cleared_fresh w m.search.queue m.asked (omega arith) P.room) (rw C at T) (omega arith)
      (rows_fit m ts hs w P)

  -- the marks of the search are clear
  clear_here : Clear w₂ m.search.marks m.rows.zones
  clear_here v h =
      let p = placed P.map in
      let q = searches_placed P.map in
      fresh_zero fresh_here _ (omega arith)

pub arrange-requires : goal.arrange-requires
arrange-requires c =
    let a = c.args in
    rows_room a.m a.tails.now a.heads.now a.work.now c.requires.ready
    c.clear.new.work (search rules)

pub search-requires : goal.search-requires
search-requires c =
    let a = c.args in
    let P = c.requires.ready in
    let p = placed P.map in
    let q = searches_placed P.map in
    let C = c.clear.ensures in
    let T = c.arrange.ensures in
    rows_searchable a.m a.tails.now a.heads.now a.work.now P
    c.arrange.new.work (fresh_here P C T).long a.m.search (omega arith) (omega arith) a.from
    c.requires.from_zone (clear_here P C T) T.at

pub returns : goal.returns
returns c =
    let a = c.args in
    let P = c.requires.ready in
    let C = c.clear.ensures in
    let T = c.arrange.ensures in
    let w = c.arrange.new.work in
    let found = c.search in
    let p = placed P.map in
    let q = searches_placed P.map in
    let beyond =
    kept_rows w found.new.work a.m.search.marks a.m.search.queue a.m.rows.zones found.ensures.kept
    a.m.asked (omega arith) in
    record {
      answer =
          reached_truth a.m.zones a.tails.now a.heads.now P.fine w found.new.work a.m.rows
          a.m.search a.from a.to p.rows_zones c.requires.to_zone T.at (clear_here P C T)
          found.ensures;
      work = c.clear-2.ensures ∙ cleared_back a.m.asked a.work.now found.new.work (beyond ∙ (fresh_here P C T).beyond);
    }
