-- `settle` meets its contract: the source has its turn, and is stored by what the turn answers.
-- Assumes nothing.
use borrow.Author.Rules.{rules}
use mathlib.Core.Path.{refl}
use Prim.Native.Nat.{◌+◌}
use lib.ListN.{get_or, length-set}
use Rattle.pairing.proofs.CourseLaws.{turnable, course_lone, course_paired}
use Rattle.pairing.proofs.settle.Goals as goal

pub turn-requires : goal.turn-requires
turn-requires c =
    let a = c.args in
    turnable c.requires.began a.work.now a.at a.s a.t a.i a.p c.requires.course
    c.from-source.result
    c.from-source.ensures c.requires.more

pub returns-in-None : goal.returns-in-None
returns-in-None c =
    let a = c.args in
    λ v C.
    course_lone v a.work.now a.at a.s a.t a.i a.p C (get_or a.work.now (a.at.lists.sources + a.i) 0) refl
    c.requires.more c.turn.new.work (rw c.from-source.ensures at c.in-None.ensures)

pub bounds-work-at-in-Some-2 : goal.bounds-work-at-in-Some-2
bounds-work-at-in-Some-2 c = simp length-set (search rules)

pub returns-in-Some : goal.returns-in-Some
returns-in-Some c =
    let a = c.args in
    λ v C.
    course_paired v a.work.now a.at a.s a.t a.i a.p C (get_or a.work.now (a.at.lists.sources + a.i) 0) refl
    c.requires.more c.turn.new.work c.in-Some.z (rw c.from-source.ensures at c.in-Some.ensures)
