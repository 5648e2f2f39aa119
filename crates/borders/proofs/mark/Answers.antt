use lib.ListN.{length-append}
use Rattle.std.proofs.lemmas.Slice.Zip.{zip_turn}
use Rattle.theory.proofs.Ground.ArcLists.{index_arcs}
use Rattle.borders.proofs.Marks.{room_around, marking_more}
use Rattle.borders.proofs.mark.Goals as goal

-- What `note` asks for is so: the arc is the next of the two lists.
pub note-requires : goal.note-requires
note-requires c =
    let ts = c.args.tails.now in
    let hs = c.args.heads.now in
    let l = c.loop-tail in
    let t = zip_turn ts hs l.yielded _ _ c.next.new.self _ (cc) (cc) l.yielded_by _ c.in-Some.is
    c.next.ensures.steps in
    let m = index_arcs ts hs _ t.0 t.1 in (
      room_around c.requires.room l.invariant.around,
      (rw (t.2 0) (c.requires.between.tails m), rw (t.3 0) (c.requires.between.heads m)),
    )

-- Every turn keeps the invariant.
pub loop-tail-preserved : goal.loop-tail-preserved
loop-tail-preserved c =
    let ts = c.args.tails.now in
    let hs = c.args.heads.now in
    let l = c.loop-tail in
    let t = zip_turn ts hs l.yielded _ _ c.next.new.self _ (cc) (cc) l.yielded_by _ c.in-Some.is
    c.next.ensures.steps in
    simp length-append (marking_more ts hs t.0 t.1 c.requires.room l.invariant (rw (t.2 0, t.3 0) at c.note.ensures))
