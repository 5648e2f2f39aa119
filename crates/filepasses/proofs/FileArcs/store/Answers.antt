use native.Mathlib.Omega.{arith}
use Rattle.filepasses.proofs.ArcsDue.{due_tail, due_head, due_arc}
use Rattle.filepasses.proofs.Partway.{partway_turn, partway_due, partway_end}
use Rattle.filepasses.proofs.FileArcs.store.Goals as goal

-- an arc is due in each turn, and it begins with its tail
pub known-tail-requires : goal.known-tail-requires
known-tail-requires c =
    let due = partway_due c.loop-k.invariant (omega arith) c.requires.accepted in
    due_tail due (omega arith)

-- and goes on with its head
pub known-head-requires : goal.known-head-requires
known-head-requires c =
    let due = partway_due c.loop-k.invariant (omega arith) c.requires.accepted in
    due_head due c.known-tail.ensures (omega arith)

-- the tail and the head that were read are those of the arc, and zones
pub overflow_cast-tails : goal.overflow_cast-tails
overflow_cast-tails c =
    let due = partway_due c.loop-k.invariant (omega arith) c.requires.accepted in
    omega (arith, due_arc due c.known-tail.ensures c.known-head.ensures)

pub overflow_cast-heads : goal.overflow_cast-heads
overflow_cast-heads c =
    let due = partway_due c.loop-k.invariant (omega arith) c.requires.accepted in
    omega (arith, due_arc due c.known-tail.ensures c.known-head.ensures)

pub loop-k-preserved : goal.loop-k-preserved
loop-k-preserved c =
    let l = c.loop-k in
    let due = partway_due l.invariant (omega arith) c.requires.accepted in
    let read = due_arc due c.known-tail.ensures c.known-head.ensures in
    partway_turn l.invariant (omega arith) (omega arith) (omega arith) read.0

pub returns : goal.returns
returns c = partway_end c.loop-k.invariant (omega arith)
