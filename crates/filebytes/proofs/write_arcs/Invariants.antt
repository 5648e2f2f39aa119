-- `write_arcs` meets its contract. The loop's invariant: with the bytes of the arcs that are left put in at `at`,
-- the list is what it is to be. Assumes nothing.
use Prim.Native.Nat.{◌+◌, ◌≤◌}
use mathlib.Core.Path.{◌≡◌}
use lib.Seq.{sets}
use lib.ListN.{length}
use Rattle.filebytes.proofs.Bytes.{rest_bytes}
use Rattle.filebytes.proofs.write_arcs.Given as goal

abbrev pub invariant-loop-tail : goal.invariant-loop-tail
invariant-loop-tail l =
    (l.at + length (rest_bytes (length l.yielded) l.tails l.heads) ≤ length l.file)
    × (sets l.initial.file l.from (rest_bytes 0 l.tails l.heads)
    ≡ sets l.file l.at (rest_bytes (length l.yielded) l.tails l.heads))
