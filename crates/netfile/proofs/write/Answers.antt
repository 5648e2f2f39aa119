-- `write` meets its promise: the tests of the network come first, then the room for the file, and then the file is put
-- in. Assumes nothing.
use native.Mathlib.Omega.{arith}
use Prim.Native.Nat.{◌+◌}
use mathlib.Core.Path.{◌≡◌, sym}
use lib.ListN.{length}
use Rattle.std.proofs.Common.{Err}
use Rattle.std.proofs.lemmas.Grind.{common_steps}
use Rattle.rules.specs.Calls.{arcs_of, written}
use Rattle.theory.proofs.Ground.ArcLists.{arcs_length}
use Rattle.theory.proofs.Files.NumberLaws.{length_bounds}
use Rattle.theory.proofs.Files.Accepting.{Fine, fine_with, fine_few}
use Rattle.filebytes.proofs.WrittenFile.{arcs_short, written_length}
use Rattle.netfile.proofs.Kept.{write_stays, write_goes_on, write_fits, write_bad, write_done}
use Rattle.netfile.proofs.write.Goals.{In_ok-network, After-arcs_length}
use Rattle.netfile.proofs.write.Goals as goal

pub returns-in_err-network : goal.returns-in_err-network
returns-in_err-network c =
    let n = c.args.net in
    let found = c.in_err-network.ensures.found_by.first in
    let told = write_stays n.zones n.tails.now n.heads.now n.gone.now c.args.file.now found in
    let e : c.from_residual.result ≡ Err c.in_err-network.field-0.0 = grind (arith, common_steps) in
    rw e (write_bad _ _ _ _ _ _ told)

-- A network that passed its tests is fine.
fine : (c : In_ok-network) → let n = c.args.net in Fine n.zones n.tails.now n.heads.now
fine c =
    let n = c.args.net in
    (fine_with n.zones n.tails.now n.heads.now n.gone.now (sym c.in_ok-network.ensures.found_by.first)).fine

-- So the three lengths are the file's.
lengths : (c : After-arcs_length) → let n = c.args.net in
    c.number_length.result + c.number_length-2.result + c.arcs_length.result
    ≡ length (written n.zones n.tails.now n.heads.now)
lengths c =
    let n = c.args.net in
    let passed = sym c.in_ok-network.ensures.found_by.first in
    let f = (fine_with n.zones n.tails.now n.heads.now n.gone.now passed).fine in
    let w = written_length n.zones n.tails.now n.heads.now f.paired in
    omega arith

pub overflow_add-counts : goal.overflow_add-counts
overflow_add-counts c =
    let n = c.args.net in
    omega (arith, length_bounds n.zones, length_bounds (length n.tails.now))

pub overflow_add-length : goal.overflow_add-length
overflow_add-length c =
    let n = c.args.net in
    let f = fine (goal.at.overflow_add-length c).In_ok-network in
    let few = fine_few f in
    omega (
      arith,
      length_bounds n.zones,
      length_bounds (length n.tails.now),
      arcs_short (arcs_of n.tails.now n.heads.now),
      arcs_length n.tails.now n.heads.now f.paired,
    )

pub returns-in_err-room : goal.returns-in_err-room
returns-in_err-room c =
    let n = c.args.net in
    let long = lengths (goal.at.returns-in_err-room c).After-arcs_length in
    let passed = c.in_ok-network.ensures.found_by.first in
    let told = write_goes_on n.zones n.tails.now n.heads.now n.gone.now _ passed long c.room.ensures.first in
    let e : c.from_residual-in_err-room.result ≡ Err c.in_err-room.field-0.0 = grind (arith, common_steps) in
    rw e (write_bad _ _ _ _ _ _ (rw c.in_err-room.was at told))

pub write_file-requires-clause-counts_bound : goal.write_file-requires-clause-counts_bound
write_file-requires-clause-counts_bound c =
    let f = fine (goal.at.write_file-requires-clause-counts_bound c).In_ok-network in
    (f.accepted.zones_most, (f.paired, fine_few f))

pub write_file-requires-clause-has_room : goal.write_file-requires-clause-has_room
write_file-requires-clause-has_room c =
    let n = c.args.net in
    let long = lengths (goal.at.write_file-requires-clause-has_room c).After-arcs_length in
    let passed = c.in_ok-network.ensures.found_by.first in
    let told = write_goes_on n.zones n.tails.now n.heads.now n.gone.now _ passed long c.room.ensures.first in
    write_fits n.zones n.tails.now n.heads.now n.gone.now c.args.file.now (rw c.in_ok-room.was at told)

pub returns : goal.returns
returns c =
    let n = c.args.net in
    let long = lengths (goal.at.returns c).After-arcs_length in
    let passed = c.in_ok-network.ensures.found_by.first in
    let told = write_goes_on n.zones n.tails.now n.heads.now n.gone.now _ passed long c.room.ensures.first in
    write_done n.zones n.tails.now n.heads.now n.gone.now c.args.file.now _ _
    (rw c.in_ok-room.was at told)
    long
    c.write_file.ensures
