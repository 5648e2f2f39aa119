-- `read` meets its promise: a count that is refused is the refusal of the file, and past both counts the file is its
-- arcs. Assumes nothing.
use mathlib.Core.Path.{◌≡◌, sym, ◌∙◌}
use lib.ListN.{length}
use native.Mathlib.Omega.{arith}
use Rattle.std.proofs.Common.{Err}
use Rattle.std.proofs.lemmas.Grind.{common_steps}
use Rattle.filecounts.proofs.FileCounts.{file_refused, file_goes_on, counted_refused, counted_goes_on}
use Rattle.filecounts.proofs.FileCounts.{zones_few, count_fits}
use Rattle.filebody.proofs.Bodies.{answered_bad}
use Rattle.netfile.proofs.Kept.{read_kept}
use Rattle.netfile.proofs.read.Goals as goal

pub returns-in_err-zones : goal.returns-in_err-zones
returns-in_err-zones c =
    let a = c.args in
    let z = sym c.in_err-zones.ensures in
    let e : c.from_residual.result ≡ Err c.in_err-zones.field-0.0 = grind (arith, common_steps) in
    rw e (read_kept (answered_bad (file_refused a.file.now (length a.tails.now) (length a.heads.now) z)))

pub returns-in_err-arcs : goal.returns-in_err-arcs
returns-in_err-arcs c =
    let a = c.args in
    let s = a.file.now in
    let tails = length a.tails.now in
    let heads = length a.heads.now in
    let z = sym c.in_ok-zones.ensures in
    let m = sym c.in_err-arcs.ensures in
    let e : c.from_residual-in_err-arcs.result ≡ Err c.in_err-arcs.field-0.0 = grind (arith, common_steps) in
    rw e (read_kept (answered_bad (file_goes_on s tails heads z ∙ counted_refused s tails heads _ _ m)))

pub invariant_of-body : goal.invariant_of-body
invariant_of-body c = record { zones_bound = zones_few c.args.file.now (sym c.in_ok-zones.ensures) }

pub body-requires : goal.body-requires
body-requires c =
    let a = c.args in
    count_fits a.file.now (length a.tails.now) (length a.heads.now) _ (sym c.in_ok-arcs.ensures)

pub returns : goal.returns
returns c =
    let a = c.args in
    let s = a.file.now in
    let tails = length a.tails.now in
    let heads = length a.heads.now in
    let z = sym c.in_ok-zones.ensures in
    let m = sym c.in_ok-arcs.ensures in
    read_kept
    {a = c.body.result}
    (rw (file_goes_on s tails heads z ∙ counted_goes_on s tails heads _ _ m) c.body.ensures)
