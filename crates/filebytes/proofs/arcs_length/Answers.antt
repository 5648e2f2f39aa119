-- `arcs_length` meets its contract: the chain yields the length of each arc, and their sum fits. Assumes nothing.
use Rattle.std.proofs.Common.{rules, arith}
use borrow.Author.Tests.{tests}
use mathlib.Core.Path.{◌∙◌}
use Rattle.std.specs.List.{zip}
use Rattle.std.proofs.lemmas.Iterator.{YieldsList-from_slice, YieldsList-from_zip, YieldsList-from_map}
use Rattle.std.proofs.lemmas.Iterator.Consumers.{sum_by_from_yields_List, fits_by_from_yields_list}
use Rattle.std.proofs.lemmas.Iterator.Adapters.{serves_from_places}
use Rattle.theory.proofs.Files.NumberLaws.{length_bounds}
use Rattle.filebytes.proofs.Bytes.{arc_length, arcs_summed, sum_short}
use Rattle.filebytes.proofs.arcs_length.Goals as goal

pub returns : goal.returns
returns c =
    let a = c.args in
    sum_by_from_yields_List arc_length (zip a.tails.now a.heads.now) _ c.sum.result c.sum.ensures.ran
    (YieldsList-from_map _ arc_length
    (YieldsList-from_zip (YieldsList-from_slice a.tails.now cc) (YieldsList-from_slice a.heads.now cc))
    (cc)
    (λ x r q k. search (rules, tests)))
    ∙ arcs_summed a.tails.now a.heads.now

pub sum-requires-clause-can : goal.sum-requires-clause-can
sum-requires-clause-can c =
    let a = c.args in (
      (tt, tt),
      serves_from_places
          (YieldsList-from_zip (YieldsList-from_slice a.tails.now cc) (YieldsList-from_slice a.heads.now cc))
          (λ x q k. search (rules, tests))
          (λ x k low e κs p n l w first t second h.
          omega (arith, t.ensures, h.ensures, length_bounds first.result, length_bounds second.result)),
    )

pub sum-requires-clause-fits : goal.sum-requires-clause-fits
sum-requires-clause-fits c =
    let a = c.args in
    fits_by_from_yields_list arc_length (zip a.tails.now a.heads.now) _ _
    (YieldsList-from_map _ arc_length
    (YieldsList-from_zip (YieldsList-from_slice a.tails.now cc) (YieldsList-from_slice a.heads.now cc))
    (cc)
    (λ x r q k. search (rules, tests)))
    (omega (arith, sum_short a.tails.now a.heads.now))
