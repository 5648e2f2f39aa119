-- `text::put_answer` meets its contract: the lists are cut behind the links of the plan. Assumes nothing.
use Prim.Native.Nat.{ℕ}
use native.Mathlib.Omega.{arith}
use Rattle.lines.specs.Lines.{lines_of}
use Rattle.lines.proofs.Links.{lines_length}
use Rattle.text.proofs.TextLaws.{cut_lines, plan_text_length}
use Rattle.text.proofs.put_answer.Goals as goal

pub say_plan-requires : goal.say_plan-requires
say_plan-requires c =
    let a = c.args in
    let p = c.in-Ok.plan in
    let fit = rw c.in-Ok.is at c.requires in
    let small = λ (i : ℕ). (c.type_inv.from i).fits in
    let little = λ (i : ℕ). (c.type_inv.to i).fits in
    let most = lines_length a.from.now a.to.now a.why.now p.need small little in
    rw (cut_lines a.from.now a.to.now a.why.now p.need fit.starts_fit)
    (omega (arith, fit.lines_fit, plan_text_length a.file p (lines_of a.from.now a.to.now a.why.now p.need), most))

pub returns-in-Ok : goal.returns-in-Ok
returns-in-Ok c =
    let a = c.args in
    let fit = rw c.in-Ok.is at c.requires in
    rw c.in-Ok.is (rw (cut_lines a.from.now a.to.now a.why.now c.in-Ok.plan.need fit.starts_fit) at c.say_plan.ensures)
