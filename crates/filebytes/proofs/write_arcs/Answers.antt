use Prim.Native.Nat.{◌<◌}
use native.Mathlib.Omega.{arith}
use mathlib.Core.Path.{◌≡◌, sym, ap, ◌∙◌}
use lib.Seq.{length-sets}
use lib.ListN.{length, get_or, length-append}
use Rattle.std.proofs.lemmas.Slice.Zip.{zip_turn, zip_end}
use Rattle.filebytes.proofs.Bytes.{rest_length, rest_turn, rest_none}
use Rattle.filebytes.proofs.write_arcs.Goals.{In-Some}
use Rattle.filebytes.proofs.write_arcs.Goals as goal

-- The arc of this turn is the next of the two lists.
next : (c : In-Some) → let a = c.args in let i = length c.loop-tail.yielded in
    (i < length a.tails.now) × (i < length a.heads.now) × (c.in-Some.field-0-0.now ≡ get_or a.tails.now i 0)
    × (c.in-Some.field-0-1.now ≡ get_or a.heads.now i 0)
next c =
    let a = c.args in
    let t = zip_turn a.tails.now a.heads.now c.loop-tail.yielded
    _ _ c.next.new.self _ (cc) (cc) c.loop-tail.yielded_by _ c.in-Some.is c.next.ensures.steps in
    (t.0, t.1, t.2 0, t.3 0)

pub loop-tail-preserved : goal.loop-tail-preserved
loop-tail-preserved c =
    let a = c.args in
    let l = c.loop-tail in
    let i = length l.yielded in
    let n = next (goal.at.loop-tail-preserved c).In-Some in
    let e = rest_length i a.tails.now a.heads.now n.0 n.1 in
    let t : c.from.result ≡ get_or a.tails.now i 0 = cc in
    let h : c.from-in-loop-tail.result ≡ get_or a.heads.now i 0 = cc in
    let f = c.write_number-mid in
    let g = c.write_number-at in
    let p = rw t at f.ensures in
    let q = rw h at g.ensures in
    let long : length f.new.file ≡ length l.file = ap length f.ensures.1 ∙ simp length-sets in
    let long' : length g.new.file ≡ length l.file = ap length g.ensures.1 ∙ simp length-sets long in
    rw length-append (
      omega (arith, long', e, p.0, q.0),
      l.invariant.1 ∙ rest_turn l.file i l.at a.tails.now a.heads.now n.0 n.1 p.0 p.1 q.0 q.1,
    )

pub write_number-mid-requires : goal.write_number-mid-requires
write_number-mid-requires c =
    let a = c.args in
    let i = length c.loop-tail.yielded in
    let n = next (goal.at.write_number-mid-requires c).In-Some in
    let e = rest_length i a.tails.now a.heads.now n.0 n.1 in
    let t : c.from.result ≡ get_or a.tails.now i 0 = cc in
    (omega (arith, c.type_inv.tails i), rw t (omega arith))

pub write_number-at-requires : goal.write_number-at-requires
write_number-at-requires c =
    let a = c.args in
    let i = length c.loop-tail.yielded in
    let n = next (goal.at.write_number-at-requires c).In-Some in
    let e = rest_length i a.tails.now a.heads.now n.0 n.1 in
    let p = c.write_number-mid.ensures in
    let long : length c.write_number-mid.new.file ≡ length c.loop-tail.file = ap length p.1 ∙ simp length-sets in
    let t : c.from.result ≡ get_or a.tails.now i 0 = cc in
    let h : c.from-in-loop-tail.result ≡ get_or a.heads.now i 0 = cc in
    let q = rw t at p.0 in
    (omega (arith, c.type_inv.heads i), rw h (omega (arith, long, e, q)))

pub returns : goal.returns
returns c =
    let a = c.args in
    let l = c.loop-tail in
    let n = zip_end a.tails.now a.heads.now l.yielded
    _ _ c.next.new.self _ (cc) (cc) l.yielded_by c.in-None.is c.next.ensures.steps in
    sym (l.invariant.1 ∙ rw (rest_none (length l.yielded) a.tails.now a.heads.now (omega (arith, n))))
