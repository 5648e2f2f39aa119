use Rattle.std.proofs.Common.{◌≡◌, ℕ, ◌+◌, ◌-◌, ◌≤◌, List, ◌++◌, length, take, ap, subst, ◌∙◌, sym}
use Rattle.std.proofs.Common.{rules}
use Rattle.std.proofs.Math.Seq.{take-append-add, length-take-le}
use Rattle.std.proofs.lemmas.List.{take-append-le}
use Rattle.std.proofs.KnownBytes.{Consumes-trans}
use Rattle.std.specs.Io.KnownBytes.{Consumes}
use borrow.Rule.Slice.PartMut.{put_mid, post_of}
use Rattle.linkplan.proofs.read_full.Goals as goal

-- a list of which the part from i on was exchanged begins with what it began with, and n elements of the part
front_grows : (xs ys : List ℕ) (i k n : ℕ) → i ≤ length xs → n ≤ length ys
    → take (i + n) (put_mid i k xs ys) ≡ take i xs ++ take n ys
front_grows xs ys i k n h l =
    ap (λ (m : ℕ). take (m + n) (put_mid i k xs ys)) (sym (length-take-le i xs h))
    ∙ take-append-add (take i xs) (ys ++ post_of i k xs) n
    ∙ ap (λ (z : List ℕ). take i xs ++ z) (take-append-le n ys (post_of i k xs) l)

pub loop-got-preserved : goal.loop-got-preserved
loop-got-preserved g c =
    let t = c.loop-got in
    let read = c.in-Ok.ensures in
    let k = length t.into - t.got in (
      search rules,
      subst
          (λ (z : List ℕ). Consumes (g.R.Read.remaining c.args.reader.now) (g.R.Read.remaining c.read.new.self) z)
          (sym (front_grows t.into c.read.new.buf t.got k c.in-Ok.n t.invariant.0 read.bound.0))
          (Consumes-trans _ (g.R.Read.remaining t.reader) _ _ _ t.invariant.1 read.bytes.0),
    )
