-- `note` meets its contract: where the ends have one name nothing changes, and where they have two both places
-- are raised. Assumes nothing.
use mathlib.Core.Path.{◌≡◌, refl, sym, ◌∙◌}
use Rattle.memory.specs.Regions.{cell}
use Rattle.borders.proofs.Marks.{noted_same, noted_read}
use Rattle.borders.proofs.note.Goals as goal

pub returns-then-a-b : goal.returns-then-a-b
returns-then-a-b c =
    let a = c.args in
    -- both ends' names were read
    let tail_name : c.from-a.result ≡ cell a.work.now a.at.names a.tail = rw c.from.ensures at c.from-a.ensures in
    let head_name : c.from-b.result ≡ cell a.work.now a.at.names a.head = rw c.from-2.ensures at c.from-b.ensures in
    noted_same _ _ (sym tail_name ∙ c.if-a-b.true ∙ head_name)

pub returns : goal.returns
returns c =
    let a = c.args in
    noted_read c.requires.0 c.requires.1.0 c.requires.1.1 (rw c.from.ensures at c.from-a.ensures)
    (rw c.from-2.ensures at c.from-b.ensures) c.if-a-b.false refl
