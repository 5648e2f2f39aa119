-- `responding::respond` meets its contract: a file that is refused prints the line of its trouble, and one that is
-- read hands its network on to be planned. Assumes nothing.
use mathlib.Core.Path.{sym}
use borrow.Author.Rules.{rules}
use Rattle.responding.proofs.Accepted.{zeros_are}
use Rattle.responding.proofs.Lines.{responded}
use Rattle.responding.proofs.Handing.{refused_prints, read_hands, handed_plannable, handed_prints}
use Rattle.responding.proofs.respond.Goals as goal
use Rattle.responding.proofs.respond.Goals.{in-Err, in-Ok}

pub returns-clause-responded : goal.returns-clause-responded
returns-clause-responded c =
    let page = c.new-page.ensures in
    elim c.match-read.branch [
      | in-Err w ↦
          let prints = refused_prints c.read.ensures (zeros_are 4096) (zeros_are 4096) w.in-Err.is in
          rw (c.written.ensures, w.page-is) (responded page.empty page.buffer (sym prints) w.put_refusal.ensures)
      | in-Ok w ↦
          let handed = read_hands c.read.ensures (zeros_are 4096) (zeros_are 4096) w.in-Ok.is in
          rw (c.written.ensures, w.page-is)
          (responded page.empty page.buffer (handed_prints handed) w.put_planned.ensures)
    ]

pub put_planned-requires : goal.put_planned-requires
put_planned-requires c =
    handed_plannable (read_hands c.read.ensures (zeros_are 4096) (zeros_are 4096) c.in-Ok.is) _ (search rules)
