-- `uniting::heads_at` meets its contract: a start of a row, counted from where the rows stand. Assumes nothing.
use mathlib.Core.Path.{ap}
use Prim.Native.Nat.{ℕ, ◌+◌}
use Rattle.uniting.proofs.heads_at.Goals as goal

pub returns : goal.returns
returns c = ap (λ (n : ℕ). c.args.b.rows + n) c.from.ensures
