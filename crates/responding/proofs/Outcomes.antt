-- Any two outcomes that the promise of `respond` allows are equal: the same file and the same buffer lent give the
-- same answer and leave the same buffer. Both sides are what the promise says of the input alone. Assumes nothing.
use Prim.Native.Nat.{ℕ}
use mathlib.Core.Path.{◌≡◌, sym, ◌∙◌}
use mathlib.Core.List.{List}
use Rattle.responding.specs.Buffers.{Responded}

-- two answers to the same file, and two buffers left, are one
pub responded_once : {file out : List ℕ} {r r' : ℕ} {o o' : List ℕ} → Responded file out r o
    → Responded file out r' o' → (r ≡ r') × (o ≡ o')
responded_once a b = (a.count ∙ sym b.count, a.bytes ∙ sym b.bytes)
