-- What the passes over the arcs of a file say and leave, in the words of the rules.
--   Accepted r         a reading that finds something
--   Scanned a r        the answer a of a test says where the reading r ends, or its refusal
--   ArcsStored r ..   two lists after the arcs that a reading r finds were put into them
use Rattle.std.specs.Prelude.{ℕ, ◌≡◌, List, map, Result, Ok, Err}
use Rattle.rules.specs.declared.Trouble.{Trouble}
use Rattle.rules.specs.Lists.{over}
use Rattle.rules.specs.Network.{Arc}
use Rattle.rules.specs.Number.{Reading, got, bad}
use Rattle.filenumbers.specs.declared.Cursor.{Cursor}

-- a reading that finds something
abbrev pub Accepted : Reading (List Arc) → Type 0
Accepted r = (es : List Arc) × (end : ℕ) × (r ≡ got es end)

-- where what is read ends, or the refusal
abbrev pub Scanned : {A : Type 0} → Result Cursor Trouble → Reading A → Type 0
Scanned {A} (Ok c) r = (x : A) × (r ≡ got x c.at)
Scanned (Err t) r = r ≡ bad t

-- the lists ts' and hs' are ts and hs with the arcs put into them
pub record ArcsStored (r : Reading (List Arc)) (ts hs ts' hs' : List ℕ) : Type 0 where
  pub tails : (es : List Arc) (end : ℕ) → r ≡ got es end → ts' ≡ over (map (λ (e : Arc). e.tail) es) ts
  pub heads : (es : List Arc) (end : ℕ) → r ≡ got es end → hs' ≡ over (map (λ (e : Arc). e.head) es) hs
