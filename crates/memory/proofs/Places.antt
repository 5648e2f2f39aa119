-- Parts of a list before and behind a place: what two lists share there, they share further out.
--   behind         an element at or behind a place is one of the rest from that place on
--   drop_deeper    lists that agree from a place on agree from any later place on
--   take_shorter   lists that agree before a place agree before any earlier one
-- Memory is told apart by `take` and `drop`, so these turn one equation of parts into equations of elements and parts.
-- Assumes nothing.
use mathlib.Core.Path.{◌≡◌, sym, ap, ◌∙◌}
use mathlib.Core.List.{List}
use Prim.Native.Nat.{ℕ, ◌+◌, ◌-◌, ◌≤◌}
use native.Mathlib.Omega.{arith}
use lib.ListN.{get_or, take, drop}
use lib.Seq.{get_or-drop, drop-drop, take-take}

-- an element at or behind a place is one of the rest from that place on
pub behind : (w : List ℕ) (m i : ℕ) → m ≤ i → get_or (drop m w) (i - m) 0 ≡ get_or w i 0
behind w m i l = get_or-drop m w (i - m) 0 ∙ ap (λ (n : ℕ). get_or w n 0) (omega arith)

-- lists that agree from m on agree from any later place on
pub drop_deeper : (w w' : List ℕ) (m n : ℕ) → m ≤ n → drop m w' ≡ drop m w → drop n w' ≡ drop n w
drop_deeper w w' m n le H = sym (later w') ∙ ap (drop (n - m)) H ∙ later w
  where
    later : (y : List ℕ) → drop (n - m) (drop m y) ≡ drop n y
    later y = let e : m + (n - m) ≡ n = omega arith in rw (drop-drop, e)

-- lists that agree before n agree before any earlier place
pub take_shorter : (w w' : List ℕ) (m n : ℕ) → m ≤ n → take n w' ≡ take n w → take m w' ≡ take m w
take_shorter w w' m n le H = sym (take-take m n w' le) ∙ ap (take m) H ∙ take-take m n w le
