-- What putting arcs into two lent lists, of tails and of heads, asks and leaves.
--   ArcsFit ts hs at es            the arcs es have room in both lists from `at` on
--   ArcsPut ts hs ts' hs' at es r  tails and heads of es are stored from `at` on, and r is the place behind
use Rattle.std.specs.Prelude.{◌≡◌, List, map, ℕ, ◌+◌, ◌≤◌, length}
use Rattle.std.proofs.lemmas.List.Edits.{sets}
use Rattle.rules.specs.Network.{Arc}

-- the arcs have room in both lists from `at` on
pub record ArcsFit (ts hs : List ℕ) (at : ℕ) (es : List Arc) : Type 0 where
  pub tails : at + length es ≤ length ts
  pub heads : at + length es ≤ length hs

-- tails and heads of the arcs are stored from `at` on, and r is the place behind them
pub record ArcsPut (ts hs ts' hs' : List ℕ) (at : ℕ) (es : List Arc) (r : ℕ) : Type 0 where
  pub tails : ts' ≡ sets ts at (map (λ (e : Arc). e.tail) es)
  pub heads : hs' ≡ sets hs at (map (λ (e : Arc). e.head) es)
  pub behind : r ≡ at + length es
