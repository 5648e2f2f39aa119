-- What putting links of one why asks and leaves. `sets l i xs` is the list l after stores of the elements of xs, one
-- behind the other, from index i on.
--   Joinable, LinksJoined   n links of one why go behind the first `at` links, where the places tell
use Rattle.std.specs.Prelude.{◌≡◌, List, ℕ, ◌+◌, ◌≤◌, length, replicate}
use Rattle.std.proofs.lemmas.List.Edits.{sets}
use Rattle.memory.specs.Regions.{part}
use Rattle.workmap.specs.declared.LinksAt.{LinksAt}

-- n links can be put behind the first `at`: starts and ends lie below what is copied, and there is room for the whys
pub record Joinable (w : List ℕ) (p : LinksAt) (a b n at : ℕ) : Type 0 where
  pub start_a : p.from + at + n ≤ a
  pub start_b : p.from + at + n ≤ b
  pub end_b : p.to + at + n ≤ b
  pub a_fits : a + n ≤ length w
  pub b_fits : b + n ≤ length w
  pub why_fits : p.why + at + n ≤ length w

-- they are put, one list after the other, and nothing else is changed
pub record LinksJoined (w w' : List ℕ) (p : LinksAt) (a b n reason at : ℕ) : Type 0 where
  pub is :
      w'
      ≡ sets
      (sets (sets w (p.from + at) (part w a n)) (p.to + at) (part w b n))
      (p.why + at)
      (replicate n reason)
