-- What it means that a text is put after the text of a page.
--   put out at s     the buffer out with the bytes s from place `at` on
--   HasSpace p n     n bytes fit into what is left of the page
--   HasRoom p s      s fits into what is left of the page
--   Appended p s q   s was put after the text of p, and q is the page then
-- Assumes nothing.
use Rattle.std.specs.Prelude.{ℕ, ◌+◌, ◌≤◌, ◌≡◌, List, ◌++◌, length, take, drop}
use Rattle.buffer.specs.declared.Page.{Page}

-- the buffer with the bytes s from place `at` on, and every other byte as it came
unfoldable pub put : List ℕ → ℕ → List ℕ → List ℕ
put out at s = take at out ++ s ++ drop (at + length s) out

-- n bytes fit into what is left of the page
abbrev pub HasSpace : Page → ℕ → Type 0
HasSpace p n = p.len + n ≤ length p.bytes.now

-- the bytes s fit into what is left of the page
abbrev pub HasRoom : Page → List ℕ → Type 0
HasRoom p s = HasSpace p (length s)

-- the bytes s were put after the text: how long it is, and the buffer after it
pub record Appended (p : Page) (s : List ℕ) (q : Page) : Type 0 where
  pub stop : q.len ≡ p.len + length s
  pub buffer : q.bytes.now ≡ put p.bytes.now p.len s
  pub capacity : length q.bytes.now ≡ length p.bytes.now
  pub within : q.len ≤ length q.bytes.now
  pub same_reference : q.bytes.ghost_name ≡ p.bytes.ghost_name
