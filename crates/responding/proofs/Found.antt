-- What an answer to reading a file says of the file.
--   read_refused    a refusal is the trouble that reading finds
--   read_done       two counts are those of the network that reading finds
--   printed_refused, printed_done   what is printed then
-- The answer says what reading finds, and DONE is told from a refusal by its number. Assumes nothing.
use Prim.Native.Nat.{ℕ}
use mathlib.Core.Path.{◌≡◌, refl, sym, ap}
use mathlib.Core.List.{List, [], ◌∷◌}
use lib.ListN.{length}
use Rattle.std.specs.Prelude.{Ok, Err}
use Rattle.rules.specs.declared.Trouble.{Trouble}
use Rattle.rules.specs.declared.FileCounts.{FileCounts}
use Rattle.rules.specs.Answers.{Told, done, refused, read_told}
use Rattle.rules.specs.Number.{Reading, got, bad}
use Rattle.rules.specs.File.{Given, file_at}
use Rattle.rules.specs.Text.{printed, plan_lines, refusal_line}
use Rattle.rules.specs.Calls.{found_says}
use Rattle.theory.proofs.Files.AnswerLaws.{refused_once, done_not_refused}

-- a file that was read: the network that was found, with its counts
pub record Found (s : List ℕ) (a b : ℕ) (c : FileCounts) : Type 0 where
  pub given : Given
  pub end : ℕ
  pub finds : file_at s a b ≡ got given end
  pub zones : given.zones ≡ c.zones
  pub count : length given.arcs ≡ c.arcs

module _ (s ts hs : List ℕ) where
  -- an answer that refuses says the trouble that reading finds
  pub read_refused : (t : Trouble) → read_told (Err t) ≡ found_says (file_at s (length ts) (length hs))
      → file_at s (length ts) (length hs) ≡ bad t
  read_refused t e = go (file_at s (length ts) (length hs)) e
    where
      go : (r : Reading Given) → refused 2 t ≡ found_says r → r ≡ bad t
      go (bad u) e = ap bad (sym (refused_once 2 t u e))
      go (got g end) e = absurd (done_not_refused 2 _ t (sym e))

  -- an answer of two counts says those of the network that reading finds
  pub read_done : (c : FileCounts) → read_told (Ok c) ≡ found_says (file_at s (length ts) (length hs))
      → Found s (length ts) (length hs) c
  read_done c e = go (file_at s (length ts) (length hs)) refl e
    where
      go : (r : Reading Given) → file_at s (length ts) (length hs) ≡ r → done (c.zones ∷ c.arcs ∷ []) ≡ found_says r
          → Found s (length ts) (length hs) c
      go (bad u) f e = absurd (done_not_refused 2 _ u e)
      go (got g end) f e =
          let v : c.zones ∷ c.arcs ∷ [] ≡ g.zones ∷ length g.arcs ∷ [] = ap (λ (a : Told). a.values) e in
          record { given = g; end = end; finds = f; zones = cc; count = cc }

-- a file that is refused prints the line of its trouble
pub printed_refused : (s : List ℕ) {t : Trouble} → file_at s 4096 4096 ≡ bad t → printed s ≡ refusal_line t
unfolding printed
printed_refused s e = rw (e, printed)

-- a file that is read prints the lines of its network's plan
pub printed_done : (s : List ℕ) {g : Given} {end : ℕ} → file_at s 4096 4096 ≡ got g end → printed s ≡ plan_lines g
unfolding printed
printed_done s e = rw (e, printed)
