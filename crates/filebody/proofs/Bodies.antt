-- A file past its counts, by its arcs and what follows them, and what is answered to it.
--   body_refused, body_extra, body_ends   a file by its arcs and what follows them
--   answered_bad, answered_got       the answer to a reading, and the lists that it leaves
--   refusals                         what the proof of `body` cites where the file is refused
-- Assumes nothing.
use Prim.Native.Nat.{ℕ, ◌≤◌, ◌<◌}
use mathlib.Core.Path.{◌≡◌}
use mathlib.Core.List.{List, map}
use lib.ListN.{length}
use borrow.Author.Tests.{lt-ltb, le-ltb}
use Rattle.rules.specs.declared.TroubleKind.TheVariants.{Extra}
use Rattle.rules.specs.declared.Trouble.{Trouble}
use Rattle.std.specs.Prelude.{Err}
use Rattle.rules.specs.Answers.{refusal, read_done}
use Rattle.rules.specs.Lists.{over}
use Rattle.rules.specs.Network.{Arc}
use Rattle.rules.specs.Number.{Reading, got, bad}
use Rattle.rules.specs.File.{Given, arcs_at, body_at}
use Rattle.filebody.specs.Answered.{ReadingAnswered}

module _ (s : List ℕ) (n m at : ℕ) where
  -- Arcs that are refused: the file is refused.
  pub body_refused : {t : Trouble} → arcs_at s n m at ≡ bad t → body_at s n m at ≡ bad t
  unfolding body_at
  body_refused e = rw e

  module _ {es : List Arc} {end : ℕ} (e : arcs_at s n m at ≡ got es end) where
    -- Bytes after the last arc are refused.
    pub body_extra : end < length s → body_at s n m at ≡ bad (refusal Extra end)
    unfolding body_at
    body_extra h = rw (e, lt-ltb end (length s) h)

    -- Arcs with nothing after them are the file's.
    pub body_ends : length s ≤ end → body_at s n m at ≡ got (record { zones = n; arcs = es }) end
    unfolding body_at
    body_ends h = rw (e, le-ltb end (length s) h)

-- A refusal leaves the lists as they came.
pub answered_bad : {r : Reading Given} {ts hs : List ℕ} {t : Trouble} → r ≡ bad t
    → ReadingAnswered r ts hs (Err t) ts hs
answered_bad e = record { told_is = rw e; tails = rw e; heads = rw e }

-- Arcs that are found are counted, and are put into the lists.
pub answered_got : {r : Reading Given} {ts hs ts' hs' : List ℕ} {n m : ℕ} {es : List Arc} {end : ℕ}
    → r ≡ got (record { zones = n; arcs = es }) end → length es ≡ m
    → ts' ≡ over (map (λ (e : Arc). e.tail) es) ts → hs' ≡ over (map (λ (e : Arc). e.head) es) hs
    → ReadingAnswered r ts hs (read_done n m) ts' hs'
answered_got e l t h = record { told_is = rw (e, l); tails = rw e t; heads = rw e h }

-- What the proof of `body` cites where the file is refused.
pub ruleset refusals = (body_refused, body_extra, answered_bad)
