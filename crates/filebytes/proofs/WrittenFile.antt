-- A network as it is written: its two counts and its arcs.
--   arcs_short        an arc is written as at most six bytes
--   written_length    the length of the file;   written_put   the file, put in part by part
--   file_cases        what the proof of `write_file` cites
-- Assumes nothing.
use Prim.Native.Nat.{ℕ, ◌+◌, ◌*◌, ◌≤◌}
use native.Mathlib.Omega.{arith}
use mathlib.Core.Path.{◌≡◌, sym, ◌∙◌}
use mathlib.Core.List.{List, [], ◌∷◌, ◌++◌}
use lib.ListN.{length, length-append}
use lib.Seq.{sets, length-sets}
use Rattle.rules.specs.Lists.{over}
use Rattle.rules.specs.Network.{Arc}
use Rattle.rules.specs.Number.{number_bytes}
use Rattle.rules.specs.File.{arc_bytes, arcs_bytes, file_bytes}
use Rattle.rules.specs.Calls.{arcs_of, written}
use Rattle.theory.proofs.Ground.ArcLists.{arcs_length}
use Rattle.theory.proofs.Ground.Storing.{sets_append, sets_whole}
use Rattle.theory.proofs.Files.NumberLaws.{length_bounds}

-- An arc is written as at most six bytes.
pub arcs_short : (es : List Arc) → length (arcs_bytes es) ≤ 6 * length es
unfolding arcs_bytes arc_bytes
arcs_short [] = omega arith
arcs_short (e ∷ es) =
    let t = length_bounds e.tail in
    let h = length_bounds e.head in
    let r = arcs_short es in
    simp length-append (omega arith)

module _ (n : ℕ) (ts hs : List ℕ) (e : length ts ≡ length hs) where
  -- A network is written as its two counts and its arcs.
  written_parts : written n ts hs
      ≡ number_bytes n ++ (number_bytes (length ts) ++ arcs_bytes (arcs_of ts hs))
  unfolding written file_bytes
  written_parts = rw (arcs_length ts hs e)

  -- The length of the file.
  pub written_length : length (written n ts hs)
      ≡ length (number_bytes n) + length (number_bytes (length ts)) + length (arcs_bytes (arcs_of ts hs))
  written_length = rw written_parts (simp length-append (omega arith))

  -- The file, put in part by part.
  pub written_put : (file : List ℕ) {at from : ℕ} {f f' f'' : List ℕ} → length (written n ts hs) ≤ length file
      → at ≡ 0 + length (number_bytes n) → f ≡ sets file 0 (number_bytes n)
      → from ≡ at + length (number_bytes (length ts)) → f' ≡ sets f at (number_bytes (length ts))
      → f'' ≡ sets f' from (arcs_bytes (arcs_of ts hs)) → f'' ≡ over (written n ts hs) file
  written_put file h p q p' q' q'' =
      q'' ∙ sym (rw (← sets_whole file (written n ts hs) h, written_parts, sets_append, sets_append, q', p', q, p))

-- What the proof of `write_file` cites.
pub ruleset file_cases = (written_length, written_put, length-sets)
