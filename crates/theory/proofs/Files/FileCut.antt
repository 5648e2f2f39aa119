-- How many bytes decide what a file says: 16,389 bytes decide any input.
--   number_cut ..      each reader says the same of two lists with the same first k bytes, where it looks at no others
--   enough_bytes       so the first 16,389 bytes of any input say what the whole says
--   printed_enough     and linkplan prints the same for them
-- A reading that has not refused has read numbers below 16,384 only, so that each had at most two bytes: the last
-- number of 4,096 arcs begins at 16,386 or before, and a number looks at three bytes at most. Where the input is
-- longer than that, neither list ends inside a number, and bytes after the last arc are seen in both. Assumes nothing.
use Prim.Native.Nat.{ℕ, zero, suc, ◌+◌, ◌*◌, ◌<◌, ◌≤◌}
use native.Mathlib.Omega.{arith}
use native.Mathlib.Decide.{dec_lt}
use mathlib.Core.Path.{◌≡◌, refl, ap}
use mathlib.Core.Bool.{◌||◌}
use mathlib.Core.List.{List}
use lib.ListN.{length, get_or, take}
use lib.Seq.{take_all, get_or-take, length-take-le}
use lib.Dec.{ltb, eqb}
use borrow.Author.Tests.{ltb-false, lt-ltb}
use Rattle.rules.specs.declared.TroubleKind.{TroubleKind}
use Rattle.rules.specs.declared.TroubleKind.TheVariants.{Range, Head}
use Rattle.rules.specs.Number.{Reading, got, bad, number_at}
use Rattle.rules.specs.File.{Given, zone_at, arc_at, arcs_at, body_at, counted_at, file_at}
use Rattle.rules.specs.Text.{printed, plan_lines, refusal_line}
use Rattle.theory.proofs.Files.Readings.{then_alike, unless_alike}
use Rattle.theory.proofs.Files.NumberLaws.{number_next, number_alike}
use Rattle.theory.proofs.Files.FileLaws.{zone_got, arc_end, arcs_end}
use Rattle.theory.proofs.Ground.Bools.{or_false}

module _ (s t : List ℕ) (k : ℕ) (long_s : k ≤ length s) (long_t : k ≤ length t)
    (same : (i : ℕ) → i < k → get_or s i 0 ≡ get_or t i 0) where
  -- a number is read alike
  number_cut : (at : ℕ) → at + 2 < k → number_at s at ≡ number_at t at
  number_cut at h = number_alike s t at (omega arith) (omega arith) (λ i g. same i (omega arith))

  -- a zone number is read alike
  zone_cut : (j : TroubleKind) (n at : ℕ) → at + 2 < k → zone_at s j n at ≡ zone_at t j n at
  unfolding zone_at
  zone_cut j n at h = then_alike (number_at s at) _ _ (number_cut at h) (λ z next e. refl)

  -- an arc is read alike: its head begins at most two bytes after its tail
  arc_cut : (n at : ℕ) → n ≤ 1024 → at + 4 < k → arc_at s n at ≡ arc_at t n at
  unfolding arc_at
  arc_cut n at m h =
      then_alike (zone_at s Range n at) _ _ (zone_cut Range n at (omega arith)) λ z mid e.
      let r = zone_got s n Range at e in
      let near = number_next s at r.1 (omega (arith, r.0)) in
      then_alike (zone_at s Head n mid) _ _ (zone_cut Head n mid (omega arith)) (λ d next f. refl)

  -- arcs are read alike: each begins at most four bytes after the one before
  arcs_cut : (n m at : ℕ) → n ≤ 1024 → at + 4 * m < k → arcs_at s n m at ≡ arcs_at t n m at
  unfolding arcs_at
  arcs_cut n zero at l h = refl
  arcs_cut n (suc m) at l h =
      then_alike (arc_at s n at) _ _ (arc_cut n at l (omega arith)) λ x mid e.
      then_alike (arcs_at s n m mid) _ _ (arcs_cut n m mid l (omega (arith, arc_end s n at l e))) (λ xs end f. refl)

  -- a body is read alike: bytes follow the arcs in both
  body_cut : (n m at : ℕ) → n ≤ 1024 → at + 4 * m < k → body_at s n m at ≡ body_at t n m at
  unfolding body_at
  body_cut n m at l h =
      then_alike (arcs_at s n m at) _ _ (arcs_cut n m at l h) λ xs end e.
      let near = arcs_end s n m at l e in
      rw (lt-ltb end (length s) (omega arith), lt-ltb end (length t) (omega arith))

  module _ (a b : ℕ) where
    -- counted arcs are read alike
    counted_cut : (n at : ℕ) → n ≤ 1024 → at + 16386 < k → counted_at s a b n at ≡ counted_at t a b n at
    unfolding counted_at
    counted_cut n at l h =
        then_alike (number_at s at) _ _ (number_cut at (omega arith)) λ m start e.
        unless_alike (ltb 4096 m) _ _ _ λ few.
        let near = number_next s at e (omega (arith, ltb-false 4096 m few)) in
        unless_alike (ltb a m || ltb b m) _ _ _ λ room.
        body_cut n m start l (omega (arith, ltb-false 4096 m few))

    -- a file is read alike
    file_cut : 16388 < k → file_at s a b ≡ file_at t a b
    unfolding file_at
    file_cut h =
        then_alike (number_at s 0) _ _ (number_cut 0 (omega arith)) λ n mid e.
        unless_alike (eqb n 0 || ltb 1024 n) _ _ _ λ fits.
        let most = ltb-false 1024 n (or_false (eqb n 0) (ltb 1024 n) fits).1 in
        let near = number_next s 0 e (omega arith) in
        counted_cut n mid most (omega arith)

-- 16,389 bytes decide any input
pub enough_bytes : (s : List ℕ) (a b : ℕ) → file_at (take 16389 s) a b ≡ file_at s a b
enough_bytes s a b =
    elim (dec_lt 16389 (length s)) [
      | yes h ↦
          let l = length-take-le 16389 s (omega arith) in
          file_cut (take 16389 s) s 16389 (omega arith) (omega arith) (λ i. get_or-take 16389 s i 0) a b (omega arith)
      | no h ↦ ap (λ (l : List ℕ). file_at l a b) (take_all 16389 s (omega arith))
    ]

-- linkplan prints for any input what it prints for the first 16,389 bytes
pub printed_enough : (s : List ℕ) → printed (take 16389 s) ≡ printed s
unfolding printed
printed_enough s =
    ap (λ (r : Reading Given). elim r as (λ q. List ℕ) [ bad t ↦ refusal_line t | got g end ↦ plan_lines g ])
    (enough_bytes s 4096 4096)
