-- A network whose file has 16,388 bytes: as long as an accepted file can be (`accepted_length` of FileLaws).
--   longest               1,024 zones, and 4,096 times the arc from 128 to 129
--   longest_arcs          its arc count;   longest_acceptable   a call accepts it
--   longest_length        its file has 16,388 bytes;   longest_accepted   which is read, with room for its arcs
-- A number from 128 on has two bytes, and as many arcs have as many times four. Assumes nothing.
use Prim.Native.Nat.{ℕ, zero, suc, ◌*◌}
use native.Mathlib.Omega.{arith}
use mathlib.Core.Path.{◌≡◌, ap, ◌∙◌}
use mathlib.Core.Logic.{inl, inr}
use mathlib.Core.List.Memᴰ
use mathlib.Core.List.{List, ◌++◌, Memᴰ as In}
use lib.ListN.{length, replicate, length-append, length-replicate}
use Rattle.rules.specs.Network.{Arc, ◌⟶◌}
use Rattle.rules.specs.Number.{number_bytes, got}
use Rattle.rules.specs.File.{Given, Acceptable, arc_bytes, arcs_bytes, file_bytes, file_at}
use Rattle.theory.proofs.Files.FileLaws.{written_accepted}

-- m times the same arc has m times its bytes
arcs_bytes_length : (m : ℕ) (e : Arc) → length (arcs_bytes (replicate m e)) ≡ m * length (arc_bytes e)
unfolding arcs_bytes
arcs_bytes_length zero e = omega arith
arcs_bytes_length (suc m) e =
    length-append (arc_bytes e) (arcs_bytes (replicate m e)) ∙ omega (arith, arcs_bytes_length m e)

-- an element of a list of one element many times is that element
in_replicate : (m : ℕ) {x e : Arc} → In x (replicate m e) → x ≡ e
in_replicate zero i = absurd (Memᴰ.not-nil i)
in_replicate (suc m) i = elim (Memᴰ.cases_cons i) [ inl e ↦ e | inr j ↦ in_replicate m j ]

-- 1,024 zones, and 4,096 times the arc from 128 to 129
unfoldable pub longest : Given
longest = record { zones = 1024; arcs = replicate 4096 (128 ⟶ 129) }

-- its arc count
pub longest_arcs : length longest.arcs ≡ 4096
unfolding longest
longest_arcs = length-replicate 4096 (128 ⟶ 129)

-- a call accepts it
pub longest_acceptable : Acceptable longest
unfolding longest
longest_acceptable = record {
  zones_least = omega arith;
  zones_most = omega arith;
  arcs_most = omega (arith, length-replicate 4096 (128 ⟶ 129));
  tails = λ m. let e = ap (λ (x : Arc). x.tail) (in_replicate 4096 m) in omega (arith, e);
  heads = λ m. let e = ap (λ (x : Arc). x.head) (in_replicate 4096 m) in omega (arith, e);
  apart = λ m s.
      let t = ap (λ (x : Arc). x.tail) (in_replicate 4096 m) in
      let h = ap (λ (x : Arc). x.head) (in_replicate 4096 m) in
      omega (arith, s, t, h);
}

-- its file has 16,388 bytes
pub longest_length : length (file_bytes longest) ≡ 16388
unfolding longest file_bytes number_bytes arc_bytes
longest_length =
    let es : List Arc = replicate 4096 (128 ⟶ 129) in
    let m : length es ≡ 4096 = length-replicate 4096 (128 ⟶ 129) in
    let count : length (number_bytes (length es)) ≡ 2 = ap (λ (k : ℕ). length (number_bytes k)) m in
    let arcs : length (arcs_bytes es) ≡ 16384 = arcs_bytes_length 4096 (128 ⟶ 129) in
    length-append (number_bytes 1024) (number_bytes (length es) ++ arcs_bytes es)
    ∙ omega (arith, length-append (number_bytes (length es)) (arcs_bytes es), count, arcs)

-- and it is read, with room for its arcs
pub longest_accepted : file_at (file_bytes longest) 4096 4096 ≡ got longest 16388
longest_accepted = written_accepted longest longest_acceptable ∙ ap (got longest) longest_length
