-- A turn of a pass over the arcs of a file.
--   ahead es r      a reading r of arcs, with the arcs es that were found before it
--   turn_got        an arc that is found moves from what is ahead to what was found
--   turn_bad        an arc that is refused is the refusal of the whole
--   turn_whole      where the whole is found, so is the arc
--   turns_over      past the last arc, what was found is all
-- Assumes nothing.
use Prim.Native.Nat.{ℕ, suc, ◌+◌, ◌-◌, ◌<◌}
use native.Mathlib.Omega.{arith}
use mathlib.Core.Path.{◌≡◌, refl}
use mathlib.Core.List.{List, [], ◌∷◌, ◌++◌, append_assoc, append-nil}
use Rattle.rules.specs.declared.Trouble.{Trouble}
use Rattle.rules.specs.Network.{Arc}
use Rattle.rules.specs.Number.{Reading, got, bad, then}
use Rattle.rules.specs.File.{arc_at, arcs_at}
use Rattle.theory.proofs.Files.Readings.{then_got}

-- A reading of arcs, with the arcs that were found before it.
abbrev pub ahead : List Arc → Reading (List Arc) → Reading (List Arc)
ahead es r = then r λ fs end. got (es ++ fs) end

-- An arc found before a reading, and others before that.
ahead_cons : (es : List Arc) (e : Arc) (r : Reading (List Arc))
    → ahead es (then r λ fs end. got (e ∷ fs) end) ≡ ahead (es ++ (e ∷ [])) r
ahead_cons es e (got fs end) = rw append_assoc
ahead_cons es e (bad t) = refl

-- What is left of m arcs before the turn k.
left_suc : (m k : ℕ) → k < m → m - k ≡ suc (m - (k + 1))
left_suc m k h = omega arith

module _ (s : List ℕ) (n m k at : ℕ) where
  -- An arc that is found moves from what is ahead to what was found.
  pub turn_got : (es : List Arc) (e : Arc) (next : ℕ) → k < m → arc_at s n at ≡ got e next
      → ahead es (arcs_at s n (m - k) at) ≡ ahead (es ++ (e ∷ [])) (arcs_at s n (m - (k + 1)) next)
  unfolding arcs_at
  turn_got es e next h q = rw (left_suc m k h, q) (ahead_cons es e (arcs_at s n (m - (k + 1)) next))

  -- An arc that is refused is the refusal of the whole.
  pub turn_bad : (es : List Arc) (t : Trouble) → k < m → arc_at s n at ≡ bad t
      → ahead es (arcs_at s n (m - k) at) ≡ bad t
  unfolding arcs_at
  turn_bad es t h q = rw (left_suc m k h, q)

  -- Where the whole is found, so is the arc.
  pub turn_whole : (es : List Arc) {fs : List Arc} {end : ℕ} → k < m → ahead es (arcs_at s n (m - k) at) ≡ got fs end
      → (e : Arc) × (next : ℕ) × (arc_at s n at ≡ got e next)
  unfolding arcs_at
  turn_whole es h q =
      let r = then_got (arcs_at s n (suc (m - (k + 1))) at) _ (rw (left_suc m k h) at q) in
      let f = then_got (arc_at s n at) _ r.2 in
      (f.0, f.1, f.2)

  -- Past the last arc, what was found is all.
  pub turns_over : (es : List Arc) → m - k ≡ 0 → ahead es (arcs_at s n (m - k) at) ≡ got es at
  unfolding arcs_at
  turns_over es h = rw (h, append-nil)
