-- Readings one after the other.
--   then_agree    a reading that is read on from twice
--   unless_then   a test before a reading that is read on from
-- Each goes by cases on what was read first. Assumes nothing.
use Prim.Native.Nat.{ℕ}
use mathlib.Core.Path.{◌≡◌, refl}
use mathlib.Core.Bool.{Bool, true, false}
use Rattle.rules.specs.declared.Trouble.{Trouble}
use Rattle.rules.specs.Number.{Reading, got, bad, then, unless}

module _ {A B : Type 0} where
  -- What is read on after a test is read on after it.
  pub unless_then : (b : Bool) (t : Trouble) (r : Reading A) (f : A → ℕ → Reading B)
      → then (unless b t r) f ≡ unless b t (then r f)
  unless_then true t r f = refl
  unless_then false t r f = refl

  -- Two readings on from one, where they agree after whatever was read.
  pub then_agree : {C : Type 0} (r : Reading C) (f : C → ℕ → Reading A) (g : A → ℕ → Reading B) (h : C → ℕ → Reading B)
      → ((x : C) (at : ℕ) → then (f x at) g ≡ h x at) → then (then r f) g ≡ then r h
  then_agree (got x at) f g h e = e x at
  then_agree (bad t) f g h e = refl
