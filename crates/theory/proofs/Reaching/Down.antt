-- A way down and a way up.
--   down   every zone reaches a component with no arc out
--   up     every zone is reached from a component with no arc in
-- `down` goes by induction on the number of zones reached. Where an arc leaves the component, its head reaches fewer:
-- all that it reaches the start reaches too, but the start itself it does not reach, being in another component.
-- `up` is `down` in the turned network. Assumes nothing.
use Prim.Native.Nat.{ℕ, zero, suc, ◌<◌}
use mathlib.Core.Path.{◌≡◌, sym, ◌∙◌}
use mathlib.Core.Logic.{inl, inr}
use mathlib.Core.Bool.{true, false}
use mathlib.Core.List.{Memᴰ as In}
use native.Mathlib.Omega.{arith}
use lib.ListN.{length}
use Rattle.rules.specs.Lists.{keep}
use Rattle.rules.specs.Network.{Network, Proper, Reach, reaches}
use Rattle.rules.specs.Components.{name, names, exited, entered}
use Rattle.rules.specs.Plan.{turned}
use Rattle.theory.proofs.Ground.Bools.{bool_cases, false_unless}
use Rattle.theory.proofs.Ground.Counting.{fewer_keep}
use Rattle.theory.proofs.Reaching.Reach.{reach_arc, reach_refl, reach_trans, reaches_sound, reaches_complete}
use Rattle.theory.proofs.Reaching.Components.{name_together, name_is_name}
use Rattle.theory.proofs.Reaching.KindLaws.{Out, left_true, kinds_agree}
use Rattle.theory.proofs.Reaching.Turned.{turned_proper, turned_reach, turned_names, turned_left}

-- how many zones a zone reaches
abbrev reach_count : Network → ℕ → ℕ
reach_count N z = length (keep (reaches N z) N.zones)

-- a component with no arc out that z reaches
abbrev pub Below : Network → ℕ → Type 0
Below N z = (c : ℕ) × In c (names N) × (exited N c ≡ false) × Reach N z c

-- a component with no arc in that reaches z
abbrev pub Over : Network → ℕ → Type 0
Over N z = (c : ℕ) × In c (names N) × (entered N c ≡ false) × Reach N c z

module _ {N : Network} (P : Proper N) where
  -- a zone reaches more zones than the head of an arc out of its component
  out_fewer : {z : ℕ} → In z N.zones → (r : Out N z) → reach_count N r.0.head < reach_count N z
  out_fewer {z} i r =
      fewer_keep (reaches N h) (reaches N z) N.zones also i lost (reaches_complete P {a = z} reach_refl)
    where
      h : ℕ
      h = r.0.head

      to : Reach N z h
      to = reach_trans r.2.1 (reach_arc r.1)

      also : (x : ℕ) → In x N.zones → reaches N h x ≡ true → reaches N z x ≡ true
      also x m e = reaches_complete P (reach_trans to (reaches_sound N h x e))

      lost : reaches N h z ≡ false
      lost = false_unless (reaches N h z) (λ e. r.3 (reaches_sound N h z e, to))

  -- a way down from a zone that reaches fewer than n zones
  down_within : (n : ℕ) {z : ℕ} → In z N.zones → reach_count N z < n → Below N z
  down_within zero i l = absurd (omega arith)
  down_within (suc n) {z} i l =
      elim (bool_cases (exited N z)) [
        | inl e ↦
            let r = left_true P z e in
            let d = down_within n (P.heads r.1) (let f = out_fewer i r in omega arith) in
            (d.0, d.1, d.2, reach_trans r.2.1 (reach_trans (reach_arc r.1) d.3))
        | inr e ↦
            let t = name_together P i in
            (name N z, name_is_name P i, sym (kinds_agree P t).0 ∙ e, t.0)
      ]

  -- every zone reaches a component with no arc out
  pub down : {z : ℕ} → In z N.zones → Below N z
  down {z} i = down_within (suc (reach_count N z)) i (omega arith)

-- every zone is reached from a component with no arc in
pub up : {N : Network} → Proper N → {z : ℕ} → In z N.zones → Over N z
unfolding turned
up {N} P {z} i =
    let d = down (turned_proper P) i in
    (d.0, rw (turned_names P) at d.1, sym (turned_left P d.0) ∙ d.2, turned_reach d.3)
