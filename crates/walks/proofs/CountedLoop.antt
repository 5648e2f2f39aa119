-- A loop in MIR that counts i from 0 up to n.
--   Inv t, Below t    t turns are left; fewer than t are left
--   counted_loop      a context for each i, a turn from each i below n to the next, and one that leaves the loop at n,
--                     give the loop from 0
-- By `loop_rule`, on the number of turns that are left. Assumes `Logic`.
use mathlib.Core.Path.{◌≡◌, sym, subst, ◌∙◌}
use Prim.Native.Nat.{ℕ, zero, suc, ◌<◌, ◌+◌}
use native.Mathlib.Nat.{add-zero, zero-add, lt-suc_self}
use native.Mathlib.Omega.{arith}
use lib.WfN.{lt-wf_rel}
use seplogic.Ra.Ura.{Ura}
use mir.Syntax.{Body, loop}
use base.Logic.{SProp, ent, ex, guard, via, ex_i, ex_e, guard_i, guard_e}
use prog.Wp.{Out, Env, after_turn, Wp, Tables}
use types.Logic.{Logic}
use sound.Loop.{loop_rule}

module _ {M : Type 1} {𝓤 : Ura M} (𝓛 : Logic 𝓤) (𝓣 : Tables 𝓤 𝓛.H) (En : Env 𝓤 𝓛.H)
    (turn : Body) (Left : Out → SProp 𝓤) (n : ℕ) (At : ℕ → SProp 𝓤) where
  -- what a turn shows, where X is to be shown for the next
  open 𝓛 use {H}

  abbrev pub Turn : SProp 𝓤 → SProp 𝓤
  Turn X = Wp 𝓤 H 𝓣.C 𝓣.Λ En turn (after_turn 𝓤 H X Left)

  -- t turns are left
  abbrev Inv : ℕ → SProp 𝓤
  Inv t = ex 𝓤 (λ (i : ℕ). guard 𝓤 (i + t ≡ n) (At i))

  -- fewer than t turns are left
  abbrev Below : ℕ → SProp 𝓤
  Below t = ex 𝓤 (λ (s : ℕ). guard 𝓤 (s < t) (Inv s))

  -- at index i, t turns are left
  left : (t i : ℕ) → i + t ≡ n → ent 𝓤 (At i) (Inv t)
  left t i e =
      via 𝓤 (guard 𝓤 (i + t ≡ n) (At i)) (guard_i 𝓤 (i + t ≡ n) (At i) e)
      (ex_i 𝓤 (λ (j : ℕ). guard 𝓤 (j + t ≡ n) (At j)) i)

  -- after a turn fewer are left
  below : (t i : ℕ) → suc i + t ≡ n → ent 𝓤 (At (suc i)) (Below (suc t))
  below t i e =
      via 𝓤 (Inv t) (left t (suc i) e)
      (via 𝓤 (guard 𝓤 (t < suc t) (Inv t)) (guard_i 𝓤 (t < suc t) (Inv t) (lt-suc_self t))
      (ex_i 𝓤 (λ (s : ℕ). guard 𝓤 (s < suc t) (Inv s)) t))

  module _ (more : (i : ℕ) (X : SProp 𝓤) → i < n → ent 𝓤 (At (suc i)) X → ent 𝓤 (At i) (Turn X))
      (ends : (X : SProp 𝓤) → ent 𝓤 (At n) (Turn X)) where
    -- the turn at index i, where t are left
    turn_at : (t i : ℕ) → i + t ≡ n → ent 𝓤 (At i) (Turn (Below t))
    turn_at zero i e = subst (λ (k : ℕ). ent 𝓤 (At k) (Turn (Below zero))) (sym e ∙ add-zero i) (ends (Below zero))
    turn_at (suc t) i e = more i (Below (suc t)) (omega arith) (below t i (omega arith))

    -- any turn
    turns : (t : ℕ) → ent 𝓤 (Inv t) (Turn (Below t))
    turns t =
        ex_e 𝓤 (λ (i : ℕ). guard 𝓤 (i + t ≡ n) (At i))
        (λ i. guard_e 𝓤 (i + t ≡ n) (At i) (λ e. turn_at t i e))

    -- the loop
    pub counted_loop : ent 𝓤 (At 0) (Wp 𝓤 H 𝓣.C 𝓣.Λ En (loop turn) Left)
    counted_loop =
        via 𝓤 (Inv n) (left n 0 (zero-add n))
        (loop_rule 𝓤 H 𝓛.laws 𝓣 ◌<◌ lt-wf_rel.wf En turn Left Inv turns n)
