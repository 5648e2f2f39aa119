-- Demand 2, of the calls: questions of strength and reach get a yes exactly when it is so.
--   strong_says   STRONG that ends with DONE says yes exactly when every zone reaches every zone, and else no
--   reach_says    REACH that ends with DONE says yes exactly when the one zone reaches the other, and else no
-- The zones are those that remain (`network`, Demands/Calls). The answer is the rules' test, and the test decides.
-- Assumes nothing.
use Prim.Native.Nat.{ℕ}
use mathlib.Core.Path.{◌≡◌, sym, ◌∙◌}
use mathlib.Core.Logic.{◌↔◌}
use mathlib.Core.Bool.{Bool, true, false}
use Rattle.std.specs.Prelude.{Ok}
use Rattle.rules.specs.Network.{Proper, Reach, Strong, reaches, strong}
use Rattle.theory.proofs.Ground.Bools.{true_not_false, false_unless}
use Rattle.theory.proofs.Reaching.Reach.{reaches_sound, reaches_complete, strong_sound, strong_complete}
use Rattle.theory.proofs.Demands.Calls.{HandedIn, network, StrongCall, ReachCall}
use Rattle.theory.proofs.Demands.Answers.{strong_done_when, reach_done_when}
use Rattle.theory.proofs.Demands.Accepts.{accepted_proper, strong_accepts, reach_accepts}

-- a yes or no says a fact: yes exactly when it is so, and no exactly when it is not so
pub record Says (b : Bool) (A : Type 0) : Type 0 where
  pub yes_when : (b ≡ true) ↔ A
  pub no_when : (b ≡ false) ↔ (A → ⊥)

-- the value of a test that decides a fact says it
test_says : {A : Type 0} (b t : Bool) → b ≡ t → (t ≡ true → A) → (A → t ≡ true) → Says b A
test_says b t e sound complete = record {
  yes_when = (λ y. sound (sym e ∙ y), λ a. e ∙ complete a);
  no_when = (λ n a. true_not_false (complete a) (sym e ∙ n), λ f. e ∙ false_unless t (λ y. f (sound y)));
}

module _ {i : HandedIn} where
  -- STRONG says yes exactly when every zone that remains reaches every other
  pub strong_says : (c : StrongCall i) {b : Bool} → c.answer ≡ Ok b → Says b (Strong (network i))
  strong_says c {b} e =
      let proper : Proper (network i) = accepted_proper i (strong_accepts c e) in
      test_says b (strong (network i)) ((strong_done_when c).0 e).1 (strong_sound (network i)) (strong_complete proper)

  -- REACH says yes exactly when zone x reaches zone y; both remain (`reach_asked`)
  pub reach_says : {x y : ℕ} (c : ReachCall i x y) {b : Bool} → c.answer ≡ Ok b
      → Says b (Reach (network i) x y)
  reach_says {x} {y} c {b} e =
      let proper : Proper (network i) = accepted_proper i (reach_accepts c e) in
      test_says b (reaches (network i) x y) ((reach_done_when c).0 e).1 (reaches_sound (network i) x y)
      (λ r. reaches_complete proper r)
