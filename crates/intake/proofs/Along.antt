-- The tests of the arcs, one arc after the other, as a loop over the two lists goes.
--   rest n gone i ts hs    the tests of the arcs from index i on
--   rest_turn         the first trouble of them is that of the arc i, or else that of the rest from i + 1 on
--   rest_none         past the last arc there is none
-- Assumes nothing.
use Prim.Native.Nat.{ℕ, ◌+◌, ◌≤◌, ◌<◌}
use native.Mathlib.Numerals.{add-one}
use mathlib.Core.Path.{◌≡◌, ap, ◌∙◌}
use mathlib.Core.List.{List, ◌++◌, zip_with}
use mathlib.Core.Option.{none}
use mathlib.Core.Bool.{Bool}
use lib.ListN.{length, get_or, drop, drop_of_length-le}
use lib.Seq.{drop-cons}
use Rattle.rules.specs.Network.{◌⟶◌}
use Rattle.rules.specs.Calls.{Test, first_trouble, arcs_of, arc_tests, arcs_tests}
use Rattle.theory.proofs.Files.Troubles.{or_else, first_trouble_append}

-- The tests of the arcs from index i on.
abbrev pub rest : ℕ → (ℕ → Bool) → ℕ → List ℕ → List ℕ → List Test
rest n gone i ts hs = arcs_tests n i (arcs_of (drop i ts) (drop i hs)) gone

module _ (n : ℕ) (gone : ℕ → Bool) (i : ℕ) (ts hs : List ℕ) where
  -- They are the tests of the arc i, and then the rest.
  rest_cons : i < length ts → i < length hs
      → rest n gone i ts hs ≡ arc_tests n i (get_or ts i 0 ⟶ get_or hs i 0) gone ++ rest n gone (i + 1) ts hs
  unfolding arcs_of zip_with
  rest_cons p q = rw (add-one, drop-cons ts i 0, drop-cons hs i 0)

  -- The first trouble of them is that of the arc i, or else that of the rest.
  pub rest_turn : i < length ts → i < length hs → first_trouble (rest n gone i ts hs)
      ≡ or_else (first_trouble (arc_tests n i (get_or ts i 0 ⟶ get_or hs i 0) gone))
      (first_trouble (rest n gone (i + 1) ts hs))
  rest_turn p q =
      ap first_trouble (rest_cons p q)
      ∙ first_trouble_append (arc_tests n i (get_or ts i 0 ⟶ get_or hs i 0) gone) (rest n gone (i + 1) ts hs)

  -- Past the last arc there is no trouble.
  pub rest_none : length ts ≤ i → first_trouble (rest n gone i ts hs) ≡ none
  unfolding arcs_of zip_with
  rest_none h = rw (drop_of_length-le ts h)
