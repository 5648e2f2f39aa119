-- What `name_all` asks for can be met: here is memory for two zones with the one arc from 0 to 1. Assumes nothing.
use mathlib.Core.Path.{◌≡◌, refl, ap, ◌∙◌}
use mathlib.Core.Logic.{inl, inr}
use mathlib.Core.List.Memᴰ
use mathlib.Core.List.{List, [], ◌∷◌, ◌++◌, zip_with}
use Prim.Native.Nat.{ℕ, ◌+◌, ◌≤◌, ◌<◌}
use native.Mathlib.Omega.{arith}
use lib.ListN.{length, get_or, take, drop, replicate, get_or-replicate, get_or-append}
use Rattle.rules.specs.Network.{Arc}
use Rattle.rules.specs.Calls.{arcs_of}
use Rattle.theory.proofs.Files.Accepting.{Fine}
use Rattle.workmap.specs.Map.{row_places, map_of}
use Rattle.arccounts.specs.Counts.{heads_of, tails_below}
use Rattle.arranged.specs.Arranged.{ArrangedAt}
use Rattle.memory.proofs.Numbers.{same?}
use Rattle.components.specs.Components.{Lent}

-- 24 clear elements, the starts and the row of the arc, the starts and the row of the arc turned round, and 3 more
abbrev memory : List ℕ
memory = replicate 24 0 ++ (0 ∷ 1 ∷ 1 ∷ 1 ∷ 0 ∷ 0 ∷ 1 ∷ 0 ∷ 0 ∷ 0 ∷ 0 ∷ [])

-- A number below 2 is 0 or 1.
two : (P : ℕ → Type 0) (z : ℕ) → z < 2 → P 0 → P 1 → P z
two P z l p q = elim (same? z 0) [ inl e ↦ rw e p | inr e ↦ let y : z ≡ 1 = omega arith in rw y q ]

-- A number up to 2 is 0, 1 or 2.
three : (P : ℕ → Type 0) (z : ℕ) → z ≤ 2 → P 0 → P 1 → P 2 → P z
three P z l p q r = elim (same? z 2) [ inl e ↦ rw e r | inr e ↦ two P z (omega arith) p q ]

-- The arc is arranged.
rows : ArrangedAt memory (row_places 2 24 27) (arcs_of (0 ∷ []) (1 ∷ []))
unfolding arcs_of zip_with heads_of tails_below
rows = record {
  order = omega arith;
  start = λ z l. three (λ z. get_or (drop 24 memory) z 0 ≡ tails_below z (arcs_of (0 ∷ []) (1 ∷ [])))
      z l refl refl refl;
  row = λ z l. two (λ z. take (length (heads_of z (arcs_of (0 ∷ []) (1 ∷ []))))
      (drop (3 + tails_below z (arcs_of (0 ∷ []) (1 ∷ []))) (drop 24 memory)) ≡ heads_of z (arcs_of (0 ∷ []) (1 ∷ [])))
      z l refl refl;
}

-- The arc turned round is arranged.
turned : ArrangedAt memory (row_places 2 28 31) (arcs_of (1 ∷ []) (0 ∷ []))
unfolding arcs_of zip_with heads_of tails_below
turned = record {
  order = omega arith;
  start = λ z l. three (λ z. get_or (drop 28 memory) z 0 ≡ tails_below z (arcs_of (1 ∷ []) (0 ∷ [])))
      z l refl refl refl;
  row = λ z l. two (λ z. take (length (heads_of z (arcs_of (1 ∷ []) (0 ∷ []))))
      (drop (3 + tails_below z (arcs_of (1 ∷ []) (0 ∷ []))) (drop 28 memory)) ≡ heads_of z (arcs_of (1 ∷ []) (0 ∷ [])))
      z l refl refl;
}

-- The first 24 elements are clear.
clear : (i : ℕ) → i < 24 → get_or memory i 0 ≡ 0
clear i l =
    get_or-append (replicate 24 0) (0 ∷ 1 ∷ 1 ∷ 1 ∷ 0 ∷ 0 ∷ 1 ∷ 0 ∷ 0 ∷ 0 ∷ 0 ∷ []) 0 i l
    ∙ get_or-replicate 24 i 0 0 l

-- The network passes its tests.
fine : Fine 2 (0 ∷ []) (1 ∷ [])
unfolding arcs_of zip_with
fine = record {
  paired = refl;
  accepted = record {
    zones_least = omega arith;
    zones_most = omega arith;
    arcs_most = omega arith;
    tails = λ m. elim (Memᴰ.cases_cons m) [
      | inl e ↦ omega (arith, ap (λ (f : Arc). f.tail) e)
      | inr k ↦ elim k [ ]
    ];
    heads = λ m. elim (Memᴰ.cases_cons m) [
      | inl e ↦ omega (arith, ap (λ (f : Arc). f.head) e)
      | inr k ↦ elim k [ ]
    ];
    apart = λ m q. elim (Memᴰ.cases_cons m) [
      | inl e ↦ omega (arith, ap (λ (f : Arc). f.tail) e, ap (λ (f : Arc). f.head) e)
      | inr k ↦ elim k [ ]
    ];
  };
}

-- All that is asked for is so.
pub lent : Lent memory (map_of 2 1) (0 ∷ []) (1 ∷ [])
lent = record {
  ready = record { fine = fine; map = refl; room = omega arith };
  rows = rows;
  turned = turned;
  clear = λ i a b. clear i b;
}
