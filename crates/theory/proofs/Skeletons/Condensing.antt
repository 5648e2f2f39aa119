-- What condensing the arcs has to leave: for each component, by its place, the places of the heads of its arcs.
--   place_name       a zone's name stands in the order, at the place that is noted for it
--   Condensing ..    ks are the places of the components, other than that at j, that arcs out of it lead to
--   condensed_row    then ks are its row
-- Repeats do not matter, nor the order. Assumes nothing.
use Prim.Native.Nat.{ℕ, ◌<◌}
use mathlib.Core.Path.{◌≡◌, sym, ap, ◌∙◌}
use mathlib.Core.List.Memᴰ
use mathlib.Core.List.{List, Memᴰ as In}
use Rattle.rules.specs.Network.{Arc, Network, Proper}
use Rattle.rules.specs.Components.{name}
use Rattle.theory.proofs.Reaching.Components.{name_in, name_name, name_together, name_agree}
use Rattle.theory.proofs.Skeletons.SkeletonOrder.{Ordered}
use Rattle.theory.proofs.Skeletons.TablePlaces.{Row, top_once}

-- ks are the places of the components, other than that at j, that arcs out of it lead to; `place` has each name's place
pub record Condensing (N : Network) (top place : ℕ → ℕ) (m j : ℕ) (ks : List ℕ) : Type 0 where
  pub from : (k : ℕ) → In k ks
      → (e : Arc) × In e N.arcs × (name N e.tail ≡ top j) × (k ≡ place (name N e.head)) × (k ≡ j → ⊥)
  pub all : (e : Arc) → In e N.arcs → name N e.tail ≡ top j → (place (name N e.head) ≡ j → ⊥)
      → In (place (name N e.head)) ks

module _ {N : Network} (P : Proper N) {top : ℕ → ℕ} {m : ℕ} (O : Ordered N top m) (place : ℕ → ℕ)
    (noted : (j : ℕ) → j < m → place (top j) ≡ j) where
  -- a zone's name stands in the order, at the place that is noted for it
  pub place_name : (z : ℕ) → In z N.zones → (place (name N z) < m) × (top (place (name N z)) ≡ name N z)
  place_name z i =
      let k = O.all (name N z) (name_in P i) (name_name P i) in
      let at : place (name N z) ≡ k.0 = ap place (sym k.2) ∙ noted k.0 k.1 in
      (rw at k.1, rw at k.2)

  -- then ks are the row of j
  pub condensed_row : (j : ℕ) (ks : List ℕ) → j < m → Condensing N top place m j ks → Row N top m j ks
  condensed_row j ks h C =
      record {
        low = λ k i.
            let f = C.from k i in
            rw f.3 (place_name f.0.head (P.heads f.1)).0;
        sound = λ k i.
            let f = C.from k i in
            let t : In f.0.tail N.zones = P.tails f.1 in
            let y : In f.0.head N.zones = P.heads f.1 in
            let n = place_name f.0.head y in
            let low : k < m = rw f.3 n.0 in
            let is : top k ≡ name N f.0.head = ap top f.3 ∙ n.1 in
            record {
              named = (O.own k low).1;
              other = λ e. f.4 (top_once P O k j low h e);
              arc = (
                f.0,
                f.1,
                rw f.2 at (name_together P t),
                rw is (name_together P y),
              );
            };
        complete = λ k l D.
            let a = D.arc in
            let t : In a.0.tail N.zones = P.tails a.1 in
            let y : In a.0.head N.zones = P.heads a.1 in
            let tail : name N a.0.tail ≡ top j = name_agree P t (O.own j h).0 a.2 ∙ (O.own j h).1 in
            let head : name N a.0.head ≡ top k = name_agree P y (O.own k l).0 a.3 ∙ (O.own k l).1 in
            let at : place (name N a.0.head) ≡ k = ap place head ∙ noted k l in
            Memᴰ.cast (sym at) (C.all a.0 a.1 tail (λ e. D.other (ap top (sym at ∙ e))));
      }
