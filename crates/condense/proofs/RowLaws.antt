-- The rows of the network of the components hold what the table's step asks for.
--   tail_place       the place of an arc's tail tells its component's name
--   rows_condense    the row of a place is the places of the components, other than its own, that arcs lead to
--   component_rows   so it is the row of the component at that place
-- A zone's place is that of its name, and each name has one place. Assumes nothing.
use mathlib.Core.Path.{◌≡◌, sym, ap, subst, ◌∙◌}
use mathlib.Core.List.{Memᴰ as In}
use Prim.Native.Nat.{ℕ, ◌<◌}
use Rattle.rules.specs.Network.{Arc, ◌⟶◌, Network, Proper}
use Rattle.rules.specs.Components.{name}
use Rattle.theory.proofs.Skeletons.SkeletonOrder.{Ordered}
use Rattle.theory.proofs.Skeletons.TablePlaces.{Row}
use Rattle.theory.proofs.Skeletons.Condensing.{Condensing, place_name, condensed_row}
use Rattle.arccounts.specs.Counts.{heads_of}
use Rattle.arranged.proofs.ArcRows.{heads_in, in_heads}
use Rattle.condense.specs.ComponentArcs.{component_arcs}
use Rattle.condense.proofs.ArcLaws.{arcs_from, in_arcs}

module _ {N : Network} (P : Proper N) {top : ℕ → ℕ} {m : ℕ} (O : Ordered N top m) (spot : ℕ → ℕ)
    (noted : (j : ℕ) → j < m → spot (top j) ≡ j) where
  -- the place of a zone's component
  abbrev pub place : ℕ → ℕ
  place z = spot (name N z)

  -- the place of an arc's tail tells its component's name
  tail_place : (e : Arc) (j : ℕ) → In e N.arcs → place e.tail ≡ j → name N e.tail ≡ top j
  tail_place e j m h = sym (place_name P O spot noted e.tail (P.tails m)).1 ∙ ap top h

  -- the row of a place is the places of the components, other than its own, that arcs lead to
  rows_condense : (j : ℕ) → j < m → Condensing N top spot m j (heads_of j (component_arcs place N.arcs))
  rows_condense j h =
      record {
        from = λ k i.
            let F = arcs_from place N.arcs j k (heads_in j k (component_arcs place N.arcs) i) in (
              F.arc,
              F.there,
              tail_place F.arc j F.there F.tail,
              sym F.head,
              λ e. F.apart (sym e),
            );
        all = λ e i t n.
            let here : place e.tail ≡ j = ap spot t ∙ noted j h in
            in_heads
            (subst
            (λ (x : ℕ). In (x ⟶ place e.head) (component_arcs place N.arcs))
            here
            (in_arcs place N.arcs e i (λ q. n (sym q ∙ here))));
      }

  -- so it is the row of the component at that place
  pub component_rows : (j : ℕ) → j < m → Row N top m j (heads_of j (component_arcs place N.arcs))
  component_rows j h =
      condensed_row P O spot noted j (heads_of j (component_arcs place N.arcs)) h (rows_condense j h)
