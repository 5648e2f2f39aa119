-- From the names of a network's zones to the network of its components, in memory.
--   zone_in, in_zone    a number below the zone count is a zone, and a zone is below it
--   places_asked        the places of the components can be noted
--   condense_asked      and then the arcs between them can be arranged
--   top_then            the names stand in their order behind the table
--   rows-then           the arcs between the components are arranged, by the places of their names
--   ordered_then, row_then   so the order is there, and for each place its row
--   tabled              so the network of the components stands behind where the table will be
-- Assumes nothing.
use mathlib.Core.Path.{◌≡◌, sym, ap, ◌∙◌}
use mathlib.Core.List.{List, Memᴰ as In}
use Prim.Native.Nat.{ℕ, ◌+◌, ◌-◌, ◌≤◌, ◌<◌}
use native.Mathlib.Omega.{arith}
use lib.ListN.{length, take, drop}
use lib.Seq.{get_or-drop, drop-drop}
use Rattle.rules.specs.Network.{Arc, Proper}
use Rattle.rules.specs.Components.{name}
use Rattle.rules.specs.Calls.{arcs_of, handed, asked_work}
use Rattle.theory.proofs.Files.Accepting.{fine_few, fine_proper}
use Rattle.theory.proofs.Ground.ArcLists.{arcs_length}
use Rattle.theory.proofs.Ground.Ascending.{span_in, in_span}
use Rattle.theory.proofs.Reaching.Components.{name_in}
use Rattle.theory.proofs.Skeletons.SkeletonOrder.{Ordered}
use Rattle.theory.proofs.Skeletons.TablePlaces.{Row, top_once}
use Rattle.workmap.specs.Map.{names_at, places_at, table_at}
use Rattle.memory.specs.Regions.{cell, part}
use Rattle.memory.proofs.Regions.{at_below}
use Rattle.memory.proofs.Places.{drop_deeper}
use Rattle.arccounts.specs.Counts.{heads_of, tails_below}
use Rattle.arccounts.proofs.Heads.{tails_next, tails_few}
use Rattle.arranged.specs.Arranged.{Arranged}
use Rattle.arranged.proofs.ReadyLaws.{arcs_within}
use Rattle.arranged.proofs.ArrangedLaws.{arranged_behind}
use Rattle.uniting.specs.Uniting.{BlockLaid}
use Rattle.blocks.specs.Sweeps.{block_of}
use Rattle.spots.specs.Spots.{PlacesNotable, PlacesNoted}
use Rattle.condense.specs.ComponentArcs.{place_in, component_arcs, Condensable}
use Rattle.condense.proofs.ArcLaws.{arcs_few, arcs_agree}
use Rattle.condense.proofs.RowLaws.{component_rows}
use Rattle.drawing.specs.Drawing.{Named, Tabled}
use Rattle.drawing.proofs.Orders.{ordered_agree, row_agree}

module _ (n : ℕ) (ts hs : List ℕ) where
  -- a number below the zone count is a zone
  pub zone_in : (v : ℕ) → v < n → In v (handed n ts hs).zones
  unfolding handed
  zone_in v h = in_span 0 n (omega arith) (omega arith)

  -- a zone is a number below the zone count
  pub in_zone : (v : ℕ) → In v (handed n ts hs).zones → v < n
  unfolding handed
  in_zone v i = omega (arith, (span_in 0 n i).1)

module _ (w : List ℕ) (n : ℕ) (ts hs : List ℕ) (k : ℕ) (N : Named w n ts hs k) where
  -- the network is proper
  pub named_proper : Proper (handed n ts hs)
  named_proper = fine_proper n ts hs N.fine

  -- every name is a zone
  pub name_low : (v : ℕ) → v < n → cell w (names_at n).names v < n
  name_low v h =
      rw (N.named v h)
      (in_zone n ts hs (name (handed n ts hs) v) (name_in named_proper (zone_in n ts hs v h)))

  -- the memory reaches behind the table, and to the end of the rows
  rooms : ((places_at n).order + n ≤ length w) × ((table_at n).rows.rows + length ts ≤ length w)
  rooms = (
    omega (arith, N.room),
    omega (arith, N.room, N.fine.accepted.zones_least),
  )

  -- the places of the components can be noted
  pub places_asked : PlacesNotable w (places_at n) k
  places_asked =
      record {
        small = N.fine.accepted.zones_most;
        few = N.few;
        spots_low = omega arith;
        tops_low = omega arith;
        names_low = omega arith;
        fits = omega (arith, rooms.0);
        zone = λ j h. in_zone n ts hs (cell w (names_at n).tops j) (N.ordered.own j h).0;
        once = λ i j l h e.
            omega (arith, top_once named_proper N.ordered i j (omega arith) h e);
      }

  -- w₁ is the memory once they are
  module _ (w₁ : List ℕ) (S : PlacesNoted w w₁ (places_at n) k) where
    -- the names are as they were
    name_kept : (v : ℕ) → v < n → cell w₁ (places_at n).names v ≡ name (handed n ts hs) v
    name_kept v h = S.kept ((places_at n).names + v) (omega arith) (omega arith) ∙ N.named v h

    -- the arcs between the components can be arranged
    pub condense_asked : Condensable w₁ (places_at n) (table_at n).rows ts hs
    condense_asked =
        record {
          located =
              record {
                names_in = omega (arith, S.long, rooms.0);
                spots_in = omega (arith, S.long, rooms.0);
                named = λ v h.
                    rw (name_kept v h)
                    (in_zone n ts hs (name (handed n ts hs) v) (name_in named_proper (zone_in n ts hs v h)));
              };
          below = record { names_low = omega arith; spots_low = omega arith };
          pairs = N.fine.paired;
          few = fine_few N.fine;
          between = arcs_within n ts hs N.fine;
          place = omega arith;
          room = omega (arith, S.long, rooms.1);
        }

    -- the arcs between the components
    abbrev pub between_them : List Arc
    between_them = component_arcs (place_in w₁ (places_at n)) (arcs_of ts hs)

    -- w₂ is the memory once they are arranged
    module _ (w₂ : List ℕ) (A : Arranged w₁ w₂ (table_at n).rows between_them) where
      -- the names stand in their order behind the table
      pub top_then : (j : ℕ) → j < k → cell w₂ (table_at n).tops j ≡ cell w (names_at n).tops j
      top_then j h =
          at_below w₁ w₂ (table_at n).rows.starts ((table_at n).tops + j)
          (omega (arith, N.few, N.fine.accepted.zones_least)) A.low
          ∙ S.order j h

      -- so they are in order
      pub ordered_then : Ordered (handed n ts hs) (cell w₂ (table_at n).tops) k
      ordered_then =
          ordered_agree (cell w (names_at n).tops) (cell w₂ (table_at n).tops) k top_then N.ordered

      -- the place of each name
      abbrev spot : ℕ → ℕ
      spot a = cell w₁ (places_at n).spots a

      -- the arcs between the components by the places of their names
      arcs_by_name : between_them ≡ component_arcs (λ v. spot (name (handed n ts hs) v)) (handed n ts hs).arcs
      unfolding handed
      arcs_by_name =
          let W = arcs_within n ts hs N.fine in
          arcs_agree (λ v. spot (name (handed n ts hs) v)) (place_in w₁ (places_at n)) (arcs_of ts hs)
          (λ e m. (
            ap spot (name_kept e.tail (W.tails m)),
            ap spot (name_kept e.head (W.heads m)),
          ))

      -- for each place its row
      pub row_then : (j : ℕ) → j < k →
          Row (handed n ts hs) (cell w₂ (table_at n).tops) k j (heads_of j between_them)
      row_then j h =
          rw arcs_by_name
          (row_agree (cell w (names_at n).tops) (cell w₂ (table_at n).tops) k top_then j
          (heads_of j (component_arcs (λ v. spot (name (handed n ts hs) v)) (handed n ts hs).arcs)) h
          (component_rows named_proper N.ordered spot S.spot j h))

      -- where a row begins
      pub start_then : (j : ℕ) → j ≤ n → cell w₂ (table_at n).rows.starts j ≡ tails_below j between_them
      start_then j h = sym (get_or-drop (table_at n).rows.starts w₂ j 0) ∙ A.at.start j h

      -- the row of a place, where it stands
      pub row_there : (j : ℕ) → j < n →
          part w₂ ((table_at n).rows.rows + cell w₂ (table_at n).rows.starts j)
          (cell w₂ (table_at n).rows.starts (j + 1) - cell w₂ (table_at n).rows.starts j)
          ≡ heads_of j between_them
      row_there j h =
          let R = (table_at n).rows in
          let es = between_them in
          let size : cell w₂ R.starts (j + 1) - cell w₂ R.starts j ≡ length (heads_of j es) =
          omega (arith, start_then j (omega arith), start_then (j + 1) (omega arith), tails_next j es)
          in
          let place : R.rows + cell w₂ R.starts j ≡ R.starts + (R.rows - R.starts + tails_below j es) =
          omega (arith, start_then j (omega arith))
          in
          ap (λ (i : ℕ). part w₂ i (cell w₂ R.starts (j + 1) - cell w₂ R.starts j)) place
          ∙ ap (part w₂ (R.starts + (R.rows - R.starts + tails_below j es))) size
          ∙ ap (take (length (heads_of j es))) (sym (drop-drop (R.rows - R.starts + tails_below j es) R.starts w₂))
          ∙ A.at.row j h

      -- behind the asked part the memory is as it was
      pub beyond_then : drop (asked_work n (length ts)) w₂ ≡ drop (asked_work n (length ts)) w
      beyond_then =
          let few = arcs_few (place_in w₁ (places_at n)) (arcs_of ts hs) in
          let many = arcs_length ts hs N.fine.paired in
          arranged_behind w₁ w₂ (table_at n).rows (asked_work n (length ts)) between_them
          (omega (arith, few, many, N.fine.accepted.zones_least)) A
          ∙ drop_deeper w w₁ ((places_at n).order + n) (asked_work n (length ts)) (omega arith) S.high

      -- names and rows lie behind the table, and every head is a place
      laid_then : BlockLaid w₂ (block_of (table_at n) k 0)
      laid_then =
          let few = arcs_few (place_in w₁ (places_at n)) (arcs_of ts hs) in
          let many = arcs_length ts hs N.fine.paired in
          record {
            small = omega (arith, N.few, N.fine.accepted.zones_most);
            tops_behind = omega (arith, N.few);
            starts_behind = omega (arith, N.few);
            rows_behind = omega (arith, N.few);
            tops_fit = omega (arith, N.few, rooms.0, S.long, A.long);
            starts_fit = omega (arith, N.few, rooms.1, S.long, A.long);
            up = λ j h.
                omega (
                  arith,
                  N.few,
                  start_then j (omega (arith, N.few)),
                  start_then (j + 1) (omega (arith, N.few)),
                  tails_next j between_them,
                );
            fits = λ j h.
                omega (
                  arith,
                  start_then j (omega (arith, N.few)),
                  tails_few j between_them,
                  few,
                  many,
                  rooms.1,
                  S.long,
                  A.long,
                );
            heads = λ j x h i. (row_then j h).low x (rw (row_there j (omega (arith, N.few))) at i);
          }

      -- the network of the components stands behind the table
      pub tabled : Tabled w w₂ n ts hs k
      tabled =
          record {
            long = A.long ∙ S.long;
            beyond = beyond_then;
            condensed =
                record {
                  laid = laid_then;
                  proper = named_proper;
                  ordered = ordered_then;
                  rows_are = λ j h. rw (row_there j (omega (arith, N.few))) (row_then j h);
                };
          }
