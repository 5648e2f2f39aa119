-- One source's turn: what the search's marks say of the sinks left.
--   wiped, FoundBy          the memory with its marks cleared; ... and searched from the source
--   searchable               after clearing, the search can begin
--   reached, unreached       a mark says that the source reaches the zone, no mark that it does not
--   lookable                 the look along the sinks stays within the memory
--   turned_nothing, turned_found   the turn, where no sink has a mark, and where one has
-- Idea: the marks are those of a search over the rows, whose runs of entries are the runs of arcs, so a mark is the
-- test of reach, and the first marked sink the one that `pick` takes. Assumes nothing.
use mathlib.Core.Path.{◌≡◌, refl, sym, ◌∙◌}
use mathlib.Core.Logic.{inl, inr, ⊎_elim}
use mathlib.Core.Bool.{true, false}
use mathlib.Core.List.{List}
use Prim.Native.Nat.{ℕ, ◌+◌, ◌≤◌, ◌<◌}
use native.Mathlib.Omega.{arith}
use lib.ListN.{length, get_or, drop, replicate, length-replicate, get_or-replicate}
use lib.Seq.{sets, length-sets}
use Rattle.rules.specs.Network.{Arc, network_of, Proper, reaches}
use Rattle.theory.proofs.Ground.Bools.{false_unless}
use Rattle.theory.proofs.Reaching.Reach.{reaches_sound, reaches_complete}
use Rattle.theory.proofs.Ground.Ascending.{network_proper}
use Rattle.arranged.specs.Marks.{Marked}
use Rattle.memory.specs.Regions.{part, Holds}
use Rattle.arranged.specs.Arranged.{ArrangedAt}
use Rattle.std.proofs.Common.{Some, None}
use Rattle.memory.proofs.Regions.{part_long, holds_part, holds_at, holds_apart}
use Rattle.memory.proofs.Stores.{drop_sets, getD_sets_at, getD_sets_high}
use Rattle.arranged.proofs.ArrangedLaws.{arranged_kept, run_reach, reach_run}
use Rattle.search.specs.Marking.{Searchable, Searched}
use Rattle.search.proofs.Closed.{clear_closed, searched_clear}
use Rattle.search.proofs.Course.{laid_same}
use Rattle.search.proofs.Keeping.{kept_at}
use Rattle.workmap.specs.declared.RowsAt.{RowsAt}
use Rattle.workmap.specs.declared.SearchAt.{SearchAt}
use Rattle.turns.specs.Turn.{Unmarked, FirstMarked, TakenOut, without, Along, Turnable, Turned}
use Rattle.std.proofs.lemmas.List.Edits.{length-remove}
use Rattle.turns.proofs.Picking.{pick_none, pick_some}
use Rattle.turns.proofs.TakeOut.{without_below, taken_holds}

-- the memory with the marks cleared
abbrev pub wiped : List ℕ → RowsAt → SearchAt → List ℕ
wiped w R S = sets w S.marks (replicate R.zones 0)

-- the search from the source has marked what it reaches, from cleared marks on
abbrev pub FoundBy : List ℕ → List ℕ → RowsAt → SearchAt → ℕ → Type 0
FoundBy w w' R S source =
    Searched (wiped w R S) w' R S source

module _ (w : List ℕ) (R : RowsAt) (S : SearchAt) (source at left : ℕ) (T : Turnable w R S source at left) where
  -- the marks lie in the memory
  marks_fit : S.marks + R.zones ≤ length w
  marks_fit = let L = T.laid in omega (arith, L.apart, L.before, L.order, L.fits)

  -- as many elements are cleared as there are zones
  clear_long : length {A = ℕ} (replicate R.zones 0) ≡ R.zones
  clear_long = length-replicate R.zones 0

  -- clearing keeps the length
  wiped_long : length (wiped w R S) ≡ length w
  wiped_long = length-sets w S.marks (replicate R.zones 0)

  -- clearing the marks keeps the rows
  rows_clear : drop R.starts (wiped w R S) ≡ drop R.starts w
  rows_clear =
      drop_sets w S.marks (replicate R.zones 0) R.starts
      (omega (arith, clear_long, T.laid.apart, T.laid.before))

  -- the marks are clear
  marks_clear : (v : ℕ) → v < R.zones → get_or (wiped w R S) (S.marks + v) 0 ≡ 0
  marks_clear v h =
      getD_sets_at w S.marks (replicate R.zones 0) v (omega (arith, clear_long, marks_fit))
      (omega (arith, clear_long))
      ∙ get_or-replicate R.zones v 0 0 h

  -- after clearing the marks the search can begin
  pub searchable : Searchable (wiped w R S) R S source
  searchable =
      record {
        laid =
            laid_same w (wiped w R S) R.zones R.starts R.rows S.marks S.queue wiped_long rows_clear
            T.laid;
        closed = clear_closed (wiped w R S) R.zones R.starts R.rows S.marks marks_clear;
        zone = T.zone;
      }

  -- the sinks left are as many as the call says
  sinks_long : length (part w at left) ≡ left
  sinks_long = let L = T.laid in part_long w at left (omega (arith, T.before, L.order, L.fits))

  -- the search is done
  module _ (w' : List ℕ) (Z : FoundBy w w' R S source) where
    -- the memory is as long as it was
    search_long : length w' ≡ length w
    search_long = Z.kept.long ∙ wiped_long

    -- an element behind marks and queue is as it was
    search_others : (i : ℕ) → S.queue + R.zones ≤ i → get_or w' i 0 ≡ get_or w i 0
    search_others i h =
        kept_at (wiped w R S) w' S.marks S.queue R.zones Z.kept i h
        ∙ getD_sets_high w S.marks (replicate R.zones 0) i (omega (arith, clear_long, T.laid.apart))

    -- the sinks left stand where they stood
    sinks_held : Holds w' at (part w at left)
    sinks_held =
        let L = T.laid in
        holds_apart w w' at (part w at left) search_long
        (λ i low high. search_others i (omega (arith, T.behind)))
        (holds_part w at left (omega (arith, T.before, L.order, L.fits)))

    -- a sink that is left
    sink_at : (k : ℕ) → k < left → get_or w' (at + k) 0 ≡ get_or (part w at left) k 0
    sink_at k h = holds_at w' at (part w at left) sinks_held k (omega (arith, sinks_long))

    -- a sink that is left is a zone
    sink_zone : (k : ℕ) → k < left → get_or (part w at left) k 0 < R.zones
    sink_zone k h = T.small k (omega (arith, sinks_long))

    -- the look along the sinks stays within the memory
    pub lookable : (k : ℕ) → k < left → S.marks + get_or w' (at + k) 0 < length w'
    lookable k h =
        let long = search_long in
        omega (arith, marks_fit, sink_at k h, sink_zone k h)

    -- the arcs es are arranged in the rows
    module _ (es : List Arc) (A : Along w R es) where
      -- the network is proper
      proper : Proper (network_of R.zones es)
      proper = network_proper R.zones es (λ a b m. (A.between.tails m, A.between.heads m))

      -- the arcs are arranged where the search began
      arranged : ArrangedAt (wiped w R S) R es
      arranged = arranged_kept w (wiped w R S) R es rows_clear A.arranged

      -- the source reaches a zone with a mark
      reached : (v : ℕ) → v < R.zones → Marked w' S.marks v → reaches (network_of R.zones es) source v ≡ true
      reached v h m =
          let run = searched_clear (wiped w R S) R.zones R.starts R.rows S.marks marks_clear w' source
          S.queue Z v h m in
          reaches_complete proper (run_reach (wiped w R S) R es arranged run)

      -- the source reaches no zone without a mark
      unreached : (v : ℕ) → Unmarked w' S.marks v → reaches (network_of R.zones es) source v ≡ false
      unreached v e =
          false_unless
          (reaches (network_of R.zones es) source v)
          (λ t.
          (Z.complete v
          (reach_run (wiped w R S) R es arranged A.between
          (reaches_sound (network_of R.zones es) source v t))
          ).1
          e)

      -- sinks without marks do not pass the test
      passed : (i : ℕ) → i ≤ left → ((k : ℕ) → k < i → Unmarked w' S.marks (get_or w' (at + k) 0)) →
          (k : ℕ) → k < i → reaches (network_of R.zones es) source (get_or (part w at left) k 0) ≡ false
      passed i h f k l = rw (sym (sink_at k (omega arith))) (unreached (get_or w' (at + k) 0) (f k l))

    -- the turn where no sink has a mark
    pub turned_nothing : FirstMarked w' S.marks at left None → Turned w w' R S source at left None
    turned_nothing f =
        record {
          rest = part w at left;
          long = search_long;
          others = λ i h o. search_others i h;
          held = sinks_held;
          small = T.small;
          over = refl;
          found = λ es A.
              pick_none (reaches (network_of R.zones es) source) (part w at left)
              (λ k l. passed es A left (omega arith) f k (omega (arith, sinks_long)));
        }

    -- the turn where a sink has a mark, and is taken out
    pub turned_found : (w'' : List ℕ) (j z : ℕ) → FirstMarked w' S.marks at left (Some j) → z ≡ get_or w' (at + j) 0 →
        TakenOut w' w'' at left j → Turned w w'' R S source at left (Some z)
    turned_found w'' j z f e O =
        let xs = part w at left in
        let inside : j < length xs = omega (arith, sinks_long, f.0) in
        let is : z ≡ get_or xs j 0 = e ∙ sink_at j f.0 in
        let zone : get_or w' (at + j) 0 < R.zones = rw (sink_at j f.0) (sink_zone j f.0) in
        record {
          rest = without j xs;
          long = O.long ∙ search_long;
          others = λ i h o.
              O.others i (⊎_elim (λ (l : i < at). inl (omega arith)) (λ (l : at + left ≤ i). inr (omega arith)) o)
              ∙ search_others i h;
          held = taken_holds w' w'' at j xs inside sinks_held (rw sinks_long O);
          small = without_below R.zones j xs inside T.small;
          over = (rw is (T.small j inside), length-remove xs j inside);
          found = λ es A.
              rw is
              (pick_some (reaches (network_of R.zones es) source) j xs inside
              (rw (sink_at j f.0) at (reached es A (get_or w' (at + j) 0) zone f.1.0))
              (passed es A j (omega (arith, f.0)) f.1.1));
        }
