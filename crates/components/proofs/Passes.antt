-- How the two passes, the naming and the listing follow one another in the memory, where everything stands as
-- `name_all` lays it, and what they leave.
--   for_finish, for_collect, for_naming, for_listing   what each asks for is so
--   named_lowest    each zone's name is the lowest zone that leads to it and back
--   done            the memory holds the components
-- Each step keeps what stands behind its own regions, so the rows are what they were, and the steps' results stay.
-- Assumes nothing.
use mathlib.Core.Path.{◌≡◌, refl, sym, ◌∙◌}
use mathlib.Core.List.{List, Memᴰ as In}
use Prim.Native.Nat.{ℕ, ◌+◌, ◌≤◌, ◌<◌}
use native.Mathlib.Omega.{arith}
use lib.ListN.{length, get_or, drop}
use Rattle.rules.specs.Network.{network_of, Reach}
use Rattle.rules.specs.Network.Reach.{same}
use Rattle.rules.specs.Components.{name, names}
use Rattle.rules.specs.Calls.{arcs_of}
use Rattle.theory.proofs.Files.Accepting.{fine_few}
use Rattle.workmap.specs.declared.SearchAt.{SearchAt}
use Rattle.workmap.specs.Map.{search_places, rows_at, turned_at, order_at, names_at, map_of}
use Rattle.arranged.specs.Rows.{Entry, Run, rows_of}
use Rattle.arranged.specs.Arranged.{Between, ArrangedAt}
use Rattle.arranged.proofs.ArcRows.{arcs_turned}
use Rattle.arranged.proofs.ArrangedLaws.{arranged_sound, arranged_fits, arranged_entry, entry_arranged, reach_run}
use Rattle.arranged.proofs.ArrangedLaws.{arranged_kept}
use Rattle.arranged.proofs.ReadyLaws.{arcs_within, turned_within, many, turned_many}
use Rattle.memory.specs.Regions.{cell}
use Rattle.descent.specs.Memory.{Ready, OrderKept, Finished}
use Rattle.memory.proofs.Regions.{at_kept, at_below}
use Rattle.memory.proofs.Places.{take_shorter, drop_deeper}
use Rattle.theory.proofs.Reaching.Components.{name_is_name, names_zone, names_distinct}
use Rattle.theory.proofs.Ground.Ascending.{span_in}
use Rattle.search.specs.Marking.{Laid, Queued}
use Rattle.search.proofs.Laying.{arranged_laid}
use Rattle.roots.specs.Roots.{Collectable, Collected}
use Rattle.naming.specs.Names.{ZonesNameable, ZonesNamed}
use Rattle.naming.specs.Tops.{TopsListable, TopsListed}
use Rattle.components.specs.Components.{Lent, Components}
use Rattle.naming.proofs.Noting.{first_one}
use Rattle.components.proofs.Lowest.{Lowest, arcs_proper, zone_in, lowest_name, listed_count}

-- where the second pass has its marks, which are the roots, and its queue
abbrev pub roots_at : ℕ → SearchAt
roots_at n = search_places (names_at n).roots (names_at n).queue

-- n zones; the arcs of ts and hs are arranged in w, where the map of the network says
module _ {w : List ℕ} {n : ℕ} {ts hs : List ℕ} (I : Lent w (map_of n (length ts)) ts hs) where
  -- The arcs are between zones.
  between : Between n (arcs_of ts hs)
  between = arcs_within n ts hs I.ready.fine

  -- The turned rows lie in the memory, behind everything else.
  room : (turned_at n (length ts)).rows + length ts ≤ length w
  room = omega (arith, I.ready.room, I.ready.fine.accepted.zones_least)

  -- A row ends as many places behind where the rows begin as there are arcs, or before.
  row_few : (z : ℕ) → z < n → get_or (drop (rows_at n).starts w) (z + 1) 0 ≤ length ts
  row_few z l =
      omega (
        arith,
        arranged_fits w (rows_at n) (arcs_of ts hs) I.rows z l,
        many n ts hs I.ready.fine,
      )

  -- What the first pass asks for is so.
  pub for_finish : Ready w (rows_at n) (order_at n)
  for_finish = record {
    small = I.ready.fine.accepted.zones_most;
    apart = omega arith;
    before = omega arith;
    order_before = omega arith;
    starts_before = omega arith;
    inside = omega (arith, room);
    few = λ z l. omega (arith, row_few z l, fine_few I.ready.fine);
    fits = λ z l. omega (arith, row_few z l, room);
    sound = arranged_sound w (rows_at n) (arcs_of ts hs) I.rows between;
  }

  -- An element of a region is clear.
  clear_at : (at v : ℕ) → (names_at n).tops ≤ at → at + n ≤ (rows_at n).starts → v < n → cell w at v ≡ 0
  clear_at at v low high l = I.clear (at + v) (omega arith) (omega arith)

  -- The marks of the first pass are clear.
  pub seen_clear : (v : ℕ) → v < n → cell w (order_at n).seen v ≡ 0
  seen_clear v l = clear_at (order_at n).seen v (omega arith) (omega arith) l

  -- the first pass is done
  module _ {w₁ : List ℕ} (K : OrderKept w w₁ (rows_at n) (order_at n)) (F : Finished w₁ (rows_at n) (order_at n)) where
    -- The turned rows are kept.
    turned_same : drop (turned_at n (length ts)).starts w₁ ≡ drop (turned_at n (length ts)).starts w
    turned_same = drop_deeper w w₁ (rows_at n).starts (turned_at n (length ts)).starts (omega arith) K.back

    -- The turned rows are arranged still.
    turned_here : ArrangedAt w₁ (turned_at n (length ts)) (arcs_of hs ts)
    turned_here = arranged_kept w w₁ (turned_at n (length ts)) (arcs_of hs ts) turned_same I.turned

    -- The memory is laid for the second pass.
    for_laid : Laid w₁ (turned_at n (length ts)) (roots_at n)
    for_laid =
        arranged_laid w₁ n (turned_at n (length ts)).starts (turned_at n (length ts)).rows (names_at n).roots
        (names_at n).queue (arcs_of hs ts) turned_here (turned_within n ts hs I.ready.fine)
        I.ready.fine.accepted.zones_most (omega arith) (omega arith)
        (omega (arith, room, turned_many n ts hs I.ready.fine, K.long))

    -- An entry is one of the turned rows the other way round.
    turn_to : (a b : ℕ) → Entry (rows_of w (rows_at n)) a b
        → Entry (rows_of w (turned_at n (length ts))) b a
    turn_to a b e = entry_arranged w (turned_at n (length ts)) (arcs_of hs ts) I.turned
        (turned_within n ts hs I.ready.fine)
        (arcs_turned ts hs (arranged_entry w (rows_at n) (arcs_of ts hs) I.rows e))

    -- An entry of the turned rows is one the other way round.
    turn_back : (a b : ℕ) → Entry (rows_of w (turned_at n (length ts))) b a
        → Entry (rows_of w (rows_at n)) a b
    turn_back a b e = entry_arranged w (rows_at n) (arcs_of ts hs) I.rows between
        (arcs_turned hs ts (arranged_entry w (turned_at n (length ts)) (arcs_of hs ts)
        I.turned e))

    -- What the second pass asks for is so.
    pub for_collect : Collectable w₁ (rows_at n) (turned_at n (length ts)) (order_at n) (roots_at n)
    for_collect = record {
      zones = refl;
      laid = for_laid;
      clear = λ v l. at_below w w₁ (order_at n).seen ((names_at n).roots + v) (omega arith) K.front
          ∙ clear_at (names_at n).roots v (omega arith) (omega arith) l;
      order_behind = omega arith;
      order_fits = omega (arith, room, K.long);
      forward = rw K.back for_finish.sound;
      finished = F;
      turn_to = rw (K.back, turned_same) turn_to;
      turn_back = rw (K.back, turned_same) turn_back;
    }

    -- the second pass is done
    module _ {w₂ : List ℕ} (C : Collected w₁ w₂ (rows_at n) (turned_at n (length ts)) (roots_at n)) where
      -- What the naming asks for is so.
      pub for_naming : ZonesNameable w₂ n (names_at n)
      for_naming = record {
        small = I.ready.fine.accepted.zones_most;
        apart = omega arith;
        before = omega arith;
        fits = omega (arith, room, K.long, C.rest.long);
        clear = λ v l. at_below w₁ w₂ (names_at n).roots ((names_at n).low + v) (omega arith) C.rest.below
            ∙ at_below w w₁ (order_at n).seen ((names_at n).low + v) (omega arith) K.front
            ∙ clear_at (names_at n).low v (omega arith) (omega arith) l;
        root = C.root;
      }

      -- the naming is done
      module _ {w₃ : List ℕ} (N : ZonesNamed w₂ w₃ n (names_at n) n) where
        -- The queue is kept.
        queue_same : (i : ℕ) → cell w₃ (names_at n).queue i ≡ cell w₂ (names_at n).queue i
        queue_same i = at_kept w₂ w₃ (names_at n).roots ((names_at n).queue + i) (omega arith) N.back

        -- The queue holds zones.
        queue_zone : (i : ℕ) → i < n → cell w₃ (names_at n).queue i < n
        queue_zone i l = rw (queue_same i) (C.topo.zone i l)

        -- What the listing asks for is so.
        pub for_listing : TopsListable w₃ n (names_at n)
        for_listing = record {
          apart = omega arith;
          before = omega arith;
          fits = omega (arith, room, K.long, C.rest.long, N.long);
          zone = queue_zone;
        }

        -- Each zone's name is the lowest zone that leads to it and back.
        named_lowest : (v : ℕ) → v < n → Lowest (Entry (rows_of w (rows_at n))) v
            (cell w₃ (names_at n).names v)
        named_lowest v l =
            let f = N.naming.named v l in
            let zone : cell w₃ (names_at n).names v < n = omega (arith, f.low) in
            rw (sym K.back) (record {
              low = f.low;
              with = (C.same (cell w₃ (names_at n).names v) v zone l).0 f.same;
              least = λ t h y. f.least t h ((C.same t v (omega arith) l).1 y);
            })

        -- Each zone's name is the rules'.
        named_name : (v : ℕ) → v < n → cell w₃ (names_at n).names v ≡ name (network_of n (arcs_of ts hs)) v
        named_name v l = lowest_name I.rows between l (named_lowest v l)

        -- Every zone is on the queue.
        queue_all : (v : ℕ) → v < n → Queued (cell w₃ (names_at n).queue) 0 n v
        queue_all v l =
            let s = C.topo.all v l (λ e. omega (arith, (C.root v l).0)) in
            record { at = s.at; low = s.low; high = s.high; is = queue_same s.at ∙ s.is }

        -- A zone of the queue leads to one before it only within a component.
        queue_after : (i j : ℕ) → i < j → j < n
            → Run (Entry (rows_of w (rows_at n))) (cell w₃ (names_at n).queue j) (cell w₃ (names_at n).queue i)
            → cell w₂ (names_at n).roots (cell w₃ (names_at n).queue j)
            ≡ cell w₂ (names_at n).roots (cell w₃ (names_at n).queue i)
        queue_after i j l h = rw (queue_same i, queue_same j, sym K.back) (C.topo.after i j l h)

        -- the listing is done, and there are k names
        module _ {w₄ : List ℕ} {k : ℕ} (L : TopsListed w₃ w₄ n (names_at n) n k) where
          -- The names are kept.
          names_same : (v : ℕ) → cell w₄ (names_at n).names v ≡ cell w₃ (names_at n).names v
          names_same v = at_kept w₃ w₄ (names_at n).names ((names_at n).names + v) (omega arith) L.back

          -- What is listed is a zone.
          top_zone : (j : ℕ) → j < k → cell w₄ (names_at n).tops j < n
          top_zone j l = let s = L.picks.from j l in rw s.is at (queue_zone s.at s.high)

          -- What is listed is its own name.
          top_own : (j : ℕ) → j < k
              → name (network_of n (arcs_of ts hs)) (cell w₄ (names_at n).tops j) ≡ cell w₄ (names_at n).tops j
          top_own j l = sym (named_name (cell w₄ (names_at n).tops j) (top_zone j l)) ∙ L.picks.own j l

          -- What is listed is a name.
          top_in : (j : ℕ) → j < k → In (cell w₄ (names_at n).tops j) (names (network_of n (arcs_of ts hs)))
          top_in j l = rw (top_own j l) at
              (name_is_name (arcs_proper I.rows between) (zone_in I.rows between (top_zone j l)))

          -- Every name is listed.
          top_all : (c : ℕ) → In c (names (network_of n (arcs_of ts hs)))
              → (j : ℕ) × (j < k) × (cell w₄ (names_at n).tops j ≡ c)
          top_all c i =
              let z = names_zone (network_of n (arcs_of ts hs)) i in
              let l : c < n = omega (arith, span_in 0 n z.0) in
              let s = queue_all c l in
              let own = named_name c l ∙ z.1 in
              let t = L.picks.all s.at s.high (rw s.is own) in
              (t.at, t.high, t.is ∙ s.is)

          -- No name is listed before one that reaches it.
          top_sorted : (i j : ℕ) → i < j → j < k
              → Reach (network_of n (arcs_of ts hs)) (cell w₄ (names_at n).tops j) (cell w₄ (names_at n).tops i) → ⊥
          top_sorted i j l h p =
              let r = reach_run w (rows_at n) (arcs_of ts hs) I.rows between p in
              let s = L.picks.rising i j l h in
              let e = queue_after s.at s.later s.order s.low (rw (s.is, s.next) r) in
              lead s.at s.later s.order s.low
              (rw s.is (L.picks.own i (omega arith))) (rw s.next (L.picks.own j h)) e
            where
              lead : (a b : ℕ) → a < b → b < n
                  → cell w₃ (names_at n).names (cell w₃ (names_at n).queue a) ≡ cell w₃ (names_at n).queue a
                  → cell w₃ (names_at n).names (cell w₃ (names_at n).queue b) ≡ cell w₃ (names_at n).queue b
                  → cell w₂ (names_at n).roots (cell w₃ (names_at n).queue b)
                  ≡ cell w₂ (names_at n).roots (cell w₃ (names_at n).queue a) → ⊥
              lead a b l h own_a own_b e =
                  let first_a = rw own_a at
                  (N.naming.named (cell w₃ (names_at n).queue a) (queue_zone a (omega arith))) in
                  let first_b = rw own_b at (N.naming.named (cell w₃ (names_at n).queue b) (queue_zone b h)) in
                  C.topo.distinct a b l h (sym (queue_same a) ∙ first_one first_a first_b (sym e) ∙ queue_same b)

          -- The memory holds the components.
          pub done : Components w w₄ (map_of n (length ts)) (network_of n (arcs_of ts hs)) k
          done = record {
            long = L.long ∙ N.long ∙ C.rest.long ∙ K.long;
            front = L.front
                ∙ take_shorter w₂ w₃ (names_at n).tops (names_at n).names (omega arith) N.front
                ∙ take_shorter w₁ w₂ (names_at n).tops (names_at n).roots (omega arith) C.rest.below
                ∙ take_shorter w w₁ (names_at n).tops (order_at n).seen (omega arith) K.front;
            back = drop_deeper w₃ w₄ (names_at n).names (rows_at n).starts (omega arith) L.back
                ∙ drop_deeper w₂ w₃ (names_at n).roots (rows_at n).starts (omega arith) N.back
                ∙ drop_deeper w₁ w₂ ((names_at n).queue + n) (rows_at n).starts (omega arith) C.rest.above
                ∙ K.back;
            named = λ v l. names_same v ∙ named_name v l;
            count = listed_count (cell w₄ (names_at n).tops) k (names (network_of n (arcs_of ts hs)))
                (names_distinct (arcs_proper I.rows between)) top_in top_all
                (λ i j l h e. top_sorted i j l h (same (sym e)));
            top = top_in;
            listed = top_all;
            once = λ i j l h e. top_sorted i j l h (same (sym e));
            sorted = top_sorted;
          }
