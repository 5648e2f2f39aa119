-- `skeleton::sketch` meets its contract: the memory is readied, the zones get their names, the skeleton's arcs are put
-- and sorted, and clearing leaves what came behind. Assumes nothing.
use native.Mathlib.Omega.{arith}
use Prim.Native.Nat.{ℕ}
use mathlib.Core.Path.{◌≡◌, refl, ap, subst}
use lib.ListN.{length, take}
use Rattle.rules.specs.Lists.{cleared}
use Rattle.rules.specs.Network.{network_of}
use Rattle.rules.specs.Calls.{arcs_of}
use Rattle.theory.proofs.Files.Accepting.{fine_few}
use Rattle.workmap.specs.declared.Map.{Map}
use Rattle.workmap.specs.Map.{map_of, rows_at}
use Rattle.workmap.proofs.Places.{placed}
use Rattle.arranged.specs.Ready.{Readied}
use Rattle.components.specs.Components.{Lent, Components}
use Rattle.components.proofs.Lending.{lent_ready, components_at}
use Rattle.sorting.specs.Sorting.{Sortable, Sorted}
use Rattle.drawing.specs.Drawing.{Drawn}
use Rattle.skeleton.proofs.Sketching.{named_here, sort_asked, sketched}
use Rattle.skeleton.proofs.sketch.Goals.{After-draw-count, After-name_all-places, After-ready, After-sort}
use Rattle.skeleton.proofs.sketch.Goals as goal

-- they stand where the map has them
readied_there : (c : After-ready) →
    let a = c.args in
    Readied a.work.now c.ready.new.work (map_of a.zones (length a.tails.now)) a.tails.now a.heads.now
readied_there c = rw c.map_of-m.ensures at c.ready.ensures

-- the map's zone count is the network's
zones_are : (c : After-ready) → c.map_of-m.result.zones ≡ c.args.zones
zones_are c = ap (λ (m : Map). m.zones) c.map_of-m.ensures

-- the memory is what naming asks for
lent_there : (c : After-ready) → let a = c.args in Lent c.ready.new.work c.map_of-m.result a.tails.now a.heads.now
lent_there c = lent_ready (rw c.map_of-m.ensures c.requires.ready) c.ready.ensures

-- what naming leaves
components_here : (c : After-name_all-places) →
    let a = c.args in
    Components c.ready.new.work c.name_all-places.new.work (map_of a.zones (length a.tails.now))
    (network_of a.zones (arcs_of a.tails.now a.heads.now)) c.name_all-places.result
components_here c =
    let lent_there : (let a = c.args in Lent c.ready.new.work c.map_of-m.result a.tails.now a.heads.now) =
    lent_ready (rw c.map_of-m.ensures c.requires.ready) c.ready.ensures in
    let a = c.args in
    components_at c.map_of-m.ensures
    (c.name_all-places.ensures a.tails.now a.heads.now lent_there)

-- what putting them left
drawn_here : (c : After-draw-count) →
    let a = c.args in
    let l = c.draw-count.new in
    Drawn c.name_all-places.new.work l.work a.zones a.tails.now a.heads.now a.from.now a.to.now l.from l.to
    c.draw-count.result
drawn_here c =
    let zones_are : c.map_of-m.result.zones ≡ c.args.zones = ap (λ (m : Map). m.zones) c.map_of-m.ensures in
    rw zones_are at c.draw-count.ensures

-- where the map has the rows by which arcs are sorted
sorting_is : (c : After-ready) → c.map_of-m.result.sorting ≡ rows_at c.args.zones
sorting_is c = ap (λ (m : Map). m.sorting) c.map_of-m.ensures

-- what sorting left
sorted_here : (c : After-sort) →
    let l = c.draw-count.new in
    let r = c.draw-count.result in
    let k = c.sort.new in
    Sorted (rows_at c.args.zones) (take r l.from) (take r l.to) l.work k.tails k.heads k.work
sorted_here c =
    let sorting_is : c.map_of-m.result.sorting ≡ rows_at c.args.zones =
    ap (λ (m : Map). m.sorting) c.map_of-m.ensures in
    rw sorting_is at c.sort.ensures

pub map_of-m-requires : goal.map_of-m-requires
map_of-m-requires c =
    let F = c.requires.ready.fine in
    record {
      zones_bound = F.accepted.zones_most;
      arcs_bound = fine_few F;
    }

pub ready-requires : goal.ready-requires
ready-requires c = rw c.map_of-m.ensures c.requires.ready

pub name_all-places-requires : goal.name_all-places-requires
name_all-places-requires c =
    let a = c.args in
    (a.tails.now, (a.heads.now, lent_there (goal.at.name_all-places-requires c).After-ready))

pub returns : goal.returns
returns c =
    let a = c.args in
    let l = c.draw-count.new in
    let k = c.sort.new in
    let here = goal.at.returns c in
    sketched a.zones a.tails.now a.heads.now a.work.now c.ready.new.work c.requires.ready
    (readied_there here.After-ready)
    c.name_all-places.new.work c.name_all-places.result (components_here here.After-name_all-places)
    a.from.now a.to.now c.requires
    l.work l.from l.to c.draw-count.result (drawn_here here.After-draw-count)
    k.work k.tails k.heads (sorted_here here.After-sort) c.clear.new.work
    (subst (λ (n : ℕ). c.clear.new.work ≡ cleared n k.work)
    (ap (λ (m : Map). m.asked) c.map_of-m.ensures) c.clear.ensures)

pub draw-count-requires : goal.draw-count-requires
draw-count-requires c =
    let is_map : (let m = c.map_of-m.result in m ≡ map_of m.zones m.arcs) = rw c.map_of-m.ensures refl in
    let a = c.args in
    let here = goal.at.draw-count-requires c in
    record {
      named = rw (zones_are here.After-ready)
          (named_here a.zones a.tails.now a.heads.now a.work.now c.ready.new.work
          c.requires.ready (readied_there here.After-ready)
          c.name_all-places.new.work c.name_all-places.result (components_here here.After-name_all-places));
      lists_have_room = (c.requires.tails_room, c.requires.heads_room);
      m_is_map = is_map;
    }

pub sort-requires : goal.sort-requires
sort-requires c =
    let a = c.args in
    let l = c.draw-count.new in
    let here = goal.at.sort-requires c in
    let r = c.draw-count.result in
    let sortable_here : Sortable (rows_at a.zones) (take r l.from) (take r l.to) l.work =
    sort_asked a.zones a.tails.now a.heads.now a.work.now c.ready.new.work c.requires.ready
    (readied_there here.After-ready)
    c.name_all-places.new.work c.name_all-places.result (components_here here.After-name_all-places)
    a.from.now a.to.now c.requires
    l.work l.from l.to c.draw-count.result (drawn_here here.After-draw-count) in
    rw (sorting_is here.After-ready) sortable_here

pub clear-requires : goal.clear-requires
clear-requires c =
    let at = placed c.map_of-m.ensures in
    let here = goal.at.clear-requires c in
    omega (
      arith,
      c.requires.ready.room,
      (readied_there here.After-ready).standing.long,
      (components_here here.After-name_all-places).long,
      (drawn_here here.After-draw-count).long,
      (sorted_here here.After-sort).long,
    )
