-- `name_all` meets its contract: the four steps follow one another, each asks for what the ones before it leave, and
-- what they leave together are the components. The map is that of the network, so each step's places are known.
-- Assumes nothing.
use mathlib.Core.List.{List}
use Prim.Native.Nat.{ℕ}
use lib.ListN.{length}
use Rattle.workmap.specs.declared.Map.{Map}
use Rattle.workmap.specs.Map.{rows_at, map_of}
use Rattle.components.specs.Components.{Lent}
use Rattle.components.proofs.Passes.{for_finish, seen_clear, for_collect}
use Rattle.components.proofs.Passes.{for_naming, for_listing, done}
use Rattle.components.proofs.name_all.Goals as goal

-- The map is the network's.
at_map : {w : List ℕ} {m : Map} {ts hs : List ℕ} → Lent w m ts hs → Lent w (map_of m.zones (length ts)) ts hs
at_map I = rw I.ready.map at I

-- What `finish` asks for is so.
pub finish-requires : goal.finish-requires
finish-requires c =
    let I = c.requires.1.1 in
    rw I.ready.map (record { ready = for_finish (at_map I); marks_clear = seen_clear (at_map I) })

-- What `collect` asks for is so.
pub collect-requires : goal.collect-requires
collect-requires c =
    let I = c.requires.1.1 in
    let F = rw I.ready.map at c.finish.ensures in
    rw I.ready.map (rows_at _, for_collect (at_map I) F.0 F.1)

-- What `name_zones` asks for is so.
pub name_zones-requires : goal.name_zones-requires
name_zones-requires c =
    let I = c.requires.1.1 in
    let F = rw I.ready.map at c.finish.ensures in
    let C = rw I.ready.map at c.collect.ensures in
    rw I.ready.map (for_naming (at_map I) F.0 F.1 (C (rows_at _) (for_collect (at_map I) F.0 F.1)))

-- What `list_names` asks for is so.
pub list_names-requires : goal.list_names-requires
list_names-requires c =
    let I = c.requires.1.1 in
    let F = rw I.ready.map at c.finish.ensures in
    let C = rw I.ready.map at c.collect.ensures in
    let N = rw I.ready.map at c.name_zones.ensures in
    rw I.ready.map
    (for_listing (at_map I) F.0 F.1 (C (rows_at _) (for_collect (at_map I) F.0 F.1)) N)

-- What is answered is as the contract says.
pub returns : goal.returns
returns c =
    λ ts hs I.
    let F = rw I.ready.map at c.finish.ensures in
    let C = rw I.ready.map at c.collect.ensures in
    let N = rw I.ready.map at c.name_zones.ensures in
    let L = rw I.ready.map at c.list_names.ensures in
    rw I.ready.map (done (at_map I) F.0 F.1 (C (rows_at _) (for_collect (at_map I) F.0 F.1)) N L)
