-- `links::put_links` meets its contract: the stations are put, and then the rings, the chain and the links back one
-- behind the other. There are as many rings as pairs, less one, and as many steps of the chain as stations, less one.
-- Assumes nothing.
use Rattle.links.proofs.Written.{memory_long, all_few, ring_joinable, chain_joinable, back_joinable, linked}
use native.Mathlib.Omega.{arith}
use Rattle.links.proofs.put_links.Goals as goal

-- the links are no more than the zones, and so no more than a number of the machine
pub overflow_add-at : goal.overflow_add-at
overflow_add-at c =
    let few =
    all_few c.requires c.put_stations-stations.ensures c.saturating_sub-rings.ensures c.saturating_sub-chain.ensures
    in
    omega (arith, few)

pub overflow_add-result : goal.overflow_add-result
overflow_add-result c =
    let few =
    all_few c.requires c.put_stations-stations.ensures c.saturating_sub-rings.ensures c.saturating_sub-chain.ensures
    in
    omega (arith, few)

pub returns : goal.returns
returns c =
    linked c.requires c.put_stations-stations.ensures c.saturating_sub-rings.ensures c.saturating_sub-chain.ensures
    c.join.ensures c.join-2.ensures c.join-3.ensures

-- there is room for the rings
pub join-requires : goal.join-requires
join-requires c =
    let m = c.put_stations-stations in
    let long = memory_long c.requires m.ensures in
    ring_joinable c.requires m.ensures c.saturating_sub-rings.ensures c.saturating_sub-chain.ensures
    m.new.work long

-- there is room for the chain
pub join-requires-2 : goal.join-requires-2
join-requires-2 c =
    let m = c.put_stations-stations in
    let long = memory_long c.requires m.ensures in
    chain_joinable c.requires m.ensures c.saturating_sub-rings.ensures c.saturating_sub-chain.ensures
    c.join.new.work (omega (arith, long))

-- there is room for the links back
pub join-requires-3 : goal.join-requires-3
join-requires-3 c =
    let m = c.put_stations-stations in
    let long = memory_long c.requires m.ensures in
    back_joinable c.requires m.ensures c.saturating_sub-rings.ensures c.saturating_sub-chain.ensures
    c.join-2.new.work (omega (arith, long))
