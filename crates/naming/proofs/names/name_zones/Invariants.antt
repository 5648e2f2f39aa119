-- `name_zones` meets its contract. The loop's invariant: the zones below v have their names. Assumes nothing.
use Rattle.naming.specs.Names.{ZonesNamed}
use Rattle.naming.proofs.names.name_zones.Given as goal

-- what every turn of the loop keeps
abbrev pub invariant-loop-v : goal.invariant-loop-v
invariant-loop-v l = ZonesNamed l.initial.work l.work l.zones l.at l.v
