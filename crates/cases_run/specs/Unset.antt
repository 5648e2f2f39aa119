-- The records that are lent to PLAN.
--   unset_links     ten records that no plan has
use Rattle.std.specs.Prelude.{List, replicate}
use Rattle.rules.specs.declared.Why.TheVariants.{Back}
use Rattle.rules.specs.declared.Link.{Link}

-- ten records that no plan has
abbrev pub unset_links : List Link
unset_links = replicate 10 (record { from = 999; to = 999; why = Back })
