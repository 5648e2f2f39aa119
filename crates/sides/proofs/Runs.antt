-- The side that is picked is the one on which the rule runs.
--   given_runs    s ≤ t: the side as given;   turned_runs   s > t: the side turned round
-- The idea: the rule runs on the network itself, or on the network turned round, and its links are the plan, or are it
-- turned back. The places are those of the map, exchanged where it is turned round. Assumes nothing.
use mathlib.Core.Path.{◌≡◌, refl}
use mathlib.Core.Bool.{true, false}
use Prim.Native.Nat.{ℕ, ◌≤◌, ◌<◌}
use Rattle.std.proofs.Common.{rules, arith}
use lib.ListN.{length}
use borrow.Author.Tests.{le-leb, lt-leb}
use Rattle.rules.specs.Network.{Network}
use Rattle.rules.specs.Components.{sources, sinks}
use Rattle.rules.specs.Plan.{is_upright, turned, upright_plan}
use Rattle.theory.proofs.Planning.PlanStrong.{plan_of_upright, plan_of_turned, upright_same, upright_other}
use Rattle.workmap.specs.declared.Map.{Map}
use Rattle.workmap.specs.declared.Side.{Side}
use Rattle.workmap.specs.Map.{map_of}
use Rattle.workmap.proofs.Places.{placed, searches_placed, lists_placed, pairs_placed, links_placed}
use Rattle.sides.specs.Sides.{RuleSide}
use Rattle.sides.proofs.Turning.{stands_turned, columns_turned}

-- the side as given
abbrev given_side : Map → Side
given_side m = record { rows = m.rows; search = m.search; lists = m.lists; pairs = m.pairs; links = m.links }

-- the side turned round
abbrev turned_side : Map → Side
turned_side m =
    record {
      rows = m.turned;
      search = m.search;
      lists = record { sources = m.lists.sinks; sinks = m.lists.sources; alone = m.lists.alone };
      pairs = m.pairs;
      links = record { stations = m.links.stations; from = m.links.to; to = m.links.from; why = m.links.why };
    }

module _ {m : Map} (e : m ≡ map_of m.zones m.arcs) {s t : ℕ} where
  -- no more sources than sinks
  is_given : (N : Network) → s ≤ t → s ≡ length (sources N) → t ≡ length (sinks N) → is_upright N ≡ true
  unfolding is_upright
  is_given N h e f = le-leb (length (sources N)) (length (sinks N)) (omega arith)

  -- more sources than sinks
  is_turned : (N : Network) → t < s → s ≡ length (sources N) → t ≡ length (sinks N) → is_upright N ≡ false
  unfolding is_upright
  is_turned N h e f = lt-leb (length (sources N)) (length (sinks N)) (omega arith)

  -- s ≤ t: the rule runs on the side as given
  pub given_runs : s ≤ t → RuleSide m s t (given_side m)
  given_runs h =
      let a = placed e in
      let b = searches_placed e in
      let l = lists_placed e in
      let p = pairs_placed e in
      let k = links_placed e in
      record {
        roomy = search rules;
        zones = refl;
        below = omega arith;
        stands = λ w N B e f. rw (upright_same N (is_given N h e f)) B.given;
        links = λ w N weak e f C.
            let u = is_given N h e f in
            rw (plan_of_upright N weak u) (rw (upright_same N u) at C);
      }

  -- s > t: it runs on the side turned round
  pub turned_runs : t < s → RuleSide m s t (turned_side m)
  turned_runs h =
      let a = placed e in
      let b = searches_placed e in
      let l = lists_placed e in
      let p = pairs_placed e in
      let k = links_placed e in
      let same : m.turned.zones ≡ m.rows.zones = omega arith in
      record {
        roomy = search rules;
        zones = same;
        below = omega arith;
        stands = λ w N B e f.
            rw (upright_other N (is_turned N h e f)) (stands_turned N same B.given B.turned_round B.turned_fits);
        links = λ w N weak e f C.
            let u = is_turned N h e f in
            let D = rw (upright_other N u) at C in
            let back = columns_turned (upright_plan (turned N)) D.ends_held D.starts_held D.whys_held in
            rw (plan_of_turned N weak u) back;
      }
