-- The skeleton rule (document 01).
--   follows N a b   point 1: the arc from a to b is in the ring of a component
--   crosses N a b   point 2: the arc from a to b stands between two components
--   skeleton N      point 3: the arcs of both kinds, each once, ascending by tail, then by head
--   skeleton_of N   the network that they make
-- A skeleton is the pairs of zones, in ascending order, that one of the two tests takes, so it is sorted and has no
-- arc twice by the way it is made.
use Rattle.std.specs.Prelude.{ℕ, Bool, ◌&&◌, eqb}
use mathlib.Core.List.{List, map, flat_map}
use Rattle.std.proofs.Math.Bool.{true, false, not}
use Rattle.std.proofs.Math.Dec.{ltb}
use Rattle.rules.specs.Lists.{keep, any}
use Rattle.rules.specs.Network.{Arc, ◌⟶◌, Network, reaches}
use Rattle.rules.specs.Components.{together, is_name}

-- all pairs of zones, ascending by the first, then by the second
unfoldable pub pairs_of : List ℕ → List Arc
unfolding flat_map
pairs_of zs = flat_map (λ a. map (λ b. a ⟶ b) zs) zs

module _ (N : Network) where
  -- some zone of a's component, above a, passes the test
  unfoldable pub higher : ℕ → (ℕ → Bool) → Bool
  unfolding together
  higher a p = any (λ c. ltb a c && (p c && together N a c)) N.zones

  -- point 1: b comes next after a in their component, or b is its lowest and a its highest
  unfoldable pub follows : ℕ → ℕ → Bool
  unfolding together is_name higher
  follows a b =
      elim (not (eqb a b) && together N a b) [
        | false ↦ false
        | true ↦ elim (ltb a b) [
          | true ↦ not (higher a (λ c. ltb c b))
          | false ↦ is_name N b && not (higher a (λ c. true))
        ]
      ]

  -- some arc joins a zone of a's component to a zone of b's
  unfoldable pub joined : ℕ → ℕ → Bool
  unfolding together
  joined a b = any (λ (e : Arc). together N e.tail a && together N e.head b) N.arcs

  -- c lies in a third component, which a's reaches and which reaches b's
  unfoldable pub between : ℕ → ℕ → ℕ → Bool
  unfolding together reaches
  between a b c = (not (together N a c) && not (together N c b)) && (reaches N a c && reaches N c b)

  -- point 2: a and b name two components that an arc joins, and no third lies between
  unfoldable pub crosses : ℕ → ℕ → Bool
  unfolding together is_name joined between
  crosses a b =
      (is_name N a && is_name N b)
      && ((not (together N a b) && joined a b) && not (any (between a b) N.zones))

  -- whether the rule takes an arc
  unfoldable pub in_skeleton : Arc → Bool
  unfolding follows crosses
  in_skeleton e = elim (follows e.tail e.head) [ true ↦ true | false ↦ crosses e.tail e.head ]

  -- point 3
  unfoldable pub skeleton : List Arc
  unfolding in_skeleton pairs_of
  skeleton = keep in_skeleton (pairs_of N.zones)

  -- the zone count stays
  abbrev pub skeleton_of : Network
  skeleton_of = record { zones = N.zones; arcs = skeleton }
