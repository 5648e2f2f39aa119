-- Components, their names, and their kinds (document 01, "Components and kinds").
--   together N a b   a and b are in one component
--   name N z         the name of z's component;   names N   the names of all components, ascending
--   entered, exited    an arc comes into the component from another; an arc goes out of it to another
--   sources, sinks, alone, inner   the names of each kind, ascending
use Rattle.std.specs.Prelude.{ℕ, List, Bool, ◌&&◌}
use Rattle.std.proofs.Math.Bool.{true, false, not}
use Rattle.std.proofs.Math.Dec.{eqb}
use Rattle.rules.specs.Lists.{keep, any, first}
use Rattle.rules.specs.Network.{Arc, Network, reaches}

module _ (N : Network) where
  -- two zones are in one component if each reaches the other
  unfoldable pub together : ℕ → ℕ → Bool
  unfolding reaches
  together a b = elim (reaches N a b) [ true ↦ reaches N b a | false ↦ false ]

  -- a component is named by its lowest zone: the first, as the zones ascend
  unfoldable pub name : ℕ → ℕ
  unfolding together
  name z = first (together z) z N.zones

  -- whether a zone is a name
  unfoldable pub is_name : ℕ → Bool
  unfolding name
  is_name z = eqb (name z) z

  -- the names of all components, ascending
  unfoldable pub names : List ℕ
  unfolding is_name
  names = keep is_name N.zones

  -- some arc comes into the component of c from another
  unfoldable pub entered : ℕ → Bool
  unfolding together
  entered c = any (λ (e : Arc). together e.head c && not (together e.tail c)) N.arcs

  -- some arc goes out of the component of c to another
  unfoldable pub exited : ℕ → Bool
  unfolding together
  exited c = any (λ (e : Arc). together e.tail c && not (together e.head c)) N.arcs

  -- arcs out and none in
  unfoldable pub sources : List ℕ
  unfolding names entered exited
  sources = keep (λ c. exited c && not (entered c)) names

  -- arcs in and none out
  unfoldable pub sinks : List ℕ
  unfolding names entered exited
  sinks = keep (λ c. entered c && not (exited c)) names

  -- neither
  unfoldable pub alone : List ℕ
  unfolding names entered exited
  alone = keep (λ c. not (entered c) && not (exited c)) names

  -- both
  unfoldable pub inner : List ℕ
  unfolding names entered exited
  inner = keep (λ c. entered c && exited c) names
