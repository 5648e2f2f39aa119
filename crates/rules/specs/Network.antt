-- A network, and which zone reaches which (document 01, "What the tool covers"; document 02, No. 2).
--   a ⟶ b           the arc from zone a to zone b;   tails-of, heads_of   the tails and the heads of arcs
--   Network         zones, ascending, and arcs, in any order and with repeats
--   network_of n es document 01's network: every number below n is a zone
--   network_with n es gone   document 02's: the zones are those that remain once the numbers of `gone` are withdrawn
--   added N es      the network with more arcs
--   Reach N a b     a reaches b: the meaning;   reaches N a b: the test
--   Strong N        every zone reaches every zone: the meaning;   strong N: the test
--   Proper N        zones ascend and arcs are between zones, as in every network that a call accepts
-- The test takes the zones as intermediates one after another: a run with its inner zones among k ∷ ks either avoids k
-- or goes to k and on from k with its inner zones among ks.
use Rattle.std.specs.Prelude.{ℕ, ◌<◌, ◌≡◌, Bool, not, ◌&&◌, eqb}
use mathlib.Core.List.{List, [], ◌∷◌, ◌++◌, map, Memᴰ as In}
use Rattle.std.proofs.Math.Bool.{true, false}
use Rattle.rules.specs.Lists.{span, keep, any, every, listed}

-- an arc: water goes from its tail to its head
pub record Arc : Type 0 where
  pub tail : ℕ
  pub head : ℕ

infix 40 ◌⟶◌
abbrev pub ◌⟶◌ : ℕ → ℕ → Arc
a ⟶ b = record { tail = a; head = b }

-- the tails of arcs, and the heads
abbrev pub arc_tails : List Arc → List ℕ
arc_tails es = map (λ (e : Arc). e.tail) es

abbrev pub arc_heads : List Arc → List ℕ
arc_heads es = map (λ (e : Arc). e.head) es

-- a network: its zones, ascending, and its arcs, in any order and with repeats
pub record Network : Type 0 where
  pub zones : List ℕ
  pub arcs : List Arc

-- document 01's network: zones are numbered from 0, and every number below the zone count is a zone
abbrev pub network_of : ℕ → List Arc → Network
network_of n es = record { zones = span 0 n; arcs = es }

-- the zones that remain: the numbers below the zone count that are not withdrawn, ascending
abbrev pub remaining : ℕ → List ℕ → List ℕ
remaining n gone = keep (λ z. not (listed gone z)) (span 0 n)

-- document 02's network: the zones are those that remain
abbrev pub network_with : ℕ → List Arc → List ℕ → Network
network_with n es gone = record { zones = remaining n gone; arcs = es }

-- the network with more arcs
abbrev pub added : Network → List Arc → Network
added N es = record { zones = N.zones; arcs = N.arcs ++ es }

-- the list ascends from a number below its first on, and no number stands in it twice
abbrev pub Above : ℕ → List ℕ → Type 0
Above a [] = Unit {0}
Above a (x ∷ xs) = (a < x) × Above x xs

-- a list that ascends, with no number twice
abbrev pub Ascending : List ℕ → Type 0
Ascending [] = Unit {0}
Ascending (x ∷ xs) = Above x xs

-- zones ascend, and every arc is between zones
pub record Proper (N : Network) : Type 0 where
  pub ascending : Ascending N.zones
  pub tails : {a b : ℕ} → In (a ⟶ b) N.arcs → In a N.zones
  pub heads : {a b : ℕ} → In (a ⟶ b) N.arcs → In b N.zones

-- a reaches b if a = b or a run of arcs leads from a to b
pub data Reach (N : Network) : ℕ → ℕ → Type 0 where
  same : {a b : ℕ} → a ≡ b → Reach N a b
  step : {a b c : ℕ} → In (a ⟶ b) N.arcs → Reach N b c → Reach N a c

-- a network is strong if every zone reaches every zone
abbrev pub Strong : Network → Type 0
Strong N = (a b : ℕ) → In a N.zones → In b N.zones → Reach N a b

-- whether some arc leads from a to b
unfoldable pub has_arc : List Arc → ℕ → ℕ → Bool
has_arc es a b = any (λ (e : Arc). eqb e.tail a && eqb e.head b) es

-- whether a run of one arc or more leads from a to b with all its inner zones among ks
unfoldable pub via : List Arc → List ℕ → ℕ → ℕ → Bool
unfolding has_arc
via es [] a b = has_arc es a b
via es (k ∷ ks) a b =
    elim (via es ks a b) [
      | true ↦ true
      | false ↦ elim (via es ks a k) [ true ↦ via es ks k b | false ↦ false ]
    ]

module _ (N : Network) where
  -- the test of `Reach`
  unfoldable pub reaches : ℕ → ℕ → Bool
  unfolding via
  reaches a b = elim (eqb a b) [ true ↦ true | false ↦ via N.arcs N.zones a b ]

  -- the test of `Strong`
  unfoldable pub strong : Bool
  unfolding reaches
  strong = every (λ a. every (reaches a) N.zones) N.zones
