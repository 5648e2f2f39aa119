-- The plan rule (document 01): from the ordering of sources and sinks to the list of links.
--   Ordering          the pairs v(i), w(i) in the order made, and the sources and sinks that stayed unpaired
--   pairing r vs ws   points 1 and 2, for sources vs and sinks ws, where r v w says that v reaches w
--   rings, chains, backs   points 3, 4 and 5
--   links o xs        the links that an ordering gives, with xs the components alone
--   upright N         the network on which the rule runs: N, or N turned round where it has more sources than sinks
--   with_links N ls   the network with the arcs of the links ls added
--   plan N            the plan;   plan_pairs N   p;   plan_need N   the number of links
--   link_starts, link_ends, link_whys, record_of, plan_values   links and counts as a call hands them out
--   why_numbered k    the why of a number, as a record has it;   record_why_number y   its number
use Rattle.std.specs.Prelude.{ℕ, ◌+◌, max, List, [], ◌∷◌, ◌++◌, map, Bool, true, false, eqb, leb, length, drop}
use Rattle.std.proofs.Math.Option.{Option, none, some}
use Rattle.rules.specs.declared.Why.{Why as RecordWhy}
use Rattle.rules.specs.declared.Why.TheVariants.{Ring, Chain, Back}
use Rattle.rules.specs.declared.Link.{Link as RecordLink}
use Rattle.rules.specs.Network.{Arc, ◌⟶◌, Network, added, reaches, strong}
use Rattle.rules.specs.Components.{sources, sinks, alone}

-- a source v with a sink w that it reaches
pub record Couple : Type 0 where
  pub v : ℕ
  pub w : ℕ

-- an ordering: the pairs in the order made, then the sources and the sinks that stayed unpaired, ascending
pub record Ordering : Type 0 where
  pub pairs : List Couple
  pub lone_sources : List ℕ
  pub lone_sinks : List ℕ

-- a sink that was picked, and those that are left
pub record Picked : Type 0 where
  pub sink : ℕ
  pub rest : List ℕ

-- the first sink that passes the test, taken out of the list
unfoldable pub pick : (ℕ → Bool) → List ℕ → Option Picked
pick p [] = none
pick p (w ∷ ws) =
    elim (p w) [
      | true ↦ some (record { sink = w; rest = ws })
      | false ↦ elim (pick p ws) [ none ↦ none | some t ↦ some (record { sink = t.sink; rest = w ∷ t.rest }) ]
    ]

-- the ordering with v before its lone sources
abbrev pub with_lone : ℕ → Ordering → Ordering
with_lone v o = record { pairs = o.pairs; lone_sources = v ∷ o.lone_sources; lone_sinks = o.lone_sinks }

-- the ordering with the pair v, w before its pairs
abbrev pub with_pair : ℕ → ℕ → Ordering → Ordering
with_pair v w o =
    record { pairs = record { v = v; w = w } ∷ o.pairs; lone_sources = o.lone_sources; lone_sinks = o.lone_sinks }

-- points 1 and 2: each source in turn takes the lowest sink that it reaches and that is still unpaired
unfoldable pub pairing : (ℕ → ℕ → Bool) → List ℕ → List ℕ → Ordering
unfolding pick
pairing r [] ws = record { pairs = []; lone_sources = []; lone_sinks = ws }
pairing r (v ∷ vs) ws =
    elim (pick (r v) ws) [
      | none ↦ with_lone v (pairing r vs ws)
      | some t ↦ with_pair v t.sink (pairing r vs t.rest)
    ]

-- why a link is there
pub data Why : Type 0 where
  ring chain back : Why

-- its number in a list of numbers
abbrev pub why_number : Why → ℕ
why_number ring = 0
why_number chain = 1
why_number back = 2

-- a link: from a zone, to a zone, and why
pub record Link : Type 0 where
  pub start : ℕ
  pub end : ℕ
  pub why : Why

-- the arc that a link is
abbrev pub link_arc : Link → Arc
link_arc l = l.start ⟶ l.end

-- the starts of links, the ends, and the numbers of the whys
abbrev pub link_starts : List Link → List ℕ
link_starts ls = map (λ (l : Link). l.start) ls

abbrev pub link_ends : List Link → List ℕ
link_ends ls = map (λ (l : Link). l.end) ls

abbrev pub link_whys : List Link → List ℕ
link_whys ls = map (λ (l : Link). why_number l.why) ls

-- the why of a link, as a record has it
abbrev pub why_of : Why → RecordWhy
why_of ring = Ring
why_of chain = Chain
why_of back = Back

-- a why, by whether its number is 0, and whether it is 1
abbrev pub why_told : Bool → Bool → RecordWhy
why_told true one = Ring
why_told false true = Chain
why_told false false = Back

-- the why of a number, as a record has it
abbrev pub why_numbered : ℕ → RecordWhy
why_numbered k = why_told (eqb k 0) (eqb k 1)

-- and its number
abbrev pub record_why_number : RecordWhy → ℕ
record_why_number Ring = 0
record_why_number Chain = 1
record_why_number Back = 2

-- the record of a link
abbrev pub record_of : Link → RecordLink
record_of l = record { from = l.start; to = l.end; why = why_of l.why }

-- the network with the links added
abbrev pub with_links : Network → List Link → Network
with_links N ls = added N (map link_arc ls)

-- point 3: from the sink of each pair to the source of the next
unfoldable pub rings : List Couple → List Link
rings [] = []
rings (a ∷ []) = []
rings (a ∷ b ∷ cs) = record { start = a.w; end = b.v; why = ring } ∷ rings (b ∷ cs)

-- point 4: one link for each step through the list
unfoldable pub chains : List ℕ → List Link
chains [] = []
chains (a ∷ []) = []
chains (a ∷ b ∷ cs) = record { start = a; end = b; why = chain } ∷ chains (b ∷ cs)

-- point 5: from a lone sink to the lone source of the same place
unfoldable pub backs : List ℕ → List ℕ → List Link
backs [] vs = []
backs (w ∷ ws) [] = []
backs (w ∷ ws) (v ∷ vs) = record { start = w; end = v; why = back } ∷ backs ws vs

-- w(p): the last pair's sink, where there is a pair
unfoldable pub last_sink : List Couple → List ℕ
last_sink [] = []
last_sink (a ∷ []) = a.w ∷ []
last_sink (a ∷ b ∷ cs) = last_sink (b ∷ cs)

-- the first of a list, where there is one
unfoldable pub first_of : List ℕ → List ℕ
first_of [] = []
first_of (a ∷ bs) = a ∷ []

-- the chain's stations between w(p) and v(1): the surplus sinks w(s+1) .. w(t), and then x(1) .. x(q)
unfoldable pub middle : Ordering → List ℕ → List ℕ
middle o xs = drop (length o.lone_sources) o.lone_sinks ++ xs

-- the chain's stations: w(p), the middle, and v(1), or x(1) where there is no pair
unfoldable pub stations : Ordering → List ℕ → List ℕ
unfolding last_sink first_of middle
stations o xs = last_sink o.pairs ++ middle o xs ++ first_of (map (λ (a : Couple). a.v) o.pairs ++ xs)

-- the links in their order: ring, chain, back
unfoldable pub links : Ordering → List ℕ → List Link
unfolding rings chains backs stations
links o xs = rings o.pairs ++ (chains (stations o xs) ++ backs o.lone_sinks o.lone_sources)

-- the network with every arc turned round
unfoldable pub turned : Network → Network
turned N = record { zones = N.zones; arcs = map (λ (e : Arc). e.head ⟶ e.tail) N.arcs }

-- the link turned round
unfoldable pub turned_link : Link → Link
turned_link l = record { start = l.end; end = l.start; why = l.why }

-- whether the rule runs on the network as given: s ≤ t
unfoldable pub is_upright : Network → Bool
unfolding sources sinks
is_upright N = leb (length (sources N)) (length (sinks N))

-- the network on which the rule runs
unfoldable pub upright : Network → Network
unfolding is_upright turned
upright N = elim (is_upright N) [ true ↦ N | false ↦ turned N ]

-- points 1 and 2 for a network
unfoldable pub ordering : Network → Ordering
unfolding pairing reaches sources sinks
ordering N = pairing (reaches N) (sources N) (sinks N)

-- the rule for s ≤ t
unfoldable pub upright_plan : Network → List Link
unfolding ordering links alone
upright_plan N = links (ordering N) (alone N)

-- a strong network gets an empty plan; where s > t the rule runs on the turned network and its links are turned round
unfoldable pub plan : Network → List Link
unfolding strong is_upright upright_plan turned turned_link
plan N =
    elim (strong N) [
      | true ↦ []
      | false ↦ elim (is_upright N) [
        | true ↦ upright_plan N
        | false ↦ map turned_link (upright_plan (turned N))
      ]
    ]

-- p: how many pairs are made
unfoldable pub plan_pairs : Network → ℕ
unfolding ordering upright
plan_pairs N = length (ordering (upright N)).pairs

-- max(s, t) + q, or 0 for a strong network
unfoldable pub plan_need : Network → ℕ
unfolding strong sources sinks alone
plan_need N =
    elim (strong N) [
      | true ↦ 0
      | false ↦ max (length (sources N)) (length (sinks N)) + length (alone N)
    ]

-- what an answer carries: s, t, q, p, and the number of links
abbrev pub plan_values : Network → List ℕ
plan_values N = length (sources N) ∷ length (sinks N) ∷ length (alone N) ∷ plan_pairs N ∷ plan_need N ∷ []
