-- The lists of links as rows: what starts, ends and whys of `rings`, `chains` and `backs` are.
--   joins y xs ys    one link of why y from each of xs to the one of the same place in ys
--   joins_start, joins_end, joins_why, joins_long   its starts are xs, its ends ys, its whys all y
--   rings_joins, chains_joins, backs_joins   each of the three lists of links is such a row
--   couples_pairs    pairs, taken apart and put together
-- The idea: each by going through the lists. Assumes nothing.
use mathlib.Core.Path.{◌≡◌, refl, ap, ◌∙◌}
use mathlib.Core.List.{List, [], ◌∷◌, map}
use Prim.Native.Nat.{ℕ, suc, ◌-◌, ◌≤◌}
use native.Mathlib.Omega.{arith}
use lib.ListN.{length, take, drop, replicate}
use Rattle.rules.specs.Plan.{Couple, Why, ring, chain, back, why_number, Link, rings, chains, backs}
use Rattle.stations.specs.Stations.{couples}

-- one link of why y from each of xs to the one of the same place in ys
abbrev pub joins : Why → List ℕ → List ℕ → List Link
joins y [] ys = []
joins y (a ∷ xs) [] = []
joins y (a ∷ xs) (b ∷ ys) = record { start = a; end = b; why = y } ∷ joins y xs ys

-- its starts
pub joins_start : (y : Why) (xs ys : List ℕ) → length xs ≡ length ys
    → map (λ (l : Link). l.start) (joins y xs ys) ≡ xs
joins_start y [] ys e = refl
joins_start y (a ∷ xs) [] e = absurd (omega arith)
joins_start y (a ∷ xs) (b ∷ ys) e = ap (λ (l : List ℕ). a ∷ l) (joins_start y xs ys (omega arith))

-- its ends
pub joins_end : (y : Why) (xs ys : List ℕ) → length xs ≡ length ys → map (λ (l : Link). l.end) (joins y xs ys) ≡ ys
joins_end y [] [] e = refl
joins_end y [] (b ∷ ys) e = absurd (omega arith)
joins_end y (a ∷ xs) [] e = absurd (omega arith)
joins_end y (a ∷ xs) (b ∷ ys) e = ap (λ (l : List ℕ). b ∷ l) (joins_end y xs ys (omega arith))

-- its whys
pub joins_why : (y : Why) (xs ys : List ℕ) → length xs ≡ length ys →
    map (λ (l : Link). why_number l.why) (joins y xs ys) ≡ replicate (length xs) (why_number y)
joins_why y [] ys e = refl
joins_why y (a ∷ xs) [] e = absurd (omega arith)
joins_why y (a ∷ xs) (b ∷ ys) e = ap (λ (l : List ℕ). why_number y ∷ l) (joins_why y xs ys (omega arith))

-- its length
pub joins_long : (y : Why) (xs ys : List ℕ) → length xs ≡ length ys → length (joins y xs ys) ≡ length xs
joins_long y [] ys e = refl
joins_long y (a ∷ xs) [] e = absurd (omega arith)
joins_long y (a ∷ xs) (b ∷ ys) e = ap suc (joins_long y xs ys (omega arith))

-- the rings of pairs, of which there are some
rings_some : (v w : ℕ) (vs ws : List ℕ) → length vs ≡ length ws →
    rings (couples (v ∷ vs) (w ∷ ws)) ≡ joins ring (take (length ws) (w ∷ ws)) vs
unfolding rings
rings_some v w [] [] e = refl
rings_some v w [] (w' ∷ ws) e = absurd (omega arith)
rings_some v w (v' ∷ vs) [] e = absurd (omega arith)
rings_some v w (v' ∷ vs) (w' ∷ ws) e =
    ap (λ (l : List Link). record { start = w; end = v'; why = ring } ∷ l) (rings_some v' w' vs ws (omega arith))

-- the rings go from all sinks but the last to all sources but the first
pub rings_joins : (vs ws : List ℕ) → length vs ≡ length ws →
    rings (couples vs ws) ≡ joins ring (take (length ws - 1) ws) (drop 1 vs)
unfolding rings
rings_joins [] [] e = refl
rings_joins [] (w ∷ ws) e = absurd (omega arith)
rings_joins (v ∷ vs) [] e = absurd (omega arith)
rings_joins (v ∷ vs) (w ∷ ws) e =
    rings_some v w vs ws (omega arith)
    ∙ ap (λ (k : ℕ). joins ring (take k (w ∷ ws)) vs) {x = length ws} {y = suc (length ws) - 1} (omega arith)

-- the chain of stations, of which there are some
chains_some : (a : ℕ) (xs : List ℕ) → chains (a ∷ xs) ≡ joins chain (take (length xs) (a ∷ xs)) xs
unfolding chains
chains_some a [] = refl
chains_some a (b ∷ xs) =
    ap (λ (l : List Link). record { start = a; end = b; why = chain } ∷ l) (chains_some b xs)

-- the chain goes from all stations but the last to all but the first
pub chains_joins : (xs : List ℕ) → chains xs ≡ joins chain (take (length xs - 1) xs) (drop 1 xs)
unfolding chains
chains_joins [] = refl
chains_joins (a ∷ xs) =
    chains_some a xs
    ∙ ap (λ (k : ℕ). joins chain (take k (a ∷ xs)) xs) {x = length xs} {y = suc (length xs) - 1} (omega arith)

-- the links back go from as many sinks as there are sources
pub backs_joins : (ws vs : List ℕ) → length vs ≤ length ws → backs ws vs ≡ joins back (take (length vs) ws) vs
unfolding backs
backs_joins [] [] h = refl
backs_joins [] (v ∷ vs) h = absurd (omega arith)
backs_joins (w ∷ ws) [] h = refl
backs_joins (w ∷ ws) (v ∷ vs) h =
    ap (λ (l : List Link). record { start = w; end = v; why = back } ∷ l) (backs_joins ws vs (omega arith))

-- pairs are the pairs of their sources and their sinks
pub couples_pairs : (cs : List Couple) →
    couples (map (λ (a : Couple). a.v) cs) (map (λ (a : Couple). a.w) cs) ≡ cs
couples_pairs [] = refl
couples_pairs (c ∷ cs) = ap (λ (l : List Couple). c ∷ l) (couples_pairs cs)
