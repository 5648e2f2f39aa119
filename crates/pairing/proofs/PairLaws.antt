-- The pairing of plain lists, one source after the other.
--   lone_more, pair_more    a source that stays unpaired, or is paired, goes from the sources left to what is made
--   pairing_done            with no source left, what is made is the ordering
--   firsts_more, seconds_more, firsts_long, seconds_long   the sources and the sinks of the pairs
-- `onto cs ls` puts what is made before an ordering. Assumes nothing.
use mathlib.Core.Path.{◌≡◌, refl, ap, ◌∙◌}
use mathlib.Core.Bool.{Bool}
use mathlib.Core.List.{List, [], ◌∷◌, ◌++◌, append_assoc, append-nil}
use mathlib.Core.Option.{none, some}
use Prim.Native.Nat.{ℕ, ◌+◌, ◌≤◌, ◌<◌}
use native.Mathlib.Numerals.{add-one}
use lib.ListN.{length, get_or, drop, length-map, drop_of_length-le}
use lib.Seq.{drop-cons}
use Rattle.rules.specs.Plan.{Couple, pick, with_lone, with_pair, pairing}
use Rattle.pairing.specs.Pairs.{onto, firsts, seconds}

-- the pair of x and z
abbrev pub couple : ℕ → ℕ → Couple
couple x z = record { v = x; w = z }

module _ (r : ℕ → ℕ → Bool) where
  -- a source that reaches none of the sinks left stays unpaired
  pairing_lone : (x : ℕ) (vs ws : List ℕ) → pick (r x) ws ≡ none →
      pairing r (x ∷ vs) ws ≡ with_lone x (pairing r vs ws)
  unfolding pairing
  pairing_lone x vs ws e = rw (e, pairing)

  -- a source is paired with the sink that it picks
  pairing_pair : (x z : ℕ) (vs ws rest : List ℕ) → pick (r x) ws ≡ some (record { sink = z; rest = rest }) →
      pairing r (x ∷ vs) ws ≡ with_pair x z (pairing r vs rest)
  unfolding pairing
  pairing_pair x z vs ws rest e = rw (e, pairing)

  module _ (cs : List Couple) (ls vs ws : List ℕ) (i x : ℕ) (inside : i < length vs) (is : x ≡ get_or vs i 0) where
    -- the sources left begin with the source i
    sources_next : drop i vs ≡ x ∷ drop (i + 1) vs
    sources_next = rw (is, add-one) (drop-cons vs i 0 inside)

    -- a source that stays unpaired goes behind the lone sources
    pub lone_more : pick (r x) ws ≡ none →
        onto cs ls (pairing r (drop i vs) ws) ≡ onto cs (ls ++ (x ∷ [])) (pairing r (drop (i + 1) vs) ws)
    lone_more e =
        ap (λ (us : List ℕ). onto cs ls (pairing r us ws)) sources_next
        ∙ ap (onto cs ls) (pairing_lone x (drop (i + 1) vs) ws e)
        ∙ rw (append_assoc ls (x ∷ []) (pairing r (drop (i + 1) vs) ws).lone_sources)

    -- a source that is paired goes behind the pairs, with its sink
    pub pair_more : (z : ℕ) (rest : List ℕ) → pick (r x) ws ≡ some (record { sink = z; rest = rest }) →
        onto cs ls (pairing r (drop i vs) ws)
        ≡ onto (cs ++ (couple x z ∷ [])) ls (pairing r (drop (i + 1) vs) rest)
    pair_more z rest e =
        ap (λ (us : List ℕ). onto cs ls (pairing r us ws)) sources_next
        ∙ ap (onto cs ls) (pairing_pair x z (drop (i + 1) vs) ws rest e)
        ∙ rw (append_assoc cs (couple x z ∷ []) (pairing r (drop (i + 1) vs) rest).pairs)

  -- with no source left, what is made is the ordering
  pub pairing_done : (cs : List Couple) (ls vs ws : List ℕ) (i : ℕ) → length vs ≤ i →
      onto cs ls (pairing r (drop i vs) ws) ≡ record { pairs = cs; lone_sources = ls; lone_sinks = ws }
  unfolding pairing
  pairing_done cs ls vs ws i h = rw (drop_of_length-le vs h, append-nil cs, append-nil ls)

-- the sources of pairs with one more
pub firsts_more : (cs : List Couple) (x z : ℕ) → firsts (cs ++ (couple x z ∷ [])) ≡ firsts cs ++ (x ∷ [])
firsts_more [] x z = refl
firsts_more (c ∷ cs) x z = ap (λ (l : List ℕ). c.v ∷ l) (firsts_more cs x z)

-- the sinks of pairs with one more
pub seconds_more : (cs : List Couple) (x z : ℕ) → seconds (cs ++ (couple x z ∷ [])) ≡ seconds cs ++ (z ∷ [])
seconds_more [] x z = refl
seconds_more (c ∷ cs) x z = ap (λ (l : List ℕ). c.w ∷ l) (seconds_more cs x z)

-- there are as many sources as pairs
pub firsts_long : (cs : List Couple) → length (firsts cs) ≡ length cs
firsts_long cs = length-map cs (λ (c : Couple). c.v)

-- there are as many sinks as pairs
pub seconds_long : (cs : List Couple) → length (seconds cs) ≡ length cs
seconds_long cs = length-map cs (λ (c : Couple). c.w)
