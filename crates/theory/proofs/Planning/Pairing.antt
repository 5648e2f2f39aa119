-- Points 1 and 2 of the plan rule: the pairing has document 000's properties (1) to (3), for any test r of "reaches".
--   Told p ws k       what `pick p ws` says by its answer k
--   Made r vs ws o    the ordering o is made of the sources vs and the sinks ws: each source in turn takes a sink
--                     that it reaches, of those that are left, or stays alone where it reaches none of them
--   pairing_made      `pairing` makes its ordering so
--   made_fits         properties (1) to (3), where every source reaches a sink and every sink is reached from a source
--   made_sources, made_sinks   the ordering has the given sources and sinks, each as often as given
-- Idea: (1) is the test of the pick. A lone source reaches a sink, which was gone when its turn came, so is of a pair
-- (2). A lone sink is reached from a source, and was left when that source had its turn, so the source took one (3).
-- Assumes nothing.
use Prim.Native.Nat.{ℕ, ◌+◌, ◌≤◌}
use mathlib.Core.Path.{◌≡◌, refl, sym, ap, ◌∙◌}
use mathlib.Core.Bool.{Bool, true, false}
use mathlib.Core.Option.{Option, none, some}
use mathlib.Core.Logic.{⊎_elim}
use mathlib.Core.List.Memᴰ
use mathlib.Core.List.{
  List,
  [],
  ◌∷◌,
  ◌++◌,
  map,
  Memᴰ as In,
}
use native.Mathlib.Omega.{arith}
use lib.ListN.{length, length-append, length-map}
use Rattle.rules.specs.Plan.{Couple, Ordering, Picked, pick, with_lone, with_pair, pairing}
use Rattle.theory.proofs.Ground.Bools.{true_not_false}
use Rattle.theory.proofs.Ground.Counting.{Distinct}
use Rattle.theory.proofs.Ground.Shuffled.{Taken, here, there, Shuffled, none as no_more, next, taken_middle}
use Rattle.theory.proofs.Ground.Shuffled.{taken_cases, shuffled_refl, shuffled_in, in_shuffled, shuffled_length}
use Rattle.theory.proofs.Ground.Shuffled.{distinct_shuffled}
use Rattle.theory.proofs.Planning.Augment.{Properties, paired_sources, paired_sinks, sources_of, sinks_of}

-- what a pick says by its answer: no sink passes, or one that passes is taken out
abbrev Told : (ℕ → Bool) → List ℕ → Option Picked → Type 0
Told p ws none = (w : ℕ) → In w ws → p w ≡ false
Told p ws (some t) = Taken t.sink ws t.rest × (p t.sink ≡ true)

-- a pick's answer for a list, from its answer k for what follows a sink that does not pass
abbrev passed : ℕ → Option Picked → Option Picked
passed a k = elim k [ none ↦ none | some t ↦ some (record { sink = t.sink; rest = a ∷ t.rest }) ]

-- a pick says so
pick_told : (p : ℕ → Bool) (ws : List ℕ) → Told p ws (pick p ws)
unfolding pick
pick_told p [] = λ w m. absurd (Memᴰ.not-nil m)
pick_told p (a ∷ ws) = now (p a) refl (pick_told p ws)
  where
    later : (k : Option Picked) → p a ≡ false → Told p ws k → Told p (a ∷ ws) (passed a k)
    later none e h = λ w m. ⊎_elim (λ (q : w ≡ a). rw q e) (h w) (Memᴰ.cases_cons m)
    later (some t) e h = (there h.0, h.1)

    now : (b : Bool) → p a ≡ b → Told p ws (pick p ws) →
        Told p (a ∷ ws) (elim b [ true ↦ some (record { sink = a; rest = ws }) | false ↦ passed a (pick p ws) ])
    now true e h = (here, e)
    now false e h = later (pick p ws) e h

-- an ordering is made of sources and sinks: each source in turn takes a sink that it reaches, or stays alone where it
-- reaches none of those that are left
pub data Made (r : ℕ → ℕ → Bool) : List ℕ → List ℕ → Ordering → Type 0 where
  ended : {ws : List ℕ} → Made r [] ws (record { pairs = []; lone_sources = []; lone_sinks = ws })
  stays : {v : ℕ} {vs ws : List ℕ} {o : Ordering} →
      ((w : ℕ) → In w ws → r v w ≡ false) → Made r vs ws o → Made r (v ∷ vs) ws (with_lone v o)
  takes : {v w : ℕ} {vs ws rest : List ℕ} {o : Ordering} →
      r v w ≡ true → Taken w ws rest → Made r vs rest o → Made r (v ∷ vs) ws (with_pair v w o)

-- the plan rule's pairing makes its ordering so
pub pairing_made : (r : ℕ → ℕ → Bool) (vs ws : List ℕ) → Made r vs ws (pairing r vs ws)
unfolding pairing
pairing_made r [] ws = ended
pairing_made r (v ∷ vs) ws = turn (pick (r v) ws) (pick_told (r v) ws) (pairing_made r vs)
  where
    turn : (k : Option Picked) → Told (r v) ws k → ((us : List ℕ) → Made r vs us (pairing r vs us)) →
        Made r (v ∷ vs) ws (elim k [
          | none ↦ with_lone v (pairing r vs ws)
          | some t ↦ with_pair v t.sink (pairing r vs t.rest)
        ])
    turn none h below = stays h (below ws)
    turn (some t) h below = takes h.1 h.0 (below t.rest)

-- some of the pairs, by one part of each, and further zones: how many they are
parts_count : (f : Couple → ℕ) (cs : List Couple) (zs : List ℕ) → length (map f cs ++ zs) ≡ length cs + length zs
parts_count f cs zs = length-append (map f cs) zs ∙ ap (λ (n : ℕ). n + length zs) (length-map cs f)

-- there is a pair where there is a part of one
part_some : (f : Couple → ℕ) (cs : List Couple) {z : ℕ} → In z (map f cs) → 1 ≤ length cs
part_some f [] m = absurd (Memᴰ.not-nil m)
part_some f (c ∷ cs) m = omega arith

module _ (r : ℕ → ℕ → Bool) where
  -- the ordering's sources are the given ones in another order
  pub made_sources : {vs ws : List ℕ} {o : Ordering} → Made r vs ws o → Shuffled vs (sources_of o)
  made_sources ended = no_more
  made_sources (stays {o = o} h m) = next (taken_middle (paired_sources o) o.lone_sources) (made_sources m)
  made_sources (takes e t m) = next here (made_sources m)

  -- the ordering's sinks are the given ones in another order
  pub made_sinks : {vs ws : List ℕ} {o : Ordering} → Made r vs ws o → Shuffled (sinks_of o) ws
  made_sinks (ended {ws}) = shuffled_refl ws
  made_sinks (stays h m) = made_sinks m
  made_sinks (takes e t m) = next t (made_sinks m)

  -- property (1): each pair's source reaches its sink
  pub made_paired : {vs ws : List ℕ} {o : Ordering} → Made r vs ws o →
      (c : Couple) → In c o.pairs → r c.v c.w ≡ true
  made_paired ended c n = absurd (Memᴰ.not-nil n)
  made_paired (stays h m) c n = made_paired m c n
  made_paired (takes {v} {w} e t m) c n =
      ⊎_elim
      (λ (q : c ≡ record { v = v; w = w }). rw q e)
      (λ i. made_paired m c i)
      (Memᴰ.cases_cons n)

  -- every sink that a lone source reaches is the sink of a pair
  pub made_lone_source : {vs ws : List ℕ} {o : Ordering} → Made r vs ws o →
      {v w : ℕ} → In v o.lone_sources → In w ws → r v w ≡ true → In w (paired_sinks o)
  made_lone_source ended n k e = absurd (Memᴰ.not-nil n)
  made_lone_source (stays {v = a} h m) {v} {w} n k e =
      ⊎_elim
      (λ (q : v ≡ a). absurd (true_not_false e (rw q (h w k))))
      (λ i. made_lone_source m i k e)
      (Memᴰ.cases_cons n)
  made_lone_source (takes {w = b} {rest = rest} d t m) {v} {w} n k e =
      ⊎_elim
      (λ (q : w ≡ b). Memᴰ.head q)
      (λ i. Memᴰ.tail (made_lone_source m n i e))
      (taken_cases t k)

  -- every source that reaches a lone sink is the source of a pair
  pub made_lone_sink : {vs ws : List ℕ} {o : Ordering} → Made r vs ws o →
      {v w : ℕ} → In w o.lone_sinks → In v vs → r v w ≡ true → In v (paired_sources o)
  made_lone_sink ended n k e = absurd (Memᴰ.not-nil k)
  made_lone_sink (stays {v = a} {o = o} h m) {v} {w} n k e =
      let left : In w _ = shuffled_in (made_sinks m) (Memᴰ.append_right (paired_sinks o) n) in
      ⊎_elim
      (λ (q : v ≡ a). absurd (true_not_false e (rw q (h w left))))
      (λ i. made_lone_sink m n i e)
      (Memᴰ.cases_cons k)
  made_lone_sink (takes {v = a} d t m) {v} {w} n k e =
      ⊎_elim
      (λ (q : v ≡ a). Memᴰ.head q)
      (λ i. Memᴰ.tail (made_lone_sink m n i e))
      (Memᴰ.cases_cons k)

  -- properties (1) to (3), where each source reaches some sink and each sink is reached from some source
  pub made_fits : {vs ws : List ℕ} {o : Ordering} → Made r vs ws o →
      ((v : ℕ) → In v vs → (w : ℕ) × In w ws × (r v w ≡ true)) →
      ((w : ℕ) → In w ws → (v : ℕ) × In v vs × (r v w ≡ true)) → Properties (λ v w. r v w ≡ true) o
  made_fits {vs} {ws} {o} m down up =
      record { paired = made_paired m; lone_source = a_source; lone_sink = a_sink }
    where
      a_source : (v : ℕ) → In v o.lone_sources → (w : ℕ) × In w (paired_sinks o) × (r v w ≡ true)
      a_source v n =
          let given : In v vs = in_shuffled (made_sources m) (Memᴰ.append_right (paired_sources o) n) in
          let d : (w : ℕ) × In w ws × (r v w ≡ true) = down v given in
          (d.0, made_lone_source m n d.1 d.2, d.2)

      a_sink : (w : ℕ) → In w o.lone_sinks → (v : ℕ) × In v (paired_sources o) × (r v w ≡ true)
      a_sink w n =
          let given : In w ws = shuffled_in (made_sinks m) (Memᴰ.append_right (paired_sinks o) n) in
          let u : (v : ℕ) × In v vs × (r v w ≡ true) = up w given in
          (u.0, made_lone_sink m n u.1 u.2, u.2)

  -- the pairs and the lone sources are as many as the sources
  pub made_source_count : {vs ws : List ℕ} {o : Ordering} → Made r vs ws o →
      length o.pairs + length o.lone_sources ≡ length vs
  made_source_count {o} m =
      sym (shuffled_length (made_sources m) ∙ parts_count (λ (c : Couple). c.v) o.pairs o.lone_sources)

  -- the pairs and the lone sinks are as many as the sinks
  pub made_sink_count : {vs ws : List ℕ} {o : Ordering} → Made r vs ws o →
      length o.pairs + length o.lone_sinks ≡ length ws
  made_sink_count {o} m =
      sym (parts_count (λ (c : Couple). c.w) o.pairs o.lone_sinks) ∙ shuffled_length (made_sinks m)

  -- there is a pair where there is a source and each source reaches some sink
  pub made_some : {vs ws : List ℕ} {o : Ordering} → Made r vs ws o →
      ((v : ℕ) → In v vs → (w : ℕ) × In w ws × (r v w ≡ true)) → {v : ℕ} → In v vs → 1 ≤ length o.pairs
  made_some {vs} {ws} {o} m down {v} n =
      let d : (w : ℕ) × In w ws × (r v w ≡ true) = down v n in
      ⊎_elim
      (λ (k : In v (paired_sources o)). part_some (λ (c : Couple). c.v) o.pairs k)
      (λ k. part_some (λ (c : Couple). c.w) o.pairs (made_lone_source m k d.1 d.2))
      (Memᴰ.append_cases (paired_sources o) (shuffled_in (made_sources m) n))

  -- no sink stands twice in the ordering where none does in the given list
  pub made_sinks_distinct : {vs ws : List ℕ} {o : Ordering} → Made r vs ws o → Distinct ws → Distinct (sinks_of o)
  made_sinks_distinct m d = distinct_shuffled (made_sinks m) d
