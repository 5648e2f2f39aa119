-- Part of the way through the pass that stores the arcs of an accepted file.
--   Partway ..        k arcs were found and put into the lists, and the rest is ahead
--   partway_turn, partway_end   after one more turn, and after the last
--   partway_due       before the last turn another arc of an accepted file is due
-- A store at the end of what was put in is one more element of it. Assumes nothing.
use Prim.Native.Nat.{ℕ, ◌+◌, ◌-◌, ◌≤◌, ◌<◌}
use native.Mathlib.Omega.{arith}
use mathlib.Core.Path.{◌≡◌, sym, ap, ◌∙◌}
use mathlib.Core.List.{List, [], ◌∷◌, ◌++◌, map, map-append}
use lib.ListN.{length, set, length-append, length-map}
use Rattle.rules.specs.Lists.{over}
use Rattle.rules.specs.Network.{Arc, ◌⟶◌}
use Rattle.rules.specs.Number.{got}
use Rattle.rules.specs.File.{arc_at, arcs_at}
use Rattle.filepasses.specs.Readings.{Accepted, ArcsStored}
use Rattle.filepasses.proofs.Overs.{over_more}
use Rattle.filepasses.proofs.ArcTurns.{ahead, turn_got, turn_whole, turns_over}
use Rattle.filepasses.proofs.ArcsDue.{Due, arc_due}

-- One more element of a result that is a part of each arc found.
part_more : (f : Arc → ℕ) (es : List Arc) (e : Arc) (old : List ℕ) (k : ℕ) → length es ≡ k → k < length old
    → set (over (map f es) old) k (f e) ≡ over (map f (es ++ (e ∷ []))) old
part_more f es e old k l h =
    let q : length (map f es) ≡ k = length-map es f ∙ l in
    rw (map-append f es (e ∷ []), ← q) (over_more (map f es) old (f e) (omega arith))

-- k arcs were found and put into the lists ts and hs, and the rest of m arcs is ahead at a place.
pub record Partway (s : List ℕ) (n m from : ℕ) (ts₀ hs₀ ts hs : List ℕ) (at k : ℕ) : Type 0 where
  pub arcs : List Arc
  pub found : arcs_at s n m from ≡ ahead arcs (arcs_at s n (m - k) at)
  pub count : length arcs ≡ k
  pub tails : ts ≡ over (map (λ (e : Arc). e.tail) arcs) ts₀
  pub heads : hs ≡ over (map (λ (e : Arc). e.head) arcs) hs₀

module _ {s : List ℕ} {n m from : ℕ} {ts₀ hs₀ : List ℕ} where
  module _ {ts hs : List ℕ} {at k : ℕ} (p : Partway s n m from ts₀ hs₀ ts hs at k) where
    -- After one more turn.
    pub partway_turn : {t h next : ℕ} → k < m → m ≤ length ts₀ → m ≤ length hs₀ → arc_at s n at ≡ got (t ⟶ h) next
        → Partway s n m from ts₀ hs₀ (set ts k t) (set hs k h) next (k + 1)
    partway_turn {t} {h} {next} l lt lh q =
        let e = t ⟶ h in
        record {
          arcs = p.arcs ++ (e ∷ []);
          found = p.found ∙ turn_got s n m k at p.arcs e next l q;
          count = length-append p.arcs (e ∷ []) ∙ ap (λ (i : ℕ). i + 1) p.count;
          tails = rw p.tails (part_more (λ (x : Arc). x.tail) p.arcs e ts₀ k p.count (omega arith));
          heads = rw p.heads (part_more (λ (x : Arc). x.head) p.arcs e hs₀ k p.count (omega arith));
        }

    -- Before the last turn another arc is due.
    pub partway_due : k < m → Accepted (arcs_at s n m from) → Due s n at
    partway_due l w = arc_due s n at (turn_whole s n m k at p.arcs l (sym p.found ∙ w.2)).2

    -- After the last turn every arc is in the lists.
    pub partway_end : m - k ≡ 0 → ArcsStored (arcs_at s n m from) ts₀ hs₀ ts hs
    partway_end z =
        let all : arcs_at s n m from ≡ got p.arcs at = p.found ∙ turns_over s n m k at p.arcs z in
        record { tails = λ es end e. rw (same all e) at p.tails; heads = λ es end e. rw (same all e) at p.heads }
      where
        same : {es : List Arc} {end : ℕ} → arcs_at s n m from ≡ got p.arcs at
            → arcs_at s n m from ≡ got es end → p.arcs ≡ es
        same a e = cc
