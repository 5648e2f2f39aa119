-- Searches in work memory in which a network's rows are arranged, as given and turned round.
--   stamped_kept        a stamp among the marks leaves all but marks and queue
--   kept_standing       a search before the rows keeps the rows and the turned rows standing
--   turned_searchable   a search can go along the turned rows
-- Assumes nothing.
use mathlib.Core.Path.{◌≡◌, sym, ap, ◌∙◌}
use mathlib.Core.List.{List}
use Prim.Native.Nat.{ℕ, ◌+◌, ◌-◌, ◌≤◌, ◌<◌}
use native.Mathlib.Nat.{zero-add}
use native.Mathlib.Omega.{arith}
use lib.ListN.{length, take, drop}
use lib.Seq.{slice}
use Rattle.rules.specs.Calls.{arcs_of}
use Rattle.workmap.specs.declared.SearchAt.{SearchAt}
use Rattle.workmap.specs.declared.Map.{Map}
use Rattle.workmap.proofs.Places.{placed}
use Rattle.memory.specs.Regions.{part}
use Rattle.memory.proofs.Places.{drop_deeper}
use Rattle.memory.proofs.Regions.{part_drop}
use Rattle.arranged.specs.Arranged.{ArrangedAt}
use Rattle.arranged.specs.Ready.{Readyable, Standing}
use Rattle.arranged.proofs.ReadyLaws.{turned_within, standing_kept, turned_fit}
use Rattle.search.specs.Marking.{Kept, Clear, Searchable}
use Rattle.search.proofs.Keeping.{kept_rows}
use Rattle.withdrawn.specs.Withdrawn.{Stamped}
use Rattle.reaching.proofs.Memory.{arranged_searchable}

-- lists that agree from a place on have the same slices behind it
slice_kept : (w w' : List ℕ) (a b : ℕ) → a ≤ b → drop a w' ≡ drop a w → slice a b w' ≡ slice a b w
slice_kept w w' a b le same = cut w' ∙ ap (take (b - a)) same ∙ sym (cut w)
  where
    cut : (l : List ℕ) → slice a b l ≡ take (b - a) (drop a l)
    cut l =
        let e : b ≡ a + (b - a) = omega arith in
        ap (λ (k : ℕ). slice a k l) e
        ∙ part_drop l 0 a (b - a)
        ∙ ap (λ (k : ℕ). part l k (b - a)) (zero-add a)

-- a stamp among the marks leaves all but marks and queue
pub stamped_kept : {w w' gone : List ℕ} {marks n x : ℕ} (queue : ℕ) → marks + n ≤ queue →
    Stamped w w' marks n gone x → Kept w w' marks queue n
stamped_kept {w} {w'} {marks = marks} {n = n} queue apart S =
    record {
      long = S.long;
      below = S.below;
      between = slice_kept w w' (marks + n) queue apart S.above;
      above = drop_deeper w w' (marks + n) (queue + n) (omega arith) S.above;
    }

module _ (m : Map) (ts hs w : List ℕ) (A : Readyable m ts hs w) where
  -- a search whose queue lies before the rows keeps both directions standing
  pub kept_standing : (before v v' : List ℕ) (marks queue k : ℕ) → queue + k ≤ m.rows.starts →
      Kept v v' marks queue k → Standing before v m ts hs → Standing before v' m ts hs
  kept_standing before v v' marks queue k h K S =
      standing_kept m ts hs w A before v v' K.long (kept_rows v v' marks queue k K m.rows.starts h) S

  -- a search can go along the turned rows
  pub turned_searchable : (v : List ℕ) → length v ≡ length w → (S : SearchAt) → S.marks + m.zones ≤ S.queue →
      S.queue + m.zones ≤ m.rows.starts → (from : ℕ) → from < m.zones → Clear v S.marks m.turned.zones →
      ArrangedAt v m.turned (arcs_of hs ts) → Searchable v m.turned S from
  turned_searchable v long S apart below from zone clear B =
      let p = placed A.map in
      arranged_searchable m ts hs w A v long S apart below from zone m.turned (arcs_of hs ts) p.turned_zones
      clear B (turned_within m.zones ts hs A.fine) (omega arith) (turned_fit m ts hs w A)
