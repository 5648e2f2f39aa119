-- What searches from a zone that remains tell of the network.
--   SaysAll           an answer that says whether each zone has a mark
--   says_all          whether a zero stands among the marks says whether each zone has one
--   swept             a search from a zone, and stamps, by which every zone is marked: it comes to all that remain
--   joined_truth      a zone comes to all that remain along the rows and along the turned rows: the network is strong
-- A network is strong exactly when one of its zones reaches every zone and every zone reaches it. The rows have all
-- numbers; between zones that remain, reach is the same. Assumes nothing.
use mathlib.Core.Path.{◌≡◌, refl, sym, ap, ◌∙◌}
use mathlib.Core.Logic.{inl, inr, ◌↔◌}
use mathlib.Core.List.{List, Memᴰ as In}
use mathlib.Core.Bool.{Bool, true, false, not, false≢true, ◌&&◌}
use Prim.Native.Nat.{ℕ, ◌+◌, ◌≤◌, ◌<◌}
use native.Mathlib.Omega.{arith}
use lib.Dec.{eqb}
use lib.ListN.{length}
use borrow.Author.Tests.{eqb-true, eq-eqb}
use Rattle.std.specs.List.{IsAnyAnswer}
use Rattle.rules.specs.Lists.{listed}
use Rattle.rules.specs.Network.{Network, Reach, remaining, strong}
use Rattle.rules.specs.Calls.{arcs_of, handed, handed_with}
use Rattle.theory.proofs.Files.Accepting.{Fine, FineWith, fine_with_bridge}
use Rattle.theory.proofs.Ground.Bools.{bool_cases, bool_agree, true_not_false, and_true, true_and}
use Rattle.theory.proofs.Withdrawn.Remaining.{remaining_in, in_remaining, strong_from}
use Rattle.workmap.specs.declared.RowsAt.{RowsAt}
use Rattle.workmap.specs.declared.SearchAt.{SearchAt}
use Rattle.workmap.specs.declared.Map.{Map}
use Rattle.memory.specs.Regions.{cell, part}
use Rattle.memory.proofs.Regions.{part_at, part_long}
use Rattle.arranged.specs.Rows.{Entry, Run, rows_of}
use Rattle.arranged.specs.Marks.{Marked}
use Rattle.arranged.specs.Arranged.{ArrangedAt}
use Rattle.arranged.specs.Ready.{Standing}
use Rattle.arranged.proofs.ArrangedLaws.{turned_run_reach, reach_turned_run}
use Rattle.arranged.proofs.ReadyLaws.{arcs_within}
use Rattle.search.specs.Marking.{Clear, Searched}
use Rattle.search.proofs.Closed.{searched_clear}
use Rattle.search.proofs.Keeping.{kept_then}
use Rattle.withdrawn.specs.Withdrawn.{stamped, Stamped}
use Rattle.reaching.proofs.Truth.{run_reaches, reaches_run}
use Rattle.strength.specs.Marks.{Everywhere, Swept}
use Rattle.strength.proofs.Memory.{stamped_kept}

-- each of the n zones has a mark
abbrev pub AllMarked : List ℕ → ℕ → ℕ → Type 0
AllMarked w marks n = (v : ℕ) → v < n → Marked w marks v

-- the answer b says whether each of the n zones has a mark
pub record SaysAll (w : List ℕ) (marks n : ℕ) (b : Bool) : Type 0 where
  pub yes : b ≡ true → AllMarked w marks n
  pub no : AllMarked w marks n → b ≡ true

-- whether a zero stands among the marks says whether each zone has a mark
pub says_all : (w : List ℕ) (marks n : ℕ) (r : Bool) → marks + n ≤ length w →
    IsAnyAnswer (λ y b. eqb y 0 ≡ b) (part w marks n) r → SaysAll w marks n (not r)
says_all w marks n true fits some =
    let inside : some.0 < n = omega (arith, some.1, part_long w marks n (omega arith)) in
    record {
      yes = λ e. absurd (false≢true e);
      no = λ all. absurd (all some.0 inside (sym (part_at w marks n some.0 inside) ∙ eqb-true _ 0 (some.2 0)));
    }
says_all w marks n false fits none =
    record {
      yes =
          λ e v h z.
          true_not_false
          (eq-eqb _ 0 (part_at w marks n v h ∙ z))
          (none v 0 (omega arith) (omega (arith, part_long w marks n (omega arith))));
      no = λ all. refl;
    }

-- a search, stamps at the withdrawn zones, and whether every zone is marked then: this says whether the search came to
-- every zone that is not withdrawn
pub swept : (w w₁ w₂ : List ℕ) (R : RowsAt) (S : SearchAt) (from : ℕ) (gone : List ℕ) {x : ℕ} (b : Bool) →
    S.marks + R.zones ≤ S.queue → Clear w S.marks R.zones → Searched w w₁ R S from → 0 < x →
    Stamped w₁ w₂ S.marks R.zones gone x → SaysAll w₂ S.marks R.zones b →
    Swept w w₂ R S from gone b
swept w w₁ w₂ R S from gone {x} b apart clear D some T A =
    record {
      kept = kept_then D.kept (stamped_kept S.queue apart T);
      yes = λ e v h stays.
          searched_clear w R.zones R.starts R.rows S.marks clear w₁ from S.queue D v h
          (rw (unstamped v h stays) at (A.yes e v h));
      no = λ all. A.no (λ v h. marked all v h);
    }
  where
    -- what stands for a zone that is not withdrawn
    unstamped : (v : ℕ) → v < R.zones → listed gone v ≡ false → cell w₂ S.marks v ≡ cell w₁ S.marks v
    unstamped v h stays = T.inside v h ∙ ap (λ (t : Bool). stamped t x (cell w₁ S.marks v)) stays

    -- a zone has a mark then where it is withdrawn, or the search came there
    marked : Everywhere w R from gone → (v : ℕ) → v < R.zones → Marked w₂ S.marks v
    marked all v h =
        elim (bool_cases (listed gone v)) [
          | inl out ↦
              λ e.
              let stamp = T.inside v h ∙ ap (λ (t : Bool). stamped t x (cell w₁ S.marks v)) out in
              omega (arith, some, e, stamp)
          | inr stays ↦ rw (unstamped v h stays) (D.complete v (all v h stays)).1
        ]

module _ (n : ℕ) (ts hs : List ℕ) (F : Fine n ts hs) where
  module _ (w : List ℕ) (R : RowsAt) (same : R.zones ≡ n) where
    -- a run along the turned rows is a reach the other way
    back_reaches : ArrangedAt w R (arcs_of hs ts) → {a b : ℕ} → Run (Entry (rows_of w R)) a b →
        Reach (handed n ts hs) b a
    unfolding handed
    back_reaches A r = rw same at (turned_run_reach ts hs w R A r)

    -- a reach is a run along the turned rows the other way
    reaches_back : ArrangedAt w R (arcs_of hs ts) → {a b : ℕ} → Reach (handed n ts hs) b a →
        Run (Entry (rows_of w R)) a b
    unfolding handed
    reaches_back A r = reach_turned_run ts hs w R A (rw same (arcs_within n ts hs F)) (rw same r)

-- the withdrawn numbers, and a zone that remains
module _ (n : ℕ) (ts hs gone : List ℕ) (F : FineWith n ts hs gone) (from : ℕ) (i : In from (remaining n gone)) where
  -- the network of the zones that remain
  abbrev N : Network
  N = handed_with n ts hs gone

  -- it is strong exactly where the zone reaches all that remain and all of them reach it, in the network of all numbers
  hub : (strong N ≡ true) ↔
      ((v : ℕ) → v < n → listed gone v ≡ false → Reach (handed n ts hs) from v × Reach (handed n ts hs) v from)
  unfolding handed_with
  hub =
      let B = fine_with_bridge n ts hs gone F in
      let one = strong_from B.proper i in (
        λ e v h stays.
            let r = one.0 e v (in_remaining n gone h stays) in
            (B.reach_is.0 r.0, B.reach_is.0 r.1),
        λ all.
            one.1
            (λ v m.
            let l = remaining_in n gone m in
            let r = all v l.0 l.1 in
            (B.reach_is.1 r.0, B.reach_is.1 r.1)),
      )

  -- both sweeps say yes exactly where the network is strong
  pub joined_truth : (before w w' v v' : List ℕ) (m : Map) (S T : SearchAt) (there back : Bool) →
      m.rows.zones ≡ n → m.turned.zones ≡ n → Standing before w m ts hs → Standing before v m ts hs →
      Swept w w' m.rows S from gone there → Swept v v' m.turned T from gone back → (there && back) ≡ strong N
  joined_truth before w w' v v' m S T there back one two U K A B =
      bool_agree
      (λ e.
      let both = and_true there back e in
      hub.1
      (λ x h stays. (
        run_reaches n ts hs F.fine w m.rows one U.rows (A.yes both.0 x (omega arith) stays),
        back_reaches n ts hs F.fine v m.turned two K.turned (B.yes both.1 x (omega arith) stays),
      )))
      (λ e.
      true_and
      (A.no
      (λ x h stays.
      reaches_run n ts hs F.fine w m.rows one U.rows (hub.0 e x (omega arith) stays).0))
      (B.no
      (λ x h stays.
      reaches_back n ts hs F.fine v m.turned two K.turned (hub.0 e x (omega arith) stays).1)))
