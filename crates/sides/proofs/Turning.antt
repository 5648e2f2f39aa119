-- A network turned round, as it is handed in with heads and tails exchanged; and links turned back.
--   handed_turned               the arcs of heads and tails exchanged are those of the network turned round
--   stands_turned               a network turned round stands in the turned rows, with sources and sinks exchanged
--   turned_starts, turned_ends, turned_whys   the columns of links turned round
--   columns_turned              where starts and ends are put in each other's places, the links stand turned back
-- Each by going through the lists. Assumes nothing.
use mathlib.Core.Path.{◌≡◌, refl, ap}
use mathlib.Core.List.{List, [], ◌∷◌, map}
use Prim.Native.Nat.{ℕ, ◌+◌, ◌≤◌}
use native.Mathlib.Omega.{arith}
use lib.ListN.{length}
use Rattle.rules.specs.Network.{Network}
use Rattle.rules.specs.Plan.{Link, why_number, turned, turned_link}
use Rattle.rules.specs.Calls.{arcs_of, handed_with}
use Rattle.theory.proofs.Ground.ArcLists.{arcs_exchanged}
use Rattle.theory.proofs.Reaching.Turned.{turned_proper, turned_sources, turned_sinks, turned_alone}
use Rattle.memory.specs.Regions.{Holds}
use Rattle.arranged.specs.Arranged.{ArrangedAt}
use Rattle.workmap.specs.declared.RowsAt.{RowsAt}
use Rattle.workmap.specs.declared.ListsAt.{ListsAt}
use Rattle.workmap.specs.declared.LinksAt.{LinksAt}
use Rattle.sides.specs.Standing.{SideStands, Columns}

-- the arcs of heads and tails exchanged are those of the network turned round
pub handed_turned : (n : ℕ) (ts hs gone : List ℕ) → (turned (handed_with n ts hs gone)).arcs ≡ arcs_of hs ts
unfolding turned handed_with
handed_turned n ts hs gone = arcs_exchanged ts hs

-- links turned round start where the links end
pub turned_starts : (ls : List Link)
    → map (λ (l : Link). l.start) (map turned_link ls) ≡ map (λ (l : Link). l.end) ls
unfolding turned_link
turned_starts [] = refl
turned_starts (l ∷ ls) = ap {B = List ℕ} (λ xs. l.end ∷ xs) (turned_starts ls)

-- they end where the links start
pub turned_ends : (ls : List Link) → map (λ (l : Link). l.end) (map turned_link ls) ≡ map (λ (l : Link). l.start) ls
unfolding turned_link
turned_ends [] = refl
turned_ends (l ∷ ls) = ap {B = List ℕ} (λ xs. l.start ∷ xs) (turned_ends ls)

-- and their whys stay
pub turned_whys : (ls : List Link) →
    map (λ (l : Link). why_number l.why) (map turned_link ls) ≡ map (λ (l : Link). why_number l.why) ls
unfolding turned_link
turned_whys [] = refl
turned_whys (l ∷ ls) = ap {B = List ℕ} (λ xs. why_number l.why ∷ xs) (turned_whys ls)

-- a network turned round stands in the turned rows, with sources and sinks exchanged
pub stands_turned : {w : List ℕ} (N : Network) {R T : RowsAt} {A : ListsAt} → T.zones ≡ R.zones →
    SideStands w R A N → ArrangedAt w T (turned N).arcs → T.rows + length (turned N).arcs ≤ length w →
    SideStands w T (record { sources = A.sinks; sinks = A.sources; alone = A.alone }) (turned N)
unfolding turned
stands_turned N e S turns fits =
    let P = S.proper in
    record {
      proper = turned_proper P;
      numbered = λ z m. omega (arith, S.numbered z m);
      arranged = turns;
      fits = fits;
      sources_held = rw (turned_sources P) S.sinks_held;
      sinks_held = rw (turned_sinks P) S.sources_held;
      alone_held = rw (turned_alone P) S.alone_held;
    }

-- where starts and ends are put in each other's places, the links stand turned back
pub columns_turned : {w : List ℕ} {L : LinksAt} (ls : List Link) → Holds w L.from (map (λ (l : Link). l.end) ls) →
    Holds w L.to (map (λ (l : Link). l.start) ls) →
    Holds w L.why (map (λ (l : Link). why_number l.why) ls) → Columns w L (map turned_link ls)
columns_turned ls starts ends whys =
    record {
      starts_held = rw (turned_starts ls) starts;
      ends_held = rw (turned_ends ls) ends;
      whys_held = rw (turned_whys ls) whys;
    }
