-- From an answer to reading a file to what linkplan prints.
--   refused_prints     a file that was refused prints the line of the trouble
--   Handed ..          the network that was read, and the parts of the two lists that hold it
--   read_hands         a file that was read hands on such a network
--   handed_plannable   which passes every test of a network
--   handed_prints      and the lines of whose plan are printed
-- The promise of reading says what is found, and an accepted file holds a network that a call accepts. Assumes
-- nothing.
use Prim.Native.Nat.{ℕ, ◌≤◌}
use native.Mathlib.Omega.{arith}
use mathlib.Core.Path.{◌≡◌, sym, ap, ap₂, ◌∙◌}
use mathlib.Core.List.{List, map}
use lib.ListN.{length, take, drop, length-append, length-map}
use lib.Seq.{take_at}
use Rattle.rules.specs.declared.Trouble.{Trouble}
use Rattle.rules.specs.declared.FileCounts.{FileCounts}
use Rattle.std.specs.Prelude.{Ok, Err}
use Rattle.rules.specs.Lists.{over}
use Rattle.rules.specs.Answers.{ReadAnswer, read_told}
use Rattle.rules.specs.Network.{Arc, arc_tails, arc_heads}
use Rattle.rules.specs.File.{Given, Acceptable, file_at}
use Rattle.rules.specs.Number.{Reading}
use Rattle.rules.specs.Calls.{found_tails, found_heads}
use Rattle.rules.specs.Promises.{ReadPromise}
use Rattle.theory.proofs.Ground.ArcLists.{arcs_split}
use Rattle.rules.specs.Text.{printed, plan_lines, refusal_line}
use Rattle.theory.proofs.Files.FileLaws.{accepted_acceptable}
use Rattle.buffer.specs.declared.Page.{Page}
use Rattle.buffer.specs.Put.{HasSpace}
use Rattle.responding.specs.Buffers.{PlanLent, handed_lines}
use Rattle.responding.proofs.Found.{read_refused, read_done, printed_refused, printed_done}
use Rattle.responding.proofs.Accepted.{network_passes}

-- the network that was read of the file s, and the parts of the two lists that hold its m arcs
pub record Handed (s : List ℕ) (n m : ℕ) (ts hs : List ℕ) : Type 0 where
  pub given : Given
  pub acceptable : Acceptable given
  pub zones : given.zones ≡ n
  pub tails : take m ts ≡ arc_tails given.arcs
  pub heads : take m hs ≡ arc_heads given.arcs
  pub tails_fit : m ≤ length ts
  pub heads_fit : m ≤ length hs
  pub prints : printed s ≡ plan_lines given

-- a list with a column of m arcs over what was there: the column is its first m elements, and m is within it
column_part : (f : Arc → ℕ) (es : List Arc) (old : List ℕ) {xs : List ℕ} {m : ℕ} → xs ≡ over (map f es) old
    → length es ≡ m → (take m xs ≡ map f es) × (m ≤ length xs)
column_part f es old {xs} {m} e l =
    let rest : List ℕ = drop (length (map f es)) old in
    let count : length (map f es) ≡ m = length-map es f ∙ l in
    (ap (take m) e ∙ take_at (map f es) rest m count, omega (arith, ap length e, length-append (map f es) rest))

module _ {s ts hs ts' hs' : List ℕ} {a : ReadAnswer} (k : ReadPromise s ts hs ts' hs' (read_told a))
    (x : length ts ≡ 4096) (y : length hs ≡ 4096) where
  -- a file that was refused prints the line of the trouble
  pub refused_prints : {t : Trouble} → a ≡ Err t → printed s ≡ refusal_line t
  refused_prints {t} e =
      let f = read_refused s ts hs t (sym (ap read_told e) ∙ k.told_is) in
      printed_refused s (rw (x, y) at f)

  -- a file that was read hands on its network
  pub read_hands : {c : FileCounts} → a ≡ Ok c → Handed s c.zones c.arcs ts' hs'
  read_hands {c} e =
      let f = read_done s ts hs c (sym (ap read_told e) ∙ k.told_is) in
      let es = f.given.arcs in
      let t_is : ts' ≡ over (arc_tails es) ts = k.tails ∙ ap (λ (r : Reading Given). found_tails r ts) f.finds in
      let h_is : hs' ≡ over (arc_heads es) hs = k.heads ∙ ap (λ (r : Reading Given). found_heads r hs) f.finds in
      let t = column_part (λ (e : Arc). e.tail) es ts t_is f.count in
      let h = column_part (λ (e : Arc). e.head) es hs h_is f.count in
      record {
        given = f.given;
        acceptable = accepted_acceptable s _ _ f.finds;
        zones = f.zones;
        tails = t.0;
        heads = h.0;
        tails_fit = t.1;
        heads_fit = h.1;
        prints = printed_done s (sym (ap₂ (λ (p q : ℕ). file_at s p q) x y) ∙ f.finds);
      }

module _ {s : List ℕ} {n m : ℕ} {ts hs : List ℕ} (k : Handed s n m ts hs) where
  -- the network that was read passes its tests, and the page has room
  pub handed_plannable : (page : Page) → HasSpace page 20000 → PlanLent n (take m ts) (take m hs) page
  handed_plannable page o =
      record {
        fine = rw (k.tails, k.heads, sym k.zones) (network_passes k.given k.acceptable);
        lines_fit = o;
      }

  -- the lines of its plan are printed
  pub handed_prints : handed_lines n (take m ts) (take m hs) ≡ printed s
  handed_prints = rw (k.tails, k.heads, sym k.zones, arcs_split k.given.arcs) (sym k.prints)
