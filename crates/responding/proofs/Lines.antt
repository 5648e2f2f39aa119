-- The lines of a plan, from what PLAN answers and leaves.
--   responded         a text put on a page with none, which is the text to print
--   planned           where the network passes every test, what is put for the answer of PLAN fits and is its lines
-- Where there is no trouble the promise of PLAN is its values and the plan over what was there. Assumes nothing.
use Prim.Native.Nat.{ℕ, ◌≤◌}
use native.Mathlib.Nat.{zero-add}
use native.Mathlib.Omega.{arith}
use mathlib.Core.Path.{◌≡◌, refl, sym, ap, ◌∙◌}
use mathlib.Core.List.{List, [], ◌++◌, map}
use mathlib.Core.Option.{none, some}
use lib.ListN.{length, drop, length-append, length-map}
use Rattle.std.specs.Prelude.{Ok, Err}
use Rattle.rules.specs.Lists.{over}
use Rattle.rules.specs.Network.{Network}
use Rattle.rules.specs.File.{Given}
use Rattle.rules.specs.Text.{printed}
use Rattle.rules.specs.Plan.{Link, why_number, link_starts, link_ends, link_whys, plan, plan_need}
use Rattle.rules.specs.Answers.{PlanAnswer, plan_told}
use Rattle.rules.specs.Calls.{arcs_of, handed, network_tests, plan_trouble}
use Rattle.rules.specs.Promises.{PlanPromise}
use Rattle.theory.proofs.Ground.ArcLists.{arcs_length}
use Rattle.theory.proofs.Ground.Ascending.{span_length}
use Rattle.theory.proofs.Planning.PlanCount.{plan_length}
use Rattle.theory.proofs.Files.Accepting.{Fine, fine_proper, fine_with, handed_none}
use Rattle.theory.proofs.Files.Troubles.{both_pass}
use Rattle.theory.proofs.Demands.Calls.{LinkLists, PlanCall}
use Rattle.theory.proofs.Demands.Answers.{plan_done_when, plan_refused_when}
use Rattle.theory.proofs.Demands.Plans.{plan_leaves}
use Rattle.theory.proofs.Planning.Few.{need_few}
use Rattle.buffer.specs.declared.Page.{Page}
use Rattle.buffer.specs.Put.{put, HasSpace, Appended}
use Rattle.lines.specs.Lines.{lines_of}
use Rattle.text.specs.Texts.{plan_text, Putable, answer_lines}
use Rattle.text.proofs.TextLaws.{file_counts_of, plan_counts_of, plan_put}
use Rattle.responding.specs.Buffers.{handed_lines, Responded}

-- a text that is put on a page with none is the buffer's first bytes, and where it is what is printed, all is done
pub responded : {file out s : List ℕ} {p q : Page} → p.len ≡ 0 → p.bytes.now ≡ out → s ≡ printed file
    → Appended p s q → Responded file out q.len q.bytes.now
unfolding put
responded {file} {out} {s} {p} {q} empty begun e w =
    let bytes : q.bytes.now ≡ over s out =
    w.buffer ∙ rw (empty, begun) (ap (λ (k : ℕ). s ++ drop k out) (zero-add (length s))) in
    record {
      count = w.stop ∙ rw empty (zero-add (length s) ∙ ap length e);
      bytes = bytes ∙ ap (λ (x : List ℕ). over x out) e;
    }

-- a list with a column of k links over what was there has k elements or more
column_fits : (f : Link → ℕ) (ls : List Link) (old : List ℕ) {xs : List ℕ} {k : ℕ} → xs ≡ over (map f ls) old
    → length ls ≡ k → k ≤ length xs
column_fits f ls old e l =
    omega (arith, ap length e, length-append (map f ls) (drop (length (map f ls)) old), length-map ls f)

module _ (n : ℕ) (ts hs starts ends whys work : List ℕ)
    (e : plan_trouble n ts hs [] starts ends whys work ≡ none) where
  -- the network handed in, with no zone withdrawn
  abbrev N : Network
  N = handed n ts hs

  -- it passes its own tests
  network_fine : Fine n ts hs
  unfolding plan_trouble
  network_fine = (fine_with n ts hs [] (both_pass (network_tests n ts hs []) _ e).0).fine

  -- the plan has as many links as the answer says
  links_are : length (plan N) ≡ plan_need N
  links_are = plan_length (fine_proper n ts hs network_fine)

  -- which are at most 1,024
  need_most : plan_need N ≤ 1024
  unfolding handed
  need_most =
      omega (
        arith,
        need_few (handed n ts hs),
        span_length 0 n,
        network_fine.accepted.zones_most,
      )

  -- the lines put over what PLAN leaves are those of the rules
  lines_are :
      plan_text (record { zones = n; arcs = length ts }) (plan_counts_of N)
      (lines_of (over (link_starts (plan N)) starts) (over (link_ends (plan N)) ends) (over (link_whys (plan N)) whys)
      (plan_need N))
      ≡ handed_lines n ts hs
  unfolding handed
  lines_are =
      let g : Given = record { zones = n; arcs = arcs_of ts hs } in
      rw (sym (arcs_length ts hs network_fine.paired))
      (ap
      (λ (k : ℕ).
      plan_text (file_counts_of g) (plan_counts_of N)
      (lines_of (over (link_starts (plan N)) starts) (over (link_ends (plan N)) ends) (over (link_whys (plan N)) whys)
      k))
      (sym links_are)
      ∙ plan_put g _ _ _)

  -- PLAN as it was called
  abbrev called : (a : PlanAnswer) {f' t' y' w' : List ℕ}
      → PlanPromise n ts hs [] starts ends whys work f' t' y' w' (plan_told a)
      → PlanCall (record { zones = n; tails = ts; heads = hs; gone = [] })
  called a {f'} {t'} {y'} {w'} k = record {
    lent = record { from = starts; to = ends; why = whys };
    left = record { from = f'; to = t'; why = y' };
    work = work;
    work' = w';
    answer = a;
    promise = k;
  }

  -- PLAN's answer and what it leaves: they fit into 20,000 bytes, and what is put for them is the lines of the plan
  pub planned : (a : PlanAnswer) {f' t' y' w' : List ℕ} (page : Page) → HasSpace page 20000
      → PlanPromise n ts hs [] starts ends whys work f' t' y' w' (plan_told a)
      → Putable a f' t' y' page
      × (answer_lines (record { zones = n; arcs = length ts }) a f' t' y' ≡ handed_lines n ts hs)
  planned (Err t) page l k =
      let some_trouble : none ≡ some t = sym e ∙ (plan_refused_when (called (Err t) k)).0 refl in
      let never : ◌≡◌ {A = ℕ} 0 1 = cc in
      absurd (omega arith)
  planned (Ok p) page l k =
      let c = called (Ok p) k in
      let same = handed_none n ts hs in
      let counts = rw same at ((plan_done_when c).0 refl).1 in
      let count : length (plan N) ≡ p.need = links_are ∙ sym counts.need_is in
      let left = rw same at (plan_leaves c e) in
      let starts_are = ap (λ (x : LinkLists). x.from) left in
      let ends_are = ap (λ (x : LinkLists). x.to) left in
      let whys_are = ap (λ (x : LinkLists). x.why) left in (
        record {
          starts_fit = column_fits (λ (l : Link). l.start) (plan N) starts starts_are count;
          ends_fit = column_fits (λ (l : Link). l.end) (plan N) ends ends_are count;
          whys_fit = column_fits (λ (l : Link). why_number l.why) (plan N) whys whys_are count;
          lines_fit = omega (arith, need_most, counts.need_is);
        },
        rw (
          counts.sources_are,
          counts.sinks_are,
          counts.alone_are,
          counts.pairs_are,
          counts.need_is,
          starts_are,
          ends_are,
          whys_are,
        )
            lines_are,
      )
