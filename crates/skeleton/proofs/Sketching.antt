-- The core of `skeleton`: from the readied memory to the named one, and from the skeleton's arcs in no order to the
-- skeleton.
--   named_here      after naming the names stand
--   drawn_in, sort_asked   the arcs that are put lie in both lists, and can be sorted
--   sketched        sorted they are the skeleton, and clearing leaves what came behind
-- Assumes nothing.
use mathlib.Core.Path.{◌≡◌, subst, ◌∙◌}
use mathlib.Core.List.{List, ◌++◌, Memᴰ as In}
use Prim.Native.Nat.{ℕ, ◌+◌, ◌≤◌}
use native.Mathlib.Omega.{arith}
use lib.ListN.{length, take, drop}
use lib.Seq.{length-take-le}
use borrow.Author.Tests.{eq-eqb}
use Rattle.rules.specs.Lists.{cleared}
use Rattle.rules.specs.Network.{Arc, network_of}
use Rattle.rules.specs.Components.{name, is_name, names}
use Rattle.rules.specs.Skeleton.{skeleton}
use Rattle.rules.specs.Calls.{arcs_of, handed, asked_work}
use Rattle.theory.proofs.Files.Accepting.{fine_few}
use Rattle.theory.proofs.Ground.Lists.{in_keep}
use Rattle.theory.proofs.Ground.Ascending.{span_length}
use Rattle.theory.proofs.Ground.Counting.{keep_length}
use Rattle.theory.proofs.Reaching.Components.{names_zone}
use Rattle.workmap.specs.Map.{map_of, rows_at}
use Rattle.memory.specs.Putting.{ArcsFit, ArcsPut}
use Rattle.memory.proofs.Places.{drop_deeper}
use Rattle.memory.proofs.Cleared.{cleared_back}
use Rattle.memory.proofs.Puts.{put_over}
use Rattle.arranged.specs.Ready.{Readyable, Readied}
use Rattle.components.specs.Components.{Components}
use Rattle.sorting.specs.Sorting.{Sortable, Sorted}
use Rattle.sorting.proofs.Sorts.{put_in, put_sortable, put_sorted}
use Rattle.drawing.specs.Drawing.{Named, Drawn}
use Rattle.skeleton.specs.Promises.{Sketchable, Sketched}

module _ (n : ℕ) (ts hs w w₁ : List ℕ) (R : Readyable (map_of n (length ts)) ts hs w)
    (A : Readied w w₁ (map_of n (length ts)) ts hs) where
  -- w₂ is the memory after naming
  module _ (w₂ : List ℕ) (k : ℕ) (C : Components w₁ w₂ (map_of n (length ts)) (network_of n (arcs_of ts hs)) k) where
    -- there are no more names than zones
    names_few : k ≤ n
    unfolding names
    names_few =
        let N = network_of n (arcs_of ts hs) in
        omega (arith, C.count, keep_length (is_name N) N.zones, span_length 0 n)

    -- a zone that names itself is listed
    listed : (c : ℕ) → In c (handed n ts hs).zones → name (handed n ts hs) c ≡ c → In c (names (handed n ts hs))
    unfolding names is_name
    listed c i e = in_keep (is_name (handed n ts hs)) i (eq-eqb (name (handed n ts hs) c) c e)

    -- the names stand
    pub named_here : Named w₂ n ts hs k
    unfolding handed
    named_here =
        record {
          fine = R.fine;
          room = omega (arith, R.room, A.standing.long, C.long);
          few = names_few;
          named = C.named;
          ordered =
              record {
                own = λ j h. names_zone (network_of n (arcs_of ts hs)) (C.top j h);
                all = λ c i e. C.listed c (listed c i e);
                after = C.sorted;
              };
        }

    -- w₃ is the memory after the skeleton's arcs are put, in no order
    module _ (ots ohs : List ℕ) (S : Sketchable n ts hs ots ohs w) (w₃ ots₁ ohs₁ : List ℕ) (r : ℕ)
        (D : Drawn w₂ w₃ n ts hs ots ohs ots₁ ohs₁ r) where
      -- they have room
      drawn_fit : ArcsFit ots ohs 0 D.arcs
      drawn_fit =
          record { tails = omega (arith, D.few, S.tails_room); heads = omega (arith, D.few, S.heads_room) }

      -- they lie in both lists
      pub drawn_in : (r ≤ length ots₁) × (r ≤ length ohs₁)
      drawn_in = put_in drawn_fit D.put

      -- they can be sorted
      pub sort_asked : Sortable (rows_at n) (take r ots₁) (take r ohs₁) w₃
      sort_asked =
          put_sortable drawn_fit D.put D.between w₃ R.fine.accepted.zones_most
          (omega (arith, D.put.behind, D.few, fine_few R.fine)) (omega arith)
          (omega (
            arith,
            D.put.behind,
            D.few,
            R.room,
            R.fine.accepted.zones_least,
            A.standing.long,
            C.long,
            D.long,
          ))

      -- w₄ is the memory after they are sorted
      module _ (w₄ ots₂ ohs₂ : List ℕ) (Q : Sorted (rows_at n) (take r ots₁) (take r ohs₁) w₃ ots₂ ohs₂ w₄) where
        -- the tails that are then in the list
        abbrev tails₂ : List ℕ
        tails₂ = ots₂ ++ drop r ots₁

        -- and the heads
        abbrev heads₂ : List ℕ
        heads₂ = ohs₂ ++ drop r ohs₁

        -- they have the skeleton
        skeleton_put : ArcsPut ots ohs tails₂ heads₂ 0 (skeleton (handed n ts hs)) r
        skeleton_put =
            subst
            (λ (es : List Arc). ArcsPut ots ohs tails₂ heads₂ 0 es r)
            D.sorted
            (put_sorted drawn_fit D.put D.between Q)

        -- behind the asked part the memory is as it came
        behind : drop (asked_work n (length ts)) w₄ ≡ drop (asked_work n (length ts)) w
        behind =
            let asked = asked_work n (length ts) in
            let many = length-take-le r ots₁ drawn_in.0 in
            drop_deeper w₃ w₄ ((rows_at n).rows + length (take r ots₁)) asked
            (omega (arith, many, D.put.behind, D.few, R.fine.accepted.zones_least)) Q.high
            ∙ D.beyond
            ∙ drop_deeper w₁ w₂ (rows_at n).starts asked (omega arith) C.back
            ∙ A.standing.beyond

        -- the skeleton is put
        pub sketched : (w₅ : List ℕ) → w₅ ≡ cleared (asked_work n (length ts)) w₄ →
            Sketched n ts hs ots ohs w r tails₂ heads₂ w₅
        sketched w₅ e =
            let N = handed n ts hs in
            let fits : ArcsFit ots ohs 0 (skeleton N) =
            record {
              tails = omega (arith, skeleton_put.behind, D.put.behind, drawn_fit.tails);
              heads = omega (arith, skeleton_put.behind, D.put.behind, drawn_fit.heads);
            }
            in
            let both = put_over ots ohs tails₂ heads₂ r (skeleton N) fits skeleton_put in
            record {
              count = omega (arith, skeleton_put.behind);
              tails = both.0;
              heads = both.1;
              work = e ∙ cleared_back (asked_work n (length ts)) w w₄ behind;
            }
