-- A network that is handed in passes its tests exactly where its lists pair up, it is one that a call accepts, and its
-- withdrawn numbers ascend, are some of its numbers and not all, and are at no arc.
--   arcs_most_lists                  the length of an accepted network's two lists
--   acceptable_proper                an accepted network is proper
--   Fine n ts hs                     the lists pair up, and the network is accepted
--   fine_few, fine_proper            it has at most 4,096 tails, and is proper
--   FineWith n ts hs gone           so it is, with its withdrawn numbers: a network that passes its tests
--   fine_with, fine_with_tests       it is so where the tests find no trouble;   and back
--   fine_with_bridge, fine_with_proper   the bridge to the network of the zones that remain, which is proper
--   fine_none, handed_none           with no number withdrawn a network that is accepted passes its tests, and is the
--                                    network of all numbers
--   question_remain, remain_question a question passes its tests exactly where it is about two zones that remain
-- A test that does not fail is one bound of an accepted network; the arcs go one after the other. Assumes nothing.
use Prim.Native.Nat.{ℕ, zero, suc, ◌≤◌, ◌<◌}
use native.Mathlib.Omega.{arith}
use mathlib.Core.Path.{◌≡◌, refl, ap, ◌∙◌}
use mathlib.Core.Logic.{⊎_elim}
use mathlib.Core.List.Memᴰ
use mathlib.Core.List.{List, [], ◌∷◌, Memᴰ as In}
use mathlib.Core.Option.{none}
use mathlib.Core.Bool.{Bool, false, not, ◌||◌}
use lib.Dec.{eqb, leb, ltb}
use lib.ListN.{length}
use borrow.Author.Tests.{leb-false, ltb-false, eqb-true, eqb-false, not-false, le-ltb, lt-leb, eq-eqb, ne_eqb}
use Rattle.rules.specs.Lists.{span, every, listed}
use Rattle.rules.specs.Network.{Arc, Proper, Ascending, remaining}
use Rattle.rules.specs.File.{Acceptable, zones_bad, arcs_bad}
use Rattle.rules.specs.Calls.{first_trouble, arcs_of, given, handed, handed_with, list_tests, arc_tests, arcs_tests}
use Rattle.rules.specs.Calls.{network_tests, question_tests}
use Rattle.theory.proofs.Ground.Bools.{or_false}
use Rattle.theory.proofs.Ground.ArcLists.{arcs_length}
use Rattle.theory.proofs.Ground.Ascending.{network_proper}
use Rattle.theory.proofs.Withdrawn.Remaining.{stays, remaining_in, in_remaining, network_none, Free, Bridge}
use Rattle.theory.proofs.Withdrawn.Remaining.{bridge}
use Rattle.theory.proofs.Files.Troubles.{passes, pass, both_pass, first_trouble_after}
use Rattle.theory.proofs.Files.Listing.{list_rises, rises_list, rising_ascending, rising_below}
use Rattle.theory.proofs.Files.Listing.{ascending_rising, some_remains, remains_some}

-- an arc that joins two distinct zones of n that are not gone
pub record Joins (n : ℕ) (e : Arc) (gone : ℕ → Bool) : Type 0 where
  pub tail : e.tail < n
  pub head : e.head < n
  pub apart : e.tail ≡ e.head → ⊥
  pub stay : (gone e.tail || gone e.head) ≡ false

-- arcs without a trouble join two such zones each
arcs_join : (n i : ℕ) (es : List Arc) (gone : ℕ → Bool) → first_trouble (arcs_tests n i es gone) ≡ none
    → (x : Arc) → In x es → Joins n x gone
arcs_join n i [] gone e x m = absurd (Memᴰ.not-nil m)
arcs_join n i (a ∷ es) gone e x m =
    let p = both_pass (arc_tests n i a gone) (arcs_tests n (suc i) es gone) e in
    let q = passes (leb n a.tail) _ _ p.0 in
    let r = passes (leb n a.head) _ _ q.1 in
    let s = passes (eqb a.tail a.head) _ _ r.1 in
    let t = passes (gone a.tail || gone a.head) _ _ s.1 in
    let j : Joins n a gone = record {
      tail = leb-false n a.tail q.0;
      head = leb-false n a.head r.0;
      apart = eqb-false a.tail a.head s.0;
      stay = t.0;
    } in
    ⊎_elim (λ (o : x ≡ a). rw o j) (λ o. arcs_join n (suc i) es gone p.1 x o) (Memᴰ.cases_cons m)

-- arcs that join two such zones each have no trouble
join_arcs : (n i : ℕ) (es : List Arc) (gone : ℕ → Bool) → ((x : Arc) → In x es → Joins n x gone)
    → first_trouble (arcs_tests n i es gone) ≡ none
join_arcs n i [] gone j = refl
join_arcs n i (e ∷ es) gone j =
    let f = j e (In.head refl) in
    pass _ _ (lt-leb n e.tail f.tail)
    (pass _ _ (lt-leb n e.head f.head)
    (pass _ _ (ne_eqb e.tail e.head f.apart)
    (pass _ _ f.stay
    (join_arcs n (suc i) es gone (λ x m. j x (In.tail m))))))

module _ (n : ℕ) (ts hs : List ℕ) where
  module _ (paired : length ts ≡ length hs) (A : Acceptable (given n ts hs)) where
    -- the length of the lists
    pub arcs_most_lists : length ts ≤ 4096
    arcs_most_lists = rw (arcs_length ts hs paired) at A.arcs_most

  -- an accepted network is proper
  pub acceptable_proper : Acceptable (given n ts hs) → Proper (handed n ts hs)
  unfolding handed
  acceptable_proper A = network_proper n (arcs_of ts hs) (λ a b m. (A.tails m, A.heads m))

-- tail list and head list pair up, and what they hand in is a network that a call accepts
pub record Fine (n : ℕ) (ts hs : List ℕ) : Type 0 where
  pub paired : length ts ≡ length hs
  pub accepted : Acceptable (given n ts hs)

-- it has at most 4,096 tails
pub fine_few : {n : ℕ} {ts hs : List ℕ} → Fine n ts hs → length ts ≤ 4096
fine_few {n} {ts} {hs} f = arcs_most_lists n ts hs f.paired f.accepted

-- it is proper
pub fine_proper : (n : ℕ) (ts hs : List ℕ) → Fine n ts hs → Proper (handed n ts hs)
fine_proper n ts hs f = acceptable_proper n ts hs f.accepted

-- so it is, its withdrawn numbers ascend below the zone count, some zone remains, and no arc has a withdrawn end
pub record FineWith (n : ℕ) (ts hs gone : List ℕ) : Type 0 where
  pub fine : Fine n ts hs
  pub ascending : Ascending gone
  pub below : (z : ℕ) → In z gone → z < n
  pub remains : (z : ℕ) × In z (remaining n gone)
  pub free : Free (arcs_of ts hs) gone

module _ (n : ℕ) (ts hs gone : List ℕ) where
  -- a network that is handed in and has no trouble
  pub fine_with : first_trouble (network_tests n ts hs gone) ≡ none → FineWith n ts hs gone
  unfolding arcs_of
  fine_with e =
      let p = passes (not (eqb (length ts) (length hs))) _ _ e in
      let q = passes (zones_bad n) _ _ p.1 in
      let r = passes (arcs_bad (length ts)) _ _ q.1 in
      let l = both_pass (list_tests n 0 0 gone) _ r.1 in
      let k = passes (every (listed gone) (span 0 n)) _ _ l.1 in
      let z = or_false (eqb n 0) (ltb 1024 n) q.0 in
      let rises = list_rises n 0 0 gone l.0 in
      let j = arcs_join n 0 (arcs_of ts hs) (listed gone) k.1 in
      let paired : length ts ≡ length hs = eqb-true _ _ (not-false _ p.0) in
      let some_zone = eqb-false n 0 z.0 in
      record {
        fine =
            record {
              paired = paired;
              accepted =
                  record {
                    zones_least = positive n some_zone;
                    zones_most = ltb-false 1024 n z.1;
                    arcs_most = rw (arcs_length ts hs paired) (ltb-false 4096 (length ts) r.0);
                    tails = λ m. (j _ m).tail;
                    heads = λ m. (j _ m).head;
                    apart = λ m. (j _ m).apart;
                  };
            };
        ascending = rising_ascending n 0 gone rises;
        below = λ x m. rising_below n 0 gone rises m;
        remains = some_remains n gone k.0;
        free =
            record {
              tails = λ {a} {b} m. (or_false (listed gone a) (listed gone b) (j _ m).stay).0;
              heads = λ {a} {b} m. (or_false (listed gone a) (listed gone b) (j _ m).stay).1;
            };
      }
    where
      positive : (k : ℕ) → (k ≡ 0 → ⊥) → 1 ≤ k
      positive zero f = absurd (f refl)
      positive (suc k) f = omega arith

  module _ (F : FineWith n ts hs gone) where
    -- what is accepted passes the tests
    pub fine_with_tests : first_trouble (network_tests n ts hs gone) ≡ none
    unfolding arcs_of
    fine_with_tests =
        let A = F.fine.accepted in
        let paired = F.fine.paired in
        let some_zone : n ≡ 0 → ⊥ = λ e. omega (arith, A.zones_least) in
        let zones : zones_bad n ≡ false = rw (ne_eqb n 0 some_zone, le-ltb 1024 n A.zones_most) in
        let j : (x : Arc) → In x (arcs_of ts hs) → Joins n x (listed gone) = λ x m. record {
          tail = A.tails m;
          head = A.heads m;
          apart = A.apart m;
          stay = rw (F.free.tails m, F.free.heads m);
        } in
        pass _ _ (ap not (eq-eqb (length ts) (length hs) paired))
        (pass _ _ zones
        (pass _ _ (le-ltb 4096 (length ts) (fine_few F.fine))
        (first_trouble_after (list_tests n 0 0 gone) _
        (rises_list n 0 0 gone (ascending_rising n gone F.ascending F.below))
        ∙ pass _ _ (remains_some n gone F.remains.1) (join_arcs n 0 (arcs_of ts hs) (listed gone) j))))

    -- the bridge to the network of the zones that remain
    pub fine_with_bridge : Bridge (stays gone) (handed n ts hs) (handed_with n ts hs gone)
    unfolding handed handed_with
    fine_with_bridge = bridge n (fine_proper n ts hs F.fine) F.free

    -- which is proper
    pub fine_with_proper : Proper (handed_with n ts hs gone)
    fine_with_proper = fine_with_bridge.proper

-- with no number withdrawn, all zones remain
pub fine_none : (n : ℕ) (ts hs : List ℕ) → Fine n ts hs → FineWith n ts hs []
fine_none n ts hs f =
    record {
      fine = f;
      ascending = tt;
      below = λ z m. absurd (Memᴰ.not-nil m);
      remains = (0, in_remaining n [] (omega (arith, f.accepted.zones_least)) refl);
      free = record { tails = λ m. refl; heads = λ m. refl };
    }

-- and the network is that of all numbers
pub handed_none : (n : ℕ) (ts hs : List ℕ) → handed_with n ts hs [] ≡ handed n ts hs
unfolding handed handed_with
handed_none n ts hs = network_none n (arcs_of ts hs)

-- a question without a trouble is about two zones that remain
pub question_remain : (n m : ℕ) (gone : List ℕ) (a b : ℕ)
    → first_trouble (question_tests n m (listed gone) a b) ≡ none → In a (remaining n gone) × In b (remaining n gone)
question_remain n m gone a b e =
    let p = passes (leb n a) _ _ e in
    let q = passes (leb n b) _ _ p.1 in
    let r = or_false (listed gone a) (listed gone b) (passes (listed gone a || listed gone b) _ _ q.1).0 in
    (in_remaining n gone (leb-false n a p.0) r.0, in_remaining n gone (leb-false n b q.0) r.1)

-- and back
pub remain_question : (n m : ℕ) (gone : List ℕ) {a b : ℕ} → In a (remaining n gone) → In b (remaining n gone)
    → first_trouble (question_tests n m (listed gone) a b) ≡ none
remain_question n m gone {a} {b} i j =
    let p = remaining_in n gone i in
    let q = remaining_in n gone j in
    pass _ _ (lt-leb n a p.0)
    (pass _ _ (lt-leb n b q.0) (pass (listed gone a || listed gone b) _ (rw (p.1, q.1)) refl))
