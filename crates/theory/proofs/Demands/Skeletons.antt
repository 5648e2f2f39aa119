-- Demand 3, of the calls: each accepted network has a skeleton, which keeps its withdrawn numbers; two networks whose
-- withdrawn numbers are equal have skeleton files equal byte for byte exactly when they have the same zone count and
-- the same zones reach the same zones; and a skeleton's own skeleton is itself.
--   skeleton_left c k       the network that SKELETON left, where it said that it has k arcs
--   skeleton_leaves         its arcs are the skeleton of the network
--   skeleton_left_accepted  it is a network that a call accepts, with no more arcs
--   skeleton_left_spares    none of its arcs is at a withdrawn zone
--   SkeletonFile i         the skeleton file of a network, as SKELETON and then WRITE make it
--   skeleton_bytes          its bytes
--   skeleton_files_equal    the equivalence
--   skeleton_again          SKELETON called on what it left leaves the same and says the same count
--   skeleton_again_answers  and it ends with DONE where what it is lent is long enough
--   same_skeletons          where SKELETON left the same of two networks, they have the same zones and skeleton
-- What the calls leave is what the rules say, and the rules' skeleton stands for reach. Assumes nothing.
use Prim.Native.Nat.{ℕ, ◌≤◌}
use native.Mathlib.Omega.{arith}
use mathlib.Core.Path.{◌≡◌, sym, ap, ap₂, ◌∙◌}
use mathlib.Core.Logic.{◌↔◌}
use mathlib.Core.List.{List, Memᴰ as In}
use lib.ListN.{length, take, length-map}
use Rattle.std.specs.Prelude.{Ok}
use Rattle.rules.specs.Network.{Arc, remaining, arc_tails, arc_heads, Reach}
use Rattle.rules.specs.Skeleton.{skeleton, skeleton_of}
use Rattle.rules.specs.File.{file_bytes}
use Rattle.rules.specs.Calls.{arcs_of, handed_with}
use Rattle.theory.proofs.Ground.ArcLists.{arcs_length, arcs_split}
use Rattle.theory.proofs.Ground.Storing.{over_front}
use Rattle.theory.proofs.Skeletons.SkeletonLaws.{skeleton_ends}
use Rattle.theory.proofs.Skeletons.SkeletonSame.{skeleton_skeleton}
use Rattle.theory.proofs.Skeletons.SkeletonLeast.{skeleton_short}
use Rattle.theory.proofs.Files.SkeletonFile.{skeleton_given, skeleton_accepted, skeleton_files}
use Rattle.theory.proofs.Demands.Calls.{as_given, HandedIn, network, Remains, IsAccepted, front_of}
use Rattle.theory.proofs.Demands.Calls.{WriteCall, SkeletonCall}
use Rattle.theory.proofs.Demands.Answers.{skeleton_done_when}
use Rattle.theory.proofs.Demands.Accepts.{accepted_proper, remains_in, Spares, remain_spares, LongEnough}
use Rattle.theory.proofs.Demands.Accepts.{skeleton_accepts, skeleton_rooms, skeleton_answers}
use Rattle.theory.proofs.Demands.Files.{file_left, write_leaves}

-- the network that SKELETON left, where it said that it has k arcs: zone count and withdrawn numbers stay
abbrev pub skeleton_left : {i : HandedIn} → SkeletonCall i → ℕ → HandedIn
skeleton_left {i} c k = front_of i.zones k c.left i.gone

module _ {i : HandedIn} (c : SkeletonCall i) {k : ℕ} (e : c.answer ≡ Ok k) where
  -- its tails and heads are those of the skeleton
  tails_left : (skeleton_left c k).tails ≡ arc_tails (skeleton (network i))
  tails_left =
      let d = (skeleton_done_when c).0 e in
      ap (take k) (rw d.0 at c.promise.tails)
      ∙ over_front _ c.lent.tails (d.1 ∙ sym (length-map (skeleton (network i)) _))

  heads_left : (skeleton_left c k).heads ≡ arc_heads (skeleton (network i))
  heads_left =
      let d = (skeleton_done_when c).0 e in
      ap (take k) (rw d.0 at c.promise.heads)
      ∙ over_front _ c.lent.heads (d.1 ∙ sym (length-map (skeleton (network i)) _))

  -- so its arcs are the skeleton of the network
  pub skeleton_leaves : arcs_of (skeleton_left c k).tails (skeleton_left c k).heads ≡ skeleton (network i)
  skeleton_leaves = ap₂ arcs_of tails_left heads_left ∙ arcs_split (skeleton (network i))

  -- as a network
  pub skeleton_network : network (skeleton_left c k) ≡ skeleton_of (network i)
  unfolding handed_with
  skeleton_network = λ j. record { zones = (network i).zones; arcs = skeleton_leaves j }

  -- and as a file holds it
  skeleton_handed : as_given (skeleton_left c k) ≡ skeleton_given (as_given i) i.gone
  unfolding handed_with
  skeleton_handed = λ j. record { zones = i.zones; arcs = skeleton_leaves j }

  -- both ends of each arc remain
  skeleton_remains : (x : Arc) → In x (arcs_of (skeleton_left c k).tails (skeleton_left c k).heads)
      → Remains i x.tail × Remains i x.head
  unfolding handed_with
  skeleton_remains x m = skeleton_ends (network i) (rw skeleton_leaves at m)

  -- so none is at a withdrawn zone
  pub skeleton_left_spares : Spares i (arcs_of (skeleton_left c k).tails (skeleton_left c k).heads)
  skeleton_left_spares = remain_spares i skeleton_remains

  -- it is a network that a call accepts, with the same withdrawn numbers
  pub skeleton_left_accepted : IsAccepted (skeleton_left c k)
  skeleton_left_accepted =
      let a = skeleton_accepts c e in
      record {
        fine =
            record {
              paired =
                  ap length tails_left ∙ length-map (skeleton (network i)) _
                  ∙ sym (ap length heads_left ∙ length-map (skeleton (network i)) _);
              accepted = rw skeleton_handed (skeleton_accepted (as_given i) i.gone a.fine.accepted a.free);
            };
        ascending = a.ascending;
        below = a.below;
        remains = a.remains;
        free =
            record {
              tails = λ m. (remains_in i (skeleton_remains _ m).0).1;
              heads = λ m. (remains_in i (skeleton_remains _ m).1).1;
            };
      }

  -- with no more arcs than the network that was handed in
  pub skeleton_left_short : k ≤ length i.tails
  unfolding handed_with
  skeleton_left_short =
      let a = skeleton_accepts c e in
      omega (
        arith,
        ((skeleton_done_when c).0 e).1,
        skeleton_short (accepted_proper i a),
        arcs_length i.tails i.heads a.fine.paired,
      )

-- the skeleton file of a network: SKELETON ended with DONE, and so did WRITE on what it left
pub record SkeletonFile (i : HandedIn) : Type 0 where
  pub made : SkeletonCall i
  pub arcs : ℕ
  pub arcs_said : made.answer ≡ Ok arcs
  pub put : WriteCall (skeleton_left made arcs)
  pub size : ℕ
  pub size_said : put.answer ≡ Ok size

-- its bytes
abbrev pub skeleton_bytes : {i : HandedIn} → SkeletonFile i → List ℕ
skeleton_bytes f = file_left f.put f.size

-- they are the file of the rules' skeleton
bytes_are : {i : HandedIn} (f : SkeletonFile i)
    → skeleton_bytes f ≡ file_bytes (skeleton_given (as_given i) i.gone)
bytes_are f = write_leaves f.put f.size_said ∙ ap file_bytes (skeleton_handed f.made f.arcs_said)

-- the zones of i that remain reach in j what they reach in i
abbrev pub SameReach : HandedIn → HandedIn → Type 0
SameReach i j = (a b : ℕ) → Remains i a → Remains i b → Reach (network i) a b ↔ Reach (network j) a b

-- two networks whose withdrawn numbers are equal have skeleton files equal byte for byte exactly when they have the
-- same zone count and the same zones reach the same zones
pub skeleton_files_equal : {i j : HandedIn} → i.gone ≡ j.gone → (f : SkeletonFile i) (g : SkeletonFile j)
    → (skeleton_bytes f ≡ skeleton_bytes g) ↔ ((i.zones ≡ j.zones) × SameReach i j)
unfolding handed_with
skeleton_files_equal {i} {j} gone f g =
    let a = skeleton_accepts f.made f.arcs_said in
    let b = skeleton_accepts g.made g.arcs_said in
    let equal = skeleton_files _ _ gone a.fine.accepted b.fine.accepted a.free b.free in (
      λ e. equal.0 (sym (bytes_are f) ∙ e ∙ bytes_are g),
      λ s. bytes_are f ∙ equal.1 s ∙ sym (bytes_are g),
    )

-- SKELETON called on what SKELETON left, with the same withdrawn numbers
module _ {i : HandedIn} (c : SkeletonCall i) {k : ℕ} (e : c.answer ≡ Ok k)
    (d : SkeletonCall (skeleton_left c k)) where
  -- it is its own skeleton
  own_skeleton : skeleton (network (skeleton_left c k)) ≡ skeleton (network i)
  own_skeleton = ap skeleton (skeleton_network c e) ∙ skeleton_skeleton (accepted_proper i (skeleton_accepts c e))

  -- where the call ends with DONE, it says the same count and leaves the same network
  pub skeleton_again : {l : ℕ} → d.answer ≡ Ok l
      → (l ≡ k) × (skeleton_left d l ≡ skeleton_left c k)
  skeleton_again f = (
    ((skeleton_done_when d).0 f).1 ∙ ap length own_skeleton ∙ sym ((skeleton_done_when c).0 e).1,
    λ j. record {
      zones = i.zones;
      tails = (tails_left d f ∙ ap arc_tails own_skeleton ∙ sym (tails_left c e)) j;
      heads = (heads_left d f ∙ ap arc_heads own_skeleton ∙ sym (heads_left c e)) j;
      gone = i.gone;
    },
  )

  -- and it does where what is lent is long enough
  pub skeleton_again_answers : LongEnough (skeleton_rooms d) → d.answer ≡ Ok k
  skeleton_again_answers long =
      skeleton_answers (skeleton_left_accepted c e) d long
      ∙ ap Ok (ap length own_skeleton ∙ sym ((skeleton_done_when c).0 e).1)

-- where SKELETON left the same of two networks, they have the same zones and the same skeleton
pub same_skeletons : {i j : HandedIn} (c : SkeletonCall i) (d : SkeletonCall j) {k l : ℕ}
    → c.answer ≡ Ok k → d.answer ≡ Ok l → skeleton_left c k ≡ skeleton_left d l
    → ((network i).zones ≡ (network j).zones) × (skeleton (network i) ≡ skeleton (network j))
unfolding handed_with
same_skeletons c d e f same = (
  ap (λ (h : HandedIn). remaining h.zones h.gone) same,
  sym (skeleton_leaves c e) ∙ ap (λ (h : HandedIn). arcs_of h.tails h.heads) same ∙ skeleton_leaves d f,
)
