-- The file of a skeleton: it says of a network which zones reach which, and nothing else. The withdrawn numbers are
-- kept beside the file, and a skeleton keeps its network's.
--   network_given g gone    the network that a file holds, with the numbers gone withdrawn
--   skeleton_given g gone   its skeleton, as a file holds it
--   given_proper        where a call accepts the network and no arc is at a withdrawn zone, arcs are between zones
--   skeleton_accepted   then the skeleton is a network that a call accepts
--   skeleton_files      two such networks with equal withdrawn numbers have the same skeleton file exactly when zone
--                       count and reach are the same
-- Equal files hold equal networks, and the skeleton stands for reach. Assumes nothing.
use Prim.Native.Nat.{ℕ}
use native.Mathlib.Nat.{le_trans}
use mathlib.Core.Path.{◌≡◌, ap, ap₂}
use mathlib.Core.Logic.{◌↔◌}
use mathlib.Core.List.{List, Memᴰ as In}
use Rattle.rules.specs.Network.{Network, remaining, network_with, Proper, Reach}
use Rattle.rules.specs.Skeleton.{skeleton}
use Rattle.rules.specs.File.{Given, Acceptable, file_bytes}
use Rattle.theory.proofs.Ground.Ascending.{network_proper}
use Rattle.theory.proofs.Skeletons.SkeletonLaws.{skeleton_ends, skeleton_apart}
use Rattle.theory.proofs.Skeletons.SkeletonSame.{skeleton_agree, skeleton_decides}
use Rattle.theory.proofs.Skeletons.SkeletonLeast.{skeleton_short}
use Rattle.theory.proofs.Withdrawn.Remaining.{remaining_in, Free, bridge}
use Rattle.theory.proofs.Files.FileLaws.{same_file_same_network}

-- the network that a file holds, with the numbers withdrawn that are kept beside it
abbrev pub network_given : Given → List ℕ → Network
network_given g gone = network_with g.zones g.arcs gone

-- its skeleton, as a file holds it: the zone count stays
abbrev pub skeleton_given : Given → List ℕ → Given
skeleton_given g gone = record { zones = g.zones; arcs = skeleton (network_given g gone) }

-- where a call accepts the network and no arc is at a withdrawn zone, arcs are between zones
pub given_proper : (g : Given) (gone : List ℕ) → Acceptable g → Free g.arcs gone → Proper (network_given g gone)
given_proper g gone h free =
    (bridge g.zones (network_proper g.zones g.arcs (λ a b m. (h.tails m, h.heads m))) free).proper

-- then its skeleton is a network that a call accepts
pub skeleton_accepted : (g : Given) (gone : List ℕ) → Acceptable g → Free g.arcs gone
    → Acceptable (skeleton_given g gone)
skeleton_accepted g gone h free =
    let N = network_given g gone in
    let P = given_proper g gone h free in
    record {
      zones_least = h.zones_least;
      zones_most = h.zones_most;
      arcs_most = le_trans (skeleton_short P) h.arcs_most;
      tails = λ m. (remaining_in g.zones gone (skeleton_ends N m).0).0;
      heads = λ m. (remaining_in g.zones gone (skeleton_ends N m).1).0;
      apart = λ m. skeleton_apart P m;
    }

-- the zones of g that remain reach in h, which has a list of its own, what they reach in g
abbrev pub SameReach : Given → List ℕ → Given → List ℕ → Type 0
SameReach g gone h others =
    (a b : ℕ) → In a (remaining g.zones gone) → In b (remaining g.zones gone)
    → Reach (network_given g gone) a b ↔ Reach (network_given h others) a b

-- two networks whose withdrawn numbers are equal
module _ (g h : Given) {gone others : List ℕ} (equal : gone ≡ others) (accepted_g : Acceptable g)
    (accepted_h : Acceptable h) (free_g : Free g.arcs gone) (free_h : Free h.arcs others) where
  -- they have the same skeleton, as files hold it, exactly when they have the same zone count and the same zones reach
  -- the same zones
  pub skeleton_same :
      (skeleton_given g gone ≡ skeleton_given h others) ↔ ((g.zones ≡ h.zones) × SameReach g gone h others)
  skeleton_same =
      let P = given_proper g gone accepted_g free_g in
      let Q = given_proper h others accepted_h free_h in (
        λ e.
            let z : g.zones ≡ h.zones = ap (λ (k : Given). k.zones) e in
            (z, skeleton_decides P Q (ap₂ remaining z equal) (ap (λ (k : Given). k.arcs) e)),
        λ r.
            let s = skeleton_agree P Q (ap₂ remaining r.0 equal) r.1 in
            λ k. record { zones = r.0 k; arcs = s k },
      )

  -- and they have skeleton files equal byte for byte exactly then
  pub skeleton_files :
      (file_bytes (skeleton_given g gone) ≡ file_bytes (skeleton_given h others))
      ↔ ((g.zones ≡ h.zones) × SameReach g gone h others)
  skeleton_files =
      let f =
      same_file_same_network _ _ (skeleton_accepted g gone accepted_g free_g)
      (skeleton_accepted h others accepted_h free_h) in
      (λ e. skeleton_same.0 (f.0 e), λ e. f.1 (skeleton_same.1 e))
