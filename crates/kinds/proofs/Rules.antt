-- What was noted is what the rules say of the network of the zones that remain.
--   together_name           a zone is in the component of a name exactly where the name is its own
--   entered_is, left_is     with each zone's name, the tests of one arc are the rules'
--   sources_list, sinks_list, alone_list   names kept by what was noted are a kind of the rules
--   for_marking             the arcs may be noted
--   named_after, entered_after, exited_after   what then stands for each zone, and for each name
-- The names that stand there are those in the network of all numbers, and each is the same in both. Assumes nothing.
use mathlib.Core.Path.{◌≡◌, sym, ap, ap₂, ◌∙◌}
use mathlib.Core.Logic.{inl, inr}
use mathlib.Core.Bool.{Bool, not, ◌&&◌}
use mathlib.Core.List.{List, Memᴰ as In}
use Prim.Native.Nat.{ℕ, ◌<◌}
use native.Mathlib.Omega.{arith}
use lib.Dec.{eqb}
use lib.ListN.{length, take}
use lib.Seq.{take-length}
use borrow.Author.Tests.{eqb-true, eq-eqb}
use Rattle.rules.specs.Lists.{any, keep, span}
use Rattle.rules.specs.Network.{Arc, Network, network_of, remaining, network_with, Proper}
use Rattle.rules.specs.Components.{together, name, is_name, names, entered, exited, sources, sinks, alone}
use Rattle.rules.specs.Answers.{yes_number}
use Rattle.memory.specs.Regions.{cell}
use Rattle.theory.proofs.Ground.ArcLists.{arcs_length}
use Rattle.theory.proofs.Ground.Bools.{bool_cases, bool_agree}
use Rattle.theory.proofs.Ground.Lists.{any_agree, keep_agree, in_keep}
use Rattle.theory.proofs.Ground.Ascending.{span_in, in_span, network_proper}
use Rattle.theory.proofs.Reaching.Components.{together_sound, together_complete, name_in, name_agree, name_apart}
use Rattle.theory.proofs.Reaching.Components.{names_zone}
use Rattle.theory.proofs.Withdrawn.Remaining.{stays, remaining_in, Bridge, bridge}
use Rattle.rules.specs.Calls.{arcs_of}
use Rattle.workmap.specs.declared.KindsAt.{KindsAt}
use Rattle.workmap.specs.declared.ListsAt.{ListsAt}
use Rattle.borders.specs.Borders.{comes, goes, own_kind, Markable, Marking}
use Rattle.kinds.specs.Lists.{Nameable, Withdrawable}
use Rattle.borders.proofs.Marks.{names_around}
use Rattle.borders.proofs.Tests.{keep_keep, yes_zero, yes_one, both_ways}

-- f gives each zone its name
module _ {N : Network} (P : Proper N) (f : ℕ → ℕ) (named : (v : ℕ) → In v N.zones → f v ≡ name N v) where
  -- A zone is in the component of a name exactly where that is its own name.
  together_name : {z c : ℕ} → In z N.zones → In c (names N) → together N z c ≡ eqb (f z) c
  together_name {z} {c} i m =
      let own = names_zone N m in
      bool_agree
      (λ h. eq-eqb (f z) c (named z i ∙ name_agree P i own.0 (together_sound N z c h) ∙ own.1))
      (λ h. together_complete P (name_apart P i own.0 (sym (named z i) ∙ eqb-true (f z) c h ∙ sym own.1)))

  -- Some arc comes into the component of a name, as the names tell it.
  pub entered_is : {c : ℕ} → In c (names N) → any (comes f c) N.arcs ≡ entered N c
  unfolding entered
  entered_is {c} m = any_agree (comes f c) (λ e. together N e.head c && not (together N e.tail c)) N.arcs
      (λ e i. sym (ap₂ (λ a b. a && not b) (together_name (P.heads i) m) (together_name (P.tails i) m)))

  -- Some arc goes out of the component of a name, as the names tell it.
  pub left_is : {c : ℕ} → In c (names N) → any (goes f c) N.arcs ≡ exited N c
  unfolding exited
  left_is {c} m = any_agree (goes f c) (λ e. together N e.tail c && not (together N e.head c)) N.arcs
      (λ e i. sym (ap₂ (λ a b. a && not b) (together_name (P.tails i) m) (together_name (P.heads i) m)))

-- the arcs es, and withdrawn numbers: each zone's name stands in w, and for each name whether it is entered and left
module _
    (k : KindsAt)
    (es : List Arc)
    (gone w : List ℕ)
    (named : (v : ℕ) → v < k.zones → cell w k.names v ≡ name (network_with k.zones es gone) v)
    (into :
    (c : ℕ) → In c (names (network_with k.zones es gone)) →
    cell w k.entered c ≡ yes_number (entered (network_with k.zones es gone) c))
    (out :
    (c : ℕ) → In c (names (network_with k.zones es gone)) →
    cell w k.exited c ≡ yes_number (exited (network_with k.zones es gone) c))
  where
    -- the network
    abbrev N : Network
    N = network_with k.zones es gone

    -- The names with x and y noted are those that pass a test, where for each name the test says just that.
    kind_list : (x y : ℕ) (q : ℕ → Bool) →
        ((c : ℕ) → In c (names N) → (eqb (yes_number (entered N c)) x && eqb (yes_number (exited N c)) y) ≡ q c) →
        keep (own_kind k x y w) (remaining k.zones gone) ≡ keep q (names N)
    unfolding names is_name
    kind_list x y q same =
        keep_agree (own_kind k x y w) (λ z. is_name N z && q z) (remaining k.zones gone) agree
        ∙ sym (keep_keep (is_name N) q (remaining k.zones gone))
      where
        agree : (z : ℕ) → In z (remaining k.zones gone) → own_kind k x y w z ≡ (is_name N z && q z)
        agree z i =
            let e : eqb (cell w k.names z) z ≡ eqb (name N z) z =
            ap (λ (v : ℕ). eqb v z) (named z (remaining_in k.zones gone i).0)
            in
            elim (bool_cases (eqb (name N z) z)) [
              | inl h ↦ let m = in_keep (is_name N) i h in rw (e, h, into z m, out z m) (same z m)
              | inr h ↦ rw (e, h)
            ]

    -- Names that are left and not entered are the sources.
    pub sources_list : keep (own_kind k 0 1 w) (remaining k.zones gone) ≡ sources N
    unfolding sources
    sources_list =
        kind_list 0 1 (λ c. exited N c && not (entered N c))
        (λ c m.
        ap₂ ◌&&◌ (yes_zero (entered N c)) (yes_one (exited N c)) ∙ both_ways (entered N c) (exited N c))

    -- Names that are entered and not left are the sinks.
    pub sinks_list : keep (own_kind k 1 0 w) (remaining k.zones gone) ≡ sinks N
    unfolding sinks
    sinks_list =
        kind_list 1 0 (λ c. entered N c && not (exited N c))
        (λ c m. ap₂ ◌&&◌ (yes_one (entered N c)) (yes_zero (exited N c)))

    -- Names that are neither are alone.
    pub alone_list : keep (own_kind k 0 0 w) (remaining k.zones gone) ≡ alone N
    unfolding alone
    alone_list =
        kind_list 0 0 (λ c. not (entered N c) && not (exited N c))
        (λ c m. ap₂ ◌&&◌ (yes_zero (entered N c)) (yes_zero (exited N c)))

-- each zone's name stands in w, and all arcs of ts and hs are noted in w'
module _ {k : KindsAt} {l : ListsAt} {ts hs w : List ℕ} (I : Nameable k l ts hs w) where
  -- The network is proper.
  proper : Proper (network_of k.zones (arcs_of ts hs))
  proper = network_proper k.zones (arcs_of ts hs) (λ a b m. (I.between.tails m, I.between.heads m))

  -- A zone of the network is below the number of zones.
  zone_low : {v : ℕ} → In v (span 0 k.zones) → v < k.zones
  zone_low i = omega (arith, span_in 0 k.zones i)

  -- What is asked for to mark the arcs is so.
  pub for_marking : Markable k ts hs w
  for_marking =
      record {
        room =
            record {
              small = I.small;
              entered_low = I.apart.entered_low;
              exited_low = omega (arith, I.apart.exited_low, I.apart.sources_low);
              fits = omega (arith, I.fits, I.apart.names_low, I.apart.sinks_low);
              zone =
                  λ v l.
                  rw (I.named v l) (zone_low (name_in proper (in_span 0 k.zones (omega arith) (omega arith))));
            };
        pairs = I.pairs;
        between = I.between;
        entered_clear = I.entered_clear;
        exited_clear = I.exited_clear;
      }

  -- withdrawn numbers that may be left out
  module _ {gone : List ℕ} (G : Withdrawable k.zones (arcs_of ts hs) gone) where
    -- the network of the zones that remain, with its names
    abbrev M : Network
    M = network_with k.zones (arcs_of ts hs) gone

    -- The bridge to it from the network of all numbers.
    remain : Bridge (stays gone) (network_of k.zones (arcs_of ts hs)) M
    remain = bridge k.zones proper G.free

    -- Each zone's name in it stands there.
    names_remain : (v : ℕ) → v < k.zones → cell w k.names v ≡ name M v
    names_remain v l = I.named v l ∙ sym (remain.name_is v)

    -- A zone that remains has its place.
    place : {v : ℕ} → In v (remaining k.zones gone) → v < k.zones
    place i = (remaining_in k.zones gone i).0

    -- all arcs are noted
    module _ {w' : List ℕ} (K : Marking k (arcs_of ts hs) (length ts) w w') where
      -- The names are kept.
      pub named_after : (v : ℕ) → v < k.zones → cell w' k.names v ≡ name M v
      named_after v l = names_around for_marking.room K.around v ∙ names_remain v l

      -- All arcs are the first arcs, as many as there are.
      all_arcs : take (length ts) (arcs_of ts hs) ≡ arcs_of ts hs
      all_arcs = rw (sym (arcs_length ts hs I.pairs)) (take-length (arcs_of ts hs))

      -- It stands for each name whether it is entered.
      pub entered_after : (c : ℕ) → In c (names M) → cell w' k.entered c ≡ yes_number (entered M c)
      entered_after c m =
          (rw all_arcs at (K.entered c (place (names_zone M m).0)))
          ∙ ap yes_number (entered_is remain.proper (cell w k.names) (λ v i. names_remain v (place i)) m)

      -- It stands for each name whether it is left.
      pub exited_after : (c : ℕ) → In c (names M) → cell w' k.exited c ≡ yes_number (exited M c)
      exited_after c m =
          (rw all_arcs at (K.exited c (place (names_zone M m).0)))
          ∙ ap yes_number (left_is remain.proper (cell w k.names) (λ v i. names_remain v (place i)) m)
