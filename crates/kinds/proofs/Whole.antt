-- The three lists, one after the other, are the names of the kinds.
--   stamp_fits      withdrawn zones may be stamped
--   first_listable, second_listable, third_listable   each list may be put after those before it
--   listed          the three lists together
-- The idea: what is put lies apart from what the tests read, so each list is as if it were the first. Assumes nothing.
use mathlib.Core.Path.{◌≡◌, ap, ◌∙◌}
use mathlib.Core.Logic.{inl}
use mathlib.Core.List.{List}
use Prim.Native.Nat.{ℕ, ◌+◌, ◌≤◌, ◌<◌}
use native.Mathlib.Omega.{arith}
use lib.ListN.{length, drop}
use lib.Seq.{sets}
use Rattle.rules.specs.Lists.{span, keep}
use Rattle.rules.specs.Network.{Network, network_with}
use Rattle.rules.specs.Components.{sources, sinks, alone}
use Rattle.rules.specs.Calls.{arcs_of}
use Rattle.workmap.specs.declared.KindsAt.{KindsAt}
use Rattle.workmap.specs.declared.ListsAt.{ListsAt}
use Rattle.memory.specs.Regions.{Holds}
use Rattle.memory.proofs.Places.{drop_deeper}
use Rattle.memory.proofs.Stores.{drop_sets, sets_holds, holds_sets}
use Rattle.withdrawn.specs.Withdrawn.{Stamped}
use Rattle.borders.specs.Borders.{KindsRoom, own_kind, Marking}
use Rattle.kinds.specs.Lists.{Listable, Listing, Nameable, Withdrawable, Listed}
use Rattle.borders.proofs.Tests.{keep_few}
use Rattle.borders.proofs.Marks.{room_around}
use Rattle.kinds.proofs.Rules.{sources_list, sinks_list, alone_list, for_marking}
use Rattle.kinds.proofs.Rules.{named_after, entered_after, exited_after}
use Rattle.kinds.proofs.Stamping.{stamped_around, stamped_kinds}
use Rattle.kinds.proofs.Turns.{list_long, list_same, listable_next}

-- noted arcs leave room for stamps
pub stamp_fits : {k : KindsAt} {l : ListsAt} {ts hs w w₁ : List ℕ} → Nameable k l ts hs w →
    Marking k (arcs_of ts hs) (length ts) w w₁ → k.entered + k.zones ≤ length w₁
stamp_fits I M = omega (arith, I.fits, I.apart, M.around.long)

-- all arcs are noted in w₁, and withdrawn zones are stamped in w₂
module _
    {k : KindsAt}
    {l : ListsAt}
    {ts hs gone w w₁ w₂ : List ℕ}
    {u : ℕ}
    (I : Nameable k l ts hs w)
    (M : Marking k (arcs_of ts hs) (length ts) w w₁)
    (Z : Stamped w₁ w₂ k.entered k.zones gone u)
  where
    -- noting keeps the memory's room
    noted_room : KindsRoom k w₁
    noted_room = room_around (for_marking I).room M.around

    -- the memory has room for the lists
    fits : l.alone + k.zones ≤ length w₂
    fits = omega (arith, I.fits, M.around.long, Z.long)

    -- the sources may be put
    pub first_listable : Listable k l.sources w₂
    first_listable =
        record {
          room = room_around noted_room (stamped_around noted_room Z);
          fits = omega (arith, fits, I.apart);
          apart = inl (I.apart.exited_low, I.apart.sources_low);
        }

    -- one list is put in w₃, where the sources belong
    module _ {x y s : ℕ} {w₃ : List ℕ} (S : Listing k x y l.sources k.zones s w₂ w₃) where
      -- the sinks may be put
      pub second_listable : Listable k l.sinks w₃
      second_listable =
          listable_next first_listable S (omega arith) l.sinks I.apart.names_low
          (omega (arith, fits, I.apart))

      -- what is of a kind is so still
      second_same : (a b : ℕ) →
          keep (own_kind k a b w₃) (span 0 k.zones) ≡ keep (own_kind k a b w₂) (span 0 k.zones)
      second_same = list_same first_listable S (omega arith)

      -- the second memory is as long
      second_long : length w₃ ≡ length w₂
      second_long = list_long first_listable S (omega arith)

      -- another list is put in w₄, where the sinks belong
      module _ {x' y' t : ℕ} {w₄ : List ℕ} (T : Listing k x' y' l.sinks k.zones t w₃ w₄) where
        -- the components alone may be put
        pub third_listable : Listable k l.alone w₄
        third_listable =
            listable_next second_listable T (omega arith) l.alone (omega (arith, I.apart))
            (omega (arith, fits, second_long))

        -- what is of a kind is so still
        third_same : (a b : ℕ) →
            keep (own_kind k a b w₄) (span 0 k.zones) ≡ keep (own_kind k a b w₂) (span 0 k.zones)
        third_same a b = list_same second_listable T (omega arith) a b ∙ second_same a b

        -- the third memory is as long
        third_long : length w₄ ≡ length w₂
        third_long = list_long second_listable T (omega arith) ∙ second_long

    -- withdrawn zones may be left out, and a stamp is above what is noted
    module _ (G : Withdrawable k.zones (arcs_of ts hs) gone) (above : 1 < u) where
      -- the network
      abbrev N : Network
      N = network_with k.zones (arcs_of ts hs) gone

      -- what is of each kind
      sources_noted : keep (own_kind k 0 1 w₂) (span 0 k.zones) ≡ sources N
      sources_noted =
          stamped_kinds noted_room Z above 0 1 (omega arith)
          ∙ sources_list k (arcs_of ts hs) gone w₁ (named_after I G M) (entered_after I G M) (exited_after I G M)

      sinks_noted : keep (own_kind k 1 0 w₂) (span 0 k.zones) ≡ sinks N
      sinks_noted =
          stamped_kinds noted_room Z above 1 0 (omega arith)
          ∙ sinks_list k (arcs_of ts hs) gone w₁ (named_after I G M) (entered_after I G M) (exited_after I G M)

      alone_noted : keep (own_kind k 0 0 w₂) (span 0 k.zones) ≡ alone N
      alone_noted =
          stamped_kinds noted_room Z above 0 0 (omega arith)
          ∙ alone_list k (arcs_of ts hs) gone w₁ (named_after I G M) (entered_after I G M) (exited_after I G M)

      -- no kind has more names than there are zones
      few : (length (sources N) ≤ k.zones) × (length (sinks N) ≤ k.zones) × (length (alone N) ≤ k.zones)
      few = (
        rw (ap length sources_noted) at (keep_few (own_kind k 0 1 w₂) 0 k.zones),
        rw (ap length sinks_noted) at (keep_few (own_kind k 1 0 w₂) 0 k.zones),
        rw (ap length alone_noted) at (keep_few (own_kind k 0 0 w₂) 0 k.zones),
      )

      -- the sources are put in w₃, the sinks in w₄, and the components alone in w₅
      module _
          {w₃ w₄ w₅ : List ℕ}
          {s t q : ℕ}
          (S : Listing k 0 1 l.sources k.zones s w₂ w₃)
          (T : Listing k 1 0 l.sinks k.zones t w₃ w₄)
          (Q : Listing k 0 0 l.alone k.zones q w₄ w₅)
        where
          -- what is put
          sources_put : w₃ ≡ sets w₂ l.sources (sources N)
          sources_put = rw sources_noted at S.memory

          sinks_put : w₄ ≡ sets w₃ l.sinks (sinks N)
          sinks_put = rw (second_same S 1 0 ∙ sinks_noted) at T.memory

          alone_put : w₅ ≡ sets w₄ l.alone (alone N)
          alone_put = rw (third_same S T 0 0 ∙ alone_noted) at Q.memory

          -- the sources stand there
          sources_stand : Holds w₅ l.sources (sources N)
          sources_stand =
              rw alone_put
              (holds_sets w₄ l.alone (alone N) l.sources (sources N) (inl (omega (arith, few, I.apart)))
              (rw sinks_put
              (holds_sets w₃ l.sinks (sinks N) l.sources (sources N) (inl (omega (arith, few, I.apart)))
              (rw sources_put (sets_holds w₂ l.sources (sources N) (omega (arith, few, fits, I.apart)))))))

          -- the sinks stand there
          sinks_stand : Holds w₅ l.sinks (sinks N)
          sinks_stand =
              rw alone_put
              (holds_sets w₄ l.alone (alone N) l.sinks (sinks N) (inl (omega (arith, few, I.apart)))
              (rw sinks_put
              (sets_holds w₃ l.sinks (sinks N) (omega (arith, few, fits, second_long S, I.apart)))))

          -- the components alone stand there
          alone_stand : Holds w₅ l.alone (alone N)
          alone_stand = rw alone_put (sets_holds w₄ l.alone (alone N) (omega (arith, few, fits, third_long S T)))

          -- the place behind the lists
          abbrev end : ℕ
          end = l.alone + k.zones

          -- behind the lists the memory is as it was
          listed_back : drop end w₅ ≡ drop end w
          listed_back =
              ap (drop end) alone_put
              ∙ drop_sets w₄ l.alone (alone N) end (omega (arith, few))
              ∙ ap (drop end) sinks_put
              ∙ drop_sets w₃ l.sinks (sinks N) end (omega (arith, few, I.apart))
              ∙ ap (drop end) sources_put
              ∙ drop_sets w₂ l.sources (sources N) end (omega (arith, few, I.apart))
              ∙ drop_deeper w w₂ (k.exited + k.zones) end (omega (arith, I.apart))
              ((stamped_around noted_room Z).back ∙ M.around.back)

          -- the three lists together
          pub listed : Listed k l N (record { sources = s; sinks = t; alone = q }) w w₅
          listed =
              record {
                long = list_long (third_listable S T) Q (omega arith) ∙ third_long S T ∙ Z.long ∙ M.around.long;
                back = listed_back;
                sources_are = S.count ∙ ap length sources_noted;
                sinks_are = T.count ∙ ap length (second_same S 1 0 ∙ sinks_noted);
                alone_are = Q.count ∙ ap length (third_same S T 0 0 ∙ alone_noted);
                sources_held = sources_stand;
                sinks_held = sinks_stand;
                alone_held = alone_stand;
              }
