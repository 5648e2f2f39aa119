-- A `&κ mut [T]` that is lent for a lifetime κ' of a call, and comes back: as a `&κ' mut [T]`, and as a `&κ' [T]`.
--   LentAgain, LentShared     what the holder keeps meanwhile: the lender's part at κ', and its own borrow at κ, open
--   opens_row, closes_row     opened for its holder, as the row of its elements, and closed at another list
--   lends_again, comes_back   lent as `&mut`: it comes back at the list that the callee leaves
--   lends_shared, shared_back lent as `&`: it comes back as it was
-- Each asks for the holder's token at κ, and gives it back at the end. A loan as `&` also asks how the elements' type
-- is shared out, and for the tokens that this takes, and gives these back at once. Assumes `Logic`.
use mathlib.Core.Path.{◌≡◌, refl, sym, ap, subst, ◌∙◌}
use Prim.Native.Nat.{ℕ}
use mathlib.Core.List.{List, [], ◌∷◌}
use lib.ListN.{length}
use seplogic.Ra.Ura.{Ura}
use base.Fraction.{full_share}
use mir.Syntax.{Lifetime}
use mir.Val.{Val}
use base.Logic.{ent, sep, ex}
use base.Fml.{Lft, GName, Share, Fml, fsep, flft, fdead, fobs, fauth, flent, fobor, Incl}
use ghost.Rules.{Toks, span}
use types.Logic.{Logic, sem, lfts}
use types.Kit.{‵, raw, ◌⊛◌, some, later, ◌$◌, ◌∵◌, !, qed, by, move, use1, use2, use3, drop, split, pick, rewrite}
use types.Kit.{fsplit, fjoin, feq_i, frame, await, updating, now as at_once, show, done}
use types.SemTy.{cells, Arr}
use types.Share.{arr_parts}
use types.Tokens.{lent_back}
use denote.RattleType.{RattleType}
use denote.Shadow.{pure_l, pure_i}
use denote.Memory.{mem, shares, shared_of}
use denote.Bor.{Bor}
use denote.Ref.{MutBor}
use denote.Shares.{SharesAsFrom}
use denote.Slice.{slice_val, MutSlice, ShrSlice, heres, Room, finally, mut_slice_at, coded_holeys}
use denote.Lend.{Held, lends_slice, slice_back, lends_shr_slice}
use denote.Index.{row, whole_out, whole_in, opens_slice, closes_slice}

module _ (R : RattleType) (b o : ℕ) where
  -- the reference under a name, at a list
  abbrev at_list : GName → List R.Denot → MutBor (List R.Denot)
  at_list δ ys = record { ref_ptr = (b, o); ghost_name = δ; now = ys }

  -- and to share it
  abbrev share_list : List R.Denot → Bor (List R.Denot)
  share_list ys = record { ref_ptr = (b, o); now = ys }

  -- its machine values
  abbrev at_vals : List R.Denot → List Val
  at_vals ys = slice_val (b, o) (length ys) ∷ []

module _ (R : RattleType) (κ : Lft) (q : Share) (γ : GName) (b o : ℕ) where
  -- the holder's own borrow, open
  abbrev pub Open : List R.Denot → Fml
  Open ys =
      fsep (fobor κ q (Held R (length ys) b o γ))
      (fsep (fobs γ ((coded_holeys R).code (heres R ys))) (fauth γ ((coded_holeys R).code (heres R ys))))

  module _ {M : Type 1} {𝓤 : Ura M} (𝓛 : Logic 𝓤) (ℓ : Lifetime)
      (ys : List R.Denot) (vs : List Val) where
    -- opened: the row of its elements, and what the holder keeps meanwhile
    open 𝓛 use {H, A}

    pub opens_row : ent 𝓤 (sep 𝓤 (sem 𝓛 ((MutSlice ℓ κ R).own_val (at_list R b o γ ys) vs)) (A.lft κ q))
        (H.⇛ (sep 𝓤 (sem 𝓛 (row R full_share ys b o)) (sem 𝓛 (Open ys))))
    opens_row =
        qed 𝓛 (‵ ((MutSlice ℓ κ R).own_val (at_list R b o γ ys) vs) ∷ ‵ (flft κ q) ∷ []) ∵
        updating ! $ fsplit ! $ drop ! $
        fsplit ! $ opens_slice ! tt R ys b o $ at_once ! $ frame ! $ move ! (1 ∷ 2 ∷ []) $ fjoin ! $
        move ! (1 ∷ 0 ∷ []) $ fjoin ! $ done !

    -- closed at a list of the same length
    pub closes_row : (zs : List R.Denot) → vs ≡ at_vals R b o ys → Room R (length ys) → length zs ≡ length ys →
        ent 𝓤 (sep 𝓤 (sem 𝓛 (row R full_share zs b o)) (sem 𝓛 (Open ys)))
        (H.⇛ (sep 𝓤 (sem 𝓛 ((MutSlice ℓ κ R).own_val (at_list R b o γ zs) vs)) (A.lft κ q)))
    closes_row zs is room e =
        qed 𝓛 (‵ (row R full_share zs b o) ∷ ‵ (Open ys) ∷ []) ∵ updating ! $ move ! (1 ∷ []) $ fsplit ! $
        move ! (1 ∷ []) $ fsplit ! $ move ! (3 ∷ 2 ∷ 0 ∷ 1 ∷ []) $ closes_slice ! tt R ys zs e b o $ at_once ! $
        fjoin ! $
        pure_i ! (mut_slice_at R (at_list R b o γ zs) vs) (tt, (tt, tt))
        (is ∙ ap (λ (m : ℕ). slice_val (b, o) m ∷ []) (sym e), subst (Room R) (sym e) room) $ fjoin ! $ done !

module _ (R : RattleType) (κ κ' : Lft) (q : Share) (γ : GName) (b o : ℕ) where
  -- what the holder keeps while the slice is lent again under the name γ₁
  abbrev pub LentAgain : GName → List R.Denot → Fml
  LentAgain γ₁ ys = fsep (flent κ' (Held R (length ys) b o γ₁)) (Open R κ q γ b o ys)

  -- what the holder keeps while the slice is shared
  abbrev pub LentShared : List R.Denot → Fml
  LentShared ys = fsep (flent κ' ((arr_parts (shares R) (length ys)).part full_share ys b o)) (Open R κ q γ b o ys)

  module _ {M : Type 1} {𝓤 : Ura M} (𝓛 : Logic 𝓤) (ℓ ℓ' : Lifetime)
      (ys : List R.Denot) where
    -- the machine values of the reference
    open 𝓛 use {H, A}

    abbrev vals : List Val
    vals = at_vals R b o ys

    -- lent again as `&mut`
    pub lends_again : ent 𝓤 (sep 𝓤 (sem 𝓛 ((MutSlice ℓ κ R).own_val (at_list R b o γ ys) vals)) (A.lft κ q))
        (H.⇛
        (ex 𝓤
        (λ (γ₁ : GName).
        sep 𝓤 (sem 𝓛 ((MutSlice ℓ' κ' R).own_val (at_list R b o γ₁ ys) vals)) (sem 𝓛 (LentAgain γ₁ ys)))))
    lends_again =
        qed 𝓛 (‵ ((MutSlice ℓ κ R).own_val (at_list R b o γ ys) vals) ∷ ‵ (flft κ q) ∷ []) ∵ updating ! $ fsplit ! $
        pure_l ! (mut_slice_at R (at_list R b o γ ys) vals) (λ p. fsplit ! $ opens_slice ! tt R ys b o $
        use1 𝓛 (‵ (cells (mem R) ys b o)) (whole_in 𝓛 R ys b o) $
        use1 𝓛
        (later
        (some
        (λ (γ₁ : GName).
        ‵ ((MutSlice ℓ' κ' R).own_val (at_list R b o γ₁ ys) vals) ⊛ ‵ (flent κ' (Held R (length ys) b o γ₁)))))
        (lends_slice 𝓛 R ℓ' κ' ys b o p.1) $ await ! tt $ pick ! (λ γ₁. split ! $
        -- [the new slice; the lender's part at κ'; the open borrow at κ; obs γ; auth γ]
        at_once ! $
        show !
        (λ (γ' : GName).
        sep 𝓤 (sem 𝓛 ((MutSlice ℓ' κ' R).own_val (at_list R b o γ' ys) vals)) (sem 𝓛 (LentAgain γ' ys))) γ₁ $
        frame ! $ move ! (2 ∷ 3 ∷ []) $ fjoin ! $ move ! (2 ∷ 0 ∷ []) $ fjoin ! $ move ! (1 ∷ 0 ∷ []) $ fjoin ! $
        done !))

    -- it comes back at the list that the callee leaves
    pub comes_back : (γ₁ : GName) (zs : List R.Denot) → Room R (length ys) → length zs ≡ length ys →
        ent 𝓤
        (sep 𝓤 (A.dead κ') (sep 𝓤 (sem 𝓛 (LentAgain γ₁ ys)) (sem 𝓛 (finally R γ₁ zs))))
        (H.⇛ (sep 𝓤 (sem 𝓛 ((MutSlice ℓ κ R).own_val (at_list R b o γ zs) vals)) (A.lft κ q)))
    comes_back γ₁ zs room e =
        qed 𝓛 (‵ (fdead κ') ∷ ‵ (LentAgain γ₁ ys) ∷ ‵ (finally R γ₁ zs) ∷ []) ∵ updating ! $ move ! (1 ∷ []) $
        fsplit ! $ move ! (2 ∷ 0 ∷ 3 ∷ []) $
        use3 𝓛 (later (‵ ((Arr (mem R) (length ys)).own_at zs b o)))
        (slice_back 𝓛 R κ' γ₁ zs (length ys) b o) $ await ! tt $ fsplit ! $ drop ! $
        use1 𝓛 (‵ (row R full_share zs b o)) (whole_out 𝓛 R zs b o) $
        by ! (closes_row R κ q γ b o 𝓛 ℓ ys vals zs refl room e)

    -- lent as `&`, at any machine values, where the type is shared out with tokens ts
    pub lends_shared : (vs : List Val) (l : Lft) → SharesAsFrom 𝓛 full_share R (shared_of R) l → (ts : Toks) →
        Incl (span ts) l → Incl (span ts) κ' →
        ent 𝓤
        (sep 𝓤 (sem 𝓛 ((MutSlice ℓ κ R).own_val (at_list R b o γ ys) vs)) (sep 𝓤 (A.lft κ q) (lfts 𝓛 ts)))
        (H.⇛
        (sep 𝓤 (sem 𝓛 ((ShrSlice ℓ' κ' R).own_val (share_list R b o ys) vs))
        (sep 𝓤 (sem 𝓛 (LentShared ys)) (lfts 𝓛 ts))))
    lends_shared vs l s ts inc sp =
        qed 𝓛 (‵ ((MutSlice ℓ κ R).own_val (at_list R b o γ ys) vs) ∷ ‵ (flft κ q) ∷ raw (lfts 𝓛 ts) ∷ []) ∵
        updating ! $ fsplit ! $ pure_l ! (mut_slice_at R (at_list R b o γ ys) vs) (λ p. fsplit ! $
        opens_slice ! tt R ys b o $ feq_i ! ℕ (length ys) (length ys) refl $ fjoin ! $ move ! (0 ∷ 4 ∷ []) $
        use2 𝓛
        (later
        ((‵ ((ShrSlice ℓ' κ' R).own_val (share_list R b o ys) vals)
        ⊛ ‵ (flent κ' ((arr_parts (shares R) (length ys)).part full_share ys b o)))
        ⊛ raw (lfts 𝓛 ts)))
        (lends_shr_slice 𝓛 R ℓ' κ' full_share ys b o p.1 l s ts inc sp) $ await ! tt $ split ! $ split ! $
        rewrite ! 0 (λ (us : List Val). ‵ ((ShrSlice ℓ' κ' R).own_val (share_list R b o ys) us)) (sym p.0) refl $
        -- [the new slice; the lender's part at κ'; the tokens; the open borrow at κ; obs γ; auth γ]
        at_once ! $ frame ! $ move ! (3 ∷ 4 ∷ []) $ fjoin ! $ move ! (3 ∷ 0 ∷ []) $ fjoin ! $
        move ! (1 ∷ 0 ∷ []) $ fjoin ! $ frame ! $ done !)

    -- it comes back as it was
    pub shared_back : (vs : List Val) → vs ≡ vals → Room R (length ys) →
        ent 𝓤 (sep 𝓤 (A.dead κ') (sem 𝓛 (LentShared ys)))
        (H.⇛ (sep 𝓤 (sem 𝓛 ((MutSlice ℓ κ R).own_val (at_list R b o γ ys) vs)) (A.lft κ q)))
    shared_back vs e room =
        qed 𝓛 (‵ (fdead κ') ∷ ‵ (LentShared ys) ∷ []) ∵ updating ! $ move ! (1 ∷ []) $ fsplit ! $
        move ! (2 ∷ 0 ∷ []) $ lent_back ! tt $ fsplit ! $ drop ! $
        by ! (closes_row R κ q γ b o 𝓛 ℓ ys vs ys e room refl)
