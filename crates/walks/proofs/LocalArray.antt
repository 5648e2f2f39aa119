-- A local array that is lent as a `&mut [T]` for a lifetime of a call, and comes back; and an array of structs as a
-- field.
--   lends_array     the array's cell, with what the array owns, gives a `&κ mut [T]` on it, and the lender's part
--   array_back      once κ is over, the lender's part gives the cell again, at the list that the callee leaves
--   field_is        an array of structs is what a field of that type asks for
-- Assumes `Logic`.
use mathlib.Core.Path.{refl, ◌∙◌}
use Prim.Native.Nat.{ℕ}
use mathlib.Core.List.{List, [], ◌∷◌, map}
use lib.ListN.{length, length-map}
use seplogic.Ra.Ura.{Ura}
use base.Fraction.{full_share}
use mir.Syntax.{Ty, Lifetime, ty_array}
use mir.Val.{Val}
use base.Logic.{ent, sep, ex}
use base.Fml.{Lft, GName, Fml, fsep, fat, fdead, flent}
use types.Logic.{Logic, sem}
use types.Kit.{‵, later, ◌$◌, ◌∵◌, !, qed, by, move, use1, use3, drop, rewrite, fsplit, fjoin, fpick, fpack}
use types.Kit.{await, updating, now as at_once, show, done}
use types.SemTy.{cells, Arr}
use types.Share.{arr_parts}
use denote.RattleType.{RattleType}
use denote.Shadow.{shadow}
use denote.Laws.{Is, shows}
use denote.Memory.{lone, cell_at, part_at, mem, shares, part_of}
use denote.Array.{each, array_val, Array}
use denote.ArrayMemory.{Single, Array-apart, Array-whole}
use denote.Slice.{Room, finally}
use denote.Lend.{Held, Lent, lends_slice, slice_back}
use denote.Index.{row, whole_out, whole_in}
use denote.Steps.{peeks}
use denote.Struct.Declared.{Declared, field}
use denote.Struct.Declared as D

module _ {M : Type 1} {𝓤 : Ura M} (𝓛 : Logic 𝓤) (R : RattleType) (n b : ℕ) where
  -- the array's MIR type
  open 𝓛 use {H, A}

  abbrev τ : Ty
  τ = ty_array (lone R.mir) n

  -- the local that holds the array
  abbrev pub cell : Val → Fml
  cell v = fat full_share τ b 0 v

  -- it is lent
  pub lends_array : Single R.mir → (ℓ : Lifetime) (κ : Lft) (xs : List R.Denot) (v : Val) →
      Room R (length xs) →
      ent 𝓤 (sep 𝓤 (sem 𝓛 (cell v)) (sem 𝓛 ((Array R n).own_val xs (v ∷ []))))
      (H.⇛ (ex 𝓤 (Lent 𝓛 R ℓ κ xs b 0)))
  unfolding part_of
  lends_array one ℓ κ xs v room =
      qed 𝓛 (‵ (cell v) ∷ ‵ ((Array R n).own_val xs (v ∷ [])) ∷ []) ∵
      use1 𝓛 (‵ (cell_at full_share (τ ∷ []) (v ∷ []) b 0)) (𝓛.laws.at_raw full_share τ b 0 v) $ fjoin ! $
      fpack ! (List Val) (λ vs. fsep (cell_at full_share (τ ∷ []) vs b 0) ((Array R n).own_val xs vs)) (v ∷ []) $
      use1 𝓛 (‵ ((arr_parts (shares R) n).part full_share xs b 0)) (Array-apart 𝓛 R full_share one n xs b 0) $
      fsplit ! $ drop ! $ use1 𝓛 (‵ (cells (mem R) xs b 0)) (whole_in 𝓛 R xs b 0) $
      by ! (lends_slice 𝓛 R ℓ κ xs b 0 room)

  -- it comes back
  pub array_back : (κ : Lft) (γ : GName) (ys : List R.Denot) →
      ent 𝓤
      (sep 𝓤 (A.dead κ) (sep 𝓤 (sem 𝓛 (flent κ (Held R n b 0 γ))) (sem 𝓛 (finally R γ ys))))
      (H.⇛ (ex 𝓤 (λ (v : Val). sep 𝓤 (sem 𝓛 (cell v)) (sem 𝓛 ((Array R n).own_val ys (v ∷ []))))))
  unfolding part_of
  array_back κ γ ys =
      qed 𝓛 (‵ (fdead κ) ∷ ‵ (flent κ (Held R n b 0 γ)) ∷ ‵ (finally R γ ys) ∷ []) ∵ updating ! $
      use3 𝓛 (later (‵ ((Arr (mem R) n).own_at ys b 0))) (slice_back 𝓛 R κ γ ys n b 0) $ await ! tt $ fsplit ! $
      move ! (1 ∷ []) $ use1 𝓛 (‵ (row R full_share ys b 0)) (whole_out 𝓛 R ys b 0) $ move ! (1 ∷ 0 ∷ []) $
      fjoin ! $ use1 𝓛 (‵ (part_at (Array R n) full_share ys b 0)) (Array-whole 𝓛 R full_share n ys b 0) $
      fpick ! (λ vs. fsplit ! $ move ! (1 ∷ []) $
      peeks ! (Array R n) (Is (Array R n)) (shows 𝓛 (Array R n)) ys vs (λ is.
      rewrite ! 0 (λ (us : List Val). ‵ ((Array R n).own_val ys us)) is.1.0.0 refl $
      rewrite ! 1 (λ (us : List Val). ‵ (cell_at full_share (τ ∷ []) us b 0)) is.1.0.0 refl $ move ! (1 ∷ []) $
      use1 𝓛 (‵ (cell (array_val is.0))) (𝓛.laws.raw_at full_share τ b 0 (array_val is.0)) $ at_once ! $
      show ! (λ (v : Val). sep 𝓤 (sem 𝓛 (cell v)) (sem 𝓛 ((Array R n).own_val ys (v ∷ [])))) (array_val is.0) $
      done !))

-- each struct of a list is what the field asks for
each_is : (T : Declared) (xs : List T.D) (us : List Val) →
    shadow (each T.D (D.row T).own_val xs us) →
    shadow (each (field T).row.Denot (field T).row.own_val (map T.to xs) us)
each_is T [] [] s = s
each_is T [] (u ∷ us) s = s
each_is T (x ∷ xs) [] s = s
each_is T (x ∷ xs) (u ∷ us) s = (s.0, each_is T xs us s.1)

-- and so is an array of them
pub field_is : (T : Declared) (n : ℕ) (xs : List T.D) (vs : List Val) → Is (Array (D.row T) n) xs vs →
    Is (Array (field T).row n) (map T.to xs) vs
field_is T n xs vs is =
    (is.0, ((is.1.0.0, length-map xs T.to ∙ is.1.0.1), each_is T xs is.0 is.1.1))
