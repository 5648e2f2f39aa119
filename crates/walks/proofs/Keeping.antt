-- What is done with the one entry that has all that a function has.
--   out, back               a local's cell, out of the entry and into it
--   lent, kept, regained    the same of a local that is known
--   found, stored           a thing, out of it and into it
--   entered, left           the locals at entry, with the arguments in them, and their end
-- Each is an entailment by cases on the locals or the things. Assumes `Logic`.
use mathlib.Core.Path.{◌≡◌, refl, sym, ap, subst}
use Prim.Native.Nat.{ℕ, zero, suc}
use mathlib.Core.Bool.{Bool, true, false}
use mathlib.Core.List.{List, [], ◌∷◌, ◌++◌}
use lib.ListN.{get_or}
use lib.Dec.{T, eqb}
use seplogic.Ra.Ura.{Ura}
use base.Fraction.{full_share}
use mir.Syntax.{Ty, Local, local}
use mir.Val.{Val, WT, has_ty}
use base.Logic.{SProp, ent, sep, emp, wand, id⊢, via, mono_r, comm∗, assoc∗, assoc', snd∗, fst∗, emp∗, all_i, wand_i}
use base.Logic.{guard_i, guard_e}
use base.Fml.{Fml, ftrue, fsep, froom, fdies}
use prog.Wp.{no_local, alloc, release, pass, params}
use types.Logic.{Logic, sem}
use types.Kit.{‵, raw, ◌⊛◌, mean, ◌$◌, ◌∵◌, !, qed, by, move, keep, drop, use1, use2, split, join}
use types.Kit.{fsplit, frame as frames, done}
use denote.Steps.{nothing}
use Rattle.walks.proofs.Calling.{all_of}
use Rattle.walks.proofs.Locals.{Cell, Slot, lies, Free, get, set_cell, envs, AllFree, free_both, Thing}
use Rattle.walks.proofs.Locals.{either, formulas, thing, without, frame, store, state, Stands, has, types_of}
use Rattle.walks.proofs.Locals.{Places, filled_with, started, TypedAll, TypedArgs, envs_filled, set_get}
use Rattle.walks.proofs.Locals.{room, holds, gone, stands}

module _ {M : Type 1} {𝓤 : Ura M} (𝓛 : Logic 𝓤) where
  -- where the code finds a local
  open 𝓛 use {H}

  pub spot_is : (k : ℕ) (ss : List Slot) →
      get_or (envs ss) k (no_local 𝓤 H) ≡ ((get k ss).0, (get k ss).1)
  spot_is k [] = refl
  spot_is zero (s ∷ ss) = refl
  spot_is (suc k) (s ∷ ss) = spot_is k ss

  -- a cell out of the locals
  cell_out : (k : ℕ) (ss : List Slot) →
      ent 𝓤 (sem 𝓛 (frame ss))
      (sep 𝓤 (sem 𝓛 (lies (get k ss).0 (get k ss).1 (get k ss).2)) (sem 𝓛 (frame (set_cell k gone ss))))
  unfolding frame
  cell_out k [] = emp∗ 𝓤 (emp 𝓤)
  cell_out zero (s ∷ ss) =
      qed 𝓛 (((‵ (lies s.0 s.1 s.2) ⊛ ‵ (fdies s.0 s.1)) ⊛ ‵ (frame ss)) ∷ []) ∵ split ! $ split ! $
      frames ! $ nothing ! $ join ! $ done !
  cell_out (suc k) (s ∷ ss) =
      let S : Fml = fsep (lies s.0 s.1 s.2) (fdies s.0 s.1) in
      let L : Fml = lies (get k ss).0 (get k ss).1 (get k ss).2 in
      qed 𝓛 (‵ S ∷ ‵ (frame ss) ∷ []) ∵ move ! (1 ∷ []) $
      use1 𝓛 (‵ L ⊛ ‵ (frame (set_cell k gone ss))) (cell_out k ss) $ split ! $ move ! (0 ∷ 2 ∷ 1 ∷ []) $ done !

  -- and into them
  cell_back : (k : ℕ) (ss : List Slot) (c : Cell) →
      ent 𝓤
      (sep 𝓤 (sem 𝓛 (lies (get k ss).0 (get k ss).1 c)) (sem 𝓛 (frame (set_cell k gone ss))))
      (sem 𝓛 (frame (set_cell k c ss)))
  unfolding frame
  cell_back k [] c = snd∗ 𝓤 (sem 𝓛 (lies (get k []).0 (get k []).1 c)) (emp 𝓤)
  cell_back zero (s ∷ ss) c =
      qed 𝓛 (‵ (lies s.0 s.1 c) ∷ ((‵ ftrue ⊛ ‵ (fdies s.0 s.1)) ⊛ ‵ (frame ss)) ∷ []) ∵ move ! (1 ∷ []) $
      split ! $ split ! $ drop ! $ move ! (2 ∷ 0 ∷ []) $ join ! $ done !
  cell_back (suc k) (s ∷ ss) c =
      let S : Fml = fsep (lies s.0 s.1 s.2) (fdies s.0 s.1) in
      let L : Fml = lies (get k ss).0 (get k ss).1 c in
      via 𝓤 (sep 𝓤 (sem 𝓛 S) (sep 𝓤 (sem 𝓛 L) (sem 𝓛 (frame (set_cell k gone ss)))))
      (qed 𝓛 (‵ L ∷ (‵ S ⊛ ‵ (frame (set_cell k gone ss))) ∷ []) ∵ move ! (1 ∷ []) $ split ! $ move ! (0 ∷ 2 ∷ 1 ∷ []) $
      done !) (mono_r 𝓤 (sem 𝓛 S) (cell_back k ss c))

  -- the entry is made of what it has
  shut : (ss : List Slot) (rs : List Thing) →
      ent 𝓤 (sep 𝓤 (sem 𝓛 (frame ss)) (sem 𝓛 (store rs))) (mean 𝓛 (has 𝓤 ss rs))
  unfolding state
  shut ss rs = guard_i 𝓤 (Stands ss rs) (sem 𝓛 (fsep (frame ss) (store rs))) stands

  -- and has that
  opened : (ss : List Slot) (rs : List Thing) →
      ent 𝓤 (mean 𝓛 (has 𝓤 ss rs)) (sep 𝓤 (sem 𝓛 (frame ss)) (sem 𝓛 (store rs)))
  unfolding state
  opened ss rs = guard_e 𝓤 (Stands ss rs) (sem 𝓛 (fsep (frame ss) (store rs))) (λ _. id⊢ 𝓤 _)

  -- the locals alone
  pub alone : (ss : List Slot) (rs : List Thing) →
      ent 𝓤 (mean 𝓛 (has 𝓤 ss rs)) (mean 𝓛 (has 𝓤 ss []))
  unfolding store
  alone ss rs =
      qed 𝓛 (has 𝓤 ss rs ∷ []) ∵ use1 𝓛 (‵ (frame ss) ⊛ ‵ (store rs)) (opened ss rs) $ split ! $ move ! (1 ∷ []) $
      drop ! $ nothing ! $ move ! (1 ∷ 0 ∷ []) $ by ! (shut ss [])

  -- a cell out of the entry
  pub out : (k : ℕ) (ss : List Slot) (rs : List Thing) →
      ent 𝓤 (mean 𝓛 (has 𝓤 ss rs))
      (sep 𝓤 (sem 𝓛 (lies (get k ss).0 (get k ss).1 (get k ss).2))
      (mean 𝓛 (has 𝓤 (set_cell k gone ss) rs)))
  out k ss rs =
      qed 𝓛 (has 𝓤 ss rs ∷ []) ∵ use1 𝓛 (‵ (frame ss) ⊛ ‵ (store rs)) (opened ss rs) $ split ! $
      use1 𝓛
      (‵ (lies (get k ss).0 (get k ss).1 (get k ss).2) ⊛ ‵ (frame (set_cell k gone ss))) (cell_out k ss) $
      split ! $ frames ! $ by ! (shut (set_cell k gone ss) rs)

  -- and into it
  pub back : (k : ℕ) (ss : List Slot) (rs : List Thing) (c : Cell) →
      ent 𝓤
      (sep 𝓤 (sem 𝓛 (lies (get k ss).0 (get k ss).1 c)) (mean 𝓛 (has 𝓤 (set_cell k gone ss) rs)))
      (mean 𝓛 (has 𝓤 (set_cell k c ss) rs))
  back k ss rs c =
      qed 𝓛 (‵ (lies (get k ss).0 (get k ss).1 c) ∷ has 𝓤 (set_cell k gone ss) rs ∷ []) ∵ move ! (1 ∷ []) $
      use1 𝓛 (‵ (frame (set_cell k gone ss)) ⊛ ‵ (store rs)) (opened (set_cell k gone ss) rs) $ split ! $
      move ! (2 ∷ 0 ∷ []) $ use2 𝓛 (‵ (frame (set_cell k c ss))) (cell_back k ss c) $ by ! (shut (set_cell k c ss) rs)

  module _ (k : ℕ) (ss : List Slot) (rs : List Thing) {τ : Ty} {b : ℕ} where
    -- a value out of the entry, where the local is known
    pub lent : {v : Val} → get k ss ≡ (τ, b, holds v) →
        ent 𝓤 (mean 𝓛 (has 𝓤 ss rs))
        (sep 𝓤 (H.at full_share τ b zero v) (mean 𝓛 (has 𝓤 (set_cell k gone ss) rs)))
    lent e =
        subst
        (λ (s : Slot).
        ent 𝓤 (mean 𝓛 (has 𝓤 ss rs))
        (sep 𝓤 (sem 𝓛 (lies s.0 s.1 s.2)) (mean 𝓛 (has 𝓤 (set_cell k gone ss) rs)))) e (out k ss rs)

    -- and another value into it
    pub kept : {c : Cell} (v : Val) → get k ss ≡ (τ, b, c) →
        ent 𝓤 (sep 𝓤 (H.at full_share τ b zero v) (mean 𝓛 (has 𝓤 (set_cell k gone ss) rs)))
        (mean 𝓛 (has 𝓤 (set_cell k (holds v) ss) rs))
    kept v e =
        subst
        (λ (s : Slot).
        ent 𝓤
        (sep 𝓤 (sem 𝓛 (lies s.0 s.1 (holds v))) (mean 𝓛 (has 𝓤 (set_cell k gone ss) rs)))
        (mean 𝓛 (has 𝓤 (set_cell k (holds v) ss) rs))) e (back k ss rs (holds v))

    -- the same of a local whose cell is lent
    pub regained : (v : Val) → get k ss ≡ (τ, b, gone) →
        ent 𝓤 (sep 𝓤 (H.at full_share τ b zero v) (mean 𝓛 (has 𝓤 ss rs)))
        (mean 𝓛 (has 𝓤 (set_cell k (holds v) ss) rs))
    regained v e =
        subst
        (λ (xs : List Slot).
        ent 𝓤 (sep 𝓤 (H.at full_share τ b zero v) (mean 𝓛 (has 𝓤 xs rs)))
        (mean 𝓛 (has 𝓤 (set_cell k (holds v) ss) rs)))
        (subst (λ (s : Slot). set_cell k s.2 ss ≡ ss) e (set_get k ss)) (kept v e)

  -- a thing, or the ones behind it
  chosen : (t : Bool) (r : Thing) (rs rs' : List Thing) (F : Fml) →
      ent 𝓤 (sem 𝓛 (store rs)) (sep 𝓤 (sem 𝓛 F) (sem 𝓛 (store rs'))) →
      ent 𝓤 (sem 𝓛 (store (r ∷ rs)))
      (sep 𝓤 (sem 𝓛 (either t r.1 F)) (sem 𝓛 (store (either t rs (r ∷ rs')))))
  unfolding store
  chosen true r rs rs' F h = id⊢ 𝓤 _
  chosen false r rs rs' F h =
      qed 𝓛 (‵ r.1 ∷ ‵ (store rs) ∷ []) ∵ move ! (1 ∷ []) $ use1 𝓛 (‵ F ⊛ ‵ (store rs')) h $ split ! $
      move ! (0 ∷ 2 ∷ 1 ∷ []) $ done !

  -- a thing out of the others
  thing_out : (n : ℕ) (rs : List Thing) →
      ent 𝓤 (sem 𝓛 (store rs)) (sep 𝓤 (sem 𝓛 (thing n rs)) (sem 𝓛 (store (without n rs))))
  thing_out n [] = unfold store in (emp∗ 𝓤 (emp 𝓤))
  thing_out n (r ∷ rs) = chosen (eqb n r.0) r rs (without n rs) (thing n rs) (thing_out n rs)

  -- a thing out of the entry
  pub found : (n : ℕ) (ss : List Slot) (rs : List Thing) →
      ent 𝓤 (mean 𝓛 (has 𝓤 ss rs))
      (sep 𝓤 (sem 𝓛 (thing n rs)) (mean 𝓛 (has 𝓤 ss (without n rs))))
  found n ss rs =
      qed 𝓛 (has 𝓤 ss rs ∷ []) ∵ use1 𝓛 (‵ (frame ss) ⊛ ‵ (store rs)) (opened ss rs) $ split ! $ move ! (1 ∷ []) $
      use1 𝓛 (‵ (thing n rs) ⊛ ‵ (store (without n rs))) (thing_out n rs) $ split ! $ frames ! $ move ! (1 ∷ 0 ∷ []) $
      by ! (shut ss (without n rs))

  -- and into it
  pub stored : (n : ℕ) (F : Fml) (ss : List Slot) (rs : List Thing) →
      ent 𝓤 (sep 𝓤 (sem 𝓛 F) (mean 𝓛 (has 𝓤 ss rs))) (mean 𝓛 (has 𝓤 ss ((n, F) ∷ rs)))
  unfolding store
  stored n F ss rs =
      qed 𝓛 (‵ F ∷ has 𝓤 ss rs ∷ []) ∵ move ! (1 ∷ []) $ use1 𝓛 (‵ (frame ss) ⊛ ‵ (store rs)) (opened ss rs) $ split ! $
      move ! (0 ∷ 2 ∷ 1 ∷ []) $ by ! (shut ss ((n, F) ∷ rs))

  -- the locals are made
  made_all : (ls : List Local) (P : SProp 𝓤) (Q : List (Ty × ℕ) → SProp 𝓤) →
      ((bs : Places (types_of ls)) →
      ent 𝓤 (sep 𝓤 P (sem 𝓛 (frame (filled_with (types_of ls) bs []))))
      (Q (envs (filled_with (types_of ls) bs [])))) →
      ent 𝓤 P (alloc 𝓤 H ls Q)
  unfolding frame
  made_all [] P Q h = via 𝓤 _ (emp∗ 𝓤 P) (via 𝓤 _ (comm∗ 𝓤 (emp 𝓤) P) (h tt))
  made_all (local τ _ ∷ ls) P Q h =
      let S : ℕ → SProp 𝓤 = λ b. sep 𝓤 (H.room τ b zero) (H.dies τ b) in
      let R : ℕ → SProp 𝓤 = λ b. alloc 𝓤 H ls (λ E. Q ((τ, b) ∷ E)) in
      all_i 𝓤 (λ (b : ℕ). wand 𝓤 (S b) (R b))
      (λ b. wand_i 𝓤 P (S b) (R b)
      (made_all ls (sep 𝓤 P (S b)) (λ E. Q ((τ, b) ∷ E)) (λ bs.
      via 𝓤 _ (assoc∗ 𝓤 P (S b) (sem 𝓛 (frame (filled_with (types_of ls) bs [])))) (h (b, bs)))))

  -- the arguments are put into them
  passed_all : (ls : List Ty) (bs : Places ls) (vs : List Val) (P Q : SProp 𝓤) → TypedAll ls vs →
      ent 𝓤 (sep 𝓤 P (sem 𝓛 (frame (filled_with ls bs vs)))) Q →
      ent 𝓤 (sep 𝓤 P (sem 𝓛 (frame (filled_with ls bs [])))) (pass 𝓤 H (envs (filled_with ls bs [])) vs Q)
  unfolding frame
  passed_all ls bs [] P Q ok h = h
  passed_all [] bs (v ∷ vs) P Q ok h = absurd ok
  passed_all (τ ∷ ls) bs (v ∷ vs) P Q ok h =
      let b : ℕ = bs.0 in
      let E : SProp 𝓤 = sem 𝓛 (frame (filled_with ls bs.1 [])) in
      let Y : SProp 𝓤 = H.at full_share τ b zero v in
      let D : SProp 𝓤 = H.dies τ b in
      let R : SProp 𝓤 = pass 𝓤 H (envs (filled_with ls bs.1 [])) vs Q in
      via 𝓤 (sep 𝓤 (H.room τ b zero) (wand 𝓤 Y R))
      (via 𝓤 (sep 𝓤 (H.room τ b zero) (sep 𝓤 P (sep 𝓤 D E)))
      (qed 𝓛 (raw P ∷ ((raw (H.room τ b zero) ⊛ raw D) ⊛ raw E) ∷ []) ∵ move ! (1 ∷ []) $ split ! $ split ! $
      move ! (0 ∷ 3 ∷ []) $ done !)
      (mono_r 𝓤 (H.room τ b zero)
      (wand_i 𝓤 (sep 𝓤 P (sep 𝓤 D E)) Y R
      (via 𝓤 (sep 𝓤 (sep 𝓤 P (sep 𝓤 Y D)) E)
      (qed 𝓛 ((raw P ⊛ raw D ⊛ raw E) ∷ raw Y ∷ []) ∵ split ! $ move ! (1 ∷ []) $ split ! $
      move ! (2 ∷ 3 ∷ 0 ∷ []) $ by !
      (qed 𝓛 (raw P ∷ raw Y ∷ raw D ∷ raw E ∷ []) ∵ move ! (1 ∷ 2 ∷ []) $ join ! $ move ! (1 ∷ 0 ∷ []) $ join ! $
      done !))
      (passed_all ls bs.1 vs (sep 𝓤 P (sep 𝓤 Y D)) Q ok.1
      (via 𝓤 _ (assoc∗ 𝓤 P (sep 𝓤 Y D) (sem 𝓛 (frame (filled_with ls bs.1 vs)))) h))))))
      (guard_i 𝓤 (T (has_ty τ v) × WT v) (sep 𝓤 (H.room τ b zero) (wand 𝓤 Y R)) ok.0)

  -- a cell that can be written is room
  pub as_room : (τ : Ty) (b : ℕ) (c : Cell) → Free c → ent 𝓤 (sem 𝓛 (lies τ b c)) (H.room τ b zero)
  as_room τ b room ok = id⊢ 𝓤 _
  as_room τ b (holds v) ok = 𝓛.laws.at_room τ b zero v
  as_room τ b gone ok = absurd ok

  -- the locals are freed
  freed_all : (ss : List Slot) (P Q : SProp 𝓤) → AllFree ss → ent 𝓤 P Q →
      ent 𝓤 (sep 𝓤 (sem 𝓛 (frame ss)) P) (release 𝓤 H (envs ss) Q)
  unfolding frame
  freed_all [] P Q ok h = via 𝓤 P (snd∗ 𝓤 (emp 𝓤) P) h
  freed_all (s ∷ ss) P Q ok h =
      qed 𝓛 (‵ (fsep (fsep (lies s.0 s.1 s.2) (fdies s.0 s.1)) (frame ss)) ∷ raw P ∷ []) ∵ fsplit ! $
      fsplit ! $
      use1 𝓛 (‵ (froom s.0 s.1 zero)) (as_room s.0 s.1 s.2 (free_both s.2 (AllFree ss) ok).0) $
      join ! $ frames ! $ by ! (freed_all ss P Q (free_both s.2 (AllFree ss) ok).1 h)

  -- what a function is handed, as things
  handed : (ts os : List Thing) →
      ent 𝓤 (sep 𝓤 (sem 𝓛 (all_of (formulas ts))) (sem 𝓛 (all_of (formulas os))))
      (sem 𝓛 (store (ts ++ os)))
  unfolding store
  handed [] [] = fst∗ 𝓤 (emp 𝓤) (emp 𝓤)
  handed [] (r ∷ os) =
      qed 𝓛 (‵ ftrue ∷ ‵ r.1 ∷ ‵ (all_of (formulas os)) ∷ []) ∵ move ! (1 ∷ 0 ∷ 2 ∷ []) $
      frames ! $ by ! (handed [] os)
  handed (r ∷ ts) os =
      qed 𝓛 ((‵ r.1 ⊛ ‵ (all_of (formulas ts))) ∷ ‵ (all_of (formulas os)) ∷ []) ∵ split ! $ frames ! $
      by ! (handed ts os)

  -- the entry: from the tokens ts and what is owned of the arguments, os, the body runs
  pub entered : (ls : List Local) (vs : List Val) (ts os : List Thing) (Q : List (Ty × ℕ) → SProp 𝓤) →
      TypedArgs (types_of ls) vs →
      ((bs : Places (types_of ls)) →
      ent 𝓤 (mean 𝓛 (has 𝓤 (started (types_of ls) bs vs) (ts ++ os))) (Q (envs (started (types_of ls) bs vs)))) →
      ent 𝓤 (sep 𝓤 (sem 𝓛 (all_of (formulas ts))) (sem 𝓛 (all_of (formulas os))))
      (alloc 𝓤 H ls (λ E. params 𝓤 H E vs (Q E)))
  unfolding frame
  entered [] vs ts os Q ok h = absurd ok
  entered (local τ l ∷ ls) vs ts os Q ok h =
      let P : SProp 𝓤 = sem 𝓛 (store (ts ++ os)) in
      via 𝓤 P (handed ts os)
      (made_all (local τ l ∷ ls) P (λ E. params 𝓤 H E vs (Q E)) (λ bs.
      let S : SProp 𝓤 = sep 𝓤 (H.room τ bs.0 zero) (H.dies τ bs.0) in
      let R : SProp 𝓤 = sem 𝓛 (frame (filled_with (types_of ls) bs.1 vs)) in
      via 𝓤 _ (assoc' 𝓤 P S (sem 𝓛 (frame (filled_with (types_of ls) bs.1 []))))
      (passed_all (types_of ls) bs.1 vs (sep 𝓤 P S) _ ok
      (via 𝓤 (sep 𝓤 (sep 𝓤 S R) P)
      (qed 𝓛 ((raw P ⊛ raw S) ∷ raw R ∷ []) ∵ split ! $ move ! (1 ∷ 2 ∷ []) $ join ! $ done !)
      (via 𝓤 _ (shut (started (τ ∷ types_of ls) bs vs) (ts ++ os))
      (subst (λ (E : List (Ty × ℕ)). ent 𝓤 (mean 𝓛 (has 𝓤 (started (τ ∷ types_of ls) bs vs) (ts ++ os))) (Q E))
      (sym (ap (λ (E : List (Ty × ℕ)). (τ, bs.0) ∷ E) (envs_filled (types_of ls) bs.1 vs))) (h bs)))))))

  -- the exit: the locals are freed, and what is behind them goes on
  pub left : (ss : List Slot) (rs : List Thing) (P Q : SProp 𝓤) → AllFree ss → ent 𝓤 P Q →
      ent 𝓤 (sep 𝓤 (mean 𝓛 (has 𝓤 ss rs)) P) (release 𝓤 H (envs ss) Q)
  left ss rs P Q ok h =
      qed 𝓛 (has 𝓤 ss rs ∷ raw P ∷ []) ∵ use1 𝓛 (‵ (frame ss) ⊛ ‵ (store rs)) (opened ss rs) $ split ! $
      move ! (0 ∷ 2 ∷ []) $ keep ! (0 ∷ 1 ∷ []) $ by ! (freed_all ss P Q ok h)
