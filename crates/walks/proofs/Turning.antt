-- Steps of a walk through a loop that counts, over the state of `Locals`, and of a store into a lent slice.
--   same_value        an expression at an equal value;  start_of  where a slice lies, as an operand
--   lets_last         a local is assigned, and nothing follows
--   stores_at         an element of a row, which is kept under a name, is stored through a pointer that a local holds
--   tidies            locals are emptied, and of the things just these are kept, in this order
--   while_below       `while i < n`, with a state for each i: a turn from each i below n to the next, and then the rest
--   scaled            where an element of a slice lies fits a word
-- A loop's state must look alike at each i, so a turn ends in `tidies`. Assumes `Logic`.
use mathlib.Core.Path.{◌≡◌, refl, sym, ap, subst}
use Prim.Native.Nat.{ℕ, zero, suc, ◌<◌, ◌≤◌, ◌^◌, ◌*◌}
use native.Mathlib.Nat.{lt_irrefl, le_of_lt, mul-le-mul_right}
use native.Mathlib.Omega.{arith}
use mathlib.Core.Bool.{Bool, true, false}
use mathlib.Core.List.{List, [], ◌∷◌}
use lib.ListN.{length, set, get_or}
use lib.Dec.{T, ltb, lt→ltb, ltb→lt}
use seplogic.Ra.Ura.{Ura}
use base.Fraction.{full_share}
use mir.Syntax.{Ty, ty_bool, ty_ref, w64, deref, field, place, copy, rv_opd, op2, lt, unsigned, cond, skip, exit}
use mir.Syntax.{Rv as RValue, Lifetime, Mutability, Body, seq, assign, block, loop}
use mir.Val.{Val, vint, vbool, vptr, WT, has_ty}
use mir.Raw.{raw as bare}
use base.Logic.{SProp, ent, sep, id⊢, via, never_e, ex_e, fst∗, emp∗}
use base.Fml.{Fml, fsep, fat, froom}
use prog.Wp.{Env, Out, next, Spot, spot_of, write, Calls, Loops, Wp, Tables, after_turn, after_seq, after_block}
use types.Logic.{Logic, sem}
use types.Kit.{Goal, runs, prop, Post, post, any_q, Seq, Step, Item, ‵, raw, ◌⊛◌, mean, ⋆, del, fill}
use types.Kit.{use1, use2, ◌$◌, ◌∵◌, Go, !, qed, by, move, split, frame, check, assume, fjoin, fpack, done}
use types.Run.{Walks, Opd, Rv, load, from, stop, hop, fld, of_opd, bin, assigns, assigns_last, stays, leaves_loop}
use types.Part.{sub}
use denote.RattleType.{RattleType}
use denote.Memory.{part_of, part_at, cell_raw, mem, shares, raw_all}
use denote.Slice.{slice_ty, slice_val, Room}
use denote.Index.{row, others, place as place_of, takes as takes_out, puts}
use Rattle.walks.proofs.CountedLoop.{counted_loop}
use Rattle.walks.proofs.Locals.{Cell, room, holds, gone, Slot, lies, Free, FreeAnd, free_both, get, set_cell}
use Rattle.walks.proofs.Locals.{envs, Thing, thing, without, naming, has}
use Rattle.walks.proofs.Keeping.{out, back, found, stored, as_room, alone}
use Rattle.walks.proofs.Stepping.{last_of, with_last, things, Here, Last, apart, spot, in_local, within, reads}
use Rattle.walks.proofs.Stepping.{writes, var, lets, brings}

-- a test that holds is true
test_holds : (t : Bool) → T t → t ≡ true
test_holds true _ = refl
test_holds false a = absurd a

-- a test that does not hold is false
test_fails : (t : Bool) → (T t → ⊥) → t ≡ false
test_fails true f = absurd (f tt)
test_fails false _ = refl

-- a number at most one below 2^63 fits a word
half : (a c : ℕ) → a ≤ c → c < 2 ^ 63 → a < 2 ^ 64
half a c h k = omega arith

-- where an element of a slice lies fits a word
pub scaled : (R : RattleType) (i n : ℕ) → i < n → Room R n → i * (mem R).size < 2 ^ 64
scaled R i n h fits = half (i * (mem R).size) (n * (mem R).size) (mul-le-mul_right (mem R).size (le_of_lt h)) fits.1

-- the locals with some of them emptied
abbrev pub emptied : List ℕ → List Slot → List Slot
emptied [] ss = ss
emptied (k ∷ ks) ss = emptied ks (set_cell k room ss)

-- these can be emptied
abbrev pub Empties : List ℕ → List Slot → Type 0
Empties [] ss = Unit {0}
Empties (k ∷ ks) ss = FreeAnd (get k ss).2 (Empties ks (set_cell k room ss))

module _ {M : Type 1} {𝓤 : Ura M} (𝓛 : Logic 𝓤) where
  -- locals are emptied
  open 𝓛 use {H}

  empties : (ks : List ℕ) (ss : List Slot) (rs : List Thing) → Empties ks ss →
      ent 𝓤 (mean 𝓛 (has 𝓤 ss rs)) (mean 𝓛 (has 𝓤 (emptied ks ss) rs))
  empties [] ss rs ok = id⊢ 𝓤 _
  empties (k ∷ ks) ss rs ok =
      let ss' : List Slot = set_cell k room ss in
      let both : Free (get k ss).2 × Empties ks ss' = free_both (get k ss).2 (Empties ks ss') ok in
      qed 𝓛 (has 𝓤 ss rs ∷ []) ∵
      use1 𝓛 (‵ (lies (get k ss).0 (get k ss).1 (get k ss).2) ⊛ has 𝓤 (set_cell k gone ss) rs)
      (out 𝓛 k ss rs) $ split ! $
      use1 𝓛 (‵ (froom (get k ss).0 (get k ss).1 zero))
      (as_room 𝓛 (get k ss).0 (get k ss).1 (get k ss).2 both.0) $
      use2 𝓛 (has 𝓤 ss' rs) (back 𝓛 k ss rs room) $ by ! (empties ks ss' rs both.1)

  -- just these things are kept
  keeps_only : (ns : List ℕ) (ss : List Slot) (rs : List Thing) →
      ent 𝓤 (mean 𝓛 (has 𝓤 ss rs)) (mean 𝓛 (has 𝓤 ss (naming ns (things ns rs))))
  keeps_only [] ss rs = alone 𝓛 ss rs
  keeps_only (n ∷ ns) ss rs =
      let rs' : List Thing = naming ns (things ns (without n rs)) in
      qed 𝓛 (has 𝓤 ss rs ∷ []) ∵ use1 𝓛 (‵ (thing n rs) ⊛ has 𝓤 ss (without n rs)) (found 𝓛 n ss rs) $
      split ! $ move ! (1 ∷ []) $ use1 𝓛 (has 𝓤 ss rs') (keeps_only ns ss (without n rs)) $ move ! (1 ∷ 0 ∷ []) $
      use2 𝓛 (has 𝓤 ss ((n, thing n rs) ∷ rs')) (stored 𝓛 n (thing n rs) ss rs') $ done !

  module _ (R : RattleType) (τ : Ty) (one : R.mir ≡ τ ∷ []) (b o : ℕ) where
    -- a cell of one value can be written
    cell_room : (vs : List Val) → ent 𝓤 (sem 𝓛 (cell_raw full_share (bare τ ∷ []) vs b o)) (H.room τ b o)
    cell_room [] = never_e 𝓤 _
    cell_room (v ∷ []) = via 𝓤 _ (𝓛.laws.raw_at full_share τ b o v) (𝓛.laws.at_room τ b o v)
    cell_room (v ∷ u ∷ vs) = never_e 𝓤 _

    -- what lies in memory can be written
    part_room : (x : R.Denot) → ent 𝓤 (sem 𝓛 (part_at R full_share x b o)) (H.room τ b o)
    unfolding part_of
    part_room x =
        subst
        (λ (τs : List Ty).
        ent 𝓤 (sem 𝓛 (part_of (raw_all τs) R.own_val full_share x b o)) (H.room τ b o)) (sym one)
        (ex_e 𝓤 _ (λ vs.
        via 𝓤 _ (fst∗ 𝓤 (sem 𝓛 (cell_raw full_share (bare τ ∷ []) vs b o)) (sem 𝓛 (R.own_val x vs))) (cell_room vs)))

    -- and what is written lies there
    part_made : (y : R.Denot) (u : Val) →
        ent 𝓤 (sep 𝓤 (H.at full_share τ b o u) (sem 𝓛 (R.own_val y (u ∷ [])))) (sem 𝓛 (part_at R full_share y b o))
    unfolding part_of
    part_made y u =
        subst
        (λ (τs : List Ty).
        ent 𝓤 (sep 𝓤 (H.at full_share τ b o u) (sem 𝓛 (R.own_val y (u ∷ []))))
        (sem 𝓛 (part_of (raw_all τs) R.own_val full_share y b o))) (sym one)
        (qed 𝓛 (‵ (fat full_share τ b o u) ∷ ‵ (R.own_val y (u ∷ [])) ∷ []) ∵
        use1 𝓛 (‵ (fat full_share (bare τ) b o u)) (𝓛.laws.at_raw full_share τ b o u) $ fjoin ! $
        fpack ! (List Val) (λ vs. fsep (cell_raw full_share (bare τ ∷ []) vs b o) (R.own_val y vs)) (u ∷ []) $ done !)

  -- an element of a row is written
  wrote_at : (Γ : List (Item 𝓤)) (ss : List Slot) (rs : List Thing) (n m : ℕ) (R : RattleType) (τ : Ty)
      (ys zs : List R.Denot) (i : ℕ) (y : R.Denot) (u : Val) (b o : ℕ) (P : SProp 𝓤) → Last 𝓛 Γ ss rs →
      R.mir ≡ τ ∷ [] → thing n rs ≡ row R full_share ys b o → thing m (without n rs) ≡ R.own_val y (u ∷ []) →
      i < length ys → set ys i y ≡ zs → T (has_ty τ u) × WT u →
      ent 𝓤 (⋆ 𝓛 (with_last 𝓛 Γ (has 𝓤 ss ((n, row R full_share zs b o) ∷ without m (without n rs))))) P →
      ent 𝓤 (⋆ 𝓛 Γ) (write 𝓤 H τ b (place_of (mem R).size o i) u P)
  wrote_at Γ ss rs n m R τ ys zs i y u b o P e one is_row is_own inside same typed h =
      let p : ℕ = place_of (mem R).size o i in
      let rs₁ : List Thing = without n rs in
      let rs₂ : List Thing = without m rs₁ in
      let now : Item 𝓤 = has 𝓤 ss ((n, row R full_share zs b o) ∷ rs₂) in
      via 𝓤 _ (apart 𝓛 Γ (has 𝓤 ss rs) e)
      (qed 𝓛 (has 𝓤 ss rs ∷ raw (⋆ 𝓛 (del 𝓛 (last_of Γ) Γ)) ∷ []) ∵ check ! typed $
      use1 𝓛 (‵ (row R full_share ys b o) ⊛ has 𝓤 ss rs₁)
      (subst (λ (F : Fml). ent 𝓤 (mean 𝓛 (has 𝓤 ss rs)) (sep 𝓤 (sem 𝓛 F) (mean 𝓛 (has 𝓤 ss rs₁)))) is_row
      (found 𝓛 n ss rs)) $ split ! $ move ! (1 ∷ []) $
      use1 𝓛 (‵ (R.own_val y (u ∷ [])) ⊛ has 𝓤 ss rs₂)
      (subst (λ (F : Fml). ent 𝓤 (mean 𝓛 (has 𝓤 ss rs₁)) (sep 𝓤 (sem 𝓛 F) (mean 𝓛 (has 𝓤 ss rs₂)))) is_own
      (found 𝓛 m ss rs₁)) $ split ! $ move ! (2 ∷ []) $
      use1 𝓛 (‵ (part_at R full_share (get_or ys i y) b p) ⊛ ‵ (others (shares R) full_share ys i b o))
      (takes_out (shares R) full_share 𝓛 ys i y b o inside) $ split ! $
      use1 𝓛 (‵ (froom τ b p)) (part_room R τ one b p (get_or ys i y)) $ frame ! $
      assume ! (‵ (fat full_share τ b p u)) $ move ! (0 ∷ 2 ∷ []) $
      use2 𝓛 (‵ (part_at R full_share y b p)) (part_made R τ one b p y u) $ move ! (0 ∷ 1 ∷ []) $
      use2 𝓛 (‵ (row R full_share zs b o))
      (subst
      (λ (xs : List R.Denot).
      ent 𝓤 (sep 𝓤 (sem 𝓛 (part_at R full_share y b p)) (sem 𝓛 (others (shares R) full_share ys i b o)))
      (sem 𝓛 (row R full_share xs b o))) same (puts (shares R) full_share 𝓛 ys i y b o inside)) $
      use2 𝓛 now (stored 𝓛 n (row R full_share zs b o) ss rs₂) $
      by ! (via 𝓤 _ (fill 𝓛 (last_of Γ) now Γ) h))

module _ {M : Type 1} {𝓤 : Ura M} {𝓛 : Logic 𝓤} {K : Type 0} {Γ : List (Item 𝓤)} where
  -- an expression at an equal value
  open 𝓛 use {H}

  pub same_value : K → {E : Env 𝓤 H} {rv : RValue} {v v' : Val} → v ≡ v' → Rv K 𝓛 Γ E rv v → Rv K 𝓛 Γ E rv v'
  same_value t {E} {rv} e r = subst (λ (v : Val). Rv K 𝓛 Γ E rv v) e r

  module _ {E : Env 𝓤 H} {ss : List Slot} {rs : List Thing} where
    -- where a slice lies that a local holds, as an operand
    pub start_of : K → {k : ℕ} {ℓ : Lifetime} {μ : Mutability} {τ : Ty} {b p o n : ℕ} → Here 𝓛 Γ E ss rs →
        get k ss ≡ (slice_ty (ty_ref ℓ μ τ), b, holds (slice_val (p, o) n)) →
        Opd K 𝓛 Γ E (copy (place k (field 0 ∷ []))) (vptr p o)
    start_of t {k} {ℓ} {μ} {τ} {b} {p} {o} {n} e f =
        let sp : Spot 𝓤 H = (slice_ty (ty_ref ℓ μ τ), b, zero) in
        load t {sp = (ty_ref ℓ μ τ, b, zero)}
        (from t
        (subst (λ (x : Spot 𝓤 H). Walks K 𝓛 Γ E x (field 0 ∷ []) (ty_ref ℓ μ τ, b, zero))
        (sym (spot 𝓛 Γ E ss rs k (slice_ty (ty_ref ℓ μ τ), b, holds (slice_val (p, o) n)) e f))
        (fld t {sp = sp} refl (stop t))))
        (within t (ap (λ (x : Item 𝓤 × Env 𝓤 H). x.0) e) (sub t 0 refl (in_local t k f)))

    module _ {C : Calls 𝓤 H} {Λ : Loops 𝓤 H} {q : Post 𝓤 H} where
      -- a local is assigned, and nothing follows
      pub lets_last : K → {k : ℕ} {rv : RValue} {v : Val} → Rv K 𝓛 Γ E rv v → Here 𝓛 Γ E ss rs →
          Free (get k ss).2 → T (has_ty (get k ss).0 v) × WT v →
          Step K 𝓛 (with_last 𝓛 Γ (has 𝓤 (set_cell k (holds v) ss) rs)) (prop (post 𝓤 H q next)) Γ
          (runs C Λ E (assign (place k []) rv) q)
      lets_last t {k} {rv} {v} r e free typed =
          assigns_last t r (from t (stop t)) (writes t E ss rs k v e free typed)

      -- an element of the row that is kept as n is stored, through the pointer in local k, from local j. What is owned
      -- of it is kept as m
      pub stores_at : K → (n m : ℕ) (R : RattleType) {τ : Ty} (ys zs : List R.Denot) (i : ℕ)
          (y : R.Denot) {u : Val} {b : ℕ} (o : ℕ) {k j : ℕ} {rest : Body} → Here 𝓛 Γ E ss rs → R.mir ≡ τ ∷ [] →
          (get k ss).2 ≡ holds (vptr b (place_of (mem R).size o i)) → (get j ss).2 ≡ holds u →
          thing n rs ≡ row R full_share ys b o → thing m (without n rs) ≡ R.own_val y (u ∷ []) → i < length ys →
          set ys i y ≡ zs → T (has_ty τ u) × WT u →
          Step K 𝓛 (with_last 𝓛 Γ (has 𝓤 ss ((n, row R full_share zs b o) ∷ without m (without n rs))))
          (runs C Λ E rest q) Γ
          (runs C Λ E (seq (assign (place k (deref τ ∷ [])) (rv_opd (copy (place j [])))) rest) q)
      stores_at t n m R {τ} ys zs i y {u} {b} o {k} {j} e one at from_local is_row is_own inside same typed =
          assigns t {sp = (τ, b, place_of (mem R).size o i)} (of_opd t (var t e from_local))
          (from t
          (hop t {sp = spot_of 𝓤 H E k} (reads t E ss rs k (vptr b (place_of (mem R).size o i)) e at) (stop t)))
          (record {
            go = λ P h.
                wrote_at 𝓛 Γ ss rs n m R τ ys zs i y u b o P (ap (λ (p : Item 𝓤 × Env 𝓤 H). p.0) e) one is_row
                is_own inside same typed h;
          })

  -- locals are emptied, and of the things just these are kept, in this order
  pub tidies : K → {ss : List Slot} {rs : List Thing} {G : Goal 𝓤 H} (ks ns : List ℕ) → Last 𝓛 Γ ss rs →
      Empties ks ss →
      Step K 𝓛 (with_last 𝓛 Γ (has 𝓤 (emptied ks ss) (naming ns (things ns rs)))) G Γ G
  tidies t {ss} {rs} ks ns e ok = brings (has 𝓤 (emptied ks ss) (naming ns (things ns rs))) e t []
      (via 𝓤 _ (empties 𝓛 ks ss rs ok)
      (via 𝓤 _ (keeps_only 𝓛 ns (emptied ks ss) rs)
      (emp∗ 𝓤 (mean 𝓛 (has 𝓤 (emptied ks ss) (naming ns (things ns rs)))))))

module _ {M : Type 1} {𝓤 : Ura M} (𝓛 : Logic 𝓤) (𝓣 : Tables 𝓤 𝓛.H) (E : Env 𝓤 𝓛.H)
    (k l t : ℕ) (body rest : Body) (q : Post 𝓤 𝓛.H) (n : ℕ) (ss : ℕ → List Slot) (rs : ℕ → List Thing) where
  -- some locals, as a turn needs them
  open 𝓛 use {H}

  abbrev Look : Type 0
  Look = Env 𝓤 H × Cell × Cell × Ty × Cell × Env 𝓤 H × Cell

  -- a turn: the test of k against l, into t
  abbrev test : Body
  test = seq (assign (place t []) (op2 (lt unsigned) (copy (place k [])) (copy (place l []))))
      (seq (cond (copy (place t [])) skip (exit 1)) body)

  -- what follows the loop
  abbrev Left : Out → SProp 𝓤
  Left = after_block 𝓤 H (after_seq 𝓤 H (Wp 𝓤 H 𝓣.C 𝓣.Λ E rest (post 𝓤 H q)) (post 𝓤 H q))

  -- the locals after the test
  abbrev tested : Bool → ℕ → List Slot
  tested y i = set_cell t (holds (vbool y)) (ss i)

  -- what a turn needs of the locals: all of it computes, so it is shown by `refl`
  abbrev Looks : Bool → ℕ → Type 0
  Looks y i =
      ◌≡◌ {A = Look}
      (E, (get k (ss i)).2, (get l (ss i)).2, (get t (ss i)).0, (get t (ss i)).2, E, (get t (tested y i)).2)
      (envs (ss i), holds (vint w64 i), holds (vint w64 n), ty_bool, room, envs (tested y i), holds (vbool y))

  -- the test at i, whose outcome is known
  tests : (y : Bool) (i : ℕ) (Q : Out → SProp 𝓤) → Looks y i → ltb i n ≡ y →
      Step (Go {0}) 𝓛 (has 𝓤 (tested y i) (rs i) ∷ [])
      (runs 𝓣.C 𝓣.Λ E (seq (cond (copy (place t [])) skip (exit 1)) body) (any_q Q)) (has 𝓤 (ss i) (rs i) ∷ [])
      (runs 𝓣.C 𝓣.Λ E test (any_q Q))
  tests y i Q e is =
      let here : Here 𝓛 (has 𝓤 (ss i) (rs i) ∷ []) E (ss i) (rs i) =
      ap (λ (F : Env 𝓤 H). (has 𝓤 (ss i) (rs i), F)) (ap (λ (p : Look). p.0) e) in
      lets !
      (same_value ! (ap vbool is)
      (bin ! (var ! here (ap (λ (p : Look). p.1) e)) (var ! here (ap (λ (p : Look). p.2) e)) tt)) here
      (subst Free (sym (ap (λ (p : Look). p.4) e)) tt)
      (subst (λ (τ : Ty). T (has_ty τ (vbool y)) × WT (vbool y)) (sym (ap (λ (p : Look). p.3) e)) (tt, tt))

  -- the outcome, as an operand
  outcome : (y : Bool) (i : ℕ) → Looks y i →
      Opd (Go {0}) 𝓛 (has 𝓤 (tested y i) (rs i) ∷ []) E (copy (place t [])) (vbool y)
  outcome y i e =
      var ! (ap (λ (F : Env 𝓤 H). (has 𝓤 (tested y i) (rs i), F)) (ap (λ (p : Look). p.5) e))
      (ap (λ (p : Look). p.6) e)

  -- the loop
  looped : ((y : Bool) (i : ℕ) → Looks y i) →
      ((i : ℕ) (Q : Out → SProp 𝓤) → i < n → ent 𝓤 (mean 𝓛 (has 𝓤 (ss (suc i)) (rs (suc i)))) (Q next) →
      Seq (Go {0}) 𝓛 (has 𝓤 (tested true i) (rs i) ∷ []) (runs 𝓣.C 𝓣.Λ E body (any_q Q))) →
      Seq (Go {0}) 𝓛 (has 𝓤 (tested false n) (rs n) ∷ []) (runs 𝓣.C 𝓣.Λ E rest q) →
      Seq (Go {0}) 𝓛 (has 𝓤 (ss 0) (rs 0) ∷ []) (runs 𝓣.C 𝓣.Λ E (seq (block (loop test)) rest) q)
  unfolding after_turn
  looped looks turn after = record {
    prf =
        counted_loop 𝓛 𝓣 E test Left n (λ i. mean 𝓛 (has 𝓤 (ss i) (rs i)))
        (λ i X small h.
        (tests true i (after_turn 𝓤 H X Left) (looks true i) (test_holds (ltb i n) (lt→ltb i n small)) $
        stays ! (outcome true i (looks true i)) $ turn i (after_turn 𝓤 H X Left) small h).prf)
        (λ X.
        (tests false n (after_turn 𝓤 H X Left) (looks false n)
        (test_fails (ltb n n) (λ a. lt_irrefl n (ltb→lt n n a))) $
        leaves_loop ! (outcome false n (looks false n)) $ record { prf = after.prf }).prf);
  }

-- `while i < n`: i is in local k, n in local l, and the test in local t
pub while_below : {M : Type 1} {𝓤 : Ura M} (𝓛 : Logic 𝓤) (𝓣 : Tables 𝓤 𝓛.H) {E : Env 𝓤 𝓛.H}
    {k l t : ℕ} {body rest : Body} {q : Post 𝓤 𝓛.H} (n : ℕ) (ss : ℕ → List Slot) (rs : ℕ → List Thing) →
    ((y : Bool) (i : ℕ) → Looks 𝓛 𝓣 E k l t body rest q n ss rs y i) →
    ((i : ℕ) (Q : Out → SProp 𝓤) → i < n → ent 𝓤 (mean 𝓛 (has 𝓤 (ss (suc i)) (rs (suc i)))) (Q next) →
    Seq (Go {0}) 𝓛 (has 𝓤 (set_cell t (holds (vbool true)) (ss i)) (rs i) ∷ [])
    (runs 𝓣.C 𝓣.Λ E body (any_q Q))) →
    Seq (Go {0}) 𝓛 (has 𝓤 (set_cell t (holds (vbool false)) (ss n)) (rs n) ∷ []) (runs 𝓣.C 𝓣.Λ E rest q) →
    Seq (Go {0}) 𝓛 (has 𝓤 (ss 0) (rs 0) ∷ [])
    (runs 𝓣.C 𝓣.Λ E
    (seq
    (block
    (loop
    (seq (assign (place t []) (op2 (lt unsigned) (copy (place k [])) (copy (place l []))))
    (seq (cond (copy (place t [])) skip (exit 1)) body)))) rest) q)
while_below 𝓛 𝓣 {E} {k} {l} {t} {body} {rest} {q} n ss rs = looped 𝓛 𝓣 E k l t body rest q n ss rs
