-- Steps of a walk whose last entry of the context is the state of `Locals`: no step counts entries, and a local is read
-- off the code.
--   Here              the last entry is a state, and the environment is that of its locals
--   in_local, held    a local's cell, within the state;  var, arg  a local as an operand, and as a call's argument
--   length_of, data_of, slice_again   the parts of a slice that a local holds, and the slice put together again
--   lets, lands_in    a local is assigned, and gets a call's result
--   takes, keeps      things to the head of the context, and the entries at its head to the things
--   copies            a thing that can be copied, under a second name;  lends, regains  a local's cell, lent and back
--   word, sized       a number and a slice are of their local's type
--   enters, leaves    the entry, where the locals are made and the arguments passed; the exit, where they are freed
-- The facts that a step asks for compute: they are `refl`, `tt` or a tuple of these. Assumes `Logic`.
use mathlib.Core.Path.{◌≡◌, refl, sym, ap, subst, ◌∙◌}
use Prim.Native.Nat.{ℕ, zero, suc, ◌<◌, ◌^◌}
use mathlib.Core.List.{List, [], ◌∷◌, ◌++◌}
use lib.Dec.{T}
use seplogic.Ra.Ura.{Ura}
use base.Fraction.{full_share}
use mir.Syntax.{Ty, ty_int, w64, deref, field, place, Opd as Operand, copy}
use mir.Syntax.{Rv as RValue, aggregate, Body, seq, assign}
use mir.Syntax.{ty_ref, Lifetime, Mutability, return, Fn}
use mir.Val.{Val, vint, vptr, WT, has_ty}
use base.Logic.{SProp, ent, sep, wand, via, emp∗, id⊢}
use base.Fml.{Fml, Share, ftrue, fat, froom}
use prog.Wp.{Env, Spot, spot_of, write, Calls, Loops, Wp, at_return, alloc, params, release, WpFn}
use types.Logic.{Logic, sem}
use contract.Monad.{top}
use types.Kit.{Goal, runs, lands, prop, Post, at_ret, Seq, Step, step, Item, ‵, raw, ◌⊛◌, given, later}
use types.Kit.{mean, ⋆, nth, del, put, pull}
use types.Kit.{push, pop, fill, ++⊢, use1, ◌$◌, ◌∵◌, Go, !, qed, move, split, frame, check, assume, use2}
use types.Kit.{each as every, rewrite, done, by}
use types.Run.{Walks, Reads, Writes, Opd, Opds, Rv, Finds, load, from, stop, hop, fld, and_then, no_more, assigns}
use types.Run.{land, returns}
use types.Part.{Part, look_in, sub, agg}
use denote.Slice.{slice_ty, slice_val}
use Rattle.walks.proofs.Calling.{all_of, each}
use Rattle.walks.proofs.Locals.{Cell, holds, gone, Slot, lies, Free, get, set_cell, envs, AllFree, Thing}
use Rattle.walks.proofs.Locals.{thing, without, has, Places, types_of, started, TypedArgs, formulas, set_get}
use Rattle.walks.proofs.Keeping.{spot_is, out, back}
use Rattle.walks.proofs.Keeping.{lent, kept, regained, found, stored, as_room, entered, left}

-- the place of the last of some entries
abbrev count : {M : Type 1} {𝓤 : Ura M} → List (Item 𝓤) → ℕ
count [] = zero
count (i ∷ Γ) = suc (count Γ)

abbrev pub last_of : {M : Type 1} {𝓤 : Ura M} → List (Item 𝓤) → ℕ
last_of [] = zero
last_of (i ∷ Γ) = count Γ

-- what a context has in front of its last entry, with another last entry
abbrev pub with_last : {M : Type 1} {𝓤 : Ura M} (𝓛 : Logic 𝓤) → List (Item 𝓤) → Item 𝓤 → List (Item 𝓤)
with_last 𝓛 Γ i = put 𝓛 (last_of Γ) i Γ

-- the things of some names, and all but those
abbrev pub things : List ℕ → List Thing → List Fml
things [] rs = []
things (n ∷ ns) rs = thing n rs ∷ things ns (without n rs)

abbrev pub others : List ℕ → List Thing → List Thing
others [] rs = rs
others (n ∷ ns) rs = others ns (without n rs)

-- the formula of an entry
abbrev formula : {M : Type 1} {𝓤 : Ura M} → Item 𝓤 → Fml
formula (‵ F) = F
formula (raw P) = ftrue
formula (i ⊛ j) = ftrue
formula (Item.some F) = ftrue
formula (given φ i) = ftrue
formula (later i) = ftrue

-- the first entries, under names, and the entries behind them
abbrev named : {M : Type 1} {𝓤 : Ura M} → List ℕ → List (Item 𝓤) → List Thing → List Thing
named [] Γ rs = rs
named (n ∷ ns) [] rs = rs
named (n ∷ ns) (i ∷ Γ) rs = (n, formula i) ∷ named ns Γ rs

abbrev behind : {M : Type 1} {𝓤 : Ura M} → List ℕ → List (Item 𝓤) → List (Item 𝓤)
behind [] Γ = Γ
behind (n ∷ ns) [] = []
behind (n ∷ ns) (i ∷ Γ) = behind ns Γ

module _ {M : Type 1} {𝓤 : Ura M} (𝓛 : Logic 𝓤) (Γ : List (Item 𝓤)) where
  -- the last entry is a state, and the environment is that of its locals
  open 𝓛 use {H}

  abbrev pub Here : Env 𝓤 H → List Slot → List Thing → Type 2
  Here E ss rs = ◌≡◌ {A = Item 𝓤 × Env 𝓤 H} (nth 𝓛 (last_of Γ) Γ, E) (has 𝓤 ss rs, envs ss)

  -- the last entry is a state
  abbrev pub Last : List Slot → List Thing → Type 2
  Last ss rs = nth 𝓛 (last_of Γ) Γ ≡ has 𝓤 ss rs

module _ {M : Type 1} {𝓤 : Ura M} (𝓛 : Logic 𝓤) where
  -- the last entry is taken out
  open 𝓛 use {H}

  pub apart : (Γ : List (Item 𝓤)) (i : Item 𝓤) → nth 𝓛 (last_of Γ) Γ ≡ i →
      ent 𝓤 (⋆ 𝓛 Γ) (sep 𝓤 (mean 𝓛 i) (⋆ 𝓛 (del 𝓛 (last_of Γ) Γ)))
  apart Γ i e =
      subst (λ (i : Item 𝓤). ent 𝓤 (⋆ 𝓛 Γ) (sep 𝓤 (mean 𝓛 i) (⋆ 𝓛 (del 𝓛 (last_of Γ) Γ)))) e
      (pull 𝓛 (last_of Γ) Γ)

  -- a local is written
  wrote : (Γ : List (Item 𝓤)) (k : ℕ) (ss : List Slot) (rs : List Thing) (v : Val) (P : SProp 𝓤) →
      Last 𝓛 Γ ss rs → Free (get k ss).2 → T (has_ty (get k ss).0 v) × WT v →
      ent 𝓤 (⋆ 𝓛 (with_last 𝓛 Γ (has 𝓤 (set_cell k (holds v) ss) rs))) P →
      ent 𝓤 (⋆ 𝓛 Γ) (write 𝓤 H (get k ss).0 (get k ss).1 zero v P)
  wrote Γ k ss rs v P e free typed h =
      let τ : Ty = (get k ss).0 in
      let b : ℕ = (get k ss).1 in
      let now : Item 𝓤 = has 𝓤 (set_cell k (holds v) ss) rs in
      via 𝓤 _ (apart Γ (has 𝓤 ss rs) e)
      (qed 𝓛 (has 𝓤 ss rs ∷ raw (⋆ 𝓛 (del 𝓛 (last_of Γ) Γ)) ∷ []) ∵ check ! typed $
      use1 𝓛 (‵ (lies τ b (get k ss).2) ⊛ has 𝓤 (set_cell k gone ss) rs) (out 𝓛 k ss rs) $ split ! $
      use1 𝓛 (‵ (froom τ b zero)) (as_room 𝓛 τ b (get k ss).2 free) $ frame ! $
      assume ! (‵ (fat full_share τ b zero v)) $ move ! (0 ∷ 1 ∷ []) $ use2 𝓛 now (back 𝓛 k ss rs (holds v)) $
      by ! (via 𝓤 _ (fill 𝓛 (last_of Γ) now Γ) h))

  -- where the code finds a local
  pub spot : (Γ : List (Item 𝓤)) (E : Env 𝓤 H) (ss : List Slot) (rs : List Thing) (k : ℕ) (s : Slot) →
      Here 𝓛 Γ E ss rs → get k ss ≡ s → spot_of 𝓤 H E k ≡ (s.0, s.1, zero)
  spot Γ E ss rs k s e f =
      ap (λ (F : Env 𝓤 H). spot_of 𝓤 H F k) (ap (λ (p : Item 𝓤 × Env 𝓤 H). p.1) e)
      ∙ ap (λ (p : Ty × ℕ). (p.0, p.1, zero)) (spot_is 𝓛 k ss) ∙ ap (λ (x : Slot). (x.0, x.1, zero)) f

  -- several things out of the state
  found_all : (ns : List ℕ) (ss : List Slot) (rs : List Thing) →
      ent 𝓤 (mean 𝓛 (has 𝓤 ss rs))
      (sep 𝓤 (⋆ 𝓛 (each 𝓤 (things ns rs))) (mean 𝓛 (has 𝓤 ss (others ns rs))))
  found_all [] ss rs = emp∗ 𝓤 (mean 𝓛 (has 𝓤 ss rs))
  found_all (n ∷ ns) ss rs =
      let Δ : List (Item 𝓤) = each 𝓤 (things ns (without n rs)) in
      qed 𝓛 (has 𝓤 ss rs ∷ []) ∵
      use1 𝓛 (‵ (thing n rs) ⊛ has 𝓤 ss (without n rs)) (found 𝓛 n ss rs) $ split ! $ move ! (1 ∷ []) $
      use1 𝓛 (raw (⋆ 𝓛 Δ) ⊛ has 𝓤 ss (others ns (without n rs))) (found_all ns ss (without n rs)) $ split ! $
      move ! (2 ∷ 0 ∷ []) $ use2 𝓛 (raw (⋆ 𝓛 (‵ (thing n rs) ∷ Δ))) (push 𝓛 (‵ (thing n rs)) Δ) $ done !

  -- an entry has its formula
  as_formula : (i : Item 𝓤) → ent 𝓤 (mean 𝓛 i) (sem 𝓛 (formula i))
  as_formula (‵ F) = id⊢ 𝓤 (sem 𝓛 F)
  as_formula (raw P) = top 𝓤 P
  as_formula (i ⊛ j) = top 𝓤 (mean 𝓛 (i ⊛ j))
  as_formula (Item.some F) = top 𝓤 (mean 𝓛 (Item.some F))
  as_formula (given φ i) = top 𝓤 (mean 𝓛 (given φ i))
  as_formula (later i) = top 𝓤 (mean 𝓛 (later i))

  -- the first entries into the state, which is the last
  stored_all : (ns : List ℕ) (Γ : List (Item 𝓤)) (ss : List Slot) (rs : List Thing) →
      Last 𝓛 (behind ns Γ) ss rs →
      ent 𝓤 (⋆ 𝓛 Γ)
      (sep 𝓤 (mean 𝓛 (has 𝓤 ss (named ns Γ rs)))
      (⋆ 𝓛 (del 𝓛 (last_of (behind ns Γ)) (behind ns Γ))))
  stored_all [] Γ ss rs e = apart Γ (has 𝓤 ss rs) e
  stored_all (n ∷ ns) [] ss rs e = apart [] (has 𝓤 ss rs) e
  stored_all (n ∷ ns) (i ∷ Γ) ss rs e =
      let R : SProp 𝓤 = ⋆ 𝓛 (del 𝓛 (last_of (behind ns Γ)) (behind ns Γ)) in
      via 𝓤 _ (pop 𝓛 i Γ)
      (qed 𝓛 (i ∷ raw (⋆ 𝓛 Γ) ∷ []) ∵ use1 𝓛 (‵ (formula i)) (as_formula i) $ move ! (1 ∷ []) $
      use1 𝓛 (has 𝓤 ss (named ns Γ rs) ⊛ raw R) (stored_all ns Γ ss rs e) $ split ! $ move ! (2 ∷ 0 ∷ []) $
      use2 𝓛 (has 𝓤 ss ((n, formula i) ∷ named ns Γ rs)) (stored 𝓛 n (formula i) ss (named ns Γ rs)) $ done !)

module _ {M : Type 1} {𝓤 : Ura M} {𝓛 : Logic 𝓤} {K : Type 0} where
  -- a local's cell, within the state
  open 𝓛 use {H}

  pub in_local : K → {ss : List Slot} {rs : List Thing} (k : ℕ) {τ : Ty} {b : ℕ} {v : Val} →
      get k ss ≡ (τ, b, holds v) →
      Part K 𝓛 (has 𝓤 ss rs) full_share τ b zero v (λ u. has 𝓤 (set_cell k (holds u) ss) rs)
  in_local t {ss} {rs} k {τ} {b} {v} e = record {
    out =
        qed 𝓛 (has 𝓤 ss rs ∷ []) ∵
        use1 𝓛 (‵ (fat full_share τ b zero v) ⊛ has 𝓤 (set_cell k gone ss) rs) (lent 𝓛 k ss rs e) $ split ! $
        frame ! $
        every ! (λ (u : Val). wand 𝓤 (H.at full_share τ b zero u) (mean 𝓛 (has 𝓤 (set_cell k (holds u) ss) rs)))
        (λ u. assume ! (‵ (fat full_share τ b zero u)) $ by ! (kept 𝓛 k ss rs u e));
    same =
        ap (λ (xs : List Slot). has 𝓤 xs rs)
        (subst (λ (s : Slot). set_cell k s.2 ss ≡ ss) e (set_get k ss));
  }

  module _ {Γ : List (Item 𝓤)} where
    -- a part of the state is read
    pub within : K → {ss : List Slot} {rs : List Thing} {q : Share} {τ : Ty} {b o : ℕ} {v : Val} {into : Val → Item 𝓤} →
        Last 𝓛 Γ ss rs → Part K 𝓛 (has 𝓤 ss rs) q τ b o v into → Reads K 𝓛 Γ τ b o v
    within t {q = q} {τ} {b} {o} {v} {into} e p =
        look_in t (last_of Γ) (subst (λ (i : Item 𝓤). Part K 𝓛 i q τ b o v into) (sym e) p)

    -- a local is read
    pub held : K → {ss : List Slot} {rs : List Thing} (k : ℕ) {τ : Ty} {b : ℕ} {v : Val} → Last 𝓛 Γ ss rs →
        get k ss ≡ (τ, b, holds v) → Reads K 𝓛 Γ τ b zero v
    held t k e f = within t e (in_local t k f)

    -- a local is read where the environment has it
    pub reads : K → (E : Env 𝓤 H) (ss : List Slot) (rs : List Thing) (k : ℕ) (v : Val) → Here 𝓛 Γ E ss rs →
        (get k ss).2 ≡ holds v → Reads K 𝓛 Γ (spot_of 𝓤 H E k).0 (spot_of 𝓤 H E k).1 (spot_of 𝓤 H E k).2 v
    reads t E ss rs k v e f =
        subst (λ (sp : Spot 𝓤 H). Reads K 𝓛 Γ sp.0 sp.1 sp.2 v)
        (sym (spot 𝓛 Γ E ss rs k (get k ss) e refl))
        (held t k (ap (λ (p : Item 𝓤 × Env 𝓤 H). p.0) e) (ap (λ (c : Cell). ((get k ss).0, (get k ss).1, c)) f))

    -- a local is written where the environment has it
    pub writes : K → (E : Env 𝓤 H) (ss : List Slot) (rs : List Thing) (k : ℕ) (v : Val) → Here 𝓛 Γ E ss rs →
        Free (get k ss).2 → T (has_ty (get k ss).0 v) × WT v →
        Writes K 𝓛 Γ (spot_of 𝓤 H E k).0 (spot_of 𝓤 H E k).1 (spot_of 𝓤 H E k).2 v
        (with_last 𝓛 Γ (has 𝓤 (set_cell k (holds v) ss) rs))
    writes t E ss rs k v e free typed =
        subst
        (λ (sp : Spot 𝓤 H).
        Writes K 𝓛 Γ sp.0 sp.1 sp.2 v (with_last 𝓛 Γ (has 𝓤 (set_cell k (holds v) ss) rs)))
        (sym (spot 𝓛 Γ E ss rs k (get k ss) e refl))
        (record {
          go = λ P h. wrote 𝓛 Γ k ss rs v P (ap (λ (p : Item 𝓤 × Env 𝓤 H). p.0) e) free typed h;
        })

    module _ {E : Env 𝓤 H} {ss : List Slot} {rs : List Thing} where
      -- a local as an operand
      pub var : K → {k : ℕ} {v : Val} → Here 𝓛 Γ E ss rs → (get k ss).2 ≡ holds v →
          Opd K 𝓛 Γ E (copy (place k [])) v
      var t {k} {v} e f = load t (from t (stop t)) (reads t E ss rs k v e f)

      -- a local as one more argument of a call
      pub arg : K → {k : ℕ} {v : Val} {xs : List Operand} {vs : List Val} → Here 𝓛 Γ E ss rs →
          (get k ss).2 ≡ holds v → Opds K 𝓛 Γ E xs vs → Opds K 𝓛 Γ E (copy (place k []) ∷ xs) (v ∷ vs)
      arg t e f rest = and_then t (var t e f) rest

      module _ {C : Calls 𝓤 H} {Λ : Loops 𝓤 H} {q : Post 𝓤 H} where
        -- a local is assigned, and the rest runs
        pub lets : K → {k : ℕ} {rv : RValue} {rest : Body} {v : Val} → Rv K 𝓛 Γ E rv v → Here 𝓛 Γ E ss rs →
            Free (get k ss).2 → T (has_ty (get k ss).0 v) × WT v →
            Step K 𝓛 (with_last 𝓛 Γ (has 𝓤 (set_cell k (holds v) ss) rs)) (runs C Λ E rest q) Γ
            (runs C Λ E (seq (assign (place k []) rv) rest) q)
        lets t {k} {rv} {rest} {v} r e free typed =
            assigns t r (from t (stop t)) (writes t E ss rs k v e free typed)

        -- a local gets a call's result
        pub lands_in : K → {k : ℕ} {rest : Body} {v : Val} → Here 𝓛 Γ E ss rs → Free (get k ss).2 →
            T (has_ty (get k ss).0 v) × WT v →
            Step K 𝓛 (with_last 𝓛 Γ (has 𝓤 (set_cell k (holds v) ss) rs)) (runs C Λ E rest q) Γ
            (lands C Λ E (place k []) v rest q)
        lands_in t {k} {rest} {v} e free typed = land t (from t (stop t)) (writes t E ss rs k v e free typed)

      module _ {k : ℕ} {ℓ : Lifetime} {μ : Mutability} {τ : Ty} {b p o n : ℕ} where
        -- the length of a slice that a local holds
        pub length_of : K → Here 𝓛 Γ E ss rs →
            get k ss ≡ (slice_ty (ty_ref ℓ μ τ), b, holds (slice_val (p, o) n)) →
            Opd K 𝓛 Γ E (copy (place k (field 1 ∷ []))) (vint w64 n)
        length_of t e f =
            let sp : Spot 𝓤 H = (slice_ty (ty_ref ℓ μ τ), b, zero) in
            load t {sp = (ty_int w64, b, 8)}
            (from t
            (subst (λ (x : Spot 𝓤 H). Walks K 𝓛 Γ E x (field 1 ∷ []) (ty_int w64, b, 8))
            (sym (spot 𝓛 Γ E ss rs k (slice_ty (ty_ref ℓ μ τ), b, holds (slice_val (p, o) n)) e f))
            (fld t {sp = sp} refl (stop t))))
            (within t (ap (λ (x : Item 𝓤 × Env 𝓤 H). x.0) e) (sub t 1 refl (in_local t k f)))

        -- where it lies
        pub data_of : K → {σ : Ty} → Here 𝓛 Γ E ss rs →
            get k ss ≡ (slice_ty (ty_ref ℓ μ τ), b, holds (slice_val (p, o) n)) →
            Finds K 𝓛 Γ E (place k (field 0 ∷ deref σ ∷ [])) (σ, p, o)
        data_of t {σ} e f =
            from t
            (subst (λ (x : Spot 𝓤 H). Walks K 𝓛 Γ E x (field 0 ∷ deref σ ∷ []) (σ, p, o))
            (sym (spot 𝓛 Γ E ss rs k (slice_ty (ty_ref ℓ μ τ), b, holds (slice_val (p, o) n)) e f))
            (fld t {sp = (slice_ty (ty_ref ℓ μ τ), b, zero)} refl
            (hop t (within t (ap (λ (x : Item 𝓤 × Env 𝓤 H). x.0) e) (sub t 0 refl (in_local t k f))) (stop t))))

        -- a slice put together of its pointer, which another local holds, and its length
        pub slice_again : K → {j : ℕ} → Here 𝓛 Γ E ss rs →
            get k ss ≡ (slice_ty (ty_ref ℓ μ τ), b, holds (slice_val (p, o) n)) → (get j ss).2 ≡ holds (vptr p o) →
            Rv K 𝓛 Γ E (aggregate (copy (place j []) ∷ copy (place k (field 1 ∷ [])) ∷ [])) (slice_val (p, o) n)
        slice_again t e f g = agg t (and_then t (var t e g) (and_then t (length_of t e f) (no_more t)))

      -- the function returns what is in its first local, and its locals are freed
      pub leaves : K → {C : Calls 𝓤 H} {Λ : Loops 𝓤 H} {Kf : Val → SProp 𝓤} {v : Val} → Here 𝓛 Γ E ss rs →
          (get zero ss).2 ≡ holds v → AllFree ss →
          Step K 𝓛 (del 𝓛 (last_of Γ) Γ) (prop (Kf v)) Γ (runs C Λ E return (at_ret E Kf))
      leaves t {Kf = Kf} {v} e f ok = step (λ s. returns t (reads t E ss rs zero v e f) $ by t
          (via 𝓤 _ (apart 𝓛 Γ (has 𝓤 ss rs) (ap (λ (p : Item 𝓤 × Env 𝓤 H). p.0) e))
          (subst (λ (F : Env 𝓤 H).
          ent 𝓤 (sep 𝓤 (mean 𝓛 (has 𝓤 ss rs)) (⋆ 𝓛 (del 𝓛 (last_of Γ) Γ))) (release 𝓤 H F (Kf v)))
          (sym (ap (λ (p : Item 𝓤 × Env 𝓤 H). p.1) e)) (left 𝓛 ss rs _ (Kf v) ok s.prf))))

    module _ {i : Item 𝓤} (j : Item 𝓤) {G : Goal 𝓤 H} (e : nth 𝓛 (last_of Γ) Γ ≡ i) where
      -- formulas come out of the last entry
      pub brings : K → (fs : List Fml) → ent 𝓤 (mean 𝓛 i) (sep 𝓤 (⋆ 𝓛 (each 𝓤 fs)) (mean 𝓛 j)) →
          Step K 𝓛 (each 𝓤 fs ++ with_last 𝓛 Γ j) G Γ G
      brings t fs h = step (λ s. by t (via 𝓤 _ (apart 𝓛 Γ i e)
          (via 𝓤 _
          (qed 𝓛 (i ∷ raw Rest ∷ []) ∵ use1 𝓛 (raw (⋆ 𝓛 (each 𝓤 fs)) ⊛ j) h $ split ! $ frame ! $
          by ! (fill 𝓛 (last_of Γ) j Γ)) (via 𝓤 _ (++⊢ 𝓛 (each 𝓤 fs) (with_last 𝓛 Γ j)) s.prf))))
        where
          Rest : SProp 𝓤
          Rest = ⋆ 𝓛 (del 𝓛 (last_of Γ) Γ)

    module _ {ss : List Slot} {rs : List Thing} {G : Goal 𝓤 H} where
      -- things come to the head of the context, in this order
      pub takes : K → (ns : List ℕ) → Last 𝓛 Γ ss rs →
          Step K 𝓛 (each 𝓤 (things ns rs) ++ with_last 𝓛 Γ (has 𝓤 ss (others ns rs))) G Γ G
      takes t ns e = brings (has 𝓤 ss (others ns rs)) e t (things ns rs) (found_all 𝓛 ns ss rs)

      -- the entries at the head of the context go to the things, under these names
      pub keeps : K → (ns : List ℕ) → Last 𝓛 (behind ns Γ) ss rs →
          Step K 𝓛 (with_last 𝓛 (behind ns Γ) (has 𝓤 ss (named ns Γ rs))) G Γ G
      keeps t ns e = step (λ s. by t
          (via 𝓤 _ (stored_all 𝓛 ns Γ ss rs e)
          (via 𝓤 _ (fill 𝓛 (last_of (behind ns Γ)) (has 𝓤 ss (named ns Γ rs)) (behind ns Γ)) s.prf)))

      -- a thing that is as good as two of it is had under another name too
      pub copies : K → (n m : ℕ) {F : Fml} → Last 𝓛 Γ ss rs → thing n rs ≡ F →
          ent 𝓤 (sem 𝓛 F) (sep 𝓤 (sem 𝓛 F) (sem 𝓛 F)) →
          Step K 𝓛 (with_last 𝓛 Γ (has 𝓤 ss ((m, F) ∷ (n, F) ∷ without n rs))) G Γ G
      copies t n m {F} e f twice = brings (has 𝓤 ss ((m, F) ∷ (n, F) ∷ without n rs)) e t []
          (via 𝓤 _
          (qed 𝓛 (has 𝓤 ss rs ∷ []) ∵ use1 𝓛 (‵ (thing n rs) ⊛ has 𝓤 ss (without n rs)) (found 𝓛 n ss rs) $
          split ! $ rewrite ! 0 (λ (x : Fml). ‵ x) f refl $ use1 𝓛 (‵ F ⊛ ‵ F) twice $ split ! $ move ! (1 ∷ 2 ∷ []) $
          use2 𝓛 (has 𝓤 ss ((n, F) ∷ without n rs)) (stored 𝓛 n F ss (without n rs)) $ move ! (1 ∷ 0 ∷ []) $
          use2 𝓛 (has 𝓤 ss ((m, F) ∷ (n, F) ∷ without n rs)) (stored 𝓛 m F ss ((n, F) ∷ without n rs)) $ done !)
          (emp∗ 𝓤 (mean 𝓛 (has 𝓤 ss ((m, F) ∷ (n, F) ∷ without n rs)))))

      -- a local's cell comes to the head of the context
      pub lends : K → (k : ℕ) {τ : Ty} {b : ℕ} {v : Val} → Last 𝓛 Γ ss rs → get k ss ≡ (τ, b, holds v) →
          Step K 𝓛 (‵ (fat full_share τ b zero v) ∷ with_last 𝓛 Γ (has 𝓤 (set_cell k gone ss) rs)) G Γ G
      lends t k {τ} {b} {v} e f = brings (has 𝓤 (set_cell k gone ss) rs) e t (fat full_share τ b zero v ∷ [])
          (lent 𝓛 k ss rs f)

      -- and goes back from the things
      pub regains : K → (k n : ℕ) {τ : Ty} {b : ℕ} {v : Val} → Last 𝓛 Γ ss rs → get k ss ≡ (τ, b, gone) →
          thing n rs ≡ fat full_share τ b zero v →
          Step K 𝓛 (with_last 𝓛 Γ (has 𝓤 (set_cell k (holds v) ss) (without n rs))) G Γ G
      regains t k n {τ} {b} {v} e f g = brings (has 𝓤 (set_cell k (holds v) ss) (without n rs)) e t []
          (via 𝓤 _
          (subst
          (λ (F : Fml).
          ent 𝓤 (mean 𝓛 (has 𝓤 ss rs)) (sep 𝓤 (sem 𝓛 F) (mean 𝓛 (has 𝓤 ss (without n rs))))) g
          (found 𝓛 n ss rs))
          (via 𝓤 _ (regained 𝓛 k ss (without n rs) v f)
          (emp∗ 𝓤 (mean 𝓛 (has 𝓤 (set_cell k (holds v) ss) (without n rs))))))

-- the function is entered with its tokens and what is owned of its arguments, which become things: its locals are made,
-- and its arguments put into them
pub enters : {M : Type 1} {𝓤 : Ura M} (𝓛 : Logic 𝓤) (C : Calls 𝓤 𝓛.H)
    (Λ : Loops 𝓤 𝓛.H) (f : Fn) (τs : List Ty) (vs : List Val) (Kf : Val → SProp 𝓤) (ts os : List Thing) →
    types_of f.locals ≡ τs → TypedArgs τs vs →
    ((bs : Places τs) →
    Seq (Go {0}) 𝓛 (has 𝓤 (started τs bs vs) (ts ++ os) ∷ [])
    (runs C Λ (envs (started τs bs vs)) f.body (at_ret (envs (started τs bs vs)) Kf))) →
    ent 𝓤 (sep 𝓤 (sem 𝓛 (all_of (formulas ts))) (sem 𝓛 (all_of (formulas os)))) (WpFn 𝓤 𝓛.H C Λ f vs Kf)
unfolding WpFn
enters {𝓤 = 𝓤} 𝓛 C Λ f τs vs Kf ts os same =
    let Q : Env 𝓤 𝓛.H → SProp 𝓤 = λ E. Wp 𝓤 𝓛.H C Λ E f.body (at_return 𝓤 𝓛.H E Kf) in
    subst
    (λ (σs : List Ty).
    TypedArgs σs vs →
    ((bs : Places σs) →
    Seq (Go {0}) 𝓛 (has 𝓤 (started σs bs vs) (ts ++ os) ∷ [])
    (runs C Λ (envs (started σs bs vs)) f.body (at_ret (envs (started σs bs vs)) Kf))) →
    ent 𝓤 (sep 𝓤 (sem 𝓛 (all_of (formulas ts))) (sem 𝓛 (all_of (formulas os))))
    (alloc 𝓤 𝓛.H f.locals (λ E. params 𝓤 𝓛.H E vs (Q E))))
    same (λ ok k. entered 𝓛 f.locals vs ts os Q ok (λ bs. (k bs).prf))

-- a number, and a slice, whose count fits a word
pub word : (n : ℕ) → n < 2 ^ 64 → Unit {0} × WT (vint w64 n)
word n h = (tt, record { fits = h })

pub sized : (n : ℕ) → n < 2 ^ 64 → Unit {0} × WT (slice_val (0, 0) n)
sized n h = (tt, (tt, (record { fits = h }, tt)))
