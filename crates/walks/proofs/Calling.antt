-- A call as one step, whatever it takes, gives and says: of a callee with its signature T and its clauses c.
--   all_of, each         formulas as one, and as entries of the context
--   tokens, owned, last_list   a call's tokens, what is owned of its arguments, and its last values, as lists
--   Source               what is owned of an argument is carried in the context, or made for nothing
--   asks                 what the callee asks, of its tokens and its arguments
--   hears                what stands after the call: its last values, its result, its tokens, and what it ensures
--   ends                 the end of a walk: what the function itself hands back
-- One more argument or lifetime is one more element of a tuple. Assumes `Logic`.
use mathlib.Core.Path.{◌≡◌, refl, ap, subst}
use mathlib.Core.List.{List, [], ◌∷◌, ◌++◌}
use Prim.Native.Nat.{ℕ, zero, suc}
use seplogic.Ra.Ura.{Ura}
use mir.Val.{Val}
use base.Logic.{SProp, ent, sep, emp, id⊢, via, comm∗, emp∗, fst∗, mono∗, mono_l, mono_r}
use base.Fml.{Fml, ftrue, fsep, flft}
use types.Logic.{Logic, sem}
use contract.Monad.{fact}
use contract.Lifetimes.{Lfts, Shares, toks}
use types.Kit.{Goal, prop, Soaks, Seq, Step, Item, ‵, raw, ◌⊛◌, ⋆, push, pop, ⊢++, ++⊢, some, later, cut, ◌$◌}
use types.Kit.{◌∵◌, Go, ! }
use types.Kit.{qed, by, move, use0, use1, split, join, pick, await, done}
use denote.Steps.{heard}
use denote.RattleType.{RattleType, Denots, Valss, owns}
use denote.Signature.{Slot, type_at, types_at}
use denote.Exit.{left}
use denote.Triple.Entry.{Res, alive, on_entry}
use denote.Triple.Statement.{Contract}
use denote.Triple.Spec.{triple_of}
use denote.Triple.End.{Kepts, Fins, lasts_of}
use denote.Triple.Clauses.{Ended, Clauses, Lasts, lasts, at_exit, closing}
use denote.Triple.Walked.{Stays, has_of, Fit, walk_of, Ending, ends_at}

-- formulas as one, as a signature has its tokens and its arguments
abbrev pub all_of : List Fml → Fml
all_of [] = ftrue
all_of (f ∷ fs) = fsep f (all_of fs)

-- formulas as entries of the context
abbrev pub each : {M : Type 1} (𝓤 : Ura M) → List Fml → List (Item 𝓤)
each 𝓤 [] = []
each 𝓤 (f ∷ fs) = ‵ f ∷ each 𝓤 fs

-- a token for each lifetime
abbrev pub tokens : (n : ℕ) → Lfts n → Shares n → List Fml
tokens zero κs qs = []
tokens (suc n) κs qs = flft κs.0 qs.0 ∷ tokens n κs.1 qs.1

-- what is said of each last value
abbrev pub last_list : {n : ℕ} (κs : Lfts n) (ss : List (Slot n)) (ks : Kepts ss) (a : Denots (types_at ss κs)) →
    Fins κs ss ks a → List Fml
last_list κs [] ks a ws = []
last_list κs (s ∷ ss) ks a ws =
    left ((s.row κs).exit ks.0) a.0 ws.0 ∷ last_list κs ss ks.1 a.1 ws.1

-- what is owned of each argument
abbrev pub owned_of : (Ts : List RattleType) → Denots Ts → Valss Ts → List Fml
owned_of [] a vss = []
owned_of (T ∷ Ts) a vss = T.own_val a.0 vss.0 ∷ owned_of Ts a.1 vss.1

-- what is had of each parameter at the end
abbrev pub had_of : {n : ℕ} (κs : Lfts n) (ss : List (Slot n)) (ks : Kepts ss) → Stays ss ks →
    (a : Denots (types_at ss κs)) → Fins κs ss ks a → Valss (types_at ss κs) → List Fml
had_of κs [] ks hs a ws vss = []
had_of κs (s ∷ ss) ks hs a ws vss =
    hs.0.has κs a.0 ws.0 vss.0 ∷ had_of κs ss ks.1 hs.1 a.1 ws.1 vss.1

-- as one, these are what the signature has
owns_are : (Ts : List RattleType) (a : Denots Ts) (vss : Valss Ts) → all_of (owned_of Ts a vss) ≡ owns Ts a vss
owns_are [] a vss = refl
owns_are (T ∷ Ts) a vss = ap (fsep (T.own_val a.0 vss.0)) (owns_are Ts a.1 vss.1)

lasts_are : {n : ℕ} (κs : Lfts n) (ss : List (Slot n)) (ks : Kepts ss) (a : Denots (types_at ss κs))
    (ws : Fins κs ss ks a) → all_of (last_list κs ss ks a ws) ≡ lasts_of κs ss ks a ws
lasts_are κs [] ks a ws = refl
lasts_are κs (s ∷ ss) ks a ws =
    ap (fsep (left ((s.row κs).exit ks.0) a.0 ws.0)) (lasts_are κs ss ks.1 a.1 ws.1)

had_is : {n : ℕ} (κs : Lfts n) (ss : List (Slot n)) (ks : Kepts ss) (hs : Stays ss ks) (a : Denots (types_at ss κs))
    (ws : Fins κs ss ks a) (vss : Valss (types_at ss κs)) →
    all_of (had_of κs ss ks hs a ws vss) ≡ has_of κs ss ks hs a ws vss
had_is κs [] ks hs a ws vss = refl
had_is κs (s ∷ ss) ks hs a ws vss =
    ap (fsep (hs.0.has κs a.0 ws.0 vss.0)) (had_is κs ss ks.1 hs.1 a.1 ws.1 vss.1)

tokens_are : {M : Type 1} {𝓤 : Ura M} (𝓛 : Logic 𝓤) (n : ℕ) (κs : Lfts n) (qs : Shares n) →
    sem 𝓛 (all_of (tokens n κs qs)) ≡ toks 𝓛 n κs qs
tokens_are 𝓛 zero κs qs = refl
tokens_are {𝓤 = 𝓤} 𝓛 (suc n) κs qs = ap (sep 𝓤 (𝓛.A.lft κs.0 qs.0)) (tokens_are 𝓛 n κs.1 qs.1)

module _ {M : Type 1} {𝓤 : Ura M} (𝓛 : Logic 𝓤) where
  -- a formula is carried in the context, or made for nothing
  pub data Source (F : Fml) : Type 1 where
    carried : Source F
    made : ent 𝓤 (emp 𝓤) (sem 𝓛 F) → Source F

  -- one for each of some formulas
  abbrev pub Sources : List Fml → Type 1
  Sources [] = Unit {1}
  Sources (f ∷ fs) = Source f × Sources fs

  -- the formula, if it is carried
  abbrev one : (F : Fml) → Source F → List Fml → List Fml
  one F carried fs = F ∷ fs
  one F (made h) fs = fs

  -- those that are carried
  abbrev pub carry : (fs : List Fml) → Sources fs → List Fml
  carry [] xs = []
  carry (f ∷ fs) xs = one f xs.0 (carry fs xs.1)

  -- entries put together
  gather : (fs : List Fml) → ent 𝓤 (⋆ 𝓛 (each 𝓤 fs)) (sem 𝓛 (all_of fs))
  gather [] = id⊢ 𝓤 (emp 𝓤)
  gather (f ∷ fs) = via 𝓤 _ (pop 𝓛 (‵ f) (each 𝓤 fs)) (mono_r 𝓤 (sem 𝓛 f) (gather fs))

  -- and taken apart
  scatter : (fs : List Fml) → ent 𝓤 (sem 𝓛 (all_of fs)) (⋆ 𝓛 (each 𝓤 fs))
  scatter [] = id⊢ 𝓤 (emp 𝓤)
  scatter (f ∷ fs) = via 𝓤 _ (mono_r 𝓤 (sem 𝓛 f) (scatter fs)) (push 𝓛 (‵ f) (each 𝓤 fs))

  -- one more, from where it comes
  supplied : (F : Fml) (x : Source F) (fs gs : List Fml) →
      ent 𝓤 (sem 𝓛 (all_of gs)) (sem 𝓛 (all_of fs)) →
      ent 𝓤 (sem 𝓛 (all_of (one F x gs))) (sem 𝓛 (fsep F (all_of fs)))
  supplied F carried fs gs h = mono_r 𝓤 (sem 𝓛 F) h
  supplied F (made g) fs gs h = via 𝓤 _ (emp∗ 𝓤 (sem 𝓛 (all_of gs))) (mono∗ 𝓤 g h)

  -- all, from where they come
  gathered : (fs : List Fml) (xs : Sources fs) → ent 𝓤 (sem 𝓛 (all_of (carry fs xs))) (sem 𝓛 (all_of fs))
  gathered [] xs = id⊢ 𝓤 (emp 𝓤)
  gathered (f ∷ fs) xs = supplied f xs.0 fs (carry fs xs.1) (gathered fs xs.1)

  -- tokens and other formulas, of entries
  together : (ts fs : List Fml) (xs : Sources fs) →
      ent 𝓤 (⋆ 𝓛 (each 𝓤 ts ++ each 𝓤 (carry fs xs))) (sep 𝓤 (sem 𝓛 (all_of ts)) (sem 𝓛 (all_of fs)))
  together ts fs xs =
      via 𝓤 _ (⊢++ 𝓛 (each 𝓤 ts) (each 𝓤 (carry fs xs)))
      (mono∗ 𝓤 (gather ts) (via 𝓤 _ (gather (carry fs xs)) (gathered fs xs)))

module _ {M : Type 1} {𝓤 : Ura M} (𝓛 : Logic 𝓤) (T : Ended) (c : Clauses 𝓤 T) where
  -- the callee's contract, and what its triple binds outside
  open 𝓛 use {H}

  abbrev pub Callee : Contract 𝓤
  Callee = triple_of 𝓛 T.signature (closing 𝓛 T c)

  module _ (y : Callee.Ghost) where
    -- its tokens, and what is owned of its arguments
    abbrev Tokens : List Fml
    Tokens = tokens T.signature.lifetimes y.0.0 y.0.1

    abbrev Owned : List Fml
    Owned = owned_of (types_at T.signature.params y.0.0) y.0.3 y.0.4

    -- as the signature has them
    alive_is : ent 𝓤 (sem 𝓛 (all_of Tokens)) (alive 𝓛 T.signature y.0.0 y.0.1)
    alive_is = subst (ent 𝓤 _) (tokens_are 𝓛 T.signature.lifetimes y.0.0 y.0.1) (id⊢ 𝓤 _)

    -- what it asks: tokens and arguments, and what it requires, which holds for nothing
    pub asks : {Γ : List (Item 𝓤)} {G : Goal 𝓤 H} (xs : Sources 𝓛 Owned) →
        ent 𝓤 (emp 𝓤) ((c y.0.0 y.0.3).requires y.1) →
        Step (Go {0}) 𝓛 (raw (Callee.pre y) ∷ Γ) G ((each 𝓤 Tokens ++ each 𝓤 (carry 𝓛 Owned xs)) ++ Γ) G
    asks {Γ} xs holds =
        let P : SProp 𝓤 = on_entry 𝓛 T.signature y.0.0 y.0.1 y.0.3 y.0.4 in
        cut (each 𝓤 Tokens ++ each 𝓤 (carry 𝓛 Owned xs)) (raw (Callee.pre y) ∷ []) Γ
        (via 𝓤 _ (together 𝓛 Tokens Owned xs)
        (via 𝓤 P
        (mono∗ 𝓤 alive_is
        (subst (λ (F : Fml). ent 𝓤 (sem 𝓛 (all_of Owned)) (sem 𝓛 F))
        (owns_are (types_at T.signature.params y.0.0) y.0.3 y.0.4) (id⊢ 𝓤 (sem 𝓛 (all_of Owned)))))
        (via 𝓤 _ (emp∗ 𝓤 P)
        (via 𝓤 _ (mono_l 𝓤 P holds) (comm∗ 𝓤 ((c y.0.0 y.0.3).requires y.1) P)))))

    -- what is owned of a result
    abbrev Result : Val → Res T.signature y.0.0 → Fml
    Result u r = (type_at T.signature.result y.0.0).own_val r (u ∷ [])

    -- what is said of last values
    abbrev Last : Lasts T y.0.0 y.0.3 → List Fml
    Last ws = last_list y.0.0 T.signature.params T.kept y.0.3 ws

    -- what it ensures
    abbrev Says : Res T.signature y.0.0 → Lasts T y.0.0 y.0.3 → SProp 𝓤
    Says r ws = (c y.0.0 y.0.3).ensures y.1 r (at_exit T y.0.0 y.0.3 ws)

    module _ (u : Val) where
      -- what stands after the call: the last values, the result and the tokens
      after : (r : Res T.signature y.0.0) (ws : Lasts T y.0.0 y.0.3) →
          ent 𝓤
          (sep 𝓤 (sem 𝓛 (lasts T y.0.0 y.0.3 ws))
          (sep 𝓤 (sem 𝓛 (Result u r)) (alive 𝓛 T.signature y.0.0 y.0.1)))
          (⋆ 𝓛 (each 𝓤 (Last ws) ++ (‵ (Result u r) ∷ each 𝓤 Tokens)))
      after r ws =
          via 𝓤 (sep 𝓤 (⋆ 𝓛 (each 𝓤 (Last ws))) (⋆ 𝓛 (‵ (Result u r) ∷ each 𝓤 Tokens)))
          (mono∗ 𝓤
          (subst (λ (F : Fml). ent 𝓤 (sem 𝓛 F) (⋆ 𝓛 (each 𝓤 (Last ws))))
          (lasts_are y.0.0 T.signature.params T.kept y.0.3 ws) (scatter 𝓛 (Last ws)))
          (via 𝓤 _
          (mono_r 𝓤 (sem 𝓛 (Result u r))
          (subst (λ (P : SProp 𝓤). ent 𝓤 P (⋆ 𝓛 (each 𝓤 Tokens)))
          (tokens_are 𝓛 T.signature.lifetimes y.0.0 y.0.1) (scatter 𝓛 Tokens)))
          (push 𝓛 (‵ (Result u r)) (each 𝓤 Tokens))))
          (++⊢ 𝓛 (each 𝓤 (Last ws)) (‵ (Result u r) ∷ each 𝓤 Tokens))

      pub hears : {Γ : List (Item 𝓤)} {G : Goal 𝓤 H} → Soaks G →
          (φ : Res T.signature y.0.0 → Lasts T y.0.0 y.0.3 → Type 0) →
          ((r : Res T.signature y.0.0) (ws : Lasts T y.0.0 y.0.3) →
          ent 𝓤 (Says r ws) (fact 𝓤 (φ r ws))) →
          ((r : Res T.signature y.0.0) (ws : Lasts T y.0.0 y.0.3) → φ r ws →
          Seq (Go {0}) 𝓛 ((each 𝓤 (Last ws) ++ (‵ (Result u r) ∷ each 𝓤 Tokens)) ++ Γ) G) →
          Seq (Go {0}) 𝓛 (raw (Callee.post y u) ∷ Γ) G
      hears {Γ} soaks φ is k =
          let Alive : SProp 𝓤 = alive 𝓛 T.signature y.0.0 y.0.1 in
          use1 𝓛
          (later
          (some
          (λ (r : Res T.signature y.0.0).
          (raw Alive ⊛ ‵ (Result u r))
          ⊛ some
          (λ (ws : Lasts T y.0.0 y.0.3). ‵ (lasts T y.0.0 y.0.3 ws) ⊛ raw (Says r ws)))))
          (id⊢ 𝓤 _) $ await ! soaks $ pick ! (λ r. split ! $ split ! $ move ! (2 ∷ []) $ pick ! (λ ws. split ! $
          move ! (1 ∷ []) $ use1 𝓛 (raw (fact 𝓤 (φ r ws))) (is r ws) $ heard ! (φ r ws) (λ p.
          move ! (0 ∷ 2 ∷ 1 ∷ []) $
          cut (‵ (lasts T y.0.0 y.0.3 ws) ∷ ‵ (Result u r) ∷ raw Alive ∷ [])
          (each 𝓤 (Last ws) ++ (‵ (Result u r) ∷ each 𝓤 Tokens)) Γ (after r ws) $ k r ws p)))

    module _ (hs : Stays T.signature.params T.kept) (u : Val) (r : Res T.signature y.0.0)
        (ws : Lasts T y.0.0 y.0.3) where
      -- what is had of the parameters at the end, and the result
      abbrev Had : List Fml
      Had = had_of y.0.0 T.signature.params T.kept hs y.0.3 ws y.0.4

      -- the end of the function's own walk
      pub ends : Fit T hs y.0.0 y.0.3 ws → ent 𝓤 (emp 𝓤) (Says r ws) →
          (xs : Sources 𝓛 Had) (x : Source 𝓛 (Result u r)) →
          Seq (Go {0}) 𝓛
          ((each 𝓤 Tokens ++ each 𝓤 (carry 𝓛 Had xs)) ++ each 𝓤 (carry 𝓛 (Result u r ∷ []) (x, tt)))
          (prop ((walk_of 𝓛 T hs c).post y u))
      ends fits is xs x = by !
          (via 𝓤 (Ending 𝓛 T hs c y u r ws)
          (via 𝓤 _
          (⊢++ 𝓛 (each 𝓤 Tokens ++ each 𝓤 (carry 𝓛 Had xs)) (each 𝓤 (carry 𝓛 (Result u r ∷ []) (x, tt))))
          (via 𝓤 (sep 𝓤 (sep 𝓤 Alive (sem 𝓛 Has)) (sem 𝓛 (Result u r)))
          (mono∗ 𝓤
          (via 𝓤 _ (together 𝓛 Tokens Had xs)
          (mono∗ 𝓤 alive_is
          (subst (λ (F : Fml). ent 𝓤 (sem 𝓛 (all_of Had)) (sem 𝓛 F))
          (had_is y.0.0 T.signature.params T.kept hs y.0.3 ws y.0.4)
          (id⊢ 𝓤 (sem 𝓛 (all_of Had))))))
          (via 𝓤 _ (gather 𝓛 (carry 𝓛 (Result u r ∷ []) (x, tt)))
          (via 𝓤 _ (gathered 𝓛 (Result u r ∷ []) (x, tt)) (fst∗ 𝓤 (sem 𝓛 (Result u r)) (emp 𝓤)))))
          (qed 𝓛 ((raw Alive ⊛ ‵ Has) ∷ ‵ (Result u r) ∷ []) ∵ split ! $
          use0 𝓛 (raw (Says r ws)) is $ move ! (2 ∷ 3 ∷ []) $ join ! $ move ! (2 ∷ 0 ∷ []) $ join ! $ done !)))
          (ends_at 𝓛 T hs c y u r ws fits))
        where
          Alive : SProp 𝓤
          Alive = alive 𝓛 T.signature y.0.0 y.0.1

          Has : Fml
          Has = has_of y.0.0 T.signature.params T.kept hs y.0.3 ws y.0.4
