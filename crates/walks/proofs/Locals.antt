-- All that a function has while it is walked, as one entry of the context: its locals, by their number in the code, and
-- what else it owns, by names that the proof gives.
--   Cell, Slot            what is in a local; a local with its type and its place
--   get, set_cell, envs   a local's slot, another content for it, and the locals as the code's environment
--   Thing, thing, without what is kept under a name, and all but that
--   has ss rs             the locals ss and the things rs, as one entry
--   started               the locals at entry, with the arguments in them
-- A local or a thing more changes no other's number or name. Assumes nothing.
use mathlib.Core.Path.{◌≡◌, refl, ap}
use Prim.Native.Nat.{ℕ, zero, suc, ◌+◌, ◌*◌}
use mathlib.Core.Bool.{Bool, true, false}
use mathlib.Core.List.{List, [], ◌∷◌}
use lib.Dec.{T, eqb}
use seplogic.Ra.Ura.{Ura}
use base.Fraction.{full_share}
use mir.Syntax.{Ty, ty_enum, ttnil, Local, local}
use mir.Val.{Val, WT, has_ty}
use base.Fml.{Fml, ftrue, fsep, fat, froom, fdies}
use types.Kit.{Item, ‵, given}

-- what is in a local: nothing yet, a value, or its cell is lent
pub data Cell : Type 0 where
  room : Cell
  holds : Val → Cell
  gone : Cell

-- a local: its type, its place, and what is in it
abbrev pub Slot : Type 0
Slot = Ty × ℕ × Cell

-- what is owned of its cell
abbrev pub lies : Ty → ℕ → Cell → Fml
lies τ b room = froom τ b zero
lies τ b (holds v) = fat full_share τ b zero v
lies τ b gone = ftrue

-- a cell that can be written
abbrev pub Free : Cell → Type 0
Free room = Unit {0}
Free (holds v) = Unit {0}
Free gone = ⊥

-- the local of a number
abbrev pub get : ℕ → List Slot → Slot
get k [] = (ty_enum [] ttnil, zero, gone)
get zero (s ∷ ss) = s
get (suc k) (s ∷ ss) = get k ss

-- the locals with another content of one
abbrev pub set_cell : ℕ → Cell → List Slot → List Slot
set_cell k c [] = []
set_cell zero c (s ∷ ss) = (s.0, s.1, c) ∷ ss
set_cell (suc k) c (s ∷ ss) = s ∷ set_cell k c ss

-- the locals as the code's environment
abbrev pub envs : List Slot → List (Ty × ℕ)
envs [] = []
envs (s ∷ ss) = (s.0, s.1) ∷ envs ss

-- a cell can be written, and X
abbrev pub FreeAnd : Cell → Type 0 → Type 0
FreeAnd room X = X
FreeAnd (holds v) X = X
FreeAnd gone X = ⊥

-- every cell can be written
abbrev pub AllFree : List Slot → Type 0
AllFree [] = Unit {0}
AllFree (s ∷ ss) = FreeAnd s.2 (AllFree ss)

-- the two facts
pub free_both : (c : Cell) (X : Type 0) → FreeAnd c X → Free c × X
free_both room X x = (tt, x)
free_both (holds v) X x = (tt, x)
free_both gone X x = absurd x

-- something owned, under a name
abbrev pub Thing : Type 1
Thing = ℕ × Fml

-- the names that the walks here use, for a parameter or a local k: its lifetime's token, what is owned of it, its last
-- value, and what is kept of it while it is lent
abbrev pub token : ℕ → ℕ
token k = 4 * k

abbrev pub owned : ℕ → ℕ
owned k = 4 * k + 1

abbrev pub final : ℕ → ℕ
final k = 4 * k + 2

abbrev pub lender : ℕ → ℕ
lender k = 4 * k + 3

-- one of two
abbrev pub either {ℓ} : {X : Type ℓ} → Bool → X → X → X
either true x y = x
either false x y = y

-- without their names
abbrev pub formulas : List Thing → List Fml
formulas [] = []
formulas (r ∷ rs) = r.1 ∷ formulas rs

-- formulas under names
abbrev pub naming : List ℕ → List Fml → List Thing
naming [] fs = []
naming (n ∷ ns) [] = []
naming (n ∷ ns) (f ∷ fs) = (n, f) ∷ naming ns fs

-- what is kept under a name
abbrev pub thing : ℕ → List Thing → Fml
thing n [] = ftrue
thing n (r ∷ rs) = either (eqb n r.0) r.1 (thing n rs)

-- all but that
abbrev pub without : ℕ → List Thing → List Thing
without n [] = []
without n (r ∷ rs) = either (eqb n r.0) rs (r ∷ without n rs)

-- the locals, each with the right to free it
unfoldable pub frame : List Slot → Fml
frame [] = ftrue
frame (s ∷ ss) = fsep (fsep (lies s.0 s.1 s.2) (fdies s.0 s.1)) (frame ss)

-- the things
unfoldable pub store : List Thing → Fml
store [] = ftrue
store (r ∷ rs) = fsep r.1 (store rs)

-- both
unfoldable pub state : List Slot → List Thing → Fml
state ss rs = fsep (frame ss) (store rs)

-- a mark, by which a step finds the locals and the things in the entry
pub data Stands (ss : List Slot) (rs : List Thing) : Type 0 where
  stands : Stands ss rs

-- all that the function has
abbrev pub has : {M : Type 1} (𝓤 : Ura M) → List Slot → List Thing → Item 𝓤
has 𝓤 ss rs = given (Stands ss rs) (‵ (state ss rs))

-- the types of the code's locals, and a place for each
abbrev pub types_of : List Local → List Ty
types_of [] = []
types_of (local τ h ∷ ls) = τ ∷ types_of ls

abbrev pub Places : List Ty → Type 0
Places [] = Unit {0}
Places (τ ∷ τs) = ℕ × Places τs

-- the locals at entry, with the arguments vs in the first of them
abbrev pub filled_with : (τs : List Ty) → Places τs → List Val → List Slot
filled_with [] bs vs = []
filled_with (τ ∷ τs) bs [] = (τ, bs.0, room) ∷ filled_with τs bs.1 []
filled_with (τ ∷ τs) bs (v ∷ vs) = (τ, bs.0, holds v) ∷ filled_with τs bs.1 vs

-- the locals at entry, the first of which is for the result
abbrev pub started : (τs : List Ty) → Places τs → List Val → List Slot
started [] bs vs = []
started (τ ∷ τs) bs vs = (τ, bs.0, room) ∷ filled_with τs bs.1 vs

-- each argument is of its local's type
abbrev pub TypedAll : List Ty → List Val → Type 0
TypedAll τs [] = Unit {0}
TypedAll [] (v ∷ vs) = ⊥
TypedAll (τ ∷ τs) (v ∷ vs) = (T (has_ty τ v) × WT v) × TypedAll τs vs

-- and there is a local for the result
abbrev pub TypedArgs : List Ty → List Val → Type 0
TypedArgs [] vs = ⊥
TypedArgs (τ ∷ τs) vs = TypedAll τs vs

-- arguments change no place
pub envs_filled : (τs : List Ty) (bs : Places τs) (vs : List Val) →
    envs (filled_with τs bs []) ≡ envs (filled_with τs bs vs)
envs_filled [] bs vs = refl
envs_filled (τ ∷ τs) bs [] = refl
envs_filled (τ ∷ τs) bs (v ∷ vs) = ap (λ (E : List (Ty × ℕ)). (τ, bs.0) ∷ E) (envs_filled τs bs.1 vs)

-- a local put back as it was is as it was
pub set_get : (k : ℕ) (ss : List Slot) → set_cell k (get k ss).2 ss ≡ ss
set_get k [] = refl
set_get zero (s ∷ ss) = refl
set_get (suc k) (s ∷ ss) = ap (λ (xs : List Slot). s ∷ xs) (set_get k ss)
