-- The parameters of a function that is walked by hand, said once, as a list.
--   Formal           a number; a slice to read; a `&mut` slice, which is handed on for good or held to the end
--   slots, stays     as the signature has them, and what is still owned of each at the exit
--   spells, tells    their machine values, and that these are theirs;  gos  that what is owned gives what is promised
-- One more parameter is one more element of the list. Assumes `Logic`.
use mathlib.Core.Path.{refl}
use mathlib.Core.List.{List, [], ◌∷◌}
use Prim.Native.Nat.{ℕ}
use seplogic.Ra.Ura.{Ura}
use mir.Syntax.{named, w64}
use mir.Val.{Val}
use types.Logic.{Logic}
use contract.Lifetimes.{Lfts, Within, lft_at}
use denote.RattleType.{RattleType}
use denote.Laws.{Is, Ises, Tells, Spells, Tellss}
use denote.Plain.{uint_vals, uint_Tells}
use denote.Builtin.{usize}
use denote.Slice.{shr_slice_vals, mut_slice_vals, mut_slice_Tells, shr_slice_Tells}
use denote.Signature.{Slot, plain, mut_slice_of, shr_slice_of, types_at}
use denote.Exit.{yes}
use denote.Triple.End.{all}
use denote.Triple.Walked.{Stay, Stays, stay_none, stay_none_slice, stay_slice, gave_slice, Goes, AllGo, Goes-none}
use denote.Triple.Walked.{Goes-none_slice, Goes-slice, Goes-gave_slice}

-- a parameter, of a function of n lifetimes
pub data Formal (n : ℕ) : Type 2 where
  number : Formal n
  reads : (j : ℕ) → Within n j → RattleType → Formal n
  gives : (j : ℕ) → Within n j → RattleType → Formal n
  holds : (j : ℕ) → Within n j → RattleType → Formal n

module _ {n : ℕ} where
  -- as the signature has it
  abbrev pub slot : Formal n → Slot n
  slot number = plain (λ _. usize)
  slot (reads j ok R) = shr_slice_of (j ∷ []) ok (plain (λ _. R))
  slot (gives j ok R) = mut_slice_of (j ∷ []) ok (plain (λ _. R))
  slot (holds j ok R) = mut_slice_of (j ∷ []) ok (plain (λ _. R))

  abbrev pub slots : List (Formal n) → List (Slot n)
  slots [] = []
  slots (f ∷ fs) = slot f ∷ slots fs

  -- what is still owned of it at the exit
  abbrev stay : (f : Formal n) → Stay (slot f) yes
  stay number = stay_none (λ _. usize) yes
  stay (reads j ok R) = stay_none_slice (j ∷ []) ok (plain (λ _. R)) yes
  stay (gives j ok R) = gave_slice (j ∷ []) ok (plain (λ _. R))
  stay (holds j ok R) = stay_slice (j ∷ []) ok (plain (λ _. R))

  abbrev pub stays : (fs : List (Formal n)) → Stays (slots fs) (all yes (slots fs))
  stays [] = tt
  stays (f ∷ fs) = (stay f, stays fs)

  module _ (κs : Lfts n) where
    -- its machine values
    abbrev spell : (f : Formal n) → ((slot f).row κs).Denot → List Val
    spell number = uint_vals w64
    spell (reads j ok R) = shr_slice_vals
    spell (gives j ok R) = mut_slice_vals
    spell (holds j ok R) = mut_slice_vals

    abbrev pub spells : (fs : List (Formal n)) → Spells (types_at (slots fs) κs)
    spells [] = tt
    spells (f ∷ fs) = (spell f, spells fs)

    -- and that these are its
    tell : (f : Formal n) → Tells ((slot f).row κs) (Is ((slot f).row κs)) (spell f)
    tell number = uint_Tells w64
    tell (reads j ok R) = shr_slice_Tells (named j) (lft_at n j ok κs) R
    tell (gives j ok R) = mut_slice_Tells (named j) (lft_at n j ok κs) R
    tell (holds j ok R) = mut_slice_Tells (named j) (lft_at n j ok κs) R

    pub tells : (fs : List (Formal n)) →
        Tellss (types_at (slots fs) κs) (Ises (types_at (slots fs) κs)) (spells fs)
    tells [] = tt
    tells (f ∷ fs) = (tell f, tells fs)

  module _ {M : Type 1} {𝓤 : Ura M} (𝓛 : Logic 𝓤) where
    -- what is owned at the exit gives what is promised
    go : (f : Formal n) → Goes 𝓛 n (slot f) yes (stay f)
    go number = Goes-none 𝓛 n (λ _. usize) yes (λ κs x f. refl)
    go (reads j ok R) = Goes-none_slice 𝓛 n (j ∷ []) ok (plain (λ _. R)) yes
    go (gives j ok R) = Goes-gave_slice 𝓛 n j ok (plain (λ _. R))
    go (holds j ok R) = Goes-slice 𝓛 n j ok (plain (λ _. R))

    pub gos : (fs : List (Formal n)) → AllGo 𝓛 n (slots fs) (all yes (slots fs)) (stays fs)
    gos [] = tt
    gos (f ∷ fs) = (go f, gos fs)
