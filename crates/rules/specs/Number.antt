-- A number of a network file (document 01, "The network file").
--   number_bytes n    the bytes that a number is written as, lowest group of seven bits first
--   Reading           what reading at a place finds: a value and the place after it, or the first trouble
--   number_at s at    reading the number at a place of the bytes s
-- A byte 0 to 127 ends a number, 128 to 255 says that another group follows. Each group asks for a byte of its own, so
-- a number is tested for SHORT, LONG and LOOSE group by group, and at most one of the three can hold. LONG and LOOSE
-- are placed at the offending last group (document 02, No. 1).
use Rattle.std.specs.Prelude.{ℕ, ◌+◌, ◌-◌, ◌*◌, ◌/◌, ◌%◌, List, [], ◌∷◌, Bool, cond, length, ltb, leb, eqb}
use Rattle.std.proofs.Math.ListN.{get_or}
use Rattle.rules.specs.declared.TroubleKind.TheVariants.{Short, Long, Loose}
use Rattle.rules.specs.declared.Trouble.{Trouble}
use Rattle.rules.specs.Answers.{refusal}

-- the bytes of a number: one, two or three groups, and the last of several is not zero
unfoldable pub number_bytes : ℕ → List ℕ
number_bytes n =
    cond (ltb n 128) (n ∷ [])
    (cond (ltb n 16384) ((128 + n % 128) ∷ (n / 128) ∷ [])
    ((128 + n % 128) ∷ (128 + n / 128 % 128) ∷ (n / 16384) ∷ []))

-- a value that was read and the place after it, or the first trouble
pub data Reading (A : Type 0) : Type 0 where
  got : A → ℕ → Reading A
  bad : Trouble → Reading A

-- reads on after what was read; a trouble stays
abbrev pub then : {A B : Type 0} → Reading A → (A → ℕ → Reading B) → Reading B
then (got x at) f = f x at
then (bad t) f = bad t

-- refuses where a test holds, and reads on where it does not
abbrev pub unless : {A : Type 0} → Bool → Trouble → Reading A → Reading A
unless b t r = cond b (bad t) r

module _ (s : List ℕ) (at : ℕ) where
  -- SHORT: the bytes end inside a number, or before a number that is due; placed at the length of the input
  abbrev pub short : Trouble
  short = refusal Short (length s)

  -- LONG: a third group says that another follows; placed at that group
  abbrev pub long : Trouble
  long = refusal Long (at + 2)

  -- LOOSE: the last of several groups is zero; placed at that group, the k-th after the first
  abbrev pub loose : ℕ → Trouble
  loose k = refusal Loose (at + k)

  -- the third group, after two that are worth `low`
  unfoldable pub third_group : ℕ → Reading ℕ
  third_group low =
      let b = get_or s (at + 2) 0 in
      unless (leb (length s) (at + 2)) short
      (unless (eqb b 0) (loose 2)
      (cond (ltb b 128) (got (low + 16384 * b) (at + 3)) (bad long)))

  -- the second group, after one that is worth `low`
  unfoldable pub second_group : ℕ → Reading ℕ
  unfolding third_group
  second_group low =
      let b = get_or s (at + 1) 0 in
      unless (leb (length s) (at + 1)) short
      (unless (eqb b 0) (loose 1)
      (cond (ltb b 128) (got (low + 128 * b) (at + 2)) (third_group (low + 128 * (b - 128)))))

  -- the number at a place
  unfoldable pub number_at : Reading ℕ
  unfolding second_group
  number_at =
      let b = get_or s at 0 in
      unless (leb (length s) at) short
      (cond (ltb b 128) (got b (at + 1)) (second_group (b - 128)))
