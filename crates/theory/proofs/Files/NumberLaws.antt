-- A number of a network file: reading undoes writing, and only the shortest form is read.
--   Bytes s                  each element is below 256
--   Groups s at n next       the groups of n stand in s from `at` up to `next`: one, two or three of them
--   number_groups, groups_number      a number is read exactly where its groups stand
--   groups_stand, stand_groups        the groups of n, as bytes, are the bytes that n is written as
--   Split n                  a number below 2 ^ 21, taken apart into its groups
--   number_stands, stands_number      a number is read exactly where the bytes that it is written as stand
--   number_bytes_bytes       a number is written in bytes
--   length_one, length_two, length_three, length_short, length_bounds      how many bytes a number has
--   number_next, number_alike         how far a number reaches, and that only its own three bytes matter
-- The tests of a reading that succeeds give its groups, and the groups pass those tests; from groups to bytes it is
-- linear arithmetic over quotients and remainders by 128. Assumes nothing.
use Prim.Native.Nat.{ℕ, zero, suc, ◌+◌, ◌-◌, ◌*◌, ◌/◌, ◌%◌, ◌<◌, ◌≤◌}
use native.Mathlib.Omega.{arith}
use native.Mathlib.Nat.{add-mul-mod_self_left, mod-eq_of_lt, mod-add-div, mod-lt}
use native.Mathlib.Nat.{add-mul-div_left, div-eq_of_lt, div-div-eq-div-mul, zero-add}
use native.Mathlib.Decide.{dec_lt}
use mathlib.Core.Path.{◌≡◌, refl, sym, ◌∙◌, ap}
use mathlib.Core.Logic.{inl, inr}
use mathlib.Core.Bool.{false}
use mathlib.Core.List.{List, [], ◌∷◌, ◌++◌}
use lib.ListN.{length, get_or}
use lib.Dec.{ltb, leb, eqb, lit<}
use borrow.Author.Tests.{ltb-true, ltb-false, leb-false, eqb-false, lt-ltb, le-ltb, lt-leb, ne_eqb}
use Rattle.rules.specs.Number.{number_bytes, got, number_at, second_group, third_group}
use Rattle.theory.proofs.Files.Readings.{unless_got, cond_cases, bad_not_got, got_value, got_place, Stands}
use Rattle.theory.proofs.Files.Readings.{stands_right, stands_first, first_stands, stands_nothing}

-- each element is below 256
abbrev pub Bytes : List ℕ → Type 0
Bytes s = (i : ℕ) → get_or s i 0 < 256

-- the place is inside, and the byte there is b
abbrev Byte : List ℕ → ℕ → ℕ → Type 0
Byte s at b = (at < length s) × (get_or s at 0 ≡ b)

-- the groups of n stand in s from `at` up to `next`: one, two or three of them, and the last of several is not zero
pub data Groups (s : List ℕ) (at n next : ℕ) : Type 0 where
  one : Byte s at n → n < 128 → next ≡ at + 1 → Groups s at n next
  two : (a b : ℕ) → Byte s at (128 + a) → Byte s (at + 1) b → 0 < b → b < 128
      → n ≡ a + 128 * b → next ≡ at + 2 → Groups s at n next
  three : (a b c : ℕ) → Byte s at (128 + a) → Byte s (at + 1) (128 + b) → Byte s (at + 2) c → 0 < c → c < 128
      → n ≡ a + 128 * b + 16384 * c → next ≡ at + 3 → Groups s at n next

-- a byte that is not below 128 says that another group follows
byte_more : (b : ℕ) → ltb b 128 ≡ false → b ≡ 128 + (b - 128)
byte_more b e = omega (arith, ltb-false b 128 e)

-- a byte that is not zero is above zero
byte_some : (b : ℕ) → eqb b 0 ≡ false → 0 < b
byte_some b e = omega (arith, eqb-false b 0 e)

module _ (s : List ℕ) (at : ℕ) where
  -- a third group that is read, after two groups that stand there
  third_groups : (a b : ℕ) {n next : ℕ} → Byte s at (128 + a) → Byte s (at + 1) (128 + b)
      → third_group s at (a + 128 * b) ≡ got n next → Groups s at n next
  unfolding third_group
  third_groups a b f g e =
      let c = get_or s (at + 2) 0 in
      let long = unless_got (leb (length s) (at + 2)) _ _ e in
      let some = unless_got (eqb c 0) _ _ long.1 in
      elim (cond_cases (ltb c 128) _ _ some.1) [
        | inl h ↦
            three a b c f g (leb-false _ _ long.0, refl) (byte_some c some.0) (ltb-true c 128 h.0)
            (sym (got_value h.1)) (sym (got_place h.1))
        | inr h ↦ absurd (bad_not_got h.1)
      ]

  -- a second group that is read, after one group that stands there
  second_groups : (a : ℕ) {n next : ℕ} → Byte s at (128 + a)
      → second_group s at a ≡ got n next → Groups s at n next
  unfolding second_group
  second_groups a f e =
      let b = get_or s (at + 1) 0 in
      let long = unless_got (leb (length s) (at + 1)) _ _ e in
      let some = unless_got (eqb b 0) _ _ long.1 in
      elim (cond_cases (ltb b 128) _ _ some.1) [
        | inl h ↦
            two a b f (leb-false _ _ long.0, refl) (byte_some b some.0) (ltb-true b 128 h.0)
            (sym (got_value h.1)) (sym (got_place h.1))
        | inr h ↦ third_groups a (b - 128) f (leb-false _ _ long.0, byte_more b h.0) h.1
      ]

  -- a number that is read stands there in groups
  pub number_groups : {n next : ℕ} → number_at s at ≡ got n next → Groups s at n next
  unfolding number_at
  number_groups e =
      let a = get_or s at 0 in
      let long = unless_got (leb (length s) at) _ _ e in
      let here = leb-false (length s) at long.0 in
      elim (cond_cases (ltb a 128) _ _ long.1) [
        | inl h ↦
            let e = got_value h.1 in
            one (here, e) (rw (e) at (ltb-true a 128 h.0)) (sym (got_place h.1))
        | inr h ↦ second_groups (a - 128) (here, byte_more a h.0) h.1
      ]

  -- a third group from 1 to 127 ends the number
  third_last : (low c : ℕ) → Byte s (at + 2) c → 0 < c → c < 128
      → third_group s at low ≡ got (low + 16384 * c) (at + 3)
  unfolding third_group
  third_last low c f z h = rw (lt-leb _ _ f.0, f.1, ne_eqb c 0 (omega arith), lt-ltb c 128 h)

  -- a second group from 1 to 127 ends the number
  second_last : (low b : ℕ) → Byte s (at + 1) b → 0 < b → b < 128
      → second_group s at low ≡ got (low + 128 * b) (at + 2)
  unfolding second_group
  second_last low b f z h = rw (lt-leb _ _ f.0, f.1, ne_eqb b 0 (omega arith), lt-ltb b 128 h)

  -- a second group above 127 is followed by a third
  second_more : (low b : ℕ) → Byte s (at + 1) (128 + b) → second_group s at low ≡ third_group s at (low + 128 * b)
  unfolding second_group
  second_more low b f =
      let x = get_or s (at + 1) 0 in
      let z : x - 128 ≡ b = omega arith in
      rw (lt-leb _ _ f.0, ne_eqb x 0 (omega arith), le-ltb x 128 (omega arith), z)

  -- a first group below 128 ends the number
  first_last : (a : ℕ) → Byte s at a → a < 128 → number_at s at ≡ got a (at + 1)
  unfolding number_at
  first_last a f h = rw (lt-leb _ _ f.0, f.1, lt-ltb a 128 h)

  -- a first group above 127 is followed by a second
  first_more : (a : ℕ) → Byte s at (128 + a) → number_at s at ≡ second_group s at a
  unfolding number_at
  first_more a f =
      let z : get_or s at 0 - 128 ≡ a = omega arith in
      rw (lt-leb _ _ f.0, le-ltb (get_or s at 0) 128 (omega arith), z)

  -- a number whose groups stand at a place is read there
  pub groups_number : {n next : ℕ} → Groups s at n next → number_at s at ≡ got n next
  groups_number (one f h e) = rw (e) (first_last _ f h)
  groups_number (two a b f g z h n e) = rw (n, e) (first_more a f ∙ second_last a b g z h)
  groups_number (three a b c f g k z h n e) =
      rw (n, e) (first_more a f ∙ second_more a b g ∙ third_last (a + 128 * b) c k z h)

-- the lowest group of a number
low_group : (a k : ℕ) → a < 128 → (a + 128 * k) % 128 ≡ a
low_group a k h = add-mul-mod_self_left a 128 k ∙ mod-eq_of_lt h

-- what stands above the lowest group
high_group : (a k : ℕ) → a < 128 → (a + 128 * k) / 128 ≡ k
high_group a k h = add-mul-div_left a k (lit< tt) ∙ ap (λ (q : ℕ). q + k) (div-eq_of_lt h) ∙ zero-add k

-- a number below 128 is one byte
pub bytes_one : (n : ℕ) → n < 128 → number_bytes n ≡ n ∷ []
unfolding number_bytes
bytes_one n h = rw (lt-ltb n 128 h)

-- a number from 128 to 16,383, by its two groups
pub number_two : (n : ℕ) → 128 ≤ n → n < 16384 → number_bytes n ≡ (128 + n % 128) ∷ (n / 128) ∷ []
unfolding number_bytes
number_two n l h = rw (le-ltb n 128 l, lt-ltb n 16384 h)

-- a number above 16,383, by its three groups
pub number_three : (n : ℕ) → 16384 ≤ n
    → number_bytes n ≡ (128 + n % 128) ∷ (128 + n / 128 % 128) ∷ (n / 16384) ∷ []
unfolding number_bytes
number_three n l = rw (le-ltb n 128 (omega arith), le-ltb n 16384 l)

-- a number from 128 to 16,383 is two bytes
pub bytes_two : (a b : ℕ) → a < 128 → 0 < b → b < 128 → number_bytes (a + 128 * b) ≡ (128 + a) ∷ b ∷ []
bytes_two a b h z g =
    let n = a + 128 * b in
    rw (low_group a b h, high_group a b h) at (number_two n (omega arith) (omega arith))

-- a number from 16,384 to 2,097,151 is three bytes
pub bytes_three : (a b c : ℕ) → a < 128 → b < 128 → 0 < c → c < 128
    → number_bytes (a + 128 * b + 16384 * c) ≡ (128 + a) ∷ (128 + b) ∷ c ∷ []
bytes_three a b c h g z k =
    let n = a + 128 * b + 16384 * c in
    let e : n ≡ a + 128 * (b + 128 * c) = omega arith in
    let mid : n / 128 ≡ b + 128 * c = ap (λ (q : ℕ). q / 128) e ∙ high_group a (b + 128 * c) h in
    let x : n % 128 ≡ a = ap (λ (q : ℕ). q % 128) e ∙ low_group a (b + 128 * c) h in
    let y : n / 128 % 128 ≡ b = ap (λ (q : ℕ). q % 128) mid ∙ low_group b c g in
    let w : n / 16384 ≡ c = sym (div-div-eq-div-mul n 128 128) ∙ ap (λ (q : ℕ). q / 128) mid ∙ high_group b c g in
    rw (x, y, w) at (number_three n (omega arith))

module _ (s : List ℕ) (at : ℕ) where
  -- the groups of a number, as bytes, are the bytes that it is written as
  pub groups_stand : {n next : ℕ} → Bytes s → Groups s at n next → Stands s at (number_bytes n) next
  groups_stand bytes (one f h e) =
      rw (bytes_one _ h) (first_stands s f.0 f.1 e (stands_nothing s _))
  groups_stand bytes (two a b f g z h n e) =
      let k : a < 128 = omega (arith, bytes at) in
      rw (n, bytes_two a b k z h)
      (first_stands s f.0 f.1 refl (first_stands s g.0 g.1 (omega arith) (stands_nothing s _)))
  groups_stand bytes (three a b c f g l z h n e) =
      let k : a < 128 = omega (arith, bytes at) in
      let m : b < 128 = omega (arith, bytes (at + 1)) in
      rw (n, bytes_three a b c k m z h)
      (first_stands s f.0 f.1 refl
      (first_stands s {mid = at + 2} g.0 g.1 (omega arith)
      (first_stands s l.0 l.1 (omega arith) (stands_nothing s _))))

  -- groups are worth less than 2 ^ 21
  pub groups_small : {n next : ℕ} → Bytes s → Groups s at n next → n < 2097152
  groups_small bytes (one f h e) = omega arith
  groups_small bytes (two a b f g z h n e) = omega (arith, bytes at)
  groups_small bytes (three a b c f g l z h n e) = omega (arith, bytes at, bytes (at + 1))

-- a number below 2 ^ 21, taken apart into its groups
data Split (n : ℕ) : Type 0 where
  one : n < 128 → Split n
  two : (a b : ℕ) → a < 128 → 0 < b → b < 128 → n ≡ a + 128 * b → Split n
  three : (a b c : ℕ) → a < 128 → b < 128 → 0 < c → c < 128 → n ≡ a + 128 * b + 16384 * c → Split n

-- each number below 2 ^ 21 has its groups
split : (n : ℕ) → n < 2097152 → Split n
split n h =
    let a = n % 128 in
    let b = n / 128 in
    let e : n ≡ a + 128 * b = sym (mod-add-div n 128) in
    let f : a < 128 = mod-lt n (lit< tt) in
    elim (dec_lt n 128) [
      | yes g ↦ one g
      | no g ↦ elim (dec_lt n 16384) [
        | yes k ↦ two a b f (omega arith) (omega arith) e
        | no k ↦
            let e' : b ≡ b % 128 + 128 * (b / 128) = sym (mod-add-div b 128) in
            three a (b % 128) (b / 128) f (mod-lt b (lit< tt)) (omega arith) (omega arith) (omega arith)
      ]
    ]

-- a byte before bytes
bytes_cons : (x : ℕ) (w : List ℕ) → x < 256 → Bytes w → Bytes (x ∷ w)
bytes_cons x w h f zero = h
bytes_cons x w h f (suc i) = f i

-- no bytes
pub bytes_none : Bytes []
bytes_none i = lit< tt

-- bytes after bytes
pub bytes_join : (v w : List ℕ) → Bytes v → Bytes w → Bytes (v ++ w)
bytes_join [] w f g = g
bytes_join (x ∷ v) w f g = bytes_cons x (v ++ w) (f 0) (bytes_join v w (λ i. f (suc i)) g)

-- a number is written in bytes
pub number_bytes_bytes : (n : ℕ) → n < 2097152 → Bytes (number_bytes n)
number_bytes_bytes n h =
    elim (split n h) [
      | one f ↦ rw (bytes_one n f) (bytes_cons n [] (omega arith) bytes_none)
      | two a b f z g e ↦
          rw (e, bytes_two a b f z g)
          (bytes_cons (128 + a) (b ∷ []) (omega arith) (bytes_cons b [] (omega arith) bytes_none))
      | three a b c f g z k e ↦
          rw (e, bytes_three a b c f g z k)
          (bytes_cons (128 + a) ((128 + b) ∷ c ∷ []) (omega arith)
          (bytes_cons (128 + b) (c ∷ []) (omega arith) (bytes_cons c [] (omega arith) bytes_none)))
    ]

-- a number below 128 has one byte
pub length_one : (n : ℕ) → n < 128 → length (number_bytes n) ≡ 1
length_one n h = rw (bytes_one n h)

-- a number from 128 to 16,383 has two bytes
pub length_two : (n : ℕ) → 128 ≤ n → n < 16384 → length (number_bytes n) ≡ 2
length_two n h g = rw (number_two n h g)

-- a number above 16,383 has three bytes
pub length_three : (n : ℕ) → 16384 ≤ n → length (number_bytes n) ≡ 3
length_three n h = rw (number_three n h)

-- a number below 16,384 has one byte or two
pub length_short : (n : ℕ) → n < 16384 → (1 ≤ length (number_bytes n)) × (length (number_bytes n) ≤ 2)
length_short n h =
    elim (dec_lt n 128) [
      | yes g ↦ omega (arith, length_one n g)
      | no g ↦ omega (arith, length_two n (omega arith) h)
    ]

-- a number has one byte, two or three
pub length_bounds : (n : ℕ) → (1 ≤ length (number_bytes n)) × (length (number_bytes n) ≤ 3)
length_bounds n =
    elim (dec_lt n 16384) [
      | yes g ↦ omega (arith, length_short n g)
      | no g ↦ omega (arith, length_three n (omega arith))
    ]

module _ (s : List ℕ) (at : ℕ) where
  -- where the bytes that a number is written as stand, its groups stand
  pub stand_groups : {n next : ℕ} → n < 2097152 → Stands s at (number_bytes n) next → Groups s at n next
  stand_groups {n} {next} h f =
      elim (split n h) [
        | one g ↦
            let k : Stands s at (n ∷ []) next = rw (bytes_one n g) at f in
            one (stands_first s [] k) g k.places
        | two a b g z k e ↦
            let l : Stands s at ((128 + a) ∷ b ∷ []) next = rw (e, bytes_two a b g z k) at f in
            two a b (stands_first s _ l) (stands_first s _ (stands_right s ((128 + a) ∷ []) (b ∷ []) l))
            z k e l.places
        | three a b c g k z m e ↦
            let l : Stands s at ((128 + a) ∷ (128 + b) ∷ c ∷ []) next = rw (e, bytes_three a b c g k z m) at f in
            three a b c (stands_first s _ l)
            (stands_first s _ (stands_right s ((128 + a) ∷ []) ((128 + b) ∷ c ∷ []) l))
            (stands_first s _ (stands_right s ((128 + a) ∷ (128 + b) ∷ []) (c ∷ []) l))
            z m e l.places
      ]

  -- a number that is read is below 2 ^ 21, and the bytes that it is written as stand there
  pub number_stands : {n next : ℕ} → Bytes s → number_at s at ≡ got n next
      → (n < 2097152) × Stands s at (number_bytes n) next
  number_stands bytes e =
      let g = number_groups s at e in
      (groups_small s at bytes g, groups_stand s at bytes g)

  -- a number below 2 ^ 21 is read where the bytes that it is written as stand
  pub stands_number : {n next : ℕ} → n < 2097152 → Stands s at (number_bytes n) next → number_at s at ≡ got n next
  stands_number h f = groups_number s at (stand_groups h f)

  -- a number that is read and below 16,384 has at most two bytes
  pub number_next : {n next : ℕ} → number_at s at ≡ got n next → n < 16384 → (at < next) × (next ≤ at + 2)
  number_next e h =
      elim (number_groups s at e) [
        | one f g p ↦ omega arith
        | two a b f g z k n p ↦ omega arith
        | three a b c f g l z k n p ↦ omega arith
      ]

-- a number is read alike from two lists that hold the same bytes there
pub number_alike : (s t : List ℕ) (at : ℕ) → at + 2 < length s → at + 2 < length t
    → ((i : ℕ) → i ≤ at + 2 → get_or s i 0 ≡ get_or t i 0) → number_at s at ≡ number_at t at
unfolding number_at second_group third_group
number_alike s t at h k same =
    rw (
      lt-leb (length s) at (omega arith),
      lt-leb (length t) at (omega arith),
      lt-leb (length s) (at + 1) (omega arith),
      lt-leb (length t) (at + 1) (omega arith),
      lt-leb (length s) (at + 2) h,
      lt-leb (length t) (at + 2) k,
      same at (omega arith),
      same (at + 1) (omega arith),
      same (at + 2) (omega arith),
    )
