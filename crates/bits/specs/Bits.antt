-- A table of bits in a list of 16-bit words, and what setting bits leaves, as functions of lists.
--   bit w j                whether bit j of the number w is set, the lowest bit being bit 0
--   bit_in w words a b     whether bit b of row a is set; row a is the `words` elements from a * words on
--   with_bit w words a b   bit b of row a set
--   with_word w i k        the bits of the element at k set in the element at i
--   with_words w i k n     the same for n elements from i on and from k on, one after another
use Rattle.std.specs.Prelude.{ℕ, zero, suc, ◌+◌, ◌*◌, ◌/◌, ◌%◌, ◌^◌, Bool, List, eqb, get_or, set}
use Rattle.std.specs.Int.Bits.{bit_or}

-- whether bit j of w is set
unfoldable pub bit : ℕ → ℕ → Bool
bit w j = eqb (w / 2 ^ j % 2) 1

-- whether bit b of row a is set
unfoldable pub bit_in : List ℕ → ℕ → ℕ → ℕ → Bool
unfolding bit
bit_in w words a b = bit (get_or w (a * words + b / 16) 0) (b % 16)

-- bit b of row a set
unfoldable pub with_bit : List ℕ → ℕ → ℕ → ℕ → List ℕ
with_bit w words a b =
    set w (a * words + b / 16) (bit_or (get_or w (a * words + b / 16) 0) (2 ^ (b % 16)))

-- the bits of the element at k set in the element at i
abbrev pub with_word : List ℕ → ℕ → ℕ → List ℕ
with_word w i k = set w i (bit_or (get_or w i 0) (get_or w k 0))

-- the bits of n elements from k on set in those from i on
unfoldable pub with_words : List ℕ → ℕ → ℕ → ℕ → List ℕ
with_words w i k zero = w
with_words w i k (suc n) = with_word (with_words w i k n) (i + n) (k + n)
