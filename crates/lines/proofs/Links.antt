-- Laws of the lines of links: how long they are at most, and whose lines they are.
--   lines_room      the lines up to a link, and its own, are no longer than all
--   lines_front     lists may be cut behind the links whose lines are put
--   lines_length    a line has at most 18 bytes: twice 5 digits, a space, and the longest word
--   links_lines     over the numbers of a list of links they are the lines of the rules
-- Assumes nothing.
use Prim.Native.Nat.{ℕ, zero, suc, ◌+◌, ◌*◌, ◌^◌, ◌≤◌, ◌<◌}
use mathlib.Core.Path.{◌≡◌, refl, sym, ◌∙◌}
use mathlib.Core.Logic.{⊎_elim}
use mathlib.Core.List.{List, [], ◌∷◌, ◌++◌, map, append_assoc, append-nil}
use native.Mathlib.Nat.{le_refl, eq-or-lt_of_le}
use native.Mathlib.Omega.{arith}
use lib.ListN.{length, get_or, take, length-append}
use lib.Seq.{get_or-take}
use Rattle.rules.specs.declared.Why.{Why as RecordWhy}
use Rattle.rules.specs.declared.Why.TheVariants.{Ring, Chain, Back}
use Rattle.rules.specs.Plan.{Why, Link, why_number, why_numbered}
use Rattle.rules.specs.Plan.Why.{ring, chain, back}
use Rattle.rules.specs.Text.{word, decimal, why_word, link_lines}
use Rattle.buffer.specs.Words.{labelled}
use Rattle.buffer.proofs.Decimal.{decimal_length}
use Rattle.lines.specs.Lines.{why_text, line, lines_of}

-- the line of the link at place i of three lists of numbers
abbrev pub line_at : List ℕ → List ℕ → List ℕ → ℕ → List ℕ
line_at f t w i = line (get_or f i 0) (get_or t i 0) (why_numbered (get_or w i 0))

-- the lines of fewer links are no longer
lines_mono : (f t w : List ℕ) (i n : ℕ) → i ≤ n → length (lines_of f t w i) ≤ length (lines_of f t w n)
unfolding lines_of
lines_mono f t w i zero h = let e : i ≡ 0 = omega arith in rw e (le_refl 0)
lines_mono f t w i (suc n) h =
    ⊎_elim
    (λ (e : i ≡ suc n). rw e (le_refl (length (lines_of f t w (suc n)))))
    (λ (l : i < suc n).
    omega (arith, lines_mono f t w i n (omega arith), length-append (lines_of f t w n) (line_at f t w n)))
    (eq-or-lt_of_le h)

-- the lines of the links up to one of them, and its own, are no longer than all
pub lines_room : (f t w : List ℕ) (i n : ℕ) → i < n
    → length (lines_of f t w i) + length (line_at f t w i) ≤ length (lines_of f t w n)
unfolding lines_of
lines_room f t w i n h =
    omega (arith, lines_mono f t w (suc i) n h, length-append (lines_of f t w i) (line_at f t w i))

-- the lines of the first n links are those of lists that are cut behind them
pub lines_front : (f t w : List ℕ) (k n : ℕ) → n ≤ k
    → lines_of (take k f) (take k t) (take k w) n ≡ lines_of f t w n
unfolding lines_of
lines_front f t w k zero h = refl
lines_front f t w k (suc n) h =
    rw (lines_front f t w k n (omega arith), get_or-take k f n 0 h, get_or-take k t n 0 h, get_or-take k w n 0 h)

-- the word of a why has at most seven bytes
why_length : (y : RecordWhy) → length (why_text y) ≤ 7
unfolding word
why_length Ring = omega arith
why_length Chain = omega arith
why_length Back = omega arith

-- a line has at most 18 bytes
line_length : (a b : ℕ) (y : RecordWhy) → a < 2 ^ 16 → b < 2 ^ 16 → length (line a b y) ≤ 18
unfolding line labelled word
line_length a b y small little =
    let from : length (decimal a) ≤ 5 = decimal_length 5 a (omega arith) (omega arith) (omega arith) in
    let to : length (decimal b) ≤ 5 = decimal_length 5 b (omega arith) (omega arith) (omega arith) in
    simp length-append (omega (arith, why_length y))

-- the lines of n links have at most 18 n bytes
pub lines_length : (f t w : List ℕ) (n : ℕ) → ((i : ℕ) → get_or f i 0 < 2 ^ 16) → ((i : ℕ) → get_or t i 0 < 2 ^ 16)
    → length (lines_of f t w n) ≤ 18 * n
unfolding lines_of
lines_length f t w zero small little = omega arith
lines_length f t w (suc n) small little =
    omega (
      arith,
      lines_length f t w n small little,
      line_length (get_or f n 0) (get_or t n 0) (why_numbered (get_or w n 0)) (small n) (little n),
      length-append (lines_of f t w n) (line_at f t w n),
    )

-- the first line stands first
lines_cons : (f t w : List ℕ) (a b k n : ℕ)
    → lines_of (a ∷ f) (b ∷ t) (k ∷ w) (suc n) ≡ line a b (why_numbered k) ++ lines_of f t w n
unfolding lines_of
lines_cons f t w a b k zero = sym (append-nil (line a b (why_numbered k)))
lines_cons f t w a b k (suc n) =
    rw (lines_cons f t w a b k n) (append_assoc (line a b (why_numbered k)) (lines_of f t w n) (line_at f t w n))

-- the word of a why by its number is its word
why_words : (y : Why) → why_text (why_numbered (why_number y)) ≡ why_word y
unfolding why_word
why_words ring = refl
why_words chain = refl
why_words back = refl

-- the line of a link, before other bytes
link_line : (l : Link) (rest : List ℕ)
    → line l.start l.end (why_numbered (why_number l.why)) ++ rest
    ≡ decimal l.start ++ (word " " ++ (decimal l.end ++ (why_word l.why ++ rest)))
unfolding line labelled
link_line l rest = rw (why_words l.why) (simp append_assoc)

-- over the numbers of a list of links, with any others after them, they are the lines of the rules
pub links_lines : (ls : List Link) (f t w : List ℕ)
    → lines_of (map (λ (l : Link). l.start) ls ++ f) (map (λ (l : Link). l.end) ls ++ t)
    (map (λ (l : Link). why_number l.why) ls ++ w) (length ls)
    ≡ link_lines ls
unfolding lines_of link_lines
links_lines [] f t w = refl
links_lines (l ∷ ls) f t w =
    lines_cons _ _ _ l.start l.end (why_number l.why) (length ls)
    ∙ rw (links_lines ls f t w) (link_line l (link_lines ls))
