-- Laws of filling a lent list of records from three columns of numbers.
--   filled_length     filling keeps the list's length
--   columns_record    the record of index i of three columns is the record of the link of index i
--   filled_is         filling from the columns of links gives their records, and past them what was there
--   filled_front      filling the front of a list leaves what stands behind it
-- The first k records of a filled list are the first k of the links, by induction on k.
-- Assumes nothing.
use mathlib.Core.Path.{◌≡◌, refl, sym, ap, ◌∙◌}
use mathlib.Core.List.{List, [], ◌∷◌, ◌++◌, map}
use Prim.Native.Nat.{ℕ, zero, suc, ◌≤◌, ◌<◌}
use native.Mathlib.Nat.{not-suc-le-zero, le_of_suc-le-suc}
use native.Mathlib.Omega.{arith}
use lib.ListN.{length, get_or, set, take, drop, length-set, length-map}
use lib.Seq.{take-length}
use Rattle.std.proofs.lemmas.List.{set-append_left}
use Rattle.rules.specs.Plan.{ring, chain, back, why_number, why_of, why_numbered, record_of}
use Rattle.rules.specs.Plan as Plan
use Rattle.rules.specs.Lists.{over}
use Rattle.workmap.specs.declared.LinksAt.{LinksAt}
use Rattle.memory.specs.Regions.{Holds}
use Rattle.memory.proofs.Regions.{holds_at}
use Rattle.rules.specs.declared.Why.{Why}
use Rattle.rules.specs.declared.Link.{Link}
use Rattle.columns.specs.Columns.{link_at, filled}

-- filling keeps the list's length
pub filled_length : (w : List ℕ) (at : LinksAt) (xs : List Link) (k : ℕ) → length (filled w at xs k) ≡ length xs
unfolding filled
filled_length w at xs zero = refl
filled_length w at xs (suc k) = rw length-set (filled_length w at xs k)

-- the why of the number of a why
why_again : (y : Plan.Why) → why_numbered (why_number y) ≡ why_of y
why_again ring = refl
why_again chain = refl
why_again back = refl

-- the three columns of some links
abbrev starts : List Plan.Link → List ℕ
starts ls = map (λ (l : Plan.Link). l.start) ls

abbrev ends : List Plan.Link → List ℕ
ends ls = map (λ (l : Plan.Link). l.end) ls

abbrev whys : List Plan.Link → List ℕ
whys ls = map (λ (l : Plan.Link). why_number l.why) ls

-- the record with the numbers of index i of the columns is the record of the link of index i
columns_at : (ls : List Plan.Link) (i : ℕ) (d : Link) → i < length ls →
    record { from = get_or (starts ls) i 0; to = get_or (ends ls) i 0; why = why_numbered (get_or (whys ls) i 0) }
    ≡ get_or (map record_of ls) i d
columns_at [] i d h = absurd (not-suc-le-zero h)
columns_at (l ∷ ls) zero d h = ap (λ (y : Why). record { from = l.start; to = l.end; why = y }) (why_again l.why)
columns_at (l ∷ ls) (suc i) d h = columns_at ls i d (le_of_suc-le-suc h)

-- storing the next record of a list
stores_next : (rs xs : List Link) (k : ℕ) (d : Link) → k < length rs → k < length xs →
    set (take k rs ++ drop k xs) k (get_or rs k d) ≡ take (suc k) rs ++ drop (suc k) xs
stores_next [] xs k d h g = absurd (not-suc-le-zero h)
stores_next (r ∷ rs) [] k d h g = absurd (not-suc-le-zero g)
stores_next (r ∷ rs) (x ∷ xs) zero d h g = refl
stores_next (r ∷ rs) (x ∷ xs) (suc k) d h g =
    ap (λ (l : List Link). r ∷ l) (stores_next rs xs k d (le_of_suc-le-suc h) (le_of_suc-le-suc g))

module _ (w : List ℕ) (at : LinksAt) (ls : List Plan.Link) (starts_held : Holds w at.from (starts ls))
    (ends_held : Holds w at.to (ends ls)) (whys_held : Holds w at.why (whys ls)) (xs : List Link)
    (room : length ls ≤ length xs) where
  -- the record of index i of the three columns is the record of the link of index i
  columns_record : (i : ℕ) (d : Link) → i < length ls → link_at w at i ≡ get_or (map record_of ls) i d
  columns_record i d h =
      let s = holds_at w at.from (starts ls) starts_held i (rw (length-map ls (λ (l : Plan.Link). l.start)) h) in
      let e = holds_at w at.to (ends ls) ends_held i (rw (length-map ls (λ (l : Plan.Link). l.end)) h) in
      let y =
      holds_at w at.why (whys ls) whys_held i (rw (length-map ls (λ (l : Plan.Link). why_number l.why)) h)
      in
      (λ j. record { from = s j; to = e j; why = why_numbered (y j) }) ∙ columns_at ls i d h

  -- the first k records are those of the first k links
  filled_first : (k : ℕ) → k ≤ length ls → filled w at xs k ≡ take k (map record_of ls) ++ drop k xs
  unfolding filled
  filled_first zero h = refl
  filled_first (suc k) h =
      (λ j. set (filled_first k (omega arith) j) k (columns_record k (link_at w at k) h j))
      ∙ stores_next (map record_of ls) xs k (link_at w at k) (rw (length-map ls record_of) h) (omega arith)

  -- filling gives the records of the links, and past them what was there
  pub filled_is : filled w at xs (length ls) ≡ over (map record_of ls) xs
  filled_is =
      filled_first (length ls) (omega arith)
      ∙ ap (λ (k : ℕ). take k (map record_of ls) ++ drop k xs) (sym (length-map ls record_of))
      ∙ ap (λ (l : List Link). l ++ drop (length (map record_of ls)) xs) (take-length (map record_of ls))

-- filling the front of a list leaves what stands behind it
pub filled_front : (w : List ℕ) (at : LinksAt) (xs ys : List Link) (k : ℕ) → k ≤ length xs →
    filled w at (xs ++ ys) k ≡ filled w at xs k ++ ys
unfolding filled
filled_front w at xs ys zero h = refl
filled_front w at xs ys (suc k) h =
    ap (λ (l : List Link). set l k (link_at w at k)) (filled_front w at xs ys k (omega arith))
    ∙ set-append_left (filled w at xs k) ys k (link_at w at k) (omega (arith, filled_length w at xs k))
