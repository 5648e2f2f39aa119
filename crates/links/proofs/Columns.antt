-- The links in work memory are three columns: starts, ends and whys. More links behind those that are there, put
-- column by column, make each column longer.
--   column_more, column_kept   links more in a column; links more in another column
--   joined                two copies and a fill put n links of one why
--   RowOf v a b n k ls   the links ls go from the n elements of v after a to those after b, and their why has number
--                         k
--   Inside p a n          the n elements after a lie behind the stations' place and before the whys
--   Wrote p v u ls  u is v with the links ls put, and the same inside and behind the whys
--   row_joins             a row of elements;  joinable   there is room for it;  wrote_more   it is put
-- The idea: starts and ends lie before the stations, and the whys behind all lists. Assumes nothing.
use mathlib.Core.Path.{◌≡◌, refl, sym, ap, ◌∙◌}
use mathlib.Core.Logic.{◌⊎◌, inl, inr, ⊎_elim, ⊎_swap}
use mathlib.Core.List.{List, [], ◌++◌, map, map-append}
use Prim.Native.Nat.{ℕ, ◌+◌, ◌≤◌}
use native.Mathlib.Omega.{arith}
use lib.ListN.{length, drop, replicate, length-append, length-map}
use lib.Seq.{sets, length-sets}
use Rattle.rules.specs.Plan.{Why, why_number, Link}
use Rattle.memory.specs.Regions.{part, Holds}
use Rattle.memory.specs.Storing.{Copied}
use Rattle.memory.proofs.Regions.{part_long}
use Rattle.stations.specs.declared.Counts.{Counts}
use Rattle.workmap.specs.declared.LinksAt.{LinksAt}
use Rattle.workmap.specs.declared.Side.{Side}
use Rattle.links.specs.Stores.{Joinable, LinksJoined}
use Rattle.stations.specs.Stations.{stations_end}
use Rattle.links.specs.Linking.{Linkable}
use Rattle.memory.proofs.Stores.{drop_sets, part_sets, holds_sets, holds_more}
use Rattle.links.proofs.Shapes.{joins, joins_start, joins_end, joins_why, joins_long}

-- where a link starts, where it ends, and the number of its why
abbrev start_of : Link → ℕ
start_of l = l.start

abbrev end_of : Link → ℕ
end_of l = l.end

abbrev why_of : Link → ℕ
why_of l = why_number l.why

-- the three columns of a list of links
abbrev pub starts : List Link → List ℕ
starts ls = map start_of ls

abbrev pub ends : List Link → List ℕ
ends ls = map end_of ls

abbrev pub whys : List Link → List ℕ
whys ls = map why_of ls

-- more links make a column longer
column_more : (u : List ℕ) (f : Link → ℕ) (at : ℕ) (ls ms : List Link) →
    at + (length ls + length ms) ≤ length u → Holds u at (map f ls) →
    Holds (sets u (at + length ls) (map f ms)) at (map f (ls ++ ms))
column_more u f at ls ms fits h =
    rw (map-append f ls ms)
    (holds_more u at (length ls) (map f ls) (map f ms) (sym (length-map ls f)) (omega (arith, length-map ms f)) h)

-- more links in another column leave a column as it is
column_kept : (u : List ℕ) (f g : Link → ℕ) (zones at to : ℕ) (rs ls ms : List Link) →
    (at + zones ≤ to) ⊎ (to + zones ≤ at) → length rs ≤ zones → length ls + length ms ≤ zones →
    Holds u at (map f rs) → Holds (sets u (to + length ls) (map g ms)) at (map f rs)
column_kept u f g zones at to rs ls ms apart few more h =
    holds_sets u (to + length ls) (map g ms) at (map f rs)
    (⊎_elim
    (λ (low : at + zones ≤ to). inl (omega (arith, length-map rs f)))
    (λ (high : to + zones ≤ at). inr (omega (arith, length-map ms g)))
    apart)
    h

-- two copies and a fill put n links of one why
pub joined : {w w₁ w₂ w₃ : List ℕ} {p : LinksAt} {a b n reason at : ℕ} → Joinable w p a b n at →
    Copied w w₁ a n (p.from + at) → Copied w₁ w₂ b n (p.to + at) →
    w₃ ≡ sets w₂ (p.why + at) (replicate n reason) →
    LinksJoined w w₃ p a b n reason at
joined {w} {w₁} {p = p} {a} {b} {n} {reason} {at} J A B C =
    let long : length (part w a n) ≡ n = part_long w a n (omega (arith, J.a_fits)) in
    let kept : part w₁ b n ≡ part w b n =
    ap (λ (l : List ℕ). part l b n) A.is
    ∙ part_sets w (p.from + at) (part w a n) b n (inr (omega (arith, J.start_b)))
    in
    record { is = C ∙ ap (λ (l : List ℕ). sets l (p.why + at) (replicate n reason)) (rw (kept, A.is) at B.is) }

-- the links go from the n elements of v after a to those after b, and the number of their why is k
pub record RowOf (v : List ℕ) (a b n k : ℕ) (ls : List Link) : Type 0 where
  pub long : length ls ≡ n
  pub start : part v a n ≡ starts ls
  pub end : part v b n ≡ ends ls
  pub why : replicate n k ≡ whys ls

-- a row of elements
pub row_joins : (v : List ℕ) (a b n : ℕ) (y : Why) (xs ys : List ℕ) → part v a n ≡ xs → part v b n ≡ ys →
    length xs ≡ n → length ys ≡ n → RowOf v a b n (why_number y) (joins y xs ys)
row_joins v a b n y xs ys from to f g =
    record {
      long = joins_long y xs ys (f ∙ sym g) ∙ f;
      start = from ∙ sym (joins_start y xs ys (f ∙ sym g));
      end = to ∙ sym (joins_end y xs ys (f ∙ sym g));
      why = ap (λ (m : ℕ). replicate m (why_number y)) (sym f) ∙ sym (joins_why y xs ys (f ∙ sym g));
    }

-- the n elements after a lie behind the stations' place and before the whys
pub record Inside (p : Side) (a n : ℕ) : Type 0 where
  pub low : p.links.stations ≤ a
  pub high : a + n ≤ p.links.why

-- u is v with the links put
pub record Wrote (p : Side) (v u : List ℕ) (ls : List Link) : Type 0 where
  pub long : length u ≡ length v
  pub start : Holds u p.links.from (starts ls)
  pub end : Holds u p.links.to (ends ls)
  pub why : Holds u p.links.why (whys ls)
  pub inner : (at m : ℕ) → Inside p at m → part u at m ≡ part v at m
  pub behind : drop (p.links.why + p.rows.zones) u ≡ drop (p.links.why + p.rows.zones) v

-- at first no link is there
pub wrote_none : (p : Side) (v : List ℕ) → Wrote p v v []
wrote_none p v =
    record { long = refl; start = refl; end = refl; why = refl; inner = λ at m i. refl; behind = refl }

module _ (w : List ℕ) (n : Counts) (p : Side) (L : Linkable w n p) where
  -- the stations' place lies before the whys
  between : stations_end p ≤ p.links.why
  between = omega (arith, L.placed.w_apart, L.placed.w_fits)

  -- there is room for a row of k links behind the first `at` links
  pub joinable : (u : List ℕ) (a b k at : ℕ) → length u ≡ length w → at + k ≤ p.rows.zones → Inside p a k → Inside p
      b k →
      Joinable u p.links a b k at
  joinable u a b k at long few A B =
      let s : p.links.from + p.rows.zones ≤ p.links.stations = L.start_before in
      let e : p.links.to + p.rows.zones ≤ p.links.stations = L.end_before in
      let y : p.links.why + p.rows.zones ≤ length w = L.placed.why_fits in
      record {
        start_a = omega (arith, A.low);
        start_b = omega (arith, B.low);
        end_b = omega (arith, B.low);
        a_fits = omega (arith, A.high);
        b_fits = omega (arith, B.high);
        why_fits = omega arith;
      }

  module _
      (v u : List ℕ)
      (ls ms : List Link)
      (v_long : length v ≡ length w)
      (few : length ls + length ms ≤ p.rows.zones)
      (W : Wrote p v u ls)
    where
      -- the memory with the starts
      abbrev one : List ℕ
      one = sets u (p.links.from + length ls) (starts ms)

      -- ... and the ends
      abbrev two : List ℕ
      two = sets one (p.links.to + length ls) (ends ms)

      -- ... and the whys
      abbrev three : List ℕ
      three = sets two (p.links.why + length ls) (whys ms)

      -- the lengths of the three
      one_long : length one ≡ length u
      one_long = length-sets u (p.links.from + length ls) (starts ms)

      two_long : length two ≡ length u
      two_long = length-sets one (p.links.to + length ls) (ends ms) ∙ one_long

      three_long : length three ≡ length u
      three_long = length-sets two (p.links.why + length ls) (whys ms) ∙ two_long

      -- all columns lie in the memory
      start_fits : p.links.from + (length ls + length ms) ≤ length u
      start_fits = omega (arith, W.long, L.start_before, between, L.placed.why_fits)

      end_fits : p.links.to + (length ls + length ms) ≤ length one
      end_fits = omega (arith, W.long, one_long, L.end_before, between, L.placed.why_fits)

      why_fits : p.links.why + (length ls + length ms) ≤ length two
      why_fits = omega (arith, W.long, two_long, L.placed.why_fits)

      -- all links are no more than the zones
      all_few : length (ls ++ ms) ≤ p.rows.zones
      all_few = simp length-append few

      -- starts and ends lie before the whys
      start_low : p.links.from + p.rows.zones ≤ p.links.why
      start_low = omega (arith, L.start_before, between)

      end_low : p.links.to + p.rows.zones ≤ p.links.why
      end_low = omega (arith, L.end_before, between)

      -- the starts are put first
      start_put : Holds three p.links.from (starts (ls ++ ms))
      start_put =
          column_kept two start_of why_of p.rows.zones p.links.from p.links.why (ls ++ ms) ls ms
          (inl start_low) all_few few
          (column_kept one start_of end_of p.rows.zones p.links.from p.links.to (ls ++ ms) ls ms
          L.apart all_few few
          (column_more u start_of p.links.from ls ms start_fits W.start))

      -- then the ends
      end_put : Holds three p.links.to (ends (ls ++ ms))
      end_put =
          column_kept two end_of why_of p.rows.zones p.links.to p.links.why (ls ++ ms) ls ms (inl end_low)
          all_few few
          (column_more one end_of p.links.to ls ms end_fits
          (column_kept u end_of start_of p.rows.zones p.links.to p.links.from ls ls ms (⊎_swap L.apart)
          (omega arith) few
          W.end))

      -- then the whys
      why_put : Holds three p.links.why (whys (ls ++ ms))
      why_put =
          column_more two why_of p.links.why ls ms why_fits
          (column_kept one why_of end_of p.rows.zones p.links.why p.links.to ls ls ms (inr end_low)
          (omega arith) few
          (column_kept u why_of start_of p.rows.zones p.links.why p.links.from ls ls ms (inr start_low)
          (omega arith) few
          W.why))

      -- what lies inside is as it was
      inner_put : (at m : ℕ) → Inside p at m → part three at m ≡ part v at m
      inner_put at m I =
          part_sets two (p.links.why + length ls) (whys ms) at m (inl (omega (arith, I.high)))
          ∙ part_sets one (p.links.to + length ls) (ends ms) at m
          (inr (omega (arith, I.low, L.end_before, length-map ms end_of)))
          ∙ part_sets u (p.links.from + length ls) (starts ms) at m
          (inr (omega (arith, I.low, L.start_before, length-map ms start_of)))
          ∙ W.inner at m I

      -- what lies behind the whys is as it was
      behind_put : drop (p.links.why + p.rows.zones) three ≡ drop (p.links.why + p.rows.zones) v
      behind_put =
          drop_sets two (p.links.why + length ls) (whys ms) (p.links.why + p.rows.zones)
          (omega (arith, length-map ms why_of))
          ∙ drop_sets one (p.links.to + length ls) (ends ms) (p.links.why + p.rows.zones)
          (omega (arith, end_low, length-map ms end_of))
          ∙ drop_sets u (p.links.from + length ls) (starts ms) (p.links.why + p.rows.zones)
          (omega (arith, start_low, length-map ms start_of))
          ∙ W.behind

      -- the links are put behind those that are there
      wrote_three : Wrote p v three (ls ++ ms)
      wrote_three =
          record {
            long = three_long ∙ W.long;
            start = start_put;
            end = end_put;
            why = why_put;
            inner = inner_put;
            behind = behind_put;
          }

      -- a row is put behind the links that are there
      pub wrote_more : (u' : List ℕ) (a b k y at : ℕ) → RowOf v a b k y ms → Inside p a k → Inside p b k →
          at ≡ length ls → LinksJoined u u' p.links a b k y at → Wrote p v u' (ls ++ ms)
      wrote_more u' a b k y at R A B e J =
          let from : part u a k ≡ starts ms = W.inner a k A ∙ R.start in
          let to : part u b k ≡ ends ms = W.inner b k B ∙ R.end in
          let is : u' ≡ three = rw (e, from, to, R.why) at J.is in
          rw is wrote_three
