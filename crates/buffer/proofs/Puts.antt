-- Laws of texts put on a page: the length of its buffer is kept, and two puts are one put of both texts.
--   put_paste      a put is the library's copy of a whole list
--   put_length     the buffer keeps its length
--   appended_none  where nothing was put, no text was
--   appended_then  one text put after another is both put
-- The idea: the library's laws of a copy carry over.
-- Assumes nothing.
use Prim.Native.Nat.{ℕ, ◌+◌, ◌≤◌}
use mathlib.Core.Path.{◌≡◌, refl, sym, ◌∙◌}
use mathlib.Core.List.{List, [], ◌++◌}
use native.Mathlib.Nat.{le_refl}
use native.Mathlib.Omega.{arith}
use lib.ListN.{length, length-append}
use lib.Seq.{paste, take-length, length-paste}
use Rattle.std.proofs.lemmas.List.Edits.{paste_none, paste-paste}
use Rattle.buffer.specs.declared.Page.{Page}
use Rattle.buffer.specs.Put.{put, Appended}

-- a put is the copy of a whole list
pub put_paste : (out : List ℕ) (at : ℕ) (s : List ℕ) → put out at s ≡ paste out at s (length s)
unfolding put
put_paste out at s = rw take-length

-- the buffer keeps its length
pub put_length : (out : List ℕ) (at : ℕ) (s : List ℕ) → at + length s ≤ length out → length (put out at s) ≡ length out
put_length out at s h = rw put_paste (length-paste out at s (length s) h (le_refl (length s)))

-- one put after another is one put of both
put_put : (out : List ℕ) (at : ℕ) (a b : List ℕ) → at ≤ length out
    → put (put out at a) (at + length a) b ≡ put out at (a ++ b)
put_put out at a b h =
    put_paste (put out at a) (at + length a) b
    ∙ rw (put_paste out at a, put_paste out at (a ++ b), length-append a b)
    (paste-paste out at a b (length a) (length b) refl refl h)

-- where nothing was put, no text was
pub appended_none : (p : Page) → p.len ≤ length p.bytes.now → Appended p [] p
appended_none p h =
    record {
      stop = omega arith;
      buffer = paste_none p.bytes.now p.len [] ∙ sym (put_paste p.bytes.now p.len []);
      capacity = refl;
      within = h;
      same_reference = refl;
    }

-- one text put after another is both put
pub appended_then : {p q r : Page} {a b : List ℕ} → Appended p a q → Appended q b r → Appended p (a ++ b) r
appended_then {p} {q} {r} {a} {b} v w =
    let fits : p.len ≤ length p.bytes.now = omega arith in
    record {
      stop = omega (arith, length-append a b);
      buffer = w.buffer ∙ rw (v.buffer, v.stop) (put_put p.bytes.now p.len a b fits);
      capacity = w.capacity ∙ v.capacity;
      within = w.within;
      same_reference = w.same_reference ∙ v.same_reference;
    }
