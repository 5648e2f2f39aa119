-- `buffer::Page::put_bytes` meets its contract: the part of the buffer after the text becomes the bytes.
-- Assumes nothing.
use Prim.Native.Nat.{◌+◌, ◌-◌}
use mathlib.Core.Path.{◌≡◌, refl, sym, ap, ◌∙◌}
use native.Mathlib.Omega.{arith}
use borrow.Rule.Slice.PartMut.{put_mid}
use Rattle.std.proofs.Common.{length}
use Rattle.std.proofs.lemmas.Slice.{put_mid-paste}
use Rattle.buffer.specs.Put.{put}
use Rattle.buffer.proofs.Puts.{put_paste, put_length}
use Rattle.buffer.proofs.Page.put_bytes.Goals as goal

pub returns : goal.returns
returns c =
    let p = c.args.self.now in
    let s = c.args.s.now in
    let k = p.len + length s - p.len in
    let now : put_mid p.len k p.bytes.now c.copy_from_slice.new.self ≡ put p.bytes.now p.len s =
    put_mid-paste p.len k p.bytes.now _ s (length s) c.copy_from_slice.ensures.after (omega arith) refl
    ∙ sym (put_paste p.bytes.now p.len s) in
    let kept = ap length now ∙ put_length p.bytes.now p.len s c.requires in
    record {
      stop = refl;
      buffer = now;
      capacity = kept;
      within = omega (arith, kept);
      same_reference = refl;
    }
