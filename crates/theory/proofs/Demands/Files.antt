-- Demand 2, of the calls: network files go from bytes to arcs and back without change. A file holds no withdrawn
-- numbers: they are kept beside it, and are none where none are given.
--   file_left c k       the bytes that WRITE put out, k of them
--   write_leaves        they are the file of the network;   read_leaves   READ leaves the arcs of what it read
--   read_after_write    READ on what WRITE put out gives back zone count, arc count, tails and heads
--   read_left_accepted  what READ left, with no number withdrawn, is a network that a call accepts
--   write_after_read    WRITE on what READ left puts out the very bytes that were read
--   write_after_read_with   so it does with withdrawn numbers that a call accepts with it
--   read_length         a file that READ accepts has at most 16,388 bytes;   read_longest   and one has so many
-- Both calls put out what the rules say, and reading undoes writing. That each byte is below 256 (`Bytes`) is what the
-- code's type of a file says. Assumes nothing.
use Prim.Native.Nat.{ℕ, ◌≤◌}
use native.Mathlib.Omega.{arith}
use mathlib.Core.Path.{◌≡◌, refl, sym, ap, ap₂, ◌∙◌}
use mathlib.Core.List.{List, []}
use lib.ListN.{length, take, length-map}
use Rattle.rules.specs.Answers.{read_done}
use Rattle.std.specs.Prelude.{Ok}
use Rattle.rules.specs.Network.{arc_tails, arc_heads}
use Rattle.rules.specs.Number.{got}
use Rattle.rules.specs.File.{Given, file_bytes, file_at}
use Rattle.rules.specs.Calls.{arcs_of, written}
use Rattle.theory.proofs.Ground.ArcLists.{arcs_length, arcs_split, tails_again, heads_again}
use Rattle.theory.proofs.Ground.Storing.{over_front}
use Rattle.theory.proofs.Files.NumberLaws.{Bytes}
use Rattle.theory.proofs.Files.FileLaws.{read_written, accepted_is_written, accepted_acceptable}
use Rattle.theory.proofs.Files.FileLaws.{accepted_length}
use Rattle.theory.proofs.Files.Accepting.{fine_none}
use Rattle.theory.proofs.Files.Longest.{longest, longest_arcs, longest_acceptable, longest_length}
use Rattle.theory.proofs.Demands.Calls.{as_given, HandedIn, IsAccepted, front_of, ReadCall, WriteCall}
use Rattle.theory.proofs.Demands.Calls.{read_found}
use Rattle.theory.proofs.Demands.Answers.{read_done_when, write_done_when}
use Rattle.theory.proofs.Demands.Accepts.{write_accepts, write_answers}

-- the bytes that WRITE put out, where it said that they are k
abbrev pub file_left : {i : HandedIn} → WriteCall i → ℕ → List ℕ
file_left c k = take k c.left

-- they are the file of the network
pub write_leaves : {i : HandedIn} (c : WriteCall i) {k : ℕ} → c.answer ≡ Ok k
    → file_left c k ≡ file_bytes (as_given i)
unfolding written
write_leaves c {k} e =
    let d = (write_done_when c).0 e in
    ap (take k) (rw d.0 at c.promise.bytes) ∙ over_front _ c.lent d.1

-- where what READ finds is a network, it is put in front of the two lists
pub read_leaves : {file : List ℕ} (c : ReadCall file) {g : Given} {end : ℕ} → read_found c ≡ got g end
    → (take (length g.arcs) c.left.tails ≡ arc_tails g.arcs)
    × (take (length g.arcs) c.left.heads ≡ arc_heads g.arcs)
read_leaves c {g} e =
    let m = length g.arcs in (
      ap (take m) (rw e at c.promise.tails)
          ∙ over_front (arc_tails g.arcs) c.lent.tails (sym (length-map g.arcs _)),
      ap (take m) (rw e at c.promise.heads)
          ∙ over_front (arc_heads g.arcs) c.lent.heads (sym (length-map g.arcs _)),
    )

-- READ on what WRITE put out, with lists that are long enough, says the same zone count and arc count, and leaves the
-- same tails and heads in front of its lists, whatever is withdrawn: that list is kept beside the file
pub read_after_write : {i : HandedIn} (c : WriteCall i) {k : ℕ} → c.answer ≡ Ok k
    → (d : ReadCall (file_left c k)) → length i.tails ≤ length d.lent.tails
    → length i.tails ≤ length d.lent.heads
    → (d.answer ≡ read_done i.zones (length i.tails))
    × (front_of i.zones (length i.tails) d.left i.gone ≡ i)
read_after_write {i} c e d long_tails long_heads =
    let g : Given = as_given i in
    let a : IsAccepted i = write_accepts c e in
    let count : length g.arcs ≡ length i.tails = arcs_length i.tails i.heads a.fine.paired in
    let found : read_found d ≡ got g (length (file_bytes g)) =
    ap (λ (s : List ℕ). file_at s (length d.lent.tails) (length d.lent.heads)) (write_leaves c e)
    ∙ read_written g _ _ a.fine.accepted (omega (arith, count)) (omega (arith, count)) in
    let left = read_leaves d found in (
      (read_done_when d).1 (g, length (file_bytes g), found, refl, sym count),
      λ j. record {
        zones = i.zones;
        tails = (ap (λ (m : ℕ). take m d.left.tails) (sym count) ∙ left.0
            ∙ tails_again i.tails i.heads a.fine.paired) j;
        heads = (ap (λ (m : ℕ). take m d.left.heads) (sym count) ∙ left.1
            ∙ heads_again i.tails i.heads a.fine.paired) j;
        gone = i.gone;
      },
    )

module _ {file : List ℕ} (c : ReadCall file) {n m : ℕ} (e : c.answer ≡ read_done n m) where
  -- what READ left is the network that it found, whatever is withdrawn beside it
  read_handed : (gone : List ℕ) → as_given (front_of n m c.left gone) ≡ ((read_done_when c).0 e).0
  read_handed gone =
      let r = (read_done_when c).0 e in
      let left = read_leaves c r.2 in
      let tails = ap (λ (k : ℕ). take k c.left.tails) r.4 ∙ left.0 in
      let heads = ap (λ (k : ℕ). take k c.left.heads) r.4 ∙ left.1 in
      let arcs = ap₂ arcs_of tails heads ∙ arcs_split r.0.arcs in
      λ j. record { zones = r.3 j; arcs = arcs j }

  -- with no number withdrawn it is one that a call accepts
  pub read_left_accepted : IsAccepted (front_of n m c.left [])
  read_left_accepted =
      let r = (read_done_when c).0 e in
      let left = read_leaves c r.2 in
      let tails = ap (λ (k : ℕ). length (take k c.left.tails)) r.4 ∙ ap length left.0 in
      let heads = ap (λ (k : ℕ). length (take k c.left.heads)) r.4 ∙ ap length left.1 in
      fine_none _ _ _
      (record {
        paired = tails ∙ length-map r.0.arcs _ ∙ sym (heads ∙ length-map r.0.arcs _);
        accepted = rw (read_handed []) (accepted_acceptable file _ _ r.2);
      })

  -- WRITE on what READ left and withdrawn numbers that a call accepts with it, with a list that is long enough, says
  -- the file's length and puts out the very file
  pub write_after_read_with : Bytes file → {gone : List ℕ} → IsAccepted (front_of n m c.left gone)
      → (d : WriteCall (front_of n m c.left gone)) → length file ≤ length d.lent
      → (d.answer ≡ Ok (length file)) × (file_left d (length file) ≡ file)
  unfolding written
  write_after_read_with bytes {gone} a d long =
      let whole : file_bytes (as_given (front_of n m c.left gone)) ≡ file =
      ap file_bytes (read_handed gone) ∙ sym (accepted_is_written file bytes _ _ ((read_done_when c).0 e).2).0 in
      let says = write_answers a d (rw whole long, tt) ∙ ap Ok (ap length whole) in
      (says, write_leaves d says ∙ whole)

  -- so it does where no number is withdrawn
  pub write_after_read : Bytes file → (d : WriteCall (front_of n m c.left [])) → length file ≤ length d.lent
      → (d.answer ≡ Ok (length file)) × (file_left d (length file) ≡ file)
  write_after_read bytes d long = write_after_read_with bytes read_left_accepted d long

-- a file that READ accepts has at most 16,388 bytes
pub read_length : {file : List ℕ} (c : ReadCall file) {n m : ℕ} → c.answer ≡ read_done n m
    → length file ≤ 16388
read_length {file} c e = accepted_length file _ _ ((read_done_when c).0 e).2

-- and one that has so many it accepts, with lists that are long enough
pub read_longest : (c : ReadCall (file_bytes longest)) → 4096 ≤ length c.lent.tails
    → 4096 ≤ length c.lent.heads
    → (length (file_bytes longest) ≡ 16388) × (c.answer ≡ read_done 1024 4096)
unfolding longest
read_longest c long_tails long_heads =
    let count = longest_arcs in (
      longest_length,
      (read_done_when c).1 (
        longest,
        _,
        read_written longest _ _ longest_acceptable (omega (arith, count)) (omega (arith, count)),
        refl,
        sym count,
      ),
    )
