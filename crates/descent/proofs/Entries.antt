-- Entries and runs of entries in sound rows. Assumes nothing.
use Prim.Native.Nat.{ℕ, ◌<◌}
use Rattle.arranged.specs.Rows.{Rows, Sound, Entry, Run}

-- The head of an entry is a zone.
pub entry_head : {G : Rows} {a b : ℕ} → Sound G → Entry G a b → b < G.zones
entry_head S e = rw e.is at (S.heads _ e.at e.tail e.low e.high)

-- Two runs, one behind the other, are a run.
pub run_trans : {E : ℕ → ℕ → Type 0} {a b c : ℕ} → Run E a b → Run E b c → Run E a c
run_trans p Run.here = p
run_trans p (Run.further q e) = Run.further (run_trans p q) e
