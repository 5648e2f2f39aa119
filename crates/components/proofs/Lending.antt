-- What `ready` leaves is what `name_all` asks for, and what it leaves is the same at a map that is the same.
-- Assumes nothing.
use mathlib.Core.Path.{◌≡◌}
use mathlib.Core.List.{List}
use Prim.Native.Nat.{ℕ}
use native.Mathlib.Omega.{arith}
use Rattle.rules.specs.Network.{Arc, network_of}
use Rattle.workmap.specs.declared.Map.{Map}
use Rattle.arranged.specs.Ready.{Readyable, Readied}
use Rattle.arranged.proofs.ReadyLaws.{readied_zero}
use Rattle.components.specs.Components.{Lent, Components}

-- The arcs are arranged both ways, and all below them is clear.
pub lent_ready : {m : Map} {ts hs w w₁ : List ℕ} → Readyable m ts hs w → Readied w w₁ m ts hs → Lent w₁ m ts hs
lent_ready A B = record {
  ready = record { fine = A.fine; map = A.map; room = omega (arith, A.room, B.standing.long) };
  rows = B.standing.rows;
  turned = B.standing.turned;
  clear = λ i l h. readied_zero B i h;
}

-- The names are where a map has them that is the same.
pub components_at : {m m' : Map} {es : List Arc} {w w' : List ℕ} {k : ℕ} → m ≡ m'
    → Components w w' m (network_of m.zones es) k → Components w w' m' (network_of m'.zones es) k
components_at e C = rw e at C
