-- Which arcs between components the skeleton keeps, told by the components that arcs lead to, and the names in order.
--   Direct N a d        d names a component, not a's, that an arc joins a's to
--   names_equal         two names of one component are equal
--   first_direct        an arc that leaves a's component on a way leads to a direct name on that way
--   direct_crosses      an arc from a name to a direct one crosses if no other direct one reaches its head
--   crosses_direct, crosses_alone       and only then
--   Ordered N top m     top lists the m names, and no later one reaches an earlier one
-- A run from a's component to a third one leaves a's component by an arc, to a direct one. Assumes nothing.
use Prim.Native.Nat.{ℕ, ◌<◌}
use mathlib.Core.Path.{◌≡◌, sym, ◌∙◌}
use mathlib.Core.List.{Memᴰ as In}
use Rattle.rules.specs.Network.{Network, Reach, same, Proper}
use Rattle.rules.specs.Components.{name}
use Rattle.theory.proofs.Reaching.Reach.{reach_trans}
use Rattle.theory.proofs.Reaching.Components.{
  Together,
  together_refl,
  together_sym,
  together_zone,
  name_together,
  name_name,
  name_agree,
}
use Rattle.theory.proofs.Skeletons.SkeletonLaws.{Joined, Crosses}
use Rattle.theory.proofs.Skeletons.Gap.{Leaving, leaving, joined_reach}

-- d names a component, not a's, that an arc joins a's to
pub record Direct (N : Network) (a d : ℕ) : Type 0 where
  pub named : name N d ≡ d
  pub other : d ≡ a → ⊥
  pub arc : Joined N a d

-- a direct name is a zone
pub direct_zone : {N : Network} → Proper N → {a d : ℕ} → Direct N a d → In d N.zones
direct_zone P D = together_zone P (P.heads D.arc.1) D.arc.3

-- the start of a joining arc's component is a zone
joined_zone : {N : Network} → Proper N → {a d : ℕ} → Joined N a d → In a N.zones
joined_zone P j = together_zone P (P.tails j.1) j.2

-- two names of one component are equal
pub names_equal : {N : Network} → Proper N → {a b : ℕ} → In a N.zones → In b N.zones
    → name N a ≡ a → name N b ≡ b → Together N a b → a ≡ b
names_equal P i j e f t = sym e ∙ name_agree P i j t ∙ f

-- the component of a direct name is another than a's
pub direct_apart : {N : Network} → Proper N → {a d : ℕ} → name N a ≡ a → Direct N a d → Together N a d → ⊥
direct_apart P e D t =
    D.other (sym (names_equal P (joined_zone P D.arc) (direct_zone P D) e D.named t))

-- an arc that leaves a's component on a way to z leads to a direct name that reaches z
pub first_direct : {N : Network} → Proper N → {a z : ℕ} → Leaving N a z → (d : ℕ) × Direct N a d × Reach N d z
first_direct {N} P {a} l =
    let y = l.0.head in
    let i : In y N.zones = P.heads l.1 in
    let t : Together N y (name N y) = name_together P i in (
      name N y,
      record {
        named = name_name P i;
        other = λ e. l.3 (rw e at t);
        arc = (l.0, l.1, l.2, t);
      },
      reach_trans t.1 l.4,
    )

-- an arc from a name a to a direct name crosses if no other direct name reaches its head
pub direct_crosses : {N : Network} → Proper N → {a c : ℕ} → name N a ≡ a → Direct N a c
    → ((d : ℕ) → Direct N a d → (d ≡ c → ⊥) → Reach N d c → ⊥) → Crosses N a c
direct_crosses {N} P {a} {c} e D alone =
    record {
      tail_names = e;
      head_names = D.named;
      apart = direct_apart P e D;
      arc = D.arc;
      clear = λ z i B.
          let l : Leaving N a z = leaving P B.from_start together_refl (λ t. B.apart_start (together_sym t)) in
          let f = first_direct P l in
          alone f.0 f.1 (λ q. B.apart_end (B.to_end, rw q at f.2)) (reach_trans f.2 B.to_end);
    }

-- the head of an arc that crosses is direct
pub crosses_direct : {N : Network} {a c : ℕ} → Crosses N a c → Direct N a c
crosses_direct C =
    record {
      named = C.head_names;
      other = λ e. C.apart (same (sym e), same e);
      arc = C.arc;
    }

-- no other direct name reaches the head of an arc that crosses
pub crosses_alone : {N : Network} → Proper N → {a c : ℕ} → Crosses N a c → (d : ℕ) → Direct N a d → (d ≡ c → ⊥)
    → Reach N d c → ⊥
crosses_alone P {a} {c} C d D ne r =
    C.clear d (direct_zone P D)
    (record {
      apart_start = direct_apart P C.tail_names D;
      apart_end = λ t.
          ne
          (names_equal P (direct_zone P D) (direct_zone P (crosses_direct C)) D.named C.head_names t);
      from_start = joined_reach D.arc;
      to_end = r;
    })

-- top lists the m names, and no later one reaches an earlier one
pub record Ordered (N : Network) (top : ℕ → ℕ) (m : ℕ) : Type 0 where
  pub own : (j : ℕ) → j < m → In (top j) N.zones × (name N (top j) ≡ top j)
  pub all : (c : ℕ) → In c N.zones → name N c ≡ c → (j : ℕ) × (j < m) × (top j ≡ c)
  pub after : (j k : ℕ) → j < k → k < m → Reach N (top k) (top j) → ⊥
