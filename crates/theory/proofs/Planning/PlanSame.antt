-- Kinds, pairing and plan depend on the zones and on reach alone, so networks with equal skeletons get the same plan.
--   X_alike            the value X is the same for networks that are alike: left, entered, sources, sinks, alone, plan
--   pairing_agree      tests that agree on the sources and the sinks make the same ordering
--   plan_agree         networks with the same zones and the same reach have the same plan, with the same counts
--   plan_of_skeleton   so have networks with the same zones and the same skeleton
-- An arc leaves c's component exactly when c reaches a zone outside it: that is reach alone. Arcs that come in are
-- those that leave in the turned network. Assumes nothing.
use Prim.Native.Nat.{ℕ, ◌+◌, max}
use mathlib.Core.Path.{◌≡◌, refl, sym, ap, ap₂, ◌∙◌}
use mathlib.Core.Logic.{◌↔◌, inl, inr}
use mathlib.Core.Option.{Option, none, some}
use mathlib.Core.List.Memᴰ
use mathlib.Core.List.{List, [], ◌∷◌, map, Memᴰ as In}
use mathlib.Core.Bool.{Bool, true, false, not, ◌&&◌}
use lib.Dec.{leb}
use lib.ListN.{length}
use Rattle.rules.specs.Lists.{keep}
use Rattle.rules.specs.Network.{Network, Reach, Proper, reaches, strong}
use Rattle.rules.specs.Components.{names, entered, exited, sources, sinks, alone}
use Rattle.rules.specs.Skeleton.{skeleton}
use Rattle.rules.specs.Plan.{
  Ordering,
  Picked,
  pick,
  pairing,
  with_lone,
  with_pair,
  links,
  turned,
  turned_link,
  is_upright,
  upright,
  ordering,
  upright_plan,
  plan,
  plan_pairs,
  plan_need,
}
use Rattle.theory.proofs.Ground.Bools.{bool_agree, true_unless}
use Rattle.theory.proofs.Ground.Lists.{keep_agree}
use Rattle.theory.proofs.Reaching.Reach.{reach_arc, reach_trans}
use Rattle.theory.proofs.Reaching.Components.{Together, names_zone}
use Rattle.theory.proofs.Reaching.Turned.{turned_left}
use Rattle.theory.proofs.Reaching.KindLaws.{Out, left_true, left_closed, source_is, sink_is}
use Rattle.theory.proofs.Skeletons.Alike.{Alike, in_along, alike_sym, alike_turned, reaches_alike}
use Rattle.theory.proofs.Skeletons.Alike.{strong_alike, names_alike}
use Rattle.theory.proofs.Skeletons.SkeletonSame.{same_skeleton_alike}

-- where an arc leaves c's component in one network, an arc leaves it in the other
left_carries : {M N : Network} → Alike M N → {c : ℕ} → In c M.zones → exited M c ≡ true → exited N c ≡ true
left_carries {M} {N} A {c} i h =
    let o : Out M c = left_true A.proper c h in
    let z : ℕ = o.0.head in
    let k : In z M.zones = A.proper.heads o.1 in
    let r : Reach M c z = reach_trans o.2.1 (reach_arc o.1) in
    true_unless (exited N c) (λ f.
    let t : Together N c z = left_closed A.proper_other f ((A.reach_same c z i k).0 r) in
    o.3 ((A.reach_same z c k i).1 t.1, r))

-- an arc leaves c's component in both or in neither
pub left_alike : {M N : Network} → Alike M N → {c : ℕ} → In c M.zones → exited M c ≡ exited N c
left_alike A i = bool_agree (left_carries A i) (left_carries (alike_sym A) (in_along A.zones_same i))

-- an arc comes into c's component in both or in neither
pub entered_alike : {M N : Network} → Alike M N → {c : ℕ} → In c M.zones → entered M c ≡ entered N c
unfolding turned
entered_alike A {c} i =
    sym (turned_left A.proper c) ∙ left_alike (alike_turned A) i ∙ turned_left A.proper_other c

module _ {M N : Network} (A : Alike M N) where
  -- the names that pass a test of what comes in and goes out are the same
  kind_alike : (t : Bool → Bool → Bool)
      → keep (λ c. t (exited M c) (entered M c)) (names M) ≡ keep (λ c. t (exited N c) (entered N c)) (names N)
  kind_alike t =
      keep_agree (λ c. t (exited M c) (entered M c)) (λ c. t (exited N c) (entered N c)) (names M)
      (λ c m. let z = (names_zone M m).0 in ap₂ t (left_alike A z) (entered_alike A z))
      ∙ ap (keep (λ c. t (exited N c) (entered N c))) (names_alike A)

  -- the sources are the same
  pub sources_alike : sources M ≡ sources N
  unfolding sources
  sources_alike = kind_alike (λ l e. l && not e)

  -- the sinks are the same
  pub sinks_alike : sinks M ≡ sinks N
  unfolding sinks
  sinks_alike = kind_alike (λ l e. e && not l)

  -- the components alone are the same
  pub alone_alike : alone M ≡ alone N
  unfolding alone
  alone_alike = kind_alike (λ l e. not e && not l)

-- tests that agree on the sinks pick the same one
pick_agree : (p q : ℕ → Bool) (ws : List ℕ) → ((w : ℕ) → In w ws → p w ≡ q w) → pick p ws ≡ pick q ws
unfolding pick
pick_agree p q [] h = refl
pick_agree p q (w ∷ ws) h =
    let e : p w ≡ q w = h w (Memᴰ.head refl) in
    let f : pick p ws ≡ pick q ws = pick_agree p q ws (λ x m. h x (Memᴰ.tail m)) in
    λ k.
    elim (e k) [
      | true ↦ some (record { sink = w; rest = ws })
      | false ↦ elim (f k) [ none ↦ none | some t ↦ some (record { sink = t.sink; rest = w ∷ t.rest }) ]
    ]

-- what is left after a pick, where a sink was picked, was in the list
abbrev Rests : List ℕ → Option Picked → Type 0
Rests ws none = Unit {0}
Rests ws (some t) = (x : ℕ) → In x t.rest → In x ws

-- a pick leaves sinks of the list
pick_rests : (p : ℕ → Bool) (ws : List ℕ) → Rests ws (pick p ws)
unfolding pick
pick_rests p [] = tt
pick_rests p (w ∷ ws) = now (p w) (pick p ws) (pick_rests p ws)
  where
    now : (b : Bool) (o : Option Picked) → Rests ws o
        → Rests (w ∷ ws) (elim b [
          | true ↦ some (record { sink = w; rest = ws })
          | false ↦ elim o [ none ↦ none | some t ↦ some (record { sink = t.sink; rest = w ∷ t.rest }) ]
        ])
    now true o h = λ x m. Memᴰ.tail m
    now false none h = tt
    now false (some t) h =
        λ x m. elim (Memᴰ.cases_cons m) [ inl e ↦ Memᴰ.head e | inr n ↦ Memᴰ.tail (h x n) ]

-- a source's turn, from what it picked and what the others make of the sinks that are left
abbrev turn : ℕ → (List ℕ → Ordering) → List ℕ → Option Picked → Ordering
turn v others ws o =
    elim o [ none ↦ with_lone v (others ws) | some t ↦ with_pair v t.sink (others t.rest) ]

-- a source's turn is the same where the others make the same of sinks of the list
turn_agree : (v : ℕ) (f g : List ℕ → Ordering) (ws : List ℕ)
    → ((us : List ℕ) → ((x : ℕ) → In x us → In x ws) → f us ≡ g us)
    → (o : Option Picked) → Rests ws o → turn v f ws o ≡ turn v g ws o
turn_agree v f g ws h none r = ap (with_lone v) (h ws (λ x m. m))
turn_agree v f g ws h (some t) r = ap (with_pair v t.sink) (h t.rest r)

-- tests that agree on the sources and the sinks make the same ordering
pub pairing_agree : (r s : ℕ → ℕ → Bool) (vs ws : List ℕ)
    → ((v w : ℕ) → In v vs → In w ws → r v w ≡ s v w) → pairing r vs ws ≡ pairing s vs ws
unfolding pairing
pairing_agree r s [] ws h = refl
pairing_agree r s (v ∷ vs) ws h =
    turn_agree v (pairing r vs) (pairing s vs) ws
    (λ us within. pairing_agree r s vs us (λ x w m n. h x w (Memᴰ.tail m) (within w n)))
    (pick (r v) ws) (pick_rests (r v) ws)
    ∙ ap (turn v (pairing s vs) ws) (pick_agree (r v) (s v) ws (λ w n. h v w (Memᴰ.head refl) n))

module _ {M N : Network} (A : Alike M N) where
  -- a source of one is a zone of it
  source_zone : {c : ℕ} → In c (sources M) → In c M.zones
  source_zone m = (names_zone M (source_is M m).0).0

  -- a sink of one is a zone of it
  sink_zone : {c : ℕ} → In c (sinks M) → In c M.zones
  sink_zone m = (names_zone M (sink_is M m).0).0

  -- points 1 and 2 are the same
  pub ordering_alike : ordering M ≡ ordering N
  unfolding ordering
  ordering_alike =
      pairing_agree (reaches M) (reaches N) (sources M) (sinks M)
      (λ v w m n. reaches_alike A (source_zone m) (sink_zone n))
      ∙ ap₂ (pairing (reaches N)) (sources_alike A) (sinks_alike A)

  -- the rule for s ≤ t gives the same links
  upright_plan_alike : upright_plan M ≡ upright_plan N
  unfolding upright_plan
  upright_plan_alike = ap₂ links ordering_alike (alone_alike A)

  -- the rule runs on both as given, or on both turned
  is_upright_alike : is_upright M ≡ is_upright N
  unfolding is_upright
  is_upright_alike = λ k. leb (length (sources_alike A k)) (length (sinks_alike A k))

module _ {M N : Network} (A : Alike M N) where
  -- the plan is the same, link by link
  pub plan_alike : plan M ≡ plan N
  unfolding plan
  plan_alike =
      let s : strong M ≡ strong N = strong_alike A in
      let u : is_upright M ≡ is_upright N = is_upright_alike A in
      let p : upright_plan M ≡ upright_plan N = upright_plan_alike A in
      let q : upright_plan (turned M) ≡ upright_plan (turned N) = upright_plan_alike (alike_turned A) in
      λ k.
      elim (s k) [
        | true ↦ []
        | false ↦ elim (u k) [ true ↦ p k | false ↦ map turned_link (q k) ]
      ]

  -- the number of pairs is the same
  pub plan_pairs_alike : plan_pairs M ≡ plan_pairs N
  unfolding plan_pairs upright
  plan_pairs_alike = ap (λ (o : Ordering). length o.pairs)
      (ways (is_upright M) ∙ ap (λ (u : Bool). ordering (elim u [ true ↦ N | false ↦ turned N ])) (is_upright_alike A))
    where
      ways : (u : Bool)
          → ordering (elim u [ true ↦ M | false ↦ turned M ]) ≡ ordering (elim u [ true ↦ N | false ↦ turned N ])
      ways true = ordering_alike A
      ways false = ordering_alike (alike_turned A)

  -- the number of links that the answer carries is the same
  pub plan_need_alike : plan_need M ≡ plan_need N
  unfolding plan_need
  plan_need_alike =
      let s : strong M ≡ strong N = strong_alike A in
      λ k.
      elim (s k) [
        | true ↦ 0
        | false ↦ max (length (sources_alike A k)) (length (sinks_alike A k)) + length (alone_alike A k)
      ]

-- all that a plan's answer tells is the same for both
pub record SamePlan (M N : Network) : Type 0 where
  pub same_plan : plan M ≡ plan N
  pub same_pairs : plan_pairs M ≡ plan_pairs N
  pub same_need : plan_need M ≡ plan_need N
  pub same_sources : sources M ≡ sources N
  pub same_sinks : sinks M ≡ sinks N
  pub same_alone : alone M ≡ alone N

-- networks that are alike get the same plan, with the same counts
same_plans : {M N : Network} → Alike M N → SamePlan M N
same_plans A =
    record {
      same_plan = plan_alike A;
      same_pairs = plan_pairs_alike A;
      same_need = plan_need_alike A;
      same_sources = sources_alike A;
      same_sinks = sinks_alike A;
      same_alone = alone_alike A;
    }

-- networks with the same zones and the same reach get the same plan, link by link, with the same counts
pub plan_agree : {M N : Network} → Proper M → Proper N → M.zones ≡ N.zones
    → ((a b : ℕ) → In a M.zones → In b M.zones → Reach M a b ↔ Reach N a b) → SamePlan M N
plan_agree P Q z r = same_plans (record { proper = P; proper_other = Q; zones_same = z; reach_same = r })

-- networks with the same zones and the same skeleton get the same plan, link by link, with the same counts
pub plan_of_skeleton : {M N : Network} → Proper M → Proper N → M.zones ≡ N.zones → skeleton M ≡ skeleton N
    → SamePlan M N
plan_of_skeleton P Q z s = same_plans (same_skeleton_alike P Q z s)
