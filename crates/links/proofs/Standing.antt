-- Where an ordering stands in the memory, the links of what stands there are the ordering's links.
--   part_is      the n elements from `at` on are the list that stands there
--   links_held   the law
-- Assumes nothing.
use mathlib.Core.Path.{◌≡◌, sym, ap, ◌∙◌}
use mathlib.Core.List.{List, map}
use Prim.Native.Nat.{ℕ}
use lib.ListN.{length, length-map}
use Rattle.rules.specs.Plan.{Couple, Ordering, links}
use Rattle.memory.specs.Regions.{part, Holds}
use Rattle.stations.specs.declared.Counts.{Counts}
use Rattle.workmap.specs.declared.Side.{Side}
use Rattle.links.specs.Linking.{links_in, Held}
use Rattle.links.proofs.Shapes.{couples_pairs}

-- the n elements from `at` on are the list that stands there
part_is : (w : List ℕ) (at n : ℕ) (xs : List ℕ) → n ≡ length xs → Holds w at xs → part w at n ≡ xs
part_is w at n xs e h = ap (λ (k : ℕ). part w at k) e ∙ h

-- the links of what stands in the memory are the links of the ordering that stands there
pub links_held : (w : List ℕ) (n : Counts) (p : Side) (o : Ordering) (xs : List ℕ) → Held w n p o xs →
    links_in w n p ≡ links o xs
unfolding links_in links
links_held w n p o xs H =
    let vs : List ℕ = map (λ (a : Couple). a.v) o.pairs in
    let ws : List ℕ = map (λ (a : Couple). a.w) o.pairs in
    let from : part w p.pairs.firsts n.pairs ≡ vs =
    part_is w p.pairs.firsts n.pairs vs (H.pairs ∙ sym (length-map o.pairs (λ (a : Couple). a.v)))
    H.v_held
    in
    let to : part w p.pairs.seconds n.pairs ≡ ws =
    part_is w p.pairs.seconds n.pairs ws (H.pairs ∙ sym (length-map o.pairs (λ (a : Couple). a.w)))
    H.w_held
    in
    let sources : part w p.pairs.lone n.sources ≡ o.lone_sources =
    part_is w p.pairs.lone n.sources o.lone_sources H.sources H.sources_held
    in
    let sinks : part w p.lists.sinks n.sinks ≡ o.lone_sinks =
    part_is w p.lists.sinks n.sinks o.lone_sinks H.sinks H.sinks_held
    in
    let alone : part w p.lists.alone n.alone ≡ xs = part_is w p.lists.alone n.alone xs H.alone
    H.alone_held in
    rw (from, to, sources, sinks, alone, couples_pairs o.pairs)
