-- Any two outcomes that the promise of a C function allows are equal: the same input and the same lists lent give the
-- same eight numbers and leave the same lists.
--   read_once, write_once, strong_once, reach_once, skeleton_once, plan_once
-- Each field of a promise is an equation whose right side speaks of the input alone. Assumes nothing.
use Prim.Native.Nat.{ℕ}
use mathlib.Core.Path.{◌≡◌, sym, ap, ◌∙◌}
use mathlib.Core.List.{List}
use Rattle.rules.specs.Answers.{Told, answer_eight}
use Rattle.rules.specs.Promises.{ReadPromise, WritePromise, StrongPromise, ReachPromise, SkeletonPromise}
use Rattle.rules.specs.Promises.{PlanPromise, CPromise}

-- two things that are both a third are equal
both : {A : Type 0} {x y z : A} → x ≡ z → y ≡ z → x ≡ y
both p q = p ∙ sym q

-- so are eight numbers, where what is said is the same
eights : {P Q : Told → Type 0} {says : Told} {e f : List ℕ} (a : CPromise P e) (b : CPromise Q f)
    → a.told ≡ says → b.told ≡ says → e ≡ f
eights a b p q = a.answer ∙ ap answer_eight (both p q) ∙ sym b.answer

-- linkplan_read: tails, heads, answer
pub read_once : {file ts hs : List ℕ} {t u h i e f : List ℕ} → CPromise (ReadPromise file ts hs t h) e
    → CPromise (ReadPromise file ts hs u i) f → (t ≡ u) × (h ≡ i) × (e ≡ f)
read_once a b = (
  both a.kept.tails b.kept.tails,
  both a.kept.heads b.kept.heads,
  eights a b a.kept.told_is b.kept.told_is,
)

-- linkplan_write: bytes, answer
pub write_once : {n : ℕ} {ts hs gone file : List ℕ} {s t e f : List ℕ}
    → CPromise (WritePromise n ts hs gone file s) e
    → CPromise (WritePromise n ts hs gone file t) f → (s ≡ t) × (e ≡ f)
write_once a b = (both a.kept.bytes b.kept.bytes, eights a b a.kept.told_is b.kept.told_is)

-- linkplan_strong: work memory, answer
pub strong_once : {n : ℕ} {ts hs gone w : List ℕ} {v x e f : List ℕ}
    → CPromise (StrongPromise n ts hs gone w v) e
    → CPromise (StrongPromise n ts hs gone w x) f → (v ≡ x) × (e ≡ f)
strong_once a b = (both a.kept.work b.kept.work, eights a b a.kept.told_is b.kept.told_is)

-- linkplan_reach: work memory, answer
pub reach_once : {n : ℕ} {ts hs gone : List ℕ} {from to : ℕ} {w : List ℕ} {v x e f : List ℕ}
    → CPromise (ReachPromise n ts hs gone from to w v) e → CPromise (ReachPromise n ts hs gone from to w x) f
    → (v ≡ x) × (e ≡ f)
reach_once a b = (both a.kept.work b.kept.work, eights a b a.kept.told_is b.kept.told_is)

-- linkplan_skeleton: tails, heads, work memory, answer
pub skeleton_once : {n : ℕ} {ts hs gone ots ohs w : List ℕ} {t u h i v x e f : List ℕ}
    → CPromise (SkeletonPromise n ts hs gone ots ohs w t h v) e
    → CPromise (SkeletonPromise n ts hs gone ots ohs w u i x) f
    → (t ≡ u) × (h ≡ i) × (v ≡ x) × (e ≡ f)
skeleton_once a b = (
  both a.kept.tails b.kept.tails,
  both a.kept.heads b.kept.heads,
  both a.kept.work b.kept.work,
  eights a b a.kept.told_is b.kept.told_is,
)

-- linkplan_plan: from, to, why, work memory, answer
pub plan_once : {n : ℕ} {ts hs gone from to why w : List ℕ} {p q r s y z v x e f : List ℕ}
    → CPromise (PlanPromise n ts hs gone from to why w p r y v) e
    → CPromise (PlanPromise n ts hs gone from to why w q s z x) f
    → (p ≡ q) × (r ≡ s) × (y ≡ z) × (v ≡ x) × (e ≡ f)
plan_once a b = (
  both a.kept.from_left b.kept.from_left,
  both a.kept.to_left b.kept.to_left,
  both a.kept.why_left b.kept.why_left,
  both a.kept.work_left b.kept.work_left,
  eights a b a.kept.told_is b.kept.told_is,
)
