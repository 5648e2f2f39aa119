-- What each call promises, for every input: what its answer says, and what each list that it was lent holds afterwards.
--   ReadPromise, WritePromise, StrongPromise, ReachPromise, SkeletonPromise, PlanPromise     the six calls
--   RecordsPromise     PLAN over a list of records
--   CPromise P eight   the C function of a call: its eight numbers say an answer that keeps the promise P of the call
-- The arguments stand in one order: zone count n, tails ts and heads hs, withdrawn numbers gone, what is asked about,
-- the lists that are lent, the same lists afterwards (with a '), and what the answer says. Each field is an equation
-- whose right side speaks of the input alone, so any two outcomes of a call are equal. A list that is only handed in,
-- as tails, heads and withdrawn numbers are, stays as it came.
use Rattle.std.specs.Prelude.{ℕ, ◌≡◌, List, [], ◌∷◌, map, length}
use Rattle.rules.specs.declared.Link.{Link}
use Rattle.rules.specs.Lists.{over}
use Rattle.rules.specs.Answers.{Told, yes_number, answer_eight}
use Rattle.rules.specs.Network.{Network, arc_tails, arc_heads, reaches, strong}
use Rattle.rules.specs.Skeleton.{skeleton}
use Rattle.rules.specs.Plan.{link_starts, link_ends, link_whys, record_of, plan, plan_values}
use Rattle.rules.specs.File.{file_at}
use Rattle.rules.specs.Calls.{found_says, found_tails, found_heads, handed_with, written, says, leaves}
use Rattle.rules.specs.Calls.{write_trouble, strong_trouble, reach_trouble, skeleton_trouble, plan_trouble}
use Rattle.rules.specs.Calls.{records_trouble, leaves_work}

-- READ: two lists are lent, for tails and heads
pub record ReadPromise (file ts hs ts' hs' : List ℕ) (told : Told) : Type 0 where
  pub told_is : told ≡ found_says (file_at file (length ts) (length hs))
  pub tails : ts' ≡ found_tails (file_at file (length ts) (length hs)) ts
  pub heads : hs' ≡ found_heads (file_at file (length ts) (length hs)) hs

-- every other call is handed a network, N: the zones that remain, and the arcs
module _ (n : ℕ) (ts hs gone : List ℕ) where
  abbrev N : Network
  N = handed_with n ts hs gone

  -- WRITE: a list of bytes is lent
  pub record WritePromise (file file' : List ℕ) (told : Told) : Type 0 where
    pub told_is : told ≡ says 1 (write_trouble n ts hs gone file) (length (written n ts hs) ∷ [])
    pub bytes : file' ≡ leaves (write_trouble n ts hs gone file) file (over (written n ts hs) file)

  -- STRONG: work memory is lent
  pub record StrongPromise (w w' : List ℕ) (told : Told) : Type 0 where
    pub told_is : told ≡ says 1 (strong_trouble n ts hs gone w) (yes_number (strong N) ∷ [])
    pub work : w' ≡ leaves_work n ts hs w (strong_trouble n ts hs gone w)

  -- REACH, from zone a to zone b: work memory is lent
  pub record ReachPromise (a b : ℕ) (w w' : List ℕ) (told : Told) : Type 0 where
    pub told_is : told ≡ says 1 (reach_trouble n ts hs gone a b w) (yes_number (reaches N a b) ∷ [])
    pub work : w' ≡ leaves_work n ts hs w (reach_trouble n ts hs gone a b w)

  -- SKELETON: two lists, for tails and heads, and work memory are lent
  pub record SkeletonPromise (ots ohs w ots' ohs' w' : List ℕ) (told : Told) : Type 0 where
    pub told_is : told ≡ says 1 (skeleton_trouble n ts hs gone ots ohs w) (length (skeleton N) ∷ [])
    pub tails :
        ots' ≡ leaves (skeleton_trouble n ts hs gone ots ohs w) ots (over (arc_tails (skeleton N)) ots)
    pub heads :
        ohs' ≡ leaves (skeleton_trouble n ts hs gone ots ohs w) ohs (over (arc_heads (skeleton N)) ohs)
    pub work : w' ≡ leaves_work n ts hs w (skeleton_trouble n ts hs gone ots ohs w)

  -- PLAN: three lists, for the starts, the ends and the whys of links, and work memory are lent
  pub record PlanPromise (from to why w from' to' why' w' : List ℕ) (told : Told) : Type 0 where
    pub told_is : told ≡ says 5 (plan_trouble n ts hs gone from to why w) (plan_values N)
    pub from_left :
        from' ≡ leaves (plan_trouble n ts hs gone from to why w) from (over (link_starts (plan N)) from)
    pub to_left : to' ≡ leaves (plan_trouble n ts hs gone from to why w) to (over (link_ends (plan N)) to)
    pub why_left : why' ≡ leaves (plan_trouble n ts hs gone from to why w) why (over (link_whys (plan N)) why)
    pub work_left : w' ≡ leaves_work n ts hs w (plan_trouble n ts hs gone from to why w)

  -- PLAN over records: a list of records and work memory are lent
  pub record RecordsPromise (ls : List Link) (w : List ℕ) (ls' : List Link) (w' : List ℕ) (told : Told) : Type 0 where
    pub told_is : told ≡ says 5 (records_trouble n ts hs gone (length ls) w) (plan_values N)
    pub links_left :
        ls' ≡ leaves (records_trouble n ts hs gone (length ls) w) ls (over (map record_of (plan N)) ls)
    pub work_left : w' ≡ leaves_work n ts hs w (records_trouble n ts hs gone (length ls) w)

-- the C function of a call hands out the eight numbers of an answer that keeps the promise P of the call
pub record CPromise (P : Told → Type 0) (eight : List ℕ) : Type 0 where
  pub told : Told
  pub kept : P told
  pub answer : eight ≡ answer_eight told
