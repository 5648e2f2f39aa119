-- A call that was made: what it was handed and lent, what it left, its answer, and the promise that it kept.
--   HandedIn          a network as a caller hands it in: zone count, tails, heads and withdrawn numbers
--   network i          the network: the zones that remain, and the arcs
--   Remains i z        the zone z remains: it is below the zone count, and not withdrawn
--   as_given i, file_of i, tests_of i   the network as a file holds it, the file, and the tests of the network
--   IsAccepted i      the lists pair up, the network is one that a call accepts, and its withdrawn numbers ascend, are
--                      some of its numbers and not all, and are at no arc
--   ArcLists          two lists, for tails and heads;   LinkLists   three, for the starts, ends and whys of links
--   ReadCall file ..  a call of READ on the bytes of a file, and so for each call
--   lent, left         the lists that were lent, as they came and as they are afterwards;   work, work'   work memory
--   front_of n k l gone   the network whose arcs are the first k elements of two lists, with zone count n, and gone
--                      withdrawn
--   X_call_trouble c   the first test of the call c that fails, if any;   read_found c   what READ finds
-- A theorem on calls takes such records, so it holds of every outcome that the promise allows.
-- Assumes nothing.
use Prim.Native.Nat.{ℕ}
use mathlib.Core.Path.{◌≡◌}
use mathlib.Core.List.{List, Memᴰ as In}
use mathlib.Core.Option.{Option}
use lib.ListN.{length, take}
use Rattle.rules.specs.Answers.{ReadAnswer, WriteAnswer, StrongAnswer, ReachAnswer, SkeletonAnswer, PlanAnswer}
use Rattle.rules.specs.declared.Trouble.{Trouble}
use Rattle.rules.specs.declared.Link.{Link}
use Rattle.rules.specs.Answers.{read_told, write_told, strong_told, reach_told, skeleton_told, plan_told}
use Rattle.rules.specs.Network.{Network, remaining}
use Rattle.rules.specs.Number.{Reading}
use Rattle.rules.specs.File.{Given, file_at}
use Rattle.rules.specs.Calls.{Test, network_tests, given, handed_with, written}
use Rattle.rules.specs.Calls.{write_trouble, strong_trouble, reach_trouble, skeleton_trouble, plan_trouble}
use Rattle.rules.specs.Calls.{records_trouble}
use Rattle.rules.specs.Promises.{ReadPromise, WritePromise, StrongPromise, ReachPromise, SkeletonPromise}
use Rattle.rules.specs.Promises.{PlanPromise, RecordsPromise}
use Rattle.theory.proofs.Files.Accepting.{FineWith}

-- a network as a caller hands it in, with the numbers that are withdrawn
pub record HandedIn : Type 0 where
  pub zones : ℕ
  pub tails : List ℕ
  pub heads : List ℕ
  pub gone : List ℕ

-- the network: its zones are those that remain
abbrev pub network : HandedIn → Network
network i = handed_with i.zones i.tails i.heads i.gone

-- a zone remains: it is below the zone count, and not withdrawn
abbrev pub Remains : HandedIn → ℕ → Type 0
Remains i z = In z (remaining i.zones i.gone)

-- the network as a file holds it, and the file: neither has the withdrawn numbers
abbrev pub as_given : HandedIn → Given
as_given i = given i.zones i.tails i.heads

abbrev pub file_of : HandedIn → List ℕ
file_of i = written i.zones i.tails i.heads

-- the tests of the network
abbrev pub tests_of : HandedIn → List Test
tests_of i = network_tests i.zones i.tails i.heads i.gone

-- its lists pair up, it is a network that a call accepts, and so are its withdrawn numbers
abbrev pub IsAccepted : HandedIn → Type 0
IsAccepted i = FineWith i.zones i.tails i.heads i.gone

-- two lists, for the tails and the heads of arcs
pub record ArcLists : Type 0 where
  pub tails : List ℕ
  pub heads : List ℕ

-- they are equal where both are
pub arc_lists_are : {l m : ArcLists} → l.tails ≡ m.tails → l.heads ≡ m.heads → l ≡ m
arc_lists_are t h = λ j. record { tails = t j; heads = h j }

-- three lists, for the starts, the ends and the whys of links
pub record LinkLists : Type 0 where
  pub from : List ℕ
  pub to : List ℕ
  pub why : List ℕ

-- they are equal where all three are
pub link_lists_are : {l m : LinkLists} → l.from ≡ m.from → l.to ≡ m.to → l.why ≡ m.why → l ≡ m
link_lists_are f t y = λ j. record { from = f j; to = t j; why = y j }

-- the network whose arcs are the first k elements of two lists, with zone count n, and gone withdrawn
abbrev pub front_of : ℕ → ℕ → ArcLists → List ℕ → HandedIn
front_of n k l gone = record { zones = n; tails = take k l.tails; heads = take k l.heads; gone = gone }

-- READ was called on the bytes of a file
pub record ReadCall (file : List ℕ) : Type 0 where
  pub lent : ArcLists
  pub left : ArcLists
  pub answer : ReadAnswer
  pub promise : ReadPromise file lent.tails lent.heads left.tails left.heads (read_told answer)

-- every other call is handed a network
module _ (i : HandedIn) where
  -- WRITE was called
  pub record WriteCall : Type 0 where
    pub lent : List ℕ
    pub left : List ℕ
    pub answer : WriteAnswer
    pub promise : WritePromise i.zones i.tails i.heads i.gone lent left (write_told answer)

  -- STRONG was called
  pub record StrongCall : Type 0 where
    pub work : List ℕ
    pub work' : List ℕ
    pub answer : StrongAnswer
    pub promise : StrongPromise i.zones i.tails i.heads i.gone work work' (strong_told answer)

  -- REACH was called, from zone a to zone b
  pub record ReachCall (a b : ℕ) : Type 0 where
    pub work : List ℕ
    pub work' : List ℕ
    pub answer : ReachAnswer
    pub promise : ReachPromise i.zones i.tails i.heads i.gone a b work work' (reach_told answer)

  -- SKELETON was called
  pub record SkeletonCall : Type 0 where
    pub lent : ArcLists
    pub left : ArcLists
    pub work : List ℕ
    pub work' : List ℕ
    pub answer : SkeletonAnswer
    pub promise :
        SkeletonPromise i.zones i.tails i.heads i.gone lent.tails lent.heads work left.tails
        left.heads work' (skeleton_told answer)

  -- PLAN was called
  pub record PlanCall : Type 0 where
    pub lent : LinkLists
    pub left : LinkLists
    pub work : List ℕ
    pub work' : List ℕ
    pub answer : PlanAnswer
    pub promise :
        PlanPromise i.zones i.tails i.heads i.gone lent.from lent.to lent.why work left.from
        left.to left.why work' (plan_told answer)

  -- PLAN over records was called
  pub record RecordsCall : Type 0 where
    pub lent : List Link
    pub left : List Link
    pub work : List ℕ
    pub work' : List ℕ
    pub answer : PlanAnswer
    pub promise : RecordsPromise i.zones i.tails i.heads i.gone lent work left work' (plan_told answer)

-- what a call of READ reads in the bytes
abbrev pub read_found : {file : List ℕ} → ReadCall file → Reading Given
read_found {file} c = file_at file (length c.lent.tails) (length c.lent.heads)

-- the first test that fails, of each other call
module _ {i : HandedIn} where
  abbrev pub write_call_trouble : WriteCall i → Option Trouble
  write_call_trouble c = write_trouble i.zones i.tails i.heads i.gone c.lent

  abbrev pub strong_call_trouble : StrongCall i → Option Trouble
  strong_call_trouble c = strong_trouble i.zones i.tails i.heads i.gone c.work

  abbrev pub reach_call_trouble : {a b : ℕ} → ReachCall i a b → Option Trouble
  reach_call_trouble {a} {b} c = reach_trouble i.zones i.tails i.heads i.gone a b c.work

  abbrev pub skeleton_call_trouble : SkeletonCall i → Option Trouble
  skeleton_call_trouble c =
      skeleton_trouble i.zones i.tails i.heads i.gone c.lent.tails c.lent.heads c.work

  abbrev pub plan_call_trouble : PlanCall i → Option Trouble
  plan_call_trouble c =
      plan_trouble i.zones i.tails i.heads i.gone c.lent.from c.lent.to c.lent.why c.work

  abbrev pub records_call_trouble : RecordsCall i → Option Trouble
  records_call_trouble c = records_trouble i.zones i.tails i.heads i.gone (length c.lent) c.work
