-- Runs of calls: the answers that a volume may give, and the states that a stop may leave.
use Rattle.std.specs.Prelude.{ℕ, ◌<◌, ◌≤◌, ◌+◌, ◌/◌, ◌^◌, ◌≡◌, ◌⊎◌, Bool, true, false, ◌&&◌, IsTrue, Some, List, [], ◌∷◌, drop, slice_get}
use Rattle.lfs_model.specs.Tree.{State}
use Rattle.lfs_model.specs.Refusal.{Refusal, NoMemory, Device, Halted, Stuck, Worn}
use Rattle.lfs_model.specs.Call.{Call, Open, Create, Close, Pread, Pwrite, Truncate, Mkdir, LinkTo, Symlink, Readlink, Unlink, Rmdir}
use Rattle.lfs_model.specs.Call.{Rename, StatOf, LstatOf, Readdir, Fsync, Sync, Clean, Space, Version, Upgrade, Widen, ListTree, Answer}
use Rattle.lfs_model.specs.Call.{Refuse, is_ok, changes, cleans, commits, may_write, takes_no_memory, never_for_device}
use Rattle.lfs_model.specs.Step.{Step}
use Rattle.lfs_model.specs.Script.{Line, Plain, Fill, call_of}

-- What is seen of a volume and its device between two calls: own choice.
pub record Point : Type 0 where
  pub state : State
  -- a write, a sync or a commit has failed
  pub halted : Bool
  -- the newest acknowledged checkpoint's number (the 1992 LFS paper: checkpoints)
  pub number : ℕ
  -- how many device calls have failed, and how many of these were writes and syncs
  pub failures : ℕ
  pub failed_orders : ℕ

-- the call would be done
abbrev pub WouldBeOk : ℕ → State → Call → Type 0
WouldBeOk N s call = (a : Answer) × (s' : State) × Step N s call a s' × IsTrue (is_ok a)

-- past the last number a change isn't taken, and nothing is cleaned
abbrev pub IsPastLast : ℕ → Call → Point → Type 0
IsPastLast N call old = (2 ^ 62 ≤ old.number) × (IsTrue (cleans call) ⊎ (IsTrue (changes call) × WouldBeOk N old.state call))

-- Which refusal may stand in the place of a call's answer, and its cause.
abbrev pub IsExcused : ℕ → Call → Point → Point → Refusal → Type 0
IsExcused N call old new NoMemory = takes_no_memory call ≡ false
IsExcused N call old new Device = (never_for_device call ≡ false) × (old.failures < new.failures)
IsExcused N call old new Halted = IsTrue old.halted ⊎ (old.failed_orders < new.failed_orders)
IsExcused N call old new Stuck = IsTrue (changes call) ⊎ IsTrue (cleans call)
IsExcused N call old new Worn = IsPastLast N call old
IsExcused N call old new _ = ⊥

-- the call's step, which past the last number isn't made; or an excused refusal, which changes nothing
abbrev pub StepsOr : ℕ → Call → Point → Answer → Point → Type 0
StepsOr N call old answer new = (Step N old.state call answer new.state × ¬ IsPastLast N call old)
    ⊎ ((r : Refusal) × (answer ≡ Refuse r) × IsExcused N call old new r × (new.state ≡ old.state))

-- What one call does on a volume of N segments.
pub record Answers (N : ℕ) (call : Call) (old : Point) (answer : Answer) (new : Point) : Type 0 where
  pub steps : StepsOr N call old answer new
  -- after the first Halted every answer is Halted, and there is no other way to be halted
  pub halted : IsTrue old.halted → answer ≡ Refuse Halted
  pub halts : answer ≡ Refuse Halted → IsTrue new.halted
  pub goes_on : IsTrue new.halted → answer ≡ Refuse Halted
  -- the first Halted is the answer of a call that may write
  pub first_halted : answer ≡ Refuse Halted → IsTrue old.halted ⊎ IsTrue (may_write call)
  pub failures : old.failures ≤ new.failures
  pub failed_orders : old.failed_orders ≤ new.failed_orders
  pub failed_reads : old.failures + new.failed_orders ≤ new.failures + old.failed_orders
  -- a call commits at most once for each eighth of the segments, and once more; one that may not write never does
  pub number : old.number ≤ new.number
  pub few : new.number ≤ old.number + N / 8 + 1
  pub quiet : may_write call ≡ false → new.number ≡ old.number

-- the lines with a word that spells bytes, for which memory is needed before the call is made
abbrev pub has_word : Line → Bool
has_word (Fill h off n byte) = false
has_word (Plain (Open p)) = true
has_word (Plain (Create p)) = true
has_word (Plain (Close h)) = false
has_word (Plain (Pread h off n)) = false
has_word (Plain (Pwrite h off w)) = true
has_word (Plain (Truncate h n)) = false
has_word (Plain (Mkdir p)) = true
has_word (Plain (LinkTo p q)) = true
has_word (Plain (Symlink text p)) = true
has_word (Plain (Readlink p)) = true
has_word (Plain (Unlink p)) = true
has_word (Plain (Rmdir p)) = true
has_word (Plain (Rename p q)) = true
has_word (Plain (StatOf p)) = true
has_word (Plain (LstatOf p)) = true
has_word (Plain (Readdir p)) = true
has_word (Plain (Fsync h)) = false
has_word (Plain Sync) = false
has_word (Plain Clean) = false
has_word (Plain Space) = false
has_word (Plain Version) = false
has_word (Plain Upgrade) = false
has_word (Plain (Widen p)) = true
has_word (Plain ListTree) = false

-- What one line of a script does: its call; or nothing, where memory for its word was refused.
abbrev pub LineAnswers : ℕ → Line → Point → Answer → Point → Type 0
LineAnswers N line old answer new = Answers N (call_of line) old answer new
    ⊎ (IsTrue (has_word line) × (answer ≡ Refuse NoMemory) × (new ≡ old))

-- Each of these answers, one for each thing that is done, leads from one point to the next.
abbrev pub RunOf : {A : Type 0} → (A → Point → Answer → Point → Type 0) → Point → List A → List Answer → List Point → Type 0
RunOf Does p [] [] [] = Unit {0}
RunOf Does p (x ∷ xs) (answer ∷ answers) (q ∷ points) = Does x p answer q × RunOf Does q xs answers points
RunOf Does p _ _ _ = ⊥

-- These answers, one for each call, lead from a point through these.
abbrev pub Run : ℕ → Point → List Call → List Answer → List Point → Type 0
Run N = RunOf (Answers N)

-- The same for the lines of a script.
abbrev pub LineRun : ℕ → Point → List Line → List Answer → List Point → Type 0
LineRun N = RunOf (LineAnswers N)

-- the last point
abbrev pub final : Point → List Point → Point
final p [] = p
final p (q ∷ points) = final q points

-- an fsync or a sync that isn't refused: it is acknowledged (POSIX.1-2017: fsync)
abbrev pub acknowledges : Call → Answer → Bool
acknowledges call answer = commits call && is_ok answer

abbrev pub NoneAcknowledged : List Call → List Answer → Type 0
NoneAcknowledged [] [] = Unit {0}
NoneAcknowledged (call ∷ calls) (answer ∷ answers) = (acknowledges call answer ≡ false) × NoneAcknowledged calls answers
NoneAcknowledged _ _ = ⊥

-- The state after the first n calls, where none of those after them is acknowledged: what a stop may leave, points being those
-- before the first call and after each. There is always one: the last.
pub record IsPending (points : List Point) (calls : List Call) (answers : List Answer) (s : State) : Type 0 where
  pub n : ℕ
  pub point : Point
  pub at : slice_get points n ≡ Some point
  pub none_later : NoneAcknowledged (drop n calls) (drop n answers)
  pub is : point.state ≡ s

-- Some state of a run that has such a property is pending.
abbrev pub StandsForPending : (State → Type 0) → List Point → List Call → List Answer → Type 0
StandsForPending Stands points calls answers = (s : State) × IsPending points calls answers s × Stands s
