-- The laws of the model that the crates above rest on. They follow from the definitions; no function runs for them.
-- Which laws are stated is an own choice; what their words mean has its source where they are defined.
use Rattle.std.specs.Prelude.{ℕ, ◌+◌, ◌<◌, ◌≤◌, ◌≡◌, ◌≢◌, All, Bool, true, List, [], ◌∷◌, ◌++◌, length, Some, None}
use Rattle.std.specs.List.{AllByRecursion}
use Rattle.std.specs.Ordering.{nat_cmp}
use Rattle.std.specs.FinMap.{find}
use Rattle.lfs_model.specs.Bytes.{cut}
use Rattle.lfs_model.specs.Tree.{State, File, Dir, Node, Names, node, with_node, without, without_name, least, least_handle, drop_nameless}
use Rattle.lfs_model.specs.Tree.{entry, with_name}
use Rattle.lfs_model.specs.Refusal.{NoSpace}
use Rattle.lfs_model.specs.Walk.{Walk, End, At, Parent}
use Rattle.lfs_model.specs.Need.{cost, cost_at, need}
use Rattle.lfs_model.specs.Sound.{Sound}
use Rattle.lfs_model.specs.Call.{Call, Rename, Answer, Refuse, AreArguments, leaves_state}
use Rattle.lfs_model.specs.Step.{Step, Steps, let_go}
use Rattle.lfs_model.specs.Plain.{run_to, fresh}
use Rattle.lfs_model.specs.Script.{InRange, Line, Spells, lines}
use Rattle.lfs_model.specs.Run.{Point, LineRun, Run, final, IsPending}
use Rattle.lfs_model.specs.declared.limits.TheConstants.{LEAST_SEGMENTS, MOST_FOLLOWED}

-- in a sound state a walk has exactly one end
abbrev pub OneEnd : Type 0
OneEnd = (N : ℕ) (s : State) → Sound N s → (follow : Bool) (d : ℕ) (ps : List (List ℕ)) (slash : Bool) (k : ℕ) → k ≤ MOST_FOLLOWED
    → (e : End) × Walk s.tree follow d ps slash k e × ((f : End) → Walk s.tree follow d ps slash k f → f ≡ e)

-- a call has at most one outcome
abbrev pub OneOutcome : Type 0
OneOutcome = (N : ℕ) (s s' s'' : State) (call : Call) (a b : Answer) → Step N s call a s' → Step N s call b s'' → (a ≡ b) × (s' ≡ s'')

-- in a sound state it has one
abbrev pub SomeOutcome : Type 0
SomeOutcome = (N : ℕ) (s : State) → Sound N s → (call : Call) → (a : Answer) × (s' : State) × Step N s call a s'

-- what the plain program answers is a run of steps
abbrev pub ProgramSteps : Type 0
ProgramSteps = (N : ℕ) (s : State) (calls : List Call) (r : List Answer × State) → run_to N s calls ≡ Some r → Steps N s calls r.0 r.1

-- a new volume is sound
abbrev pub NewIsSound : Type 0
NewIsSound = (N : ℕ) → LEAST_SEGMENTS ≤ N → Sound N fresh

-- the call keeps a state sound, whatever it answers
abbrev pub KeepsSound : Call → Type 0
KeepsSound call = (N : ℕ) (s s' : State) (a : Answer) → Sound N s → AreArguments call → Step N s call a s' → Sound N s'

-- every call does
abbrev pub CallsKeep : Type 0
CallsKeep = (call : Call) → KeepsSound call

-- so every state that a run of calls comes to is sound, refused calls included
abbrev pub RunsKeep : Type 0
RunsKeep = (N : ℕ) (p : Point) (calls : List Call) (answers : List Answer) (points : List Point) → Sound N p.state
    → AllByRecursion AreArguments calls → Run N p calls answers points
    → AllByRecursion (λ q. Sound N q.state) points

-- and every state that the lines of a script come to
abbrev pub LineRunsKeep : Type 0
LineRunsKeep = (N : ℕ) (p : Point) (asked : List Line) (answers : List Answer) (points : List Point) → Sound N p.state
    → AllByRecursion InRange asked → LineRun N p asked answers points
    → AllByRecursion (λ q. Sound N q.state) points

-- and what a mount finds after a stop in it is sound too
abbrev pub PendingIsSound : Type 0
PendingIsSound = (N : ℕ) (p : Point) (calls : List Call) (answers : List Answer) (points : List Point) (s : State) → Sound N p.state
    → AllByRecursion AreArguments calls → Run N p calls answers points
    → IsPending (p ∷ points) calls answers s → Sound N (drop_nameless s)

-- a call that only reads, or commits, or cleans, leaves the state
abbrev pub ReadsLeave : Type 0
ReadsLeave = (N : ℕ) (s s' : State) (call : Call) (a : Answer) → leaves_state call ≡ true → Step N s call a s' → s' ≡ s

-- what a mount finds after a stop is sound
abbrev pub DropKeeps : Type 0
DropKeeps = (N : ℕ) (s : State) → Sound N s → Sound N (drop_nameless s)

-- in a sound state the least number is free, and no number from 1 up to it is
abbrev pub LeastNumber : Type 0
LeastNumber = (N : ℕ) (s : State) → Sound N s → (1 ≤ least s.tree) × (node s.tree (least s.tree) ≡ None)
    × ((k : ℕ) → 1 ≤ k → k < least s.tree → node s.tree k ≢ None)

-- and the least handle is free, and no handle below it is
abbrev pub LeastHandle : Type 0
LeastHandle = (N : ℕ) (s : State) → Sound N s → (find nat_cmp (least_handle s.handles) s.handles ≡ None)
    × ((h : ℕ) → h < least_handle s.handles → find nat_cmp h s.handles ≢ None)

-- a changed node: its cost before is taken from the need, and its cost afterwards is added
abbrev pub NeedOfChange : Type 0
NeedOfChange = (N : ℕ) (s : State) → Sound N s → (n : ℕ) (x : Node)
    → need (with_node s.tree n x) + cost_at (node s.tree n) ≡ need s.tree + cost x

-- a node less: its cost is taken from the need
abbrev pub NeedOfLoss : Type 0
NeedOfLoss = (N : ℕ) (s : State) → Sound N s → (n : ℕ) → need (without nat_cmp n s.tree) + cost_at (node s.tree n) ≡ need s.tree

-- a file that is cut, or filled with zeros, costs no more
abbrev pub NeedOfCut : Type 0
NeedOfCut = (b : List ℕ) (n : ℕ) → cost (File (cut b n)) ≤ cost (File b)

-- a name less never adds to the need
abbrev pub NeedOfNameLess : Type 0
NeedOfNameLess = (N : ℕ) (s : State) → Sound N s → (d form : ℕ) (m : Names) → node s.tree d ≡ Some (Dir form m) → (name : List ℕ)
    → need (without_name s.tree d name) ≤ need s.tree

-- A rename of a name to a free one in the same directory leaves the need as it is.
abbrev pub NeedOfRename : Type 0
NeedOfRename = (N : ℕ) (s : State) → Sound N s → (d n form : ℕ) (m : Names) (a b : List ℕ) → node s.tree d ≡ Some (Dir form m)
    → entry s.tree d a ≡ Some n → entry s.tree d b ≡ None
    → need (with_name (without_name s.tree d a) d b n) ≡ need s.tree

-- One onto a name that is there adds nothing to it: no more names are left, and what the name gave may go.
abbrev pub NeedOfRenameOver : Type 0
NeedOfRenameOver = (N : ℕ) (s : State) → Sound N s → (d n old form : ℕ) (m : Names) (a b : List ℕ) → node s.tree d ≡ Some (Dir form m)
    → entry s.tree d a ≡ Some n → entry s.tree d b ≡ Some old
    → need (let_go (with_name (without_name s.tree d a) d b n) s.handles old) ≤ need s.tree

-- So a rename whose two paths have one parent is never refused for space.
abbrev pub RenameHasSpace : Type 0
RenameHasSpace = (N : ℕ) (s s' : State) → Sound N s → (a b : List ℕ) (d : ℕ) → Parent s.tree a (At d) → Parent s.tree b (At d)
    → ¬ (Step N s (Rename a b) (Refuse NoSpace) s')

-- the last state of a run is pending, so there is always one that a stop may leave
abbrev pub LastIsPending : Type 0
LastIsPending = (N : ℕ) (p : Point) (calls : List Call) (answers : List Answer) (points : List Point) → Run N p calls answers points
    → IsPending (p ∷ points) calls answers (final p points).state

-- a text spells at most one line
abbrev pub OneLine : Type 0
OneLine = (bytes : List ℕ) (a b : Line) → Spells bytes a → Spells bytes b → a ≡ b

-- the lines of a script, one after the other: each up to its end, and the last one with an end or without
abbrev pub LinesInTurn : Type 0
LinesInTurn = (line : List ℕ) → All (λ c. c ≢ 10) line → ((rest : List ℕ) → lines (line ++ 10 ∷ rest) ≡ line ∷ lines rest)
    × (0 < length line → lines line ≡ line ∷ [])
