-- What contents and the trees they stand for have to do with each other, and how a mount refuses.
-- All of it is an own choice: POSIX.1-2017 says neither how a mount is refused nor what a stop leaves.
use Rattle.std.specs.Prelude.{◌≡◌, ◌<◌, ◌≤◌, ◌⊎◌, ◌%◌, ℕ, List, [], ◌∷◌, length, Some, None}
use Rattle.std.specs.List.{AllByRecursion}
use Rattle.lfs_model.specs.Checkpoint.{CheckpointValue, layout_version}
use Rattle.lfs_model.specs.Content.{Content, newest}
use Rattle.lfs_model.specs.Crash.{IsReadyFor, Keeps}
use Rattle.lfs_model.specs.Damage.{IsDamaged, stage}
use Rattle.lfs_model.specs.Device.{AllLeft, DeviceState, IsSector, MayWrite}
use Rattle.lfs_model.specs.Image.{IsNew}
use Rattle.lfs_model.specs.Call.{Call, Answer}
use Rattle.lfs_model.specs.Reach.{view, segment_start}
use Rattle.lfs_model.specs.Run.{Point, StandsForPending}
use Rattle.lfs_model.specs.Sound.{Sound}
use Rattle.lfs_model.specs.Encodes.{IsLogMap}
use Rattle.lfs_model.specs.Stands.{LogMap, StandsAt, log_in}
use Rattle.lfs_model.specs.Tree.{State, Tree, Dir, drop_nameless, new_form}
use Rattle.lfs_model.specs.TreeOf.{AreFormed, AreLinks, Stands, TreeOf, dropped, tree_in}
use Rattle.lfs_model.specs.declared.limits.TheConstants.{LEAST_SECTORS}

-- the state that a mount finds: a tree in this version of the layout, and no handles
abbrev pub mounted : ℕ → Tree → State
mounted version t = record { tree = t; handles = []; version = version }

-- The refusals of a mount, the first of these that holds.
-- too few sectors for a volume, or for the one that is there
abbrev pub IsTooSmall : Content → Type 0
IsTooSmall c = (length c < LEAST_SECTORS) ⊎ ((k : CheckpointValue) × (newest c ≡ Some k) × (length c < segment_start k.segments))

abbrev pub IsWithoutCheckpoint : Content → Type 0
IsWithoutCheckpoint c = (LEAST_SECTORS ≤ length c) × (newest c ≡ None)

-- the volume is damaged: this is the code
abbrev pub IsDamagedBy : Content → ℕ → Type 0
IsDamagedBy c code = (k : CheckpointValue) × (newest c ≡ Some k) × (segment_start k.segments ≤ length c) × IsDamaged (view c k) code

-- A content stands for one state at most.
abbrev pub SingleState : Type 0
SingleState = (c : Content) (s t : State) → Stands c s → Stands c t → s ≡ t

-- It stands for it by what its newest checkpoint needs.
abbrev pub StateLocality : Type 0
StateLocality = (c d : Content) (s : State) (is : Stands c s) → Keeps c is.checkpoint d → Stands d s

-- The write of the next checkpoint leaves the one tree or the other.
abbrev pub StateSlotWrite : Type 0
StateSlotWrite = (c : Content) (s : State) (is : Stands c s) (e : Content) → Keeps c is.checkpoint e
    → (next : CheckpointValue) (bytes : List ℕ) (m : LogMap) (t : Tree) → IsReadyFor e is.checkpoint next bytes m → TreeOf next.segments m t
    → (d : Content) → MayWrite (next.number % 2) bytes e d → Stands d s ⊎ Stands d (mounted (layout_version next) t)

-- Where all stages hold of a volume that is large enough, the content stands for the tree that is read from it.
abbrev pub FoundStands : Type 0
FoundStands = (c : Content) (k : CheckpointValue) → newest c ≡ Some k → segment_start k.segments ≤ length c
    → ((code : ℕ) → stage (view c k) code)
    → Stands c (mounted (layout_version k) (tree_in (log_in (view c k))))

-- What stands for a state is refused for none of these.
abbrev pub NotRefused : Type 0
NotRefused = (c : Content) (s : State) → Stands c s → ¬ (IsTooSmall c) × ¬ (IsWithoutCheckpoint c) × ((code : ℕ) → ¬ (IsDamagedBy c code))

-- A new volume has an empty root.
abbrev pub NewVolume : Type 0
NewVolume = (version N p : ℕ) (c : Content) → IsNew version N p c → Stands c (mounted version ((1, Dir (new_form version) []) ∷ []))

-- The log map of a running volume of N segments in this state. A file without a name is in it, and its header has links 0.
pub record IsLogOf (N : ℕ) (m : LogMap) (s : State) : Type 0 where
  pub sound : Sound N s
  pub is : s.tree ≡ tree_in m
  pub version : s.version ≡ m.version
  pub formed : AreFormed m
  pub links : AreLinks m

-- A mount comes to such a one.
abbrev pub MountedLog : Type 0
MountedLog = (c : Content) → AllByRecursion IsSector c → (s : State) (is : Stands c s) → IsLogOf is.checkpoint.segments is.log s

-- The log map without its files of no links is that of the tree without the nodes of no name.
abbrev pub DroppedTree : Type 0
DroppedTree = (N : ℕ) (m : LogMap) (s : State) → IsLogOf N m s → TreeOf N (dropped m) (drop_nameless s).tree

-- It keeps what a volume's log map keeps, so it can be laid out.
abbrev pub DroppedLog : Type 0
DroppedLog = (N : ℕ) (m : LogMap) (s : State) → IsLogOf N m s → IsLogMap m → IsLogMap (dropped m)

-- So what a commit leaves, a content that stands for that log map, stands for the state without its nodes of no name.
abbrev pub DroppedStands : Type 0
DroppedStands = (c : Content) (k : CheckpointValue) (m : LogMap) (s : State) → newest c ≡ Some k → StandsAt c k (dropped m)
    → IsLogOf k.segments m s → Stands c (drop_nameless s)

-- With that state it is the log map of a running volume again.
abbrev pub DroppedAgain : Type 0
DroppedAgain = (N : ℕ) (m : LogMap) (s : State) → IsLogOf N m s → IsLogOf N (dropped m) (drop_nameless s)

-- And what a content stands for has no more to be dropped.
abbrev pub NothingDropped : Type 0
NothingDropped = (c : Content) (s : State) → Stands c s → drop_nameless s ≡ s

-- What a device's content stands for is a sound state.
abbrev pub StandingIsSound : Type 0
StandingIsSound = (c : Content) → AllByRecursion IsSector c → (s : State) (is : Stands c s) → Sound is.checkpoint.segments s

-- The content stands for a state of the run that is pending, without its nodes of no name: for what some beginning of the calls,
-- which holds every call up to the last acknowledged one, has left.
abbrev pub StandsForPrefix : Content → List Point → List Call → List Answer → Type 0
StandsForPrefix c points calls answers = StandsForPending (λ s. Stands c (drop_nameless s)) points calls answers

-- So does each content that a stop may leave now. `leaves_more` of proofs/CrashRuns takes it over a further call.
abbrev pub LeavesPrefix : DeviceState → List Point → List Call → List Answer → Type 0
LeavesPrefix d points calls answers = AllLeft d (λ c. StandsForPrefix c points calls answers)
