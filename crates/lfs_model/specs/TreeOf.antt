-- The tree of a log map, and what it is for a content to stand for it.
-- All of it is an own choice: it joins this layout to the tree of the calls.
use Rattle.std.specs.Prelude.{◌≡◌, ◌≢◌, ◌⊎◌, ◌<◌, ◌≤◌, ◌+◌, ◌*◌, ◌/◌, ◌%◌, ◌==◌, nat_lt, ℕ, zero, suc, true, cond, List, [], ◌∷◌, length}
use Rattle.std.specs.Prelude.{map, take, drop, Option, Some, None, MatchBool, slice_index}
use Rattle.std.specs.List.{AllByRecursion, Contains, range_with_len}
use Rattle.std.specs.FinMap.{put}
use Rattle.lfs_model.specs.declared.Kind.{Kind}
use Rattle.lfs_model.specs.declared.Kind.TheVariants as kind
use Rattle.lfs_model.specs.Checkpoint.{CheckpointValue, layout_version}
use Rattle.lfs_model.specs.Content.{Content, newest}
use Rattle.lfs_model.specs.Device.{DeviceState, AllLeft, LeavesOnly}
use Rattle.lfs_model.specs.Entry.{Header}
use Rattle.lfs_model.specs.Need.{need}
use Rattle.lfs_model.specs.Slot.{SlotValue, slot_in}
use Rattle.lfs_model.specs.Sound.{NamesGive, IsReachable}
use Rattle.lfs_model.specs.Stands.{LogMap, StandsAt}
use Rattle.lfs_model.specs.Tree.{Names, Node, File, Dir, Link, Tree, State, byte_cmp, is_dir, links, names, node, slot_len}
use Rattle.lfs_model.specs.declared.limits.TheConstants.{SECTOR_LEN, LAST_NUMBER, NEED_OF_SEGMENT}

-- the map of the slots of a directory of this form
abbrev pub with_slot : Option SlotValue → Names → Names
with_slot None m = m
with_slot (Some s) m = put byte_cmp s.name s.number m

abbrev pub map_of : ℕ → List (List ℕ) → Names
map_of form [] = []
map_of form (slot ∷ slots) = with_slot (slot_in form slot) (map_of form slots)

-- what stands at a number
abbrev pub with_object : ℕ → Option Node → Tree → Tree
with_object n None t = t
with_object n (Some x) t = (n, x) ∷ t

module _ (m : LogMap) where
  -- the bytes of object n; a block that isn't stored reads as zeros
  unfoldable pub object : ℕ → Header → List ℕ
  object n h = map (λ o. slice_index (m.block n (o / SECTOR_LEN)) (o % SECTOR_LEN)) (range_with_len 0 h.size)

  -- a directory's slots
  unfoldable pub slots : ℕ → Header → List (List ℕ)
  slots n h = map (λ j. take (slot_len h.form) (drop (slot_len h.form * j) (object n h))) (range_with_len 0 (h.size / slot_len h.form))

  abbrev pub node_by : Kind → ℕ → Header → Node
  node_by kind.File n h = File (object n h)
  node_by kind.Directory n h = Dir h.form (map_of h.form (slots n h))
  node_by kind.Link n h = Link (object n h)

  abbrev pub node_of : ℕ → Option Header → Option Node
  node_of n None = None
  node_of n (Some h) = Some (node_by h.kind n h)

  -- the nodes of the count numbers from a on
  unfoldable pub nodes_from : ℕ → ℕ → Tree
  nodes_from zero a = []
  nodes_from (suc count) a = with_object a (node_of a (m.header a)) (nodes_from count (a + 1))

  unfoldable pub tree_in : Tree
  tree_in = nodes_from LAST_NUMBER 1

  -- each slot of a directory is well-formed, and no two have one name
  abbrev pub AreFormed : Type 0
  AreFormed = (n : ℕ) (h : Header) → m.header n ≡ Some h → h.kind ≡ kind.Directory
      → AllByRecursion (λ b. slot_in h.form b ≢ None) (slots n h) × (length (map_of h.form (slots n h)) ≡ length (slots n h))

  -- the stages that speak of the tree, each by itself
  pub record AreSlots : Type 0 where
    pub formed : AreFormed
    pub there : NamesGive tree_in

  abbrev pub AreTexts : Type 0
  AreTexts = (n : ℕ) (text : List ℕ) → node tree_in n ≡ Some (Link text) → AllByRecursion (λ c. c ≢ 0) text

  pub record AreReached : Type 0 where
    pub some : (n : ℕ) → n ≢ 1 → node tree_in n ≢ None → 0 < names tree_in n
    pub root : names tree_in 1 ≡ 0
    pub one : (n : ℕ) → n ≢ 1 → is_dir (node tree_in n) ≡ true → names tree_in n ≡ 1
    pub down : (n : ℕ) → is_dir (node tree_in n) ≡ true → IsReachable tree_in n

  abbrev pub AreLinks : Type 0
  AreLinks = (n : ℕ) (h : Header) → m.header n ≡ Some h → h.links ≡ links tree_in n

  abbrev pub HasSpace : ℕ → Type 0
  HasSpace N = need tree_in ≤ NEED_OF_SEGMENT * N

-- the log map of a volume of N segments is a tree's
pub record IsTree (N : ℕ) (m : LogMap) : Type 0 where
  pub slots : AreSlots m
  pub texts : AreTexts m
  pub reached : AreReached m
  pub links : AreLinks m
  pub room : HasSpace m N

pub record TreeOf (N : ℕ) (m : LogMap) (t : Tree) : Type 0 where
  pub is : t ≡ tree_in m
  pub tree : IsTree N m

-- these stages by number; no other number has one
abbrev pub tree_stage : ℕ → LogMap → ℕ → Type 0
tree_stage N m code =
    MatchBool (code == 10) (AreSlots m) (
    MatchBool (code == 11) (AreTexts m) (
    MatchBool (code == 12) (AreReached m) (
    MatchBool (code == 13) (AreLinks m) (
    MatchBool (code == 14) (HasSpace m N) (
    Unit {0})))))

-- the content stands for the state: its tree, without handles
pub record Stands (c : Content) (s : State) : Type 0 where
  pub checkpoint : CheckpointValue
  pub log : LogMap
  pub found : newest c ≡ Some checkpoint
  pub stands : StandsAt c checkpoint log
  pub tree : TreeOf checkpoint.segments log s.tree
  pub version : s.version ≡ layout_version checkpoint
  pub closed : s.handles ≡ []

-- a stop now may leave the state
pub record Left (d : DeviceState) (s : State) : Type 0 where
  pub content : Content
  pub may_leave : d.may_leave content
  pub stands : Stands content s

-- it may leave no other
abbrev pub LeavesOne : DeviceState → State → Type 0
LeavesOne d s = AllLeft d (λ c. Stands c s)

-- A stop at any moment since `old` leaves a content that stands for one of these states, or for one that a stop at `old` might leave.
abbrev pub LeavesStates : DeviceState → DeviceState → List State → Type 0
LeavesStates old new states = LeavesOnly old new (λ c. (s : State) × Stands c s × (Left old s ⊎ Contains states s))

-- without files that have no link
abbrev pub kept : {X : Type 0} → Option Header → X → X → X
kept None some none = none
kept (Some h) some none = cond (nat_lt 0 h.links) some none

abbrev pub dropped : LogMap → LogMap
dropped m =
    record { header = λ n. kept (m.header n) (m.header n) None; block = λ n i. kept (m.header n) (m.block n i) []; version = m.version }
