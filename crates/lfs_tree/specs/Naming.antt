-- What the entries of directories say of numbers, in tables by number, and the slots that they are read from.
-- All of it is an own choice.
use Rattle.std.specs.Prelude.{◌≡◌, ◌≢◌, ◌<◌, ◌+◌, ◌==◌, min, is_some, cond, ℕ, Bool, true, false, List, ◌++◌, length, slice_index}
use Rattle.std.specs.Prelude.{slice_set, get_or, count_by, Option, Some, None, MatchBool, Vec}
use Rattle.std.specs.declared.alloc.Global.{Global}
use Rattle.std.specs.BTreeSet as tree
use Rattle.std.specs.BTreeSet.{BTreeSet}
use Rattle.std.specs.Cmp.Lexicographic.{slice_cmp}
use Rattle.std.specs.FinMap.{find}
use Rattle.std.specs.List.{AllByRecursion}
use Rattle.std.specs.Ordering.{nat_cmp}
use Rattle.lfs_model.specs.declared.Kind.{Kind}
use Rattle.lfs_model.specs.declared.Kind.TheVariants as kind
use Rattle.lfs_model.specs.declared.limits.TheConstants.{FILE_NUMBERS}
use Rattle.lfs_model.specs.Slot.{SlotValue, slot_in}
use Rattle.lfs_model.specs.Tree.{Names, byte_cmp}
use Rattle.lfs_model.specs.TreeOf.{map_of}
use Rattle.lfs_files.specs.declared.header.Header.{Header}

abbrev pub is_directory_kind : Kind → Bool
is_directory_kind kind.File = false
is_directory_kind kind.Directory = true
is_directory_kind kind.Link = false

abbrev pub is_directory : Option Header → Bool
is_directory None = false
is_directory (Some h) = is_directory_kind h.kind

-- whether a directory stands at a number
abbrev pub leads : List (Option Header) → ℕ → Bool
leads headers n = is_directory (get_or headers n None)

-- how many of these names give a number
abbrev pub giving : Names → ℕ → ℕ
giving names n = count_by (λ x. x.1 == n) names

-- what a table says of a count
abbrev pub capped : ℕ → ℕ
capped n = min n 65535

-- ---- names in a set

-- the set has these names, and no other
abbrev pub HasNames : BTreeSet (Vec ℕ Global) → Names → Type 0
HasNames set names = (q : Vec ℕ Global)
    → tree.contains (λ (x y : Vec ℕ Global). slice_cmp nat_cmp x.items y.items) set q ≡ is_some (find byte_cmp q.items names)

-- ---- tables by number

-- what the entries that were gone through say, in lists by number
pub record NamesValue : Type 0 where
  -- how many give the number, at most 65,535
  pub counts : List ℕ
  -- a directory with such an entry, if there is one
  pub up : List ℕ
  -- how many of this directory give directories, at most 65,535
  pub below : List ℕ

-- each has 4,096 numbers, and those of directories are among them
pub record AreTables (t : NamesValue) : Type 0 where
  pub counts : length t.counts ≡ FILE_NUMBERS
  pub up : length t.up ≡ FILE_NUMBERS
  pub below : length t.below ≡ FILE_NUMBERS
  pub inside : (n : ℕ) → slice_index t.up n < FILE_NUMBERS

-- tables of no entries
pub record AreEmpty (t : NamesValue) : Type 0 where
  pub counts : (n : ℕ) → slice_index t.counts n ≡ 0
  pub below : (n : ℕ) → slice_index t.below n ≡ 0

-- Directory d gives number n once more; whether a directory stands there.
pub record Notes (old new : NamesValue) (d n : ℕ) (is_dir : Bool) : Type 0 where
  pub counts : new.counts ≡ slice_set old.counts n (min (slice_index old.counts n + 1) 65535)
  pub up : new.up ≡ slice_set old.up n d
  pub below : new.below ≡ slice_set old.below d (min (slice_index old.below d + cond {A = ℕ} is_dir 1 0) 65535)

-- what is known before a directory is gone through: how often each number is given, by which directory, and how many directories each gives
pub record Base : Type 0 where
  pub counts : ℕ → ℕ
  pub up : ℕ → ℕ
  pub below : ℕ → ℕ

-- The tables tell these names of directory d too.
pub record IsNoted (headers : List (Option Header)) (d : ℕ) (base : Base) (names : Names) (t : NamesValue) : Type 0 where
  pub counts : (n : ℕ) → n < FILE_NUMBERS → slice_index t.counts n ≡ capped (base.counts n + giving names n)
  pub given : (n : ℕ) → n < FILE_NUMBERS → 0 < giving names n → slice_index t.up n ≡ d
  pub kept : (n : ℕ) → n < FILE_NUMBERS → giving names n ≡ 0 → slice_index t.up n ≡ base.up n
  pub own : slice_index t.below d ≡ capped (base.below d + count_by (λ x. leads headers x.1) names)
  pub others : (e : ℕ) → e ≢ d → slice_index t.below e ≡ base.below e

-- ---- slots

-- it is well-formed in a directory of this form, and its number is there
pub record IsGoodSlot (form : ℕ) (headers : List (Option Header)) (slot : List ℕ) : Type 0 where
  pub value : SlotValue
  pub spelt : slot_in form slot ≡ Some value
  pub there : get_or headers value.number None ≢ None

-- each is so, and no two have one name
pub record AreGoodSlots (form : ℕ) (headers : List (Option Header)) (slots : List (List ℕ)) : Type 0 where
  pub each : AllByRecursion (IsGoodSlot form headers) slots
  pub apart : length (map_of form slots) ≡ length slots

-- slots of directory d were gone through
pub record IsTaken (form : ℕ) (headers : List (Option Header)) (d : ℕ) (base : Base) (slots : List (List ℕ)) (set : BTreeSet (Vec ℕ Global))
    (t : NamesValue) : Type 0 where
  pub good : AreGoodSlots form headers slots
  pub names : HasNames set (map_of form slots)
  pub noted : IsNoted headers d base (map_of form slots) t

-- More slots are gone through, which stand before those; or they aren't good.
abbrev pub TakesSlots : ℕ → List (Option Header) → ℕ → List (List ℕ) → BTreeSet (Vec ℕ Global) → BTreeSet (Vec ℕ Global) → NamesValue
    → NamesValue → Bool → Type 0
TakesSlots form headers d more set set' t t' taken = (base : Base) (behind : List (List ℕ)) → IsTaken form headers d base behind set t
    → MatchBool taken (IsTaken form headers d base (more ++ behind) set' t') (AreGoodSlots form headers (more ++ behind) → ⊥)

-- Whether slots are good and the tables tell their names too, or they aren't good.
abbrev pub TakesNames : ℕ → List (Option Header) → ℕ → Base → List (List ℕ) → NamesValue → Bool → Type 0
TakesNames form headers d base slots t taken =
    MatchBool taken (AreGoodSlots form headers slots × IsNoted headers d base (map_of form slots) t) (AreGoodSlots form headers slots → ⊥)
