-- How large a new file may be: the greatest that keeps the need within the limit. What a call may need is an own choice.
use Rattle.std.specs.Prelude.{◌≡◌, ◌⊎◌, ◌≤◌, ◌<◌, ℕ, ◌+◌, ◌*◌, List, [], ◌∷◌, ◌++◌, ◌==◌, IsTrue, Result, Ok, Err, codes, length, map}
use Rattle.std.specs.Prelude.{None, Some}
use Rattle.std.specs.Int.{div_ceil}
use Rattle.std.specs.List.{list_any, range_with_len}
use Rattle.lfs_model.specs.Call.{Call, DirectoryEntry, Entries, ListTree, Readdir, Refuse, Room, Rows, Space, Stat, StatOf, Status}
use Rattle.lfs_model.specs.Device.{DeviceState}
use Rattle.lfs_model.specs.Need.{data_pieces, need, pointers}
use Rattle.lfs_model.specs.Sound.{Sound}
use Rattle.lfs_model.specs.Step.{Step, name, with_new}
use Rattle.lfs_model.specs.Tree.{Dir, File, Names, State, entry, node, slot_len}
use Rattle.lfs_model.specs.declared.limits.TheConstants.{NEED_OF_META, NEED_OF_SEGMENT}
use Rattle.lfs_fs.specs.Answers.{row_of}
use Rattle.lfs_fs.specs.Refusals.{refusal_of}
use Rattle.lfs_fs.specs.Volume.{Mounted, Serves}
use Rattle.lfs_fs.specs.declared.error.FsError.{FsError}
use Rattle.lfs_fs.specs.entries.declared.rows.TreeRow.{TreeRow}
use Rattle.lfs_put.specs.Calls.{Made, ServesAll, made}
use Rattle.lfs_put.specs.declared.largest.TheConstants.{BLOCK, LAST_NUMBER, MOST_BLOCKS, MOST_ENTRIES, NARROW}

-- what an object adds to the need whose first blocks, so many, have a nonzero
-- byte each: these, and the need of its inode and of each block of pointers
abbrev pub cost_of_blocks : ℕ → ℕ
cost_of_blocks blocks = blocks + NEED_OF_META * (1 + pointers (range_with_len 0 blocks))

-- what a directory of so many entries, of so many bytes each, adds
abbrev pub cost_of_entries : ℕ → ℕ → ℕ
cost_of_entries slot entries = cost_of_blocks (div_ceil (slot * entries) BLOCK)

-- With a new file of so many blocks, and its entry in a directory that has so many entries of so many bytes each, the need is within
-- the limit.
abbrev pub Fits : ℕ → ℕ → ℕ → ℕ → ℕ → Type 0
Fits need limit slot entries blocks =
    need + cost_of_blocks blocks + cost_of_entries slot (entries + 1) ≤ limit + cost_of_entries slot entries

-- The greatest number of blocks of a new file that fits, 0 where none does.
pub record IsLargest (need limit slot entries blocks : ℕ) : Type 0 where
  pub few : blocks ≤ MOST_BLOCKS
  pub fits : (blocks ≡ 0) ⊎ Fits need limit slot entries blocks
  pub most : (more : ℕ) → blocks < more → more ≤ MOST_BLOCKS → Fits need limit slot entries more → ⊥

-- The same in a directory of this size, which has so many entries, by each form that it may have then: one alone, unless it is empty.
abbrev pub IsLargestIn : ℕ → ℕ → ℕ → ℕ → ℕ → Type 0
IsLargestIn need limit size entries blocks =
    (form : ℕ) → size ≡ slot_len form * entries → IsLargest need limit (slot_len form) entries blocks

-- In a sound state of a volume of N segments, whose root has these names: a new file of as many full blocks as the largest has keeps the
-- need within the limit, and one of more full blocks doesn't. The root hasn't its name yet.
abbrev pub LargestFits : Type 0
LargestFits = (N : ℕ) (s : State) → Sound N s → (form : ℕ) (m : Names) → node s.tree 1 ≡ Some (Dir form m) → (blocks : ℕ)
    → IsLargestIn (need s.tree) (NEED_OF_SEGMENT * N) (slot_len form * length m) (length m) blocks
    → (p : List ℕ) → entry s.tree 1 (name p) ≡ None → (b : List ℕ) (count : ℕ) → data_pieces (File b) ≡ range_with_len 0 count
    → (0 < count → count ≡ blocks → need (with_new s.tree 1 p (File b)) ≤ NEED_OF_SEGMENT * N)
    × (blocks < count → count ≤ MOST_BLOCKS → NEED_OF_SEGMENT * N < need (with_new s.tree 1 p (File b)))

-- What the space, the size of the root and its listing tell of a state whose root has these names: the need and its limit, and with
-- them what the largest is counted by.
abbrev pub RootIsTold : Type 0
RootIsTold = (N : ℕ) (s s' : State) (form : ℕ) (m : Names) → node s.tree 1 ≡ Some (Dir form m)
    → ((data_blocks meta_blocks n l : ℕ) → Step N s Space (Room data_blocks meta_blocks n l) s'
    → (n ≡ need s.tree) × (l ≡ NEED_OF_SEGMENT * N))
    × ((root : Stat) → Step N s (StatOf (codes "/")) (Status root) s' → root.size ≡ slot_len form * length m)
    × ((entries : List DirectoryEntry) → Step N s (Readdir (codes "/")) (Entries entries) s' → length entries ≡ length m)

-- So many bytes has each entry of a directory of this size, which has so many; an empty one is taken for one of the first form.
abbrev pub IsSlotOf : ℕ → ℕ → ℕ → Type 0
IsSlotOf size entries slot =
    (form : ℕ) → size ≡ slot_len form * entries → (slot ≡ slot_len form) ⊎ ((entries ≡ 0) × (slot ≡ NARROW))

-- a row gives an object of this number
abbrev pub IsTaken : List TreeRow → ℕ → Type 0
IsTaken rows number = IsTrue (list_any (λ row. row.number == number) rows)

-- rows give all numbers but the root's
abbrev pub AreAllTaken : List TreeRow → Type 0
AreAllTaken rows = (number : ℕ) → 1 < number → number ≤ LAST_NUMBER → IsTaken rows number

-- there is a number that neither the root has nor a row gives
abbrev pub IsOneFree : List TreeRow → Type 0
IsOneFree rows = (number : ℕ) × (1 < number) × (number ≤ LAST_NUMBER) × (IsTaken rows number → ⊥)

-- the calls that tell the space, and the size and the entries of the root
abbrev pub telling : ℕ → ℕ → ℕ → ℕ → Stat → List DirectoryEntry → List Made
telling data_blocks meta_blocks need limit root entries = made Space (Room data_blocks meta_blocks need limit)
    ∷ made (StatOf (codes "/")) (Status root) ∷ made (Readdir (codes "/")) (Entries entries) ∷ []

-- The largest file's bytes, by what was told: none where the root is full, or where each number is
-- taken; and there are fewer objects than numbers where there are fewer inodes and blocks of pointers.
pub record IsToldLargest (calls : List Made) (bytes : ℕ) : Type 0 where
  pub data_blocks : ℕ
  pub meta_blocks : ℕ
  pub need : ℕ
  pub limit : ℕ
  pub root : Stat
  pub entries : List DirectoryEntry
  pub rest : List Made
  pub order : calls ≡ telling data_blocks meta_blocks need limit root entries ++ rest
  pub by : ((MOST_ENTRIES ≤ length entries) × (bytes ≡ 0))
      ⊎ ((rows : List TreeRow) × (rest ≡ made ListTree (Rows (map row_of rows)) ∷ []) × AreAllTaken rows × (bytes ≡ 0))
      ⊎ ((blocks : ℕ) × IsLargestIn need limit root.size (length entries) blocks × (bytes ≡ BLOCK * blocks)
      × (((rest ≡ []) × (meta_blocks < LAST_NUMBER))
      ⊎ ((rows : List TreeRow) × (rest ≡ made ListTree (Rows (map row_of rows)) ∷ []) × IsOneFree rows)))

-- by a result: the largest file's bytes, as told; or the last call was refused, for the result's reason
abbrev pub HasTold : List Made → Result ℕ FsError → Type 0
HasTold calls (Ok bytes) = IsToldLargest calls bytes
HasTold calls (Err fault) = (before : List Made) × (call : Call) × (calls ≡ before ++ made call (Refuse (refusal_of fault)) ∷ [])

-- by the rows of a tree: so many bytes where a number is free, else none
abbrev pub AreFor : List TreeRow → ℕ → ℕ → Type 0
AreFor rows bytes told = (IsOneFree rows × (told ≡ bytes)) ⊎ (AreAllTaken rows × (told ≡ 0))

module _ {D : Type 0} (state : D → DeviceState) where
  -- by a result: the tree was asked for, and its rows tell whether a number is free; or the call was refused
  abbrev pub TellsByTree : Mounted D → Mounted D → ℕ → Result ℕ FsError → Type 0
  TellsByTree old new bytes (Ok told) = (rows : List TreeRow) × Serves state old new ListTree (Rows (map row_of rows))
      × AreFor rows bytes told
  TellsByTree old new bytes (Err fault) = Serves state old new ListTree (Refuse (refusal_of fault))

  -- by a result: the root was listed, and has so many entries; or the call was refused
  abbrev pub TellsEntries : Mounted D → Mounted D → Result ℕ FsError → Type 0
  TellsEntries old new (Ok count) = (entries : List DirectoryEntry) × Serves state old new (Readdir (codes "/")) (Entries entries)
      × (count ≡ length entries)
  TellsEntries old new (Err fault) = Serves state old new (Readdir (codes "/")) (Refuse (refusal_of fault))

  -- Calls that change nothing, and what they tell of the largest new file.
  pub record TellsLargest (old new : Mounted D) (result : Result ℕ FsError) : Type 0 where
    pub calls : List Made
    pub served : ServesAll state old new calls
    pub outcome : HasTold calls result
