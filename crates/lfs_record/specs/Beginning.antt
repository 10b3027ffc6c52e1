-- What a recorder does as it begins, and what it goes by then.
use Rattle.std.specs.Prelude.{◌≡◌, ◌⊎◌, ℕ, ◌-◌, ◌==◌, ◌&&◌, Bool, true, false, List, [], ◌∷◌, ◌++◌, Option, Some, None, map, slice_get}
use Rattle.std.specs.FinMap.{find}
use Rattle.std.specs.Ordering.{nat_cmp}
use Rattle.lfs_model.specs.Call.{Close, Data, DirectoryEntry, Done, Entries, Handle, LstatOf, Open, Pread, Readdir, Stat, Status}
use Rattle.lfs_model.specs.Run.{Point, Run, final}
use Rattle.lfs_model.specs.Sound.{Sound}
use Rattle.lfs_model.specs.Tree.{File, State, node}
use Rattle.lfs_record.specs.Files.{is_file, newest}
use Rattle.lfs_record.specs.Keeping.{GoesBy}
use Rattle.lfs_record.specs.Moves.{Calls, root}
use Rattle.lfs_record.specs.Names.{day_of, number_of, path_of}
use Rattle.lfs_record.specs.declared.recorder.Present.{Present}
use Rattle.lfs_record.specs.declared.recorder.Recorder.{Recorder}

-- lines may go on in what stands at a name: a file that no other name gives
abbrev pub is_own : Stat → Bool
is_own stat = is_file stat.kind && stat.links == 1

-- an open file of so many bytes, behind which lines go
abbrev pub behind : ℕ → List ℕ → ℕ → Present
behind handle day size = record { handle = handle; day = day; end = size }

-- An open file goes on where it is empty or its last byte is a newline, and is closed where it isn't: one rule a case.
pub data GoesOn (handle : ℕ) (day : List ℕ) (size : ℕ) : Calls → Option Present → Type 0 where
  is_empty : size ≡ 0 → GoesOn handle day size [] (Some (behind handle day size))
  is_whole : GoesOn handle day size ((Pread handle (size - 1) 1, Data (10 ∷ [])) ∷ []) (Some (behind handle day size))
  not_whole : (bytes : List ℕ)
      → GoesOn handle day size ((Pread handle (size - 1) 1, Data bytes) ∷ (Close handle, Done) ∷ []) None

-- The file of a name is opened, where no other name gives it: one rule a case.
pub data TakesUp (name : List ℕ) : Calls → Option Present → Type 0 where
  not_own : (stat : Stat) → is_own stat ≡ false → TakesUp name ((LstatOf (path_of name), Status stat) ∷ []) None
  is_opened : {calls : Calls} {present : Option Present} (stat : Stat) (handle : ℕ) → is_own stat ≡ true
      → GoesOn handle (day_of name) stat.size calls present
      → TakesUp name ((LstatOf (path_of name), Status stat) ∷ (Open (path_of name), Handle handle) ∷ calls) present

-- a recorder whose newest file has this number
abbrev pub begun : ℕ → ℕ → ℕ → Option Present → Recorder
begun bytes files number present = record { bytes = bytes; files = files; number = number; present = present }

-- The root is listed, and the newest of the names that a recorder's files may have gives the number to go by: one rule a case.
pub data Begins (bytes files : ℕ) : Calls → Recorder → Type 0 where
  has_none : (entries : List DirectoryEntry) → newest entries ≡ None
      → Begins bytes files ((Readdir root, Entries entries) ∷ []) (begun bytes files 0 None)
  has_newest : {calls : Calls} {present : Option Present} (entries : List DirectoryEntry) (entry : DirectoryEntry)
      → newest entries ≡ Some entry → TakesUp entry.name calls present
      → Begins bytes files ((Readdir root, Entries entries) ∷ calls) (begun bytes files (number_of entry.name) present)

-- the bytes of a file end with a newline, or there are none
abbrev pub AreWhole : List ℕ → Type 0
AreWhole bytes = (bytes ≡ []) ⊎ ((before : List ℕ) × (bytes ≡ before ++ 10 ∷ []))

-- a state is another one but for its open files
abbrev pub IsButHandles : State → State → Type 0
IsButHandles s s' = s' ≡ record s { handles = s'.handles }

-- A recorder goes by the last point, its present file has no half line, and no name and no byte has changed.
pub record Finds (r : Recorder) (first : Point) (points : List Point) : Type 0 where
  pub goes_by : GoesBy r (final first points).state
  pub whole : (p : Present) (n : ℕ) (bytes : List ℕ) → r.present ≡ Some p
      → find nat_cmp p.handle (final first points).state.handles ≡ Some n
      → node (final first points).state.tree n ≡ Some (File bytes) → AreWhole bytes
  pub same : (n : ℕ) (q : Point) → slice_get (first ∷ points) n ≡ Some q → IsButHandles first.state q.state

-- So it is where these calls are a run of the model from a sound state.
abbrev pub FindsFiles : Calls → Recorder → Type 0
FindsFiles calls r = (N : ℕ) (first : Point) (points : List Point)
    → Run N first (map (λ c. c.0) calls) (map (λ c. c.1) calls) points → Sound N first.state → Finds r first points
