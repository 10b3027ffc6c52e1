-- What a recorder's functions ask of a volume, by their results.
use Rattle.std.specs.Prelude.{◌≡◌, ◌⊎◌, ◌<◌, ◌≤◌, ℕ, ◌+◌, ◌^◌, Bool, true, false, cond, List, [], ◌∷◌, ◌++◌, Option, Some, None, Result}
use Rattle.std.specs.Prelude.{Ok, Err, map}
use Rattle.lfs_model.specs.Call.{Answer, Call, Close, Count, DirectoryEntry, Done, Entries, Pwrite, Readdir, Refuse, Sync, Unlink}
use Rattle.lfs_model.specs.Device.{DeviceState}
use Rattle.lfs_model.specs.declared.limits.TheConstants.{MOST_ENTRIES}
use Rattle.lfs_fs.specs.InARow.{ServesInARow}
use Rattle.lfs_fs.specs.Refusals.{refusal_of}
use Rattle.lfs_fs.specs.Seen.{answer_by}
use Rattle.lfs_fs.specs.Volume.{Mounted, Serves}
use Rattle.lfs_fs.specs.declared.error.FsError.{FsError}
use Rattle.lfs_fs.specs.declared.error.FsError.TheVariants as error
use Rattle.lfs_record.specs.Files.{count_files, oldest}
use Rattle.lfs_record.specs.Kept.{text_of}
use Rattle.lfs_record.specs.Moves.{Calls, Drops, IsForRoom, IsLine, Moves, goes_to, grown, root, texts_behind}
use Rattle.lfs_record.specs.Names.{is_day, path_of}
use Rattle.lfs_record.specs.declared.names.TheConstants.{LAST}
use Rattle.lfs_record.specs.declared.recorder.Present.{Present}
use Rattle.lfs_record.specs.declared.recorder.Recorder.{Recorder}

-- no text is written in these calls
abbrev pub WritesNone : Calls → Type 0
WritesNone calls = (texts : List (List ℕ)) → texts_behind texts calls ≡ texts

-- ---- why a line isn't written

-- the last call was refused for this fault
abbrev pub EndsRefused : Calls → FsError → Type 0
EndsRefused calls fault = (before : Calls) × (call : Call) × (calls ≡ before ++ (call, Refuse (refusal_of fault)) ∷ [])

-- A call was refused for want of room, and no file was older than the newest.
pub record EndsFull (r : Recorder) (calls : Calls) (fault : FsError) : Type 0 where
  pub before : Calls
  pub call : Call
  pub entries : List DirectoryEntry
  pub order : calls ≡ before ++ (call, Refuse (refusal_of fault)) ∷ (Readdir root, Entries entries) ∷ []
  pub room : IsForRoom (refusal_of fault)
  pub none : oldest r.number entries ≡ None

-- the newest file has the last number
abbrev pub IsAtLast : Recorder → FsError → Type 0
IsAtLast r fault = (fault ≡ error.Worn) × (LAST ≤ r.number)

-- why it isn't: a call was refused, there is no room, no number is left, or memory was refused
abbrev pub Stops : Recorder → Calls → FsError → Type 0
Stops r calls fault = EndsRefused calls fault ⊎ EndsFull r calls fault ⊎ IsAtLast r fault ⊎ (fault ≡ error.NoMemory)

-- what isn't taken as a line, or for which memory was refused
abbrev pub IsNoLine : List ℕ → FsError → Type 0
IsNoLine line fault = ((fault ≡ error.Inval) × ¬ IsLine line) ⊎ (fault ≡ error.NoMemory)

-- the line or its day isn't taken, and no call is made
abbrev pub IsUnfit : List ℕ → List ℕ → Calls → FsError → Type 0
IsUnfit day line calls fault = (calls ≡ []) × (fault ≡ error.Inval) × ((is_day day ≡ false) ⊎ ¬ IsLine line)

-- the present file is one for lines of this day, and takes one more
pub record Takes (r : Recorder) (day : List ℕ) (p : Present) : Type 0 where
  pub is : r.present ≡ Some p
  pub same_day : p.day ≡ day
  pub short : (p.end ≡ 0) ⊎ (p.end < r.bytes)
  pub low : p.end < 2 ^ 32

-- ---- what comes of calls, by a result

-- a name of the root goes, by one call
abbrev pub EndsRemoval : {X : Type 0} → List ℕ → Calls → Result X FsError → Type 0
EndsRemoval name calls (Ok done) = calls ≡ (Unlink (path_of name), Done) ∷ []
EndsRemoval name calls (Err fault) = (calls ≡ (Unlink (path_of name), Refuse (refusal_of fault)) ∷ [])
    ⊎ ((calls ≡ []) × (fault ≡ error.NoMemory))

-- calls that leave the recorder, write nothing, and end for this fault
pub record Fails (r : Recorder) (calls : Calls) (fault : FsError) : Type 0 where
  pub moves : Moves r calls r
  pub quiet : WritesNone calls
  pub cause : EndsRefused calls fault ⊎ (fault ≡ error.NoMemory)

-- no call is made, or no file is older, and the first fault stays
abbrev pub HasNoRoom : Recorder → Calls → FsError → FsError → Type 0
HasNoRoom r calls fault cause = (cause ≡ fault) × ((calls ≡ []) ⊎ ((entries : List DirectoryEntry)
    × (calls ≡ (Readdir root, Entries entries) ∷ []) × IsForRoom (refusal_of fault) × (oldest r.number entries ≡ None)))

-- the oldest file goes, for a refusal for want of room; or none does
abbrev pub EndsRoom : {X : Type 0} → Recorder → Calls → FsError → Result X FsError → Type 0
EndsRoom r calls fault (Ok done) = IsForRoom (refusal_of fault) × Drops r calls
EndsRoom r calls fault (Err cause) = HasNoRoom r calls fault cause ⊎ Fails r calls cause

-- these entries have no more of a recorder's files than are to be kept, or none that is older than the newest
abbrev pub IsFew : Recorder → List DirectoryEntry → Type 0
IsFew r entries = (count_files entries ≤ r.files) ⊎ (oldest r.number entries ≡ None)

-- the oldest file goes, where there are more than are kept; or none does
abbrev pub EndsDrop : Recorder → Calls → Result Bool FsError → Type 0
EndsDrop r calls (Ok true) = (drops : Drops r calls) × (r.files < count_files drops.entries)
EndsDrop r calls (Ok false) = (entries : List DirectoryEntry) × (calls ≡ (Readdir root, Entries entries) ∷ []) × IsFew r entries
EndsDrop r calls (Err fault) = Fails r calls fault

-- a file went in this call
abbrev pub goes : Call → Answer → Bool
goes (Unlink path) Done = true
goes _ _ = false

-- how many files went in these calls
abbrev pub gone_in : Calls → ℕ
gone_in [] = 0
gone_in (c ∷ calls) = cond (goes c.0 c.1) 1 0 + gone_in calls

-- the calls end with a listing that has few files
abbrev pub EndsFew : Recorder → Calls → Type 0
EndsFew r calls = (before : Calls) × (entries : List DirectoryEntry) × (calls ≡ before ++ (Readdir root, Entries entries) ∷ [])
    × IsFew r entries

-- no file is left that is one too many: all are kept, a listing says so, or more went than the root has entries
abbrev pub HasFew : Recorder → Calls → Type 0
HasFew r calls = (r.files ≡ 0) ⊎ EndsFew r calls ⊎ (MOST_ENTRIES < gone_in calls)

-- no file began in these calls, or none is left behind it that is one too many
abbrev pub IsKeptFew : Recorder → Recorder → Calls → Type 0
IsKeptFew old r calls = (r.number ≡ old.number)
    ⊎ ((before : Calls) × (few : Calls) × (later : Calls) × (calls ≡ before ++ few ++ later) × HasFew r few)

-- none is left that is one too many, or the calls end for a fault
abbrev pub EndsKept : {X : Type 0} → Recorder → Calls → Result X FsError → Type 0
EndsKept r calls (Ok done) = HasFew r calls
EndsKept r calls (Err fault) = EndsRefused calls fault ⊎ (fault ≡ error.NoMemory)

-- the file before is closed, and nothing is done where there is none
abbrev pub EndsClose : {X : Type 0} → Option Present → Calls → Result X FsError → Type 0
EndsClose None calls (Ok done) = calls ≡ []
EndsClose None calls (Err fault) = ⊥
EndsClose (Some p) calls result = calls ≡ (Close p.handle, answer_by (λ done. Done) result) ∷ []

-- a call is done, behind others that leave the recorder; or they stop
abbrev pub EndsCall : {X : Type 0} → Call → (X → Answer) → Recorder → Calls → Result X FsError → Type 0
EndsCall call f r calls (Ok x) = (before : Calls) × Moves r before r × WritesNone before × (calls ≡ before ++ (call, f x) ∷ [])
EndsCall call f r calls (Err fault) = Moves r calls r × WritesNone calls × Stops r calls fault

-- the calls come to a present file that takes a line of this day, or they stop
abbrev pub EndsTurn : Recorder → Recorder → List ℕ → Calls → Result Present FsError → Type 0
EndsTurn old r day calls (Ok p) = Takes r day p × IsKeptFew old r calls
EndsTurn old r day calls (Err fault) = Stops r calls fault

-- the write of a text to this file
abbrev pub writing : Present → List ℕ → Call
writing p text = Pwrite p.handle p.end text

-- the calls end with the write of this line, to a file that takes it; or they stop before it, or none is made
abbrev pub EndsLine : {X : Type 0} → Recorder → Recorder → List ℕ → List ℕ → Calls → Result X FsError → Type 0
EndsLine old r' day line calls (Ok done) = (before : Calls) × (r : Recorder) × (p : Present) × (count : ℕ) × Takes r day p
    × WritesNone before × (calls ≡ before ++ (writing p (text_of line), Count count) ∷ []) × (r' ≡ goes_to r (grown p line))
    × IsKeptFew old r before
EndsLine old r' day line calls (Err fault) = WritesNone calls × (Stops r' calls fault ⊎ IsUnfit day line calls fault)

module _ {D : Type 0} (state : D → DeviceState) where
  -- A volume serves these calls in a row, with these answers.
  abbrev pub ServesCalls : Mounted D → Mounted D → Calls → Type 0
  ServesCalls old new calls = (clocks : List ℕ) × ServesInARow state new old (map (λ c. c.0) calls) (map (λ c. c.1) calls) clocks

  -- And they lead the recorder on.
  pub record Makes (old new : Mounted D) (r : Recorder) (calls : Calls) (r' : Recorder) : Type 0 where
    pub served : ServesCalls old new calls
    pub moves : Moves r calls r'

  pub record Removes {X : Type 0} (old new : Mounted D) (name : List ℕ) (result : Result X FsError) : Type 0 where
    pub calls : Calls
    pub served : ServesCalls old new calls
    pub ends : EndsRemoval name calls result

  -- A call was refused, and the oldest file goes for it.
  pub record MakesRoom {X : Type 0} (old new : Mounted D) (r : Recorder) (fault : FsError) (result : Result X FsError) : Type 0 where
    pub calls : Calls
    pub served : ServesCalls old new calls
    pub ends : EndsRoom r calls fault result

  pub record DropsOldest (old new : Mounted D) (r : Recorder) (result : Result Bool FsError) : Type 0 where
    pub calls : Calls
    pub served : ServesCalls old new calls
    pub ends : EndsDrop r calls result

  -- Files go until no more are left than are to be kept.
  pub record KeepsFew {X : Type 0} (old new : Mounted D) (r : Recorder) (result : Result X FsError) : Type 0 where
    pub calls : Calls
    pub makes : Makes old new r calls r
    pub quiet : WritesNone calls
    pub ends : EndsKept r calls result

  -- A call is made until it isn't refused for want of room.
  pub record CallsWithRoom {X : Type 0} (old new : Mounted D) (r : Recorder) (call : Call) (f : X → Answer) (result : Result X FsError)
      : Type 0 where
    pub calls : Calls
    pub served : ServesCalls old new calls
    pub ends : EndsCall call f r calls result

  -- The file before is closed, where there is one.
  pub record Closes {X : Type 0} (old new : Mounted D) (before : Option Present) (result : Result X FsError) : Type 0 where
    pub calls : Calls
    pub served : ServesCalls old new calls
    pub ends : EndsClose before calls result

  -- The present file is made one that takes a line of this day.
  pub record Turns (old new : Mounted D) (r r' : Recorder) (day : List ℕ) (result : Result Present FsError) : Type 0 where
    pub calls : Calls
    pub makes : Makes old new r calls r'
    pub quiet : WritesNone calls
    pub ends : EndsTurn r r' day calls result

  -- A line: it is written by one write, behind all calls that it takes; or it isn't.
  pub record TakesLine {X : Type 0} (old new : Mounted D) (r r' : Recorder) (day line : List ℕ) (result : Result X FsError) : Type 0 where
    pub calls : Calls
    pub makes : Makes old new r calls r'
    pub ends : EndsLine r r' day line calls result

  -- All lines so far are saved, or the call is refused.
  pub record Saves {X : Type 0} (old new : Mounted D) (r : Recorder) (result : Result X FsError) : Type 0 where
    pub serves : Serves state old new Sync (answer_by (λ done. Done) result)
    pub makes : Makes old new r ((Sync, answer_by (λ done. Done) result) ∷ []) r

  -- What is made of a volume leads a recorder on, in one row.
  abbrev pub CallsAreJoined : Type 0
  CallsAreJoined = (a b c : Mounted D) (r m r' : Recorder) (xs ys : Calls) → Makes a b r xs m → Makes b c m ys r'
      → Makes a c r (xs ++ ys) r'
