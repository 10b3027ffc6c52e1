-- What a recorder does: calls of a volume with their answers, and what becomes of the recorder in them.
use Rattle.std.specs.Prelude.{◌≡◌, ◌<◌, ◌≤◌, ℕ, ◌+◌, ◌==◌, false, List, [], ◌∷◌, ◌++◌, Some, None, codes, length, true}
use Rattle.std.specs.List.{list_any}
use Rattle.lfs_model.specs.Call.{Answer, Call, Close, Count, Create, DirectoryEntry, Done, Entries, Handle, Pwrite, Readdir, Refuse}
use Rattle.lfs_model.specs.Call.{Sync, Unlink}
use Rattle.lfs_model.specs.Bytes.{AreBytes}
use Rattle.lfs_model.specs.Refusal.{DirFull, NoNumber, NoSpace, Refusal}
use Rattle.lfs_record.specs.Files.{count_files, oldest}
use Rattle.lfs_record.specs.Kept.{IsOwn, text_of}
use Rattle.lfs_record.specs.Names.{is_day, name_of, path_of}
use Rattle.lfs_record.specs.declared.names.TheConstants.{LAST}
use Rattle.lfs_record.specs.declared.recorder.Present.{Present}
use Rattle.lfs_record.specs.declared.recorder.Recorder.{Recorder}
use Rattle.lfs_record.specs.declared.recorder.TheConstants.{LONGEST_LINE}

-- calls and their answers
abbrev pub Calls : Type 0
Calls = List (Call × Answer)

-- the root
abbrev pub root : List ℕ
root = codes "/"

-- a line has no newline in it, and isn't too long
pub record IsLine (line : List ℕ) : Type 0 where
  pub single : list_any (λ byte. byte == 10) line ≡ false
  pub bytes : AreBytes line
  pub short : length line ≤ LONGEST_LINE

-- a refusal for want of room, which an older file may give
abbrev pub IsForRoom : Refusal → Type 0
IsForRoom NoSpace = Unit {0}
IsForRoom DirFull = Unit {0}
IsForRoom NoNumber = Unit {0}
IsForRoom _ = ⊥

-- the present file, with a line more
abbrev pub grown : Present → List ℕ → Present
grown p line = record p { end = p.end + length (text_of line) }

-- the recorder with another present file
abbrev pub goes_to : Recorder → Present → Recorder
goes_to r p = record r { present = Some p }

-- the recorder with a new file, which has the next number and no bytes yet
abbrev pub started : Recorder → List ℕ → ℕ → Recorder
started r day handle = record r { number = r.number + 1; present = Some (record { handle = handle; day = day; end = 0 }) }

-- the path of a new file
abbrev pub next_path : Recorder → List ℕ → List ℕ
next_path r day = path_of (name_of (r.number + 1) day)

-- The root is listed, and of these entries the oldest file goes that is older than the newest.
pub record Drops (r : Recorder) (calls : Calls) : Type 0 where
  pub entries : List DirectoryEntry
  pub file : DirectoryEntry
  pub is : oldest r.number entries ≡ Some file
  pub order : calls ≡ (Readdir root, Entries entries) ∷ (Unlink (path_of file.name), Done) ∷ []

-- Such calls lead a recorder from one state to another: one rule a case.
pub data Moves : Recorder → Calls → Recorder → Type 0 where
  no_more : {r : Recorder} → Moves r [] r
  -- a call of its own that is refused changes nothing
  is_refused : {r r' : Recorder} {calls : Calls} (call : Call) (refusal : Refusal) → IsOwn call
      → Moves r calls r'
      → Moves r ((call, Refuse refusal) ∷ calls) r'
  lists : {r r' : Recorder} {calls : Calls} (entries : List DirectoryEntry) → Moves r calls r'
      → Moves r ((Readdir root, Entries entries) ∷ calls) r'
  saves : {r r' : Recorder} {calls : Calls} → Moves r calls r' → Moves r ((Sync, Done) ∷ calls) r'
  -- the first file
  starts : {r r' : Recorder} {calls : Calls} (day : List ℕ) (handle : ℕ) → is_day day ≡ true → r.number < LAST
      → r.present ≡ None → Moves (started r day handle) calls r'
      → Moves r ((Create (next_path r day), Handle handle) ∷ calls) r'
  -- the next file, and the one before is closed
  goes_on : {r r' : Recorder} {calls : Calls} (day : List ℕ) (handle : ℕ) (p : Present) (closed : Answer)
      → is_day day ≡ true → r.number < LAST → r.present ≡ Some p → Moves (started r day handle) calls r'
      → Moves r ((Create (next_path r day), Handle handle) ∷ (Close p.handle, closed) ∷ calls) r'
  -- a line behind the end of the present file, by one write
  writes : {r r' : Recorder} {calls : Calls} (p : Present) (line : List ℕ) (count : ℕ) → IsLine line
      → r.present ≡ Some p → Moves (goes_to r (grown p line)) calls r'
      → Moves r ((Pwrite p.handle p.end (text_of line), Count count) ∷ calls) r'
  -- the oldest file goes, since a call was refused for want of room
  makes_room : {r r' : Recorder} {calls dropped : Calls} (call : Call) (refusal : Refusal) → IsOwn call
      → IsForRoom refusal → Drops r dropped → Moves r calls r' → Moves r ((call, Refuse refusal) ∷ dropped ++ calls) r'
  -- the oldest file goes, since there are more than are to be kept
  keeps_few : {r r' : Recorder} {calls dropped : Calls} → 0 < r.files → (drops : Drops r dropped)
      → r.files < count_files drops.entries → Moves r calls r' → Moves r (dropped ++ calls) r'

-- the texts that were written, behind these
abbrev pub more_texts : List (List ℕ) → Answer → Call → List (List ℕ)
more_texts texts (Count count) (Pwrite handle offset text) = texts ++ text ∷ []
more_texts texts _ _ = texts

abbrev pub texts_behind : List (List ℕ) → Calls → List (List ℕ)
texts_behind texts [] = texts
texts_behind texts (c ∷ calls) = texts_behind (more_texts texts c.1 c.0) calls

-- the texts that were written in these calls
abbrev pub texts_in : Calls → List (List ℕ)
texts_in = texts_behind []
