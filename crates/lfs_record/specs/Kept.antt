-- What a recorder's files hold, and what lines make of them.
use Rattle.std.specs.Prelude.{◌≡◌, ◌≢◌, ◌⊎◌, ℕ, cond, List, [], ◌∷◌, ◌++◌, Option, Some, None, map}
use Rattle.lfs_model.specs.Call.{Call, Close, Create, Pwrite, Readdir, Sync, Unlink}
use Rattle.lfs_model.specs.Tree.{File, Names, Node, Tree, names_in, node}
use Rattle.lfs_record.specs.Names.{is_name}

-- the calls that a recorder makes
abbrev pub IsOwn : Call → Type 0
IsOwn (Create path) = Unit {0}
IsOwn (Close handle) = Unit {0}
IsOwn (Pwrite handle offset bytes) = Unit {0}
IsOwn (Unlink path) = Unit {0}
IsOwn (Readdir path) = Unit {0}
IsOwn Sync = Unit {0}
IsOwn _ = ⊥

-- a recorder's file: its name and its bytes
pub record RecordFile : Type 0 where
  pub name : List ℕ
  pub bytes : List ℕ

-- a file's bytes
abbrev pub bytes_in : Option Node → Option (List ℕ)
bytes_in (Some (File b)) = Some b
bytes_in _ = None

-- the file of a name, where that gives one
abbrev pub file_by : List ℕ → Option (List ℕ) → List RecordFile
file_by name (Some b) = record { name = name; bytes = b } ∷ []
file_by name None = []

-- of these names a recorder's files, in the names' order
abbrev pub files_by : (ℕ → Option (List ℕ)) → Names → List RecordFile
files_by bytes [] = []
files_by bytes (e ∷ names) = cond (is_name e.0) (file_by e.0 (bytes e.1)) [] ++ files_by bytes names

-- a recorder's files in the root, the oldest first
abbrev pub files_in : Tree → List RecordFile
files_in t = files_by (λ n. bytes_in (node t n)) (names_in t 1)

-- what is written of a line: it, and a newline
abbrev pub text_of : List ℕ → List ℕ
text_of line = line ++ 10 ∷ []

-- From the first files on the writes of these texts led to these files: one rule a case.
pub data Holds (first : List RecordFile) : List (List ℕ) → List RecordFile → Type 0 where
  at_first : Holds first [] first
  -- the newest file has a text more, whole and behind all before it
  has_text : {texts : List (List ℕ)} (older : List RecordFile) (name bytes text : List ℕ)
      → Holds first texts (older ++ record { name = name; bytes = bytes } ∷ [])
      → Holds first (texts ++ text ∷ []) (older ++ record { name = name; bytes = bytes ++ text } ∷ [])
  -- a file begins
  has_file : {texts : List (List ℕ)} (files : List RecordFile) (name : List ℕ) → Holds first texts files
      → Holds first texts (files ++ record { name = name; bytes = [] } ∷ [])
  -- the oldest file went, and another is left, or no text was written yet
  lost_oldest : {texts : List (List ℕ)} (oldest : RecordFile) (files : List RecordFile) → (files ≢ []) ⊎ (texts ≡ [])
      → Holds first texts (oldest ∷ files) → Holds first texts files

-- texts, one behind the other, and the bytes of files
abbrev pub in_a_row : List (List ℕ) → List ℕ
in_a_row [] = []
in_a_row (text ∷ texts) = text ++ in_a_row texts

abbrev pub joined : List RecordFile → List ℕ
joined files = in_a_row (map (λ f. f.bytes) files)

-- So whole files went, and those that are left hold all else, in order: what was there at first and the texts behind it.
abbrev pub HoldsAllElse : Type 0
HoldsAllElse = (first files : List RecordFile) (texts : List (List ℕ)) → Holds first texts files
    → (gone : List RecordFile) × (joined gone ++ joined files ≡ joined first ++ in_a_row texts)
