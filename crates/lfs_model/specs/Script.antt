-- The text of a script: its lines, the call that a line is, and the reply to an answer. All of it is an own choice.
use Rattle.std.specs.Prelude.{ℕ, ◌+◌, ◌/◌, ◌%◌, ◌<◌, ◌≤◌, ◌≡◌, ◌^◌, ◌&&◌, not, List, [], ◌∷◌, ◌++◌, length, ◌==◌, if◌then◌else◌, nat_lt}
use Rattle.std.specs.Prelude.{nat_le, replicate, codes, decimal, flat_map}
use Rattle.lfs_model.specs.Refusal.{Refusal, NoEntry, NotDir, IsDir, Exist, NotEmpty, Inval, NameTooLong, Loop, Perm, Busy, BadHandle}
use Rattle.lfs_model.specs.Refusal.{TooManyOpen, TooManyLinks, FileTooBig, NoSpace, NoNumber, DirFull, NoMemory, Device, Halted, Stuck}
use Rattle.lfs_model.specs.Refusal.{Worn}
use Rattle.lfs_model.specs.Call.{Call, Open, Create, Close, Pread, Pwrite, Truncate, Mkdir, LinkTo, Symlink, Readlink, Unlink, Rmdir}
use Rattle.lfs_model.specs.Call.{Rename, StatOf, LstatOf, Readdir, Fsync, Sync, Clean, Space, Version, Upgrade, Widen, ListTree}
use Rattle.lfs_model.specs.Call.{AreArguments, DirectoryEntry, TreeRow, Answer, Refuse, Done, Handle, Count, Data, Text, Status, Entries}
use Rattle.lfs_model.specs.Call.{Room, FormatVersion, Rows}
use Rattle.lfs_model.specs.declared.Kind.{Kind}
use Rattle.lfs_model.specs.declared.Kind.TheVariants as kinds
use Rattle.lfs_model.specs.declared.limits.TheConstants.{LONGEST_LINE}

-- a byte before the first line; 0x0a ends a line
abbrev pub before_lines : ℕ → List (List ℕ) → List (List ℕ)
before_lines c [] = if c == 10 then [] ∷ [] else (c ∷ []) ∷ []
before_lines c (l ∷ ls) = if c == 10 then [] ∷ l ∷ ls else (c ∷ l) ∷ ls

-- the lines of a script; a last one without 0x0a counts
abbrev pub lines : List ℕ → List (List ℕ)
lines [] = []
lines (c ∷ rest) = before_lines c (lines rest)

-- a lower case hexadecimal digit
abbrev pub hex_digit : ℕ → ℕ
hex_digit n = if nat_lt n 10 then 48 + n else 87 + n

-- a byte in two digits
abbrev pub hex_byte : ℕ → List ℕ
hex_byte c = hex_digit (c / 16) ∷ hex_digit (c % 16) ∷ []

-- bytes; no bytes are a minus sign
abbrev pub hex : List ℕ → List ℕ
hex [] = codes "-"
hex (c ∷ cs) = flat_map hex_byte (c ∷ cs)

-- a byte of a path word: itself from 0x21 to 0x7e, but for the backslash; else a backslash and two digits
abbrev pub word_byte : ℕ → List ℕ
word_byte c = if nat_le 33 c && nat_le c 126 && not (c == 92) then c ∷ [] else 92 ∷ hex_byte c

-- bytes as a path word; no bytes are a backslash
abbrev pub word : List ℕ → List ℕ
word [] = codes "\\"
word (c ∷ cs) = flat_map word_byte (c ∷ cs)

-- words with one space between two
abbrev pub line_of : List ℕ → List (List ℕ) → List ℕ
line_of w [] = w
line_of w (v ∷ vs) = w ++ 32 ∷ line_of v vs

-- A line: a call, or fill with the handle, the offset, the length and the byte.
pub data Line : Type 0 where
  Plain : Call → Line
  Fill : ℕ → ℕ → ℕ → ℕ → Line

-- the call that a line makes
abbrev pub call_of : Line → Call
call_of (Plain call) = call
call_of (Fill h off n byte) = Pwrite h off (replicate n byte)

-- a call's command word and arguments
abbrev pub text_of_call : Call → List ℕ
text_of_call (Open p) = line_of (codes "open") (word p ∷ [])
text_of_call (Create p) = line_of (codes "create") (word p ∷ [])
text_of_call (Close h) = line_of (codes "close") (decimal h ∷ [])
text_of_call (Pread h off n) = line_of (codes "pread") (decimal h ∷ decimal off ∷ decimal n ∷ [])
text_of_call (Pwrite h off w) = line_of (codes "pwrite") (decimal h ∷ decimal off ∷ hex w ∷ [])
text_of_call (Truncate h n) = line_of (codes "truncate") (decimal h ∷ decimal n ∷ [])
text_of_call (Mkdir p) = line_of (codes "mkdir") (word p ∷ [])
text_of_call (LinkTo p q) = line_of (codes "link") (word p ∷ word q ∷ [])
text_of_call (Symlink text p) = line_of (codes "symlink") (word text ∷ word p ∷ [])
text_of_call (Readlink p) = line_of (codes "readlink") (word p ∷ [])
text_of_call (Unlink p) = line_of (codes "unlink") (word p ∷ [])
text_of_call (Rmdir p) = line_of (codes "rmdir") (word p ∷ [])
text_of_call (Rename p q) = line_of (codes "rename") (word p ∷ word q ∷ [])
text_of_call (StatOf p) = line_of (codes "stat") (word p ∷ [])
text_of_call (LstatOf p) = line_of (codes "lstat") (word p ∷ [])
text_of_call (Readdir p) = line_of (codes "readdir") (word p ∷ [])
text_of_call (Fsync h) = line_of (codes "fsync") (decimal h ∷ [])
text_of_call Sync = codes "sync"
text_of_call Clean = codes "clean"
text_of_call Space = codes "space"
text_of_call Version = codes "version"
text_of_call Upgrade = codes "upgrade"
text_of_call (Widen p) = line_of (codes "widen") (word p ∷ [])
text_of_call ListTree = codes "tree"

-- a line's one text
abbrev pub text_of : Line → List ℕ
text_of (Plain call) = text_of_call call
text_of (Fill h off n byte) = line_of (codes "fill") (decimal h ∷ decimal off ∷ decimal n ∷ decimal byte ∷ [])

-- the numbers are those that their places hold, and texts are bytes
abbrev pub InRange : Line → Type 0
InRange (Plain call) = AreArguments call
InRange (Fill h off n byte) = (h < 2 ^ 32) × (off < 2 ^ 64) × (n < 2 ^ 32) × (byte < 256)

-- these bytes are this line
pub record Spells (bytes : List ℕ) (line : Line) : Type 0 where
  pub text : bytes ≡ text_of line
  pub short : length bytes ≤ LONGEST_LINE
  pub in_range : InRange line

-- a bad line: no line is spelled so
abbrev pub IsBad : List ℕ → Type 0
IsBad bytes = (line : Line) → ¬ Spells bytes line

-- the word of a refusal
abbrev pub refusal_name : Refusal → List ℕ
refusal_name NoEntry = codes "NoEntry"
refusal_name NotDir = codes "NotDir"
refusal_name IsDir = codes "IsDir"
refusal_name Exist = codes "Exist"
refusal_name NotEmpty = codes "NotEmpty"
refusal_name Inval = codes "Inval"
refusal_name NameTooLong = codes "NameTooLong"
refusal_name Loop = codes "Loop"
refusal_name Perm = codes "Perm"
refusal_name Busy = codes "Busy"
refusal_name BadHandle = codes "BadHandle"
refusal_name TooManyOpen = codes "TooManyOpen"
refusal_name TooManyLinks = codes "TooManyLinks"
refusal_name FileTooBig = codes "FileTooBig"
refusal_name NoSpace = codes "NoSpace"
refusal_name NoNumber = codes "NoNumber"
refusal_name DirFull = codes "DirFull"
refusal_name NoMemory = codes "NoMemory"
refusal_name Device = codes "Device"
refusal_name Halted = codes "Halted"
refusal_name Stuck = codes "Stuck"
refusal_name Worn = codes "Worn"

-- the word of a kind
abbrev pub kind_name : Kind → List ℕ
kind_name kinds.File = codes "file"
kind_name kinds.Directory = codes "dir"
kind_name kinds.Link = codes "link"

-- what a row shows of a node's beginning
abbrev pub head_text : Kind → List ℕ → List ℕ
head_text kinds.File head = hex head
head_text kinds.Directory head = codes "-"
head_text kinds.Link head = word head

-- a reply line with its end
abbrev pub ended : List ℕ → List ℕ
ended line = line ++ 10 ∷ []

-- the reply where the call isn't refused
abbrev pub ok : List (List ℕ) → List ℕ
ok words = ended (line_of (codes "ok") words)

-- a line for an entry
abbrev pub entry_line : DirectoryEntry → List ℕ
entry_line e = ended (line_of (word e.name) (decimal e.number ∷ kind_name e.kind ∷ []))

-- a line for a row of the tree
abbrev pub row_line : TreeRow → List ℕ
row_line r = ended (line_of (decimal r.directory) (word r.name ∷ kind_name r.stat.kind ∷ decimal r.stat.number ∷ decimal r.stat.links
    ∷ decimal r.stat.size ∷ head_text r.stat.kind r.head ∷ []))

-- the reply to an answer
abbrev pub reply : Answer → List ℕ
reply (Refuse r) = ended (line_of (codes "err") (refusal_name r ∷ []))
reply Done = ok []
reply (Handle h) = ok (decimal h ∷ [])
reply (Count n) = ok (decimal n ∷ [])
reply (Data b) = ok (hex b ∷ [])
reply (Text b) = ok (word b ∷ [])
reply (Status s) = ok (decimal s.number ∷ kind_name s.kind ∷ decimal s.links ∷ decimal s.size ∷ [])
reply (Entries es) = ok (decimal (length es) ∷ []) ++ flat_map entry_line es
reply (Room d m n l) = ok (decimal d ∷ decimal m ∷ decimal n ∷ decimal l ∷ [])
reply (FormatVersion n) = ok (decimal n ∷ [])
reply (Rows rs) = ok (decimal (length rs) ∷ []) ++ flat_map row_line rs

-- the reply to a bad line, l being its number from 1
abbrev pub bad : ℕ → List ℕ
bad l = ended (line_of (codes "bad") (decimal l ∷ []))
