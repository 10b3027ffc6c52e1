-- What `put` asks of a volume: which calls it makes, in which order and with which answers. The command and its other name are own choices.
use Rattle.std.specs.Prelude.{◌≡◌, ◌≢◌, ◌⊎◌, ◌≤◌, ◌^◌, ℕ, ◌+◌, false, List, [], ◌∷◌, ◌++◌, Option, Result, Ok, Err, length}
use Rattle.std.specs.List.{AllByRecursion}
use Rattle.std.specs.Io.KnownBytes.{Consumes, IsAtEnd}
use Rattle.lfs_model.specs.Call.{Answer, Call, Close, Count, Create, Done, Handle, LstatOf, Pwrite, Refuse, Rename, Sync, Unlink, is_ok}
use Rattle.lfs_model.specs.Device.{DeviceState}
use Rattle.lfs_model.specs.Refusal.{Refusal}
use Rattle.lfs_fs.specs.Refusals.{refusal_of}
use Rattle.lfs_fs.specs.Volume.{Mounted}
use Rattle.lfs_fs.specs.declared.error.FsError.{FsError}
use Rattle.lfs_fs.specs.declared.error.FsError.TheVariants as error
use Rattle.lfs_put.specs.Calls.{Made, ServesAll, made}
use Rattle.lfs_put.specs.Placing.{ForbidsPut, IsBeside, IsCleared, IsTextCause, LetsPut}
use Rattle.lfs_put.specs.declared.putting.PutFault.{PutFault}
use Rattle.lfs_put.specs.declared.putting.PutFault.TheVariants as why

-- what a write was given, and the count that it answered
pub record Piece : Type 0 where
  pub bytes : List ℕ
  pub count : ℕ

abbrev pub bytes_of : List Piece → List ℕ
bytes_of [] = []
bytes_of (p ∷ ps) = p.bytes ++ bytes_of ps

-- the writes of these pieces to an open file, one behind the other from an offset on
abbrev pub writes : ℕ → ℕ → List Piece → List Made
writes handle offset [] = []
writes handle offset (p ∷ ps) = made (Pwrite handle offset p.bytes) (Count p.count) ∷ writes handle (offset + length p.bytes) ps

-- A call that leaves what stands at the path: it is about the unfinished file beside it, or about none, or it is a rename that was refused.
abbrev pub SparesBy : List ℕ → List ℕ → ℕ → Call → Answer → Type 0
SparesBy path beside handle (LstatOf p) answer = p ≡ path
SparesBy path beside handle (Unlink p) answer = p ≡ beside
SparesBy path beside handle (Create p) answer = (p ≡ beside) × ((answer ≡ Handle handle) ⊎ (is_ok answer ≡ false))
SparesBy path beside handle (Pwrite h offset bytes) answer = h ≡ handle
SparesBy path beside handle (Close h) answer = h ≡ handle
SparesBy path beside handle Sync answer = Unit {0}
SparesBy path beside handle (Rename p q) answer = (p ≡ beside) × (q ≡ path) × (is_ok answer ≡ false)
SparesBy path beside handle _ answer = ⊥

abbrev pub SpareAll : List ℕ → List ℕ → ℕ → List Made → Type 0
SpareAll path beside handle = AllByRecursion (λ (m : Made). SparesBy path beside handle m.call m.answer)

-- All bytes that a reader had were read in these pieces, so many.
pub record HasRead (r r' : Option (List ℕ)) (pieces : List Piece) (count : ℕ) : Type 0 where
  pub read : Consumes r r' (bytes_of pieces)
  pub all : IsAtEnd r'
  pub counted : count ≡ length (bytes_of pieces)

-- the calls that make a file of these pieces
abbrev pub making : List ℕ → ℕ → List Piece → List Made
making beside handle pieces = made (Create beside) (Handle handle) ∷ (writes handle 0 pieces ++ made (Close handle) Done ∷ [])

-- the calls that give it its name, which is synced where the last answer says so
abbrev pub renaming : List ℕ → List ℕ → Answer → List Made
renaming beside path last = made Sync Done ∷ made (Rename beside path) Done ∷ made Sync last ∷ []

-- A rename was done, and its sync was refused. The calls before it and behind it leave what stands at the path.
pub record IsUnsynced (path beside : List ℕ) (handle : ℕ) (calls : List Made) : Type 0 where
  pub before : List Made
  pub refusal : Refusal
  pub after : List Made
  pub order : calls ≡ before ++ (made (Rename beside path) Done ∷ made Sync (Refuse refusal) ∷ after)
  pub spare_before : SpareAll path beside handle before
  pub spare_after : SpareAll path beside handle after

-- ---- why a put stops

-- Some pieces were written, and the write of the next bytes was refused for this fault.
pub record StopsAtWrite (handle : ℕ) (r r' : Option (List ℕ)) (calls : List Made) (fault : FsError) : Type 0 where
  pub pieces : List Piece
  pub bytes : List ℕ
  pub order : calls ≡ writes handle 0 pieces ++ made (Pwrite handle (length (bytes_of pieces)) bytes) (Refuse (refusal_of fault)) ∷ []
  pub read : Consumes r r' (bytes_of pieces ++ bytes)

-- Some pieces were written, and the next bytes reach behind the last offset that there is.
pub record StopsAtOffset (handle : ℕ) (r r' : Option (List ℕ)) (calls : List Made) (fault : FsError) : Type 0 where
  pub pieces : List Piece
  pub bytes : List ℕ
  pub order : calls ≡ writes handle 0 pieces
  pub read : Consumes r r' (bytes_of pieces ++ bytes)
  pub long : 2 ^ 64 ≤ length (bytes_of pieces ++ bytes)
  pub is : fault ≡ error.FileTooBig

-- All that was read was written, in some pieces, and no more could be read.
pub record StopsAtRead (handle : ℕ) (r r' : Option (List ℕ)) (calls : List Made) : Type 0 where
  pub pieces : List Piece
  pub order : calls ≡ writes handle 0 pieces
  pub read : Consumes r r' (bytes_of pieces)

-- by the fault, why the bytes of a reader aren't all written
abbrev pub StopsCopy : ℕ → Option (List ℕ) → Option (List ℕ) → List Made → PutFault → Type 0
StopsCopy handle r r' calls (why.Call fault) = StopsAtWrite handle r r' calls fault ⊎ StopsAtOffset handle r r' calls fault
StopsCopy handle r r' calls why.Input = StopsAtRead handle r r' calls
StopsCopy handle r r' calls fault = ⊥

-- The file wasn't made, since that was refused.
pub record IsUncreated (beside : List ℕ) (r r' : Option (List ℕ)) (calls : List Made) (fault : PutFault) : Type 0 where
  pub refused : FsError
  pub is : fault ≡ why.Call refused
  pub order : calls ≡ made (Create beside) (Refuse (refusal_of refused)) ∷ []
  pub unread : r' ≡ r

-- The file was made; its bytes weren't all written, for this fault; and it was closed.
pub record IsUncopied (beside : List ℕ) (handle : ℕ) (r r' : Option (List ℕ)) (calls : List Made) (fault : PutFault) : Type 0 where
  pub body : List Made
  pub closed : Answer
  pub order : calls ≡ made (Create beside) (Handle handle) ∷ (body ++ made (Close handle) closed ∷ [])
  pub stops : StopsCopy handle r r' body fault

-- The file was made and written, and closing it was refused.
pub record IsUnclosed (beside : List ℕ) (handle : ℕ) (r r' : Option (List ℕ)) (calls : List Made) (fault : PutFault) : Type 0 where
  pub refused : FsError
  pub is : fault ≡ why.Call refused
  pub pieces : List Piece
  pub count : ℕ
  pub read : HasRead r r' pieces count
  pub order : calls ≡ made (Create beside) (Handle handle)
      ∷ (writes handle 0 pieces ++ made (Close handle) (Refuse (refusal_of refused)) ∷ [])

-- why a file isn't made of all bytes of a reader
abbrev pub StopsMaking : List ℕ → ℕ → Option (List ℕ) → Option (List ℕ) → List Made → PutFault → Type 0
StopsMaking beside handle r r' calls fault = IsUncreated beside r r' calls fault ⊎ IsUncopied beside handle r r' calls fault
    ⊎ IsUnclosed beside handle r r' calls fault

-- why it doesn't get its name: the first sync, the rename or the last sync was refused, for this fault
abbrev pub StopsRenaming : List ℕ → List ℕ → List Made → PutFault → Type 0
StopsRenaming beside path calls fault = (refused : FsError) × (fault ≡ why.Call refused)
    × ((calls ≡ made Sync (Refuse (refusal_of refused)) ∷ [])
    ⊎ (calls ≡ made Sync Done ∷ made (Rename beside path) (Refuse (refusal_of refused)) ∷ [])
    ⊎ (calls ≡ renaming beside path (Refuse (refusal_of refused))))

-- The file was made of all bytes, and doesn't get its name.
pub record IsUnnamed (beside path : List ℕ) (handle : ℕ) (r r' : Option (List ℕ)) (calls : List Made) (fault : PutFault) : Type 0 where
  pub pieces : List Piece
  pub count : ℕ
  pub read : HasRead r r' pieces count
  pub behind : List Made
  pub order : calls ≡ making beside handle pieces ++ behind
  pub stops : StopsRenaming beside path behind fault

-- why no file is made and named
abbrev pub StopsReplacing : List ℕ → List ℕ → ℕ → Option (List ℕ) → Option (List ℕ) → List Made → PutFault → Type 0
StopsReplacing beside path handle r r' calls fault = StopsMaking beside handle r r' calls fault
    ⊎ IsUnnamed beside path handle r r' calls fault

-- No call was made, and nothing read: the path's text is refused, or memory was.
pub record IsNotBegun (path : List ℕ) (r r' : Option (List ℕ)) (calls : List Made) (fault : PutFault) : Type 0 where
  pub none : calls ≡ []
  pub unread : r' ≡ r
  pub cause : IsTextCause path fault

-- What was told of the path forbids it.
pub record IsNotPlaced (path : List ℕ) (r r' : Option (List ℕ)) (calls : List Made) (fault : PutFault) : Type 0 where
  pub looked : Answer
  pub order : calls ≡ made (LstatOf path) looked ∷ []
  pub unread : r' ≡ r
  pub cause : ForbidsPut looked fault

-- What a stop left wasn't taken away, since that was refused.
pub record IsNotCleared (path beside : List ℕ) (r r' : Option (List ℕ)) (calls : List Made) (fault : PutFault) : Type 0 where
  pub looked : Answer
  pub refused : FsError
  pub is : fault ≡ why.Call refused
  pub order : calls ≡ made (LstatOf path) looked ∷ made (Unlink beside) (Refuse (refusal_of refused)) ∷ []
  pub unread : r' ≡ r
  pub place : LetsPut looked
  pub there : refused ≢ error.NoEntry

-- The calls that make and name the file stopped, for this fault. Then it was taken away again, and that was synced, as far as the volume
-- let it.
pub record IsGivenUp (path beside : List ℕ) (handle : ℕ) (r r' : Option (List ℕ)) (calls : List Made) (fault : PutFault) : Type 0 where
  pub looked : Answer
  pub cleared : Answer
  pub tried : List Made
  pub gone : Answer
  pub synced : Answer
  pub order : calls ≡ made (LstatOf path) looked ∷ made (Unlink beside) cleared
      ∷ (tried ++ made (Unlink beside) gone ∷ made Sync synced ∷ [])
  pub place : LetsPut looked
  pub clear : IsCleared cleared
  pub stops : StopsReplacing beside path handle r r' tried fault

-- by the fault, why a put stops, and where
abbrev pub StopsPut : List ℕ → List ℕ → ℕ → Option (List ℕ) → Option (List ℕ) → List Made → PutFault → Type 0
StopsPut path beside handle r r' calls fault = IsNotBegun path r r' calls fault ⊎ IsNotPlaced path r r' calls fault
    ⊎ IsNotCleared path beside r r' calls fault ⊎ IsGivenUp path beside handle r r' calls fault

-- ---- what comes of a put

-- by the result: all bytes of the reader are written, in these calls; or none but writes was made, and they stop for the fault
abbrev pub HasCopied : ℕ → Option (List ℕ) → Option (List ℕ) → List Made → Result ℕ PutFault → Type 0
HasCopied handle r r' calls (Ok count) = (pieces : List Piece) × (calls ≡ writes handle 0 pieces) × HasRead r r' pieces count
HasCopied handle r r' calls (Err fault) = ((path : List ℕ) (beside : List ℕ) → SpareAll path beside handle calls)
    × StopsCopy handle r r' calls fault

abbrev pub HasMade : List ℕ → ℕ → Option (List ℕ) → Option (List ℕ) → List Made → Result ℕ PutFault → Type 0
HasMade beside handle r r' calls (Ok count) = (pieces : List Piece) × (calls ≡ making beside handle pieces) × HasRead r r' pieces count
HasMade beside handle r r' calls (Err fault) = ((path : List ℕ) → SpareAll path beside handle calls)
    × StopsMaking beside handle r r' calls fault

abbrev pub HasRenamed : {X : Type 0} → List ℕ → List ℕ → List Made → Result X PutFault → Type 0
HasRenamed beside path calls (Ok done) = calls ≡ renaming beside path Done
HasRenamed beside path calls (Err fault) = StopsRenaming beside path calls fault

abbrev pub HasReplaced : List ℕ → List ℕ → ℕ → Option (List ℕ) → Option (List ℕ) → List Made → Result ℕ PutFault → Type 0
HasReplaced beside path handle r r' calls (Ok count) = (pieces : List Piece)
    × (calls ≡ making beside handle pieces ++ renaming beside path Done) × HasRead r r' pieces count
HasReplaced beside path handle r r' calls (Err fault) = (SpareAll path beside handle calls ⊎ IsUnsynced path beside handle calls)
    × StopsReplacing beside path handle r r' calls fault

-- by a put's result: the file is made, synced, renamed and synced; or it stops, and what stands at the path is left, but where the last
-- sync was refused
abbrev pub HasPut : List ℕ → List ℕ → ℕ → Option (List ℕ) → Option (List ℕ) → List Made → Result ℕ PutFault → Type 0
HasPut path beside handle r r' calls (Ok count) = (looked : Answer) × LetsPut looked × (cleared : Answer) × IsCleared cleared
    × (pieces : List Piece)
    × (calls ≡ made (LstatOf path) looked ∷ made (Unlink beside) cleared ∷ (making beside handle pieces ++ renaming beside path Done))
    × HasRead r r' pieces count
HasPut path beside handle r r' calls (Err fault) = (SpareAll path beside handle calls ⊎ IsUnsynced path beside handle calls)
    × StopsPut path beside handle r r' calls fault

module _ {D : Type 0} (state : D → DeviceState) where
  pub record Copies (old new : Mounted D) (handle : ℕ) (r r' : Option (List ℕ)) (result : Result ℕ PutFault) : Type 0 where
    pub calls : List Made
    pub served : ServesAll state old new calls
    pub outcome : HasCopied handle r r' calls result

  pub record MakesFile (old new : Mounted D) (beside : List ℕ) (r r' : Option (List ℕ)) (result : Result ℕ PutFault) : Type 0 where
    pub handle : ℕ
    pub calls : List Made
    pub served : ServesAll state old new calls
    pub outcome : HasMade beside handle r r' calls result

  pub record RenamesFile {X : Type 0} (old new : Mounted D) (beside path : List ℕ) (result : Result X PutFault) : Type 0 where
    pub calls : List Made
    pub served : ServesAll state old new calls
    pub outcome : HasRenamed beside path calls result

  pub record Replaces (old new : Mounted D) (beside path : List ℕ) (r r' : Option (List ℕ)) (result : Result ℕ PutFault) : Type 0 where
    pub handle : ℕ
    pub calls : List Made
    pub served : ServesAll state old new calls
    pub outcome : HasReplaced beside path handle r r' calls result

  abbrev pub GivesUp : Mounted D → Mounted D → List ℕ → Type 0
  GivesUp old new beside = (gone : Answer) × (synced : Answer) × ServesAll state old new (made (Unlink beside) gone ∷ made Sync synced ∷ [])

  -- A put at a path: the calls that the volume serves, and what they come to by the result.
  -- Where the path is refused for its text, or memory is, none is made and nothing read.
  pub record PutsFile (old new : Mounted D) (path : List ℕ) (r r' : Option (List ℕ)) (result : Result ℕ PutFault) : Type 0 where
    pub beside : List ℕ
    pub handle : ℕ
    pub calls : List Made
    pub served : ServesAll state old new calls
    pub place : ((calls ≡ []) × (r' ≡ r)) ⊎ IsBeside path beside
    pub outcome : HasPut path beside handle r r' calls result
