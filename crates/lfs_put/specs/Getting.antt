-- What `get` asks of a volume: the reads of a whole file, in order, and what of it a writer is given. The command is an own choice.
use Rattle.std.specs.Prelude.{◌≡◌, ◌≢◌, ◌⊎◌, ◌<◌, ℕ, ◌+◌, List, [], ◌∷◌, ◌++◌, All, Option, Result, Ok, Err, length}
use Rattle.std.specs.List.{concat}
use Rattle.std.specs.Io.KnownBytes.{Appends}
use Rattle.lfs_model.specs.Call.{Answer, Close, Data, Done, Handle, Open, Pread, Refuse}
use Rattle.lfs_model.specs.Device.{DeviceState}
use Rattle.lfs_fs.specs.Refusals.{refusal_of}
use Rattle.lfs_fs.specs.Volume.{Mounted, Serves}
use Rattle.lfs_fs.specs.declared.error.FsError.{FsError}
use Rattle.lfs_fs.specs.declared.error.FsError.TheVariants as error
use Rattle.lfs_put.specs.Calls.{Made, ServesAll, made}
use Rattle.lfs_model.specs.declared.limits.TheConstants.{LARGEST_FILE, LONGEST_TRANSFER}
use Rattle.lfs_put.specs.declared.getting.GetFault.{GetFault}
use Rattle.lfs_put.specs.declared.getting.GetFault.TheVariants as why

-- the reads of these pieces from an open file, one behind the other from an offset on
abbrev pub reads : ℕ → ℕ → List (List ℕ) → List Made
reads handle offset [] = []
reads handle offset (piece ∷ pieces) = made (Pread handle offset LONGEST_TRANSFER) (Data piece)
    ∷ reads handle (offset + length piece) pieces

-- The pieces of a whole file: each is as long as a read was to be, but for the last one, which is shorter, for the file ends there.
pub record AreWhole (pieces : List (List ℕ)) : Type 0 where
  pub front : List (List ℕ)
  pub last : List ℕ
  pub order : pieces ≡ front ++ last ∷ []
  pub full : All (λ piece. length piece ≡ LONGEST_TRANSFER) front
  pub short : length last < LONGEST_TRANSFER

-- The writer was given the bytes of these pieces, in order, which are so many.
pub record HasSent (w w' : Option (List ℕ)) (pieces : List (List ℕ)) (count : ℕ) : Type 0 where
  pub sent : Appends w w' (concat pieces)
  pub counted : count ≡ length (concat pieces)

-- the reads of some pieces, and one behind them that was refused for this fault
abbrev pub StopsAtRead : ℕ → List (List ℕ) → List Made → FsError → Type 0
StopsAtRead handle pieces calls refused = calls ≡ reads handle 0 pieces
    ++ made (Pread handle (length (concat pieces)) LONGEST_TRANSFER) (Refuse (refusal_of refused)) ∷ []

-- The reads of some pieces that no volume gives, the last of which is longer than it was to be, or which are more than any file has.
pub record IsContradicted (handle : ℕ) (pieces : List (List ℕ)) (calls : List Made) (refused : FsError) : Type 0 where
  pub order : calls ≡ reads handle 0 pieces
  pub is : refused ≡ error.Device
  pub more : ((front : List (List ℕ)) × (last : List ℕ) × (pieces ≡ front ++ last ∷ []) × (LONGEST_TRANSFER < length last))
      ⊎ (LARGEST_FILE < length (concat pieces))

-- by the fault, why the reads of a file end early: one was refused, or they are a volume's no more, or the writer didn't take what the last
-- one gave
abbrev pub StopsCopy : ℕ → List (List ℕ) → List Made → GetFault → Type 0
StopsCopy handle pieces calls (why.Call refused) = StopsAtRead handle pieces calls refused
StopsCopy handle pieces calls (why.CutShort refused) = StopsAtRead handle pieces calls refused
    ⊎ IsContradicted handle pieces calls refused
StopsCopy handle pieces calls why.Output = (calls ≡ reads handle 0 pieces) × (pieces ≢ [])

-- by the fault: the writer was given the bytes of all pieces, which are none
-- before a refusal that isn't cut short; or it failed, and nothing is said of it
abbrev pub SendsTo : Option (List ℕ) → Option (List ℕ) → List (List ℕ) → GetFault → Type 0
SendsTo w w' pieces (why.Call refused) = HasSent w w' pieces 0
SendsTo w w' pieces (why.CutShort refused) = Appends w w' (concat pieces)
SendsTo w w' pieces why.Output = Unit {0}

-- by the result: the writer was given all bytes of an open file by these calls; or they end early
abbrev pub HasCopiedOut : ℕ → Option (List ℕ) → Option (List ℕ) → List Made → Result ℕ GetFault → Type 0
HasCopiedOut handle w w' calls (Ok count) = (pieces : List (List ℕ)) × (calls ≡ reads handle 0 pieces) × AreWhole pieces
    × HasSent w w' pieces count
HasCopiedOut handle w w' calls (Err fault) = (pieces : List (List ℕ)) × StopsCopy handle pieces calls fault × SendsTo w w' pieces fault

-- the calls that read a file of these pieces
abbrev pub getting : List ℕ → ℕ → List (List ℕ) → List Made
getting path handle pieces = made (Open path) (Handle handle) ∷ (reads handle 0 pieces ++ made (Close handle) Done ∷ [])

-- All of the file was read, and closing it was refused for this fault.
pub record IsUnclosed (handle : ℕ) (pieces : List (List ℕ)) (calls : List Made) (closed : Answer) (fault : GetFault) : Type 0 where
  pub refused : FsError
  pub is : (fault ≡ why.Call refused) ⊎ (fault ≡ why.CutShort refused)
  pub order : calls ≡ reads handle 0 pieces
  pub whole : AreWhole pieces
  pub told : closed ≡ Refuse (refusal_of refused)

-- The file was opened, read to some piece, and closed; the writer was given what was read, but where it failed.
pub record EndsEarly (path : List ℕ) (w w' : Option (List ℕ)) (calls : List Made) (fault : GetFault) : Type 0 where
  pub handle : ℕ
  pub pieces : List (List ℕ)
  pub body : List Made
  pub closed : Answer
  pub order : calls ≡ made (Open path) (Handle handle) ∷ (body ++ made (Close handle) closed ∷ [])
  pub sent : SendsTo w w' pieces fault
  pub cause : StopsCopy handle pieces body fault ⊎ IsUnclosed handle pieces body closed fault

-- the file wasn't opened, and the writer was given nothing
abbrev pub IsNotOpened : List ℕ → Option (List ℕ) → Option (List ℕ) → List Made → GetFault → Type 0
IsNotOpened path w w' calls fault = (refused : FsError) × (fault ≡ why.Call refused)
    × (calls ≡ made (Open path) (Refuse (refusal_of refused)) ∷ []) × (w' ≡ w)

-- by the result of a get: all reads of the file, in order, whose bytes the writer was given, and a close; or it ends early
abbrev pub HasGot : List ℕ → Option (List ℕ) → Option (List ℕ) → List Made → Result ℕ GetFault → Type 0
HasGot path w w' calls (Ok count) = (handle : ℕ) × (pieces : List (List ℕ)) × (calls ≡ getting path handle pieces) × AreWhole pieces
    × HasSent w w' pieces count
HasGot path w w' calls (Err fault) = IsNotOpened path w w' calls fault ⊎ EndsEarly path w w' calls fault

module _ {D : Type 0} (state : D → DeviceState) where
  -- a read that was refused for this fault, and the writer as it was
  abbrev pub ReadsNone : Mounted D → Mounted D → ℕ → ℕ → Option (List ℕ) → Option (List ℕ) → FsError → Type 0
  ReadsNone old new handle offset w w' refused =
      Serves state old new (Pread handle offset LONGEST_TRANSFER) (Refuse (refusal_of refused)) × (w' ≡ w)

  -- by the result: a read of one piece, which the writer was given; or the read was refused; or the writer failed
  abbrev pub SendsPart : Mounted D → Mounted D → ℕ → ℕ → Option (List ℕ) → Option (List ℕ) → Result ℕ GetFault → Type 0
  SendsPart old new handle offset w w' (Ok count) = (piece : List ℕ)
      × Serves state old new (Pread handle offset LONGEST_TRANSFER) (Data piece)
      × Appends w w' piece × (count ≡ length piece)
  SendsPart old new handle offset w w' (Err (why.Call refused)) = ReadsNone old new handle offset w w' refused × (offset ≡ 0)
  SendsPart old new handle offset w w' (Err (why.CutShort refused)) = ReadsNone old new handle offset w w' refused
  SendsPart old new handle offset w w' (Err why.Output) = (piece : List ℕ)
      × Serves state old new (Pread handle offset LONGEST_TRANSFER) (Data piece)

  pub record CopiesOut (old new : Mounted D) (handle : ℕ) (w w' : Option (List ℕ)) (result : Result ℕ GetFault) : Type 0 where
    pub calls : List Made
    pub served : ServesAll state old new calls
    pub outcome : HasCopiedOut handle w w' calls result

  -- A get of the file of a path: the calls that the volume serves, and what they come to by the result.
  pub record GetsFile (old new : Mounted D) (path : List ℕ) (w w' : Option (List ℕ)) (result : Result ℕ GetFault) : Type 0 where
    pub calls : List Made
    pub served : ServesAll state old new calls
    pub outcome : HasGot path w w' calls result
