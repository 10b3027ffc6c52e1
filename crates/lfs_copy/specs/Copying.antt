-- What a copy asks of both volumes: which calls it makes, in which order and with which answers. The command is an own choice.
use Rattle.std.specs.Prelude.{◌≡◌, ◌⊎◌, ◌<◌, ℕ, ◌+◌, List, [], ◌∷◌, ◌++◌, Result, Ok, Err, cond, ◌==◌}
use Rattle.std.specs.Prelude.{OnOk, codes, length, map, slice_index_or}
use Rattle.std.specs.List.Sorted.{IsPermutation}
use Rattle.lfs_model.specs.Call.{Count, Data, Done, LinkTo, Mkdir, Pread, Pwrite, Symlink, Sync, Widen}
use Rattle.lfs_model.specs.Device.{DeviceState, IsUntouched}
use Rattle.lfs_model.specs.declared.Kind.TheVariants.{Directory, File, Link}
use Rattle.lfs_model.specs.declared.limits.TheConstants.{LONGEST_TRANSFER}
use Rattle.lfs_model.specs.Run.{Point}
use Rattle.lfs_fs.specs.InARow.{IsSavedAt}
use Rattle.lfs_fs.specs.Volume.{IsAt, Mounted}
use Rattle.lfs_fs.specs.declared.error.FsError.{FsError}
use Rattle.lfs_fs.specs.entries.declared.rows.TreeRow.{TreeRow}
use Rattle.lfs_put.specs.Calls.{Made, ServesAll, made}
use Rattle.lfs_put.specs.Getting.{AreWhole, getting, reads}
use Rattle.lfs_put.specs.Putting.{Piece, bytes_of, making, writes}
use Rattle.lfs_copy.specs.Fitting.{IsUnfit}
use Rattle.lfs_copy.specs.Looking.{AreDone, AreReads, IsMeasured, IsNotEmpty, IsRefused, IsTold, is_empty_call}
use Rattle.lfs_copy.specs.Paths.{IsPathOf, NoneBefore}
use Rattle.lfs_copy.specs.declared.fault.Copied.{Copied}
use Rattle.lfs_copy.specs.declared.fault.CopyFault.{CopyFault}
use Rattle.lfs_copy.specs.declared.fault.CopyFault.TheVariants as why
use Rattle.lfs_copy.specs.declared.looking.Target.{Target}
use Rattle.lfs_copy.specs.declared.looking.Told.{Told}

-- ---- which calls copy what
-- Of two lists of calls the first, `gets`, is made on the old volume, and the second, `puts`, on the new one.

-- what pieces read that are written so
abbrev pub read_as : List Piece → List (List ℕ)
read_as = map (λ (p : Piece). p.bytes)

-- One piece of an open file, of so many bytes.
pub record HasPart (source target offset count : ℕ) (gets puts : List Made) : Type 0 where
  pub piece : Piece
  pub gets_are : gets ≡ made (Pread source offset LONGEST_TRANSFER) (Data piece.bytes) ∷ []
  pub puts_are : puts ≡ made (Pwrite target offset piece.bytes) (Count piece.count) ∷ []
  pub counted : count ≡ length piece.bytes

-- All bytes of an open file, so many: the reads of the whole file, and writes of what each of them gave.
pub record HasBytes (source target count : ℕ) (gets puts : List Made) : Type 0 where
  pub pieces : List Piece
  pub gets_are : gets ≡ reads source 0 (read_as pieces)
  pub puts_are : puts ≡ writes target 0 pieces
  pub whole : AreWhole (read_as pieces)
  pub counted : count ≡ length (bytes_of pieces)

-- The file of a path in the new volume, of all bytes of an open one.
pub record HasOpen (source : ℕ) (path : List ℕ) (count : ℕ) (gets puts : List Made) : Type 0 where
  pub target : ℕ
  pub pieces : List Piece
  pub gets_are : gets ≡ reads source 0 (read_as pieces)
  pub puts_are : puts ≡ making path target pieces
  pub whole : AreWhole (read_as pieces)
  pub counted : count ≡ length (bytes_of pieces)

-- The file of a path in both volumes, of so many bytes: it is read whole, and made of what was read.
pub record HasFile (path : List ℕ) (count : ℕ) (gets puts : List Made) : Type 0 where
  pub source : ℕ
  pub target : ℕ
  pub pieces : List Piece
  pub gets_are : gets ≡ getting path source (read_as pieces)
  pub puts_are : puts ≡ making path target pieces
  pub whole : AreWhole (read_as pieces)
  pub counted : count ≡ length (bytes_of pieces)

-- nothing is read, and one call is made, which is done; no byte of a file is copied
abbrev pub IsCall : Made → ℕ → List Made → List Made → Type 0
IsCall call count gets puts = (count ≡ 0) × (gets ≡ []) × (puts ≡ call ∷ [])

-- by the kind of what a row gives: a directory or a link is made, or a file is copied
abbrev pub HasObject : TreeRow → List ℕ → ℕ → List Made → List Made → Type 0
HasObject row path count gets puts = ((row.kind ≡ Directory) × IsCall (made (Mkdir path) Done) count gets puts)
    ⊎ ((row.kind ≡ Link) × IsCall (made (Symlink row.head.items path) Done) count gets puts)
    ⊎ ((row.kind ≡ File) × HasFile path count gets puts)

-- A further name of what a row gives: of what the row of this place gives by its path, which is the same.
pub record HasLink (rows : List TreeRow) (place : ℕ) (row : TreeRow) (path : List ℕ) (count : ℕ) (gets puts : List Made) : Type 0 where
  pub first : TreeRow
  pub within : place < length rows
  pub at : first ≡ slice_index_or rows place first
  pub same : first.number ≡ row.number
  pub old_path : List ℕ
  pub leads : IsPathOf rows first old_path
  pub is : IsCall (made (LinkTo old_path path) Done) count gets puts

-- The name of a row behind so many others, at its path: a further one of what one of these gives; or one with what the row gives, where
-- none of these gives that.
pub record HasName (rows : List TreeRow) (index : ℕ) (row : TreeRow) (count : ℕ) (gets puts : List Made) : Type 0 where
  pub path : List ℕ
  pub leads : IsPathOf rows row path
  pub is : ((place : ℕ) × (place < index) × HasLink rows place row path count gets puts)
      ⊎ (NoneBefore rows row.number index × HasObject row path count gets puts)

-- The names of the first rows, so many, one after the other, with so many bytes of files.
pub data HasNames (rows : List TreeRow) : ℕ → ℕ → List Made → List Made → Type 0 where
  no_names : HasNames rows 0 0 [] []
  next_name : {index sum : ℕ} {gets puts : List Made} (row : TreeRow) (count : ℕ) (more_gets more_puts : List Made)
      → HasNames rows index sum gets puts → index < length rows → row ≡ slice_index_or rows index row
      → HasName rows index row count more_gets more_puts
      → HasNames rows (index + 1) (sum + count) (gets ++ more_gets) (puts ++ more_puts)

-- the call that lets the root have long names, in a version that has them
abbrev pub widening : ℕ → List Made
widening version = cond (version == 1) [] (made (Widen (codes "/")) Done ∷ [])

-- All names of these rows, and one sync behind them.
pub record HasTree (rows : List TreeRow) (version : ℕ) (copied : Copied) (gets puts : List Made) : Type 0 where
  pub body : List Made
  pub order : puts ≡ widening version ++ (body ++ made Sync Done ∷ [])
  pub names : HasNames rows (length rows) copied.bytes gets body
  pub counted : copied.names ≡ length rows

-- ---- why a copy stops

-- by the fault: a call of either volume was refused, the first that was; or memory was, or the old volume contradicts itself
abbrev pub Stops : CopyFault → List Made → List Made → Type 0
Stops (why.Old fault) gets puts = IsRefused fault gets
Stops (why.New fault) gets puts = IsRefused fault puts
Stops why.NoTree gets puts = Unit {0}
Stops (why.Memory refused) gets puts = Unit {0}
Stops fault gets puts = ⊥

-- Both volumes told what they are, and the tree doesn't fit, for this fault.
pub record DoesNotFit (fault : CopyFault) (gets puts : List Made) : Type 0 where
  pub told : Told
  pub target : Target
  pub is_told : IsTold told gets
  pub rest : List Made
  pub order : puts ≡ is_empty_call ∷ rest
  pub measured : IsMeasured target rest
  pub unfit : IsUnfit told target fault

-- by the fault, why a copy stops
abbrev pub StopsCopy : CopyFault → List Made → List Made → Type 0
StopsCopy (why.Old fault) gets puts = IsRefused fault gets
StopsCopy (why.New fault) gets puts = IsRefused fault puts
StopsCopy why.NotEmpty gets puts = (gets ≡ []) × IsNotEmpty puts
StopsCopy (why.TooLong path) gets puts = DoesNotFit (why.TooLong path) gets puts
StopsCopy (why.TooLarge need limit) gets puts = DoesNotFit (why.TooLarge need limit) gets puts
StopsCopy why.NoTree gets puts = Unit {0}
StopsCopy (why.Memory refused) gets puts = Unit {0}

-- A whole copy: the old volume told its tree and the new one that it is empty. Then all names were made, in some order, and saved.
pub record HasCopied (copied : Copied) (gets puts : List Made) : Type 0 where
  pub told : Told
  pub target : Target
  pub asked : List Made
  pub is_told : IsTold told asked
  pub measured : List Made
  pub is_measured : IsMeasured target measured
  pub rows : List TreeRow
  pub same : IsPermutation told.rows.items rows
  pub rest_gets : List Made
  pub rest_puts : List Made
  pub gets_are : gets ≡ asked ++ rest_gets
  pub puts_are : puts ≡ is_empty_call ∷ (measured ++ rest_puts)
  pub tree : HasTree rows target.version copied rest_gets rest_puts

-- by a result: the calls copy, as wanted, and none was refused; or they stop, for the fault
abbrev pub Ends : {X : Type 0} → (X → List Made → List Made → Type 0) → List Made → List Made → Result X CopyFault → Type 0
Ends does gets puts (Ok done) = AreDone gets × AreDone puts × does done gets puts
Ends does gets puts (Err fault) = Stops fault gets puts

abbrev pub EndsCopy : List Made → List Made → Result Copied CopyFault → Type 0
EndsCopy gets puts (Ok copied) = HasCopied copied gets puts
EndsCopy gets puts (Err fault) = StopsCopy fault gets puts

-- by a call's result: no byte of a file was copied, or the new volume refused it
abbrev pub ToldAs : {X : Type 0} → Result X FsError → Result ℕ CopyFault → Type 0
ToldAs (Ok done) result = result ≡ Ok 0
ToldAs (Err fault) result = result ≡ Err (why.New fault)

module _ {E : Type 0} (state : E → DeviceState) where
  -- by the result: the root has long names, where the version has them; or that was refused
  abbrev pub Widens : Mounted E → Mounted E → ℕ → Result (Unit {0}) FsError → Type 0
  Widens to to' version (Ok done) = ServesAll state to to' (widening version)
  Widens to to' version (Err fault) = (calls : List Made) × ServesAll state to to' calls × IsRefused fault calls

  -- All is saved: where the device keeps the model, a stop now leaves the state to which the calls came, from any in which the volume was.
  abbrev pub IsSaved : Mounted E → Mounted E → Type 0
  IsSaved to to' = (first : Point) → (state to'.log.device).keeps_model → IsAt state to first
      → (last : Point) × IsSavedAt state to' last

module _ {D : Type 0} {E : Type 0} (state : D → DeviceState) (state' : E → DeviceState) where
  -- Both volumes serve their calls, and none of the first may write.
  pub record ServesBoth (from from' : Mounted D) (to to' : Mounted E) (gets puts : List Made) : Type 0 where
    pub served_from : ServesAll state from from' gets
    pub served_to : ServesAll state' to to' puts
    pub only_reads : AreReads gets

  -- Calls that copy, as far as they come.
  pub record Works {X : Type 0} (from from' : Mounted D) (to to' : Mounted E) (does : X → List Made → List Made → Type 0)
      (result : Result X CopyFault) : Type 0 where
    pub gets : List Made
    pub puts : List Made
    pub serves : ServesBoth from from' to to' gets puts
    pub ends : Ends does gets puts result

  abbrev pub CopiesPart : Mounted D → Mounted D → Mounted E → Mounted E → ℕ → ℕ → ℕ → Result ℕ CopyFault → Type 0
  CopiesPart from from' to to' source target offset = Works from from' to to' (HasPart source target offset)

  abbrev pub CopiesBytes : Mounted D → Mounted D → Mounted E → Mounted E → ℕ → ℕ → Result ℕ CopyFault → Type 0
  CopiesBytes from from' to to' source target = Works from from' to to' (HasBytes source target)

  abbrev pub CopiesOpen : Mounted D → Mounted D → Mounted E → Mounted E → ℕ → List ℕ → Result ℕ CopyFault → Type 0
  CopiesOpen from from' to to' source path = Works from from' to to' (HasOpen source path)

  abbrev pub CopiesFile : Mounted D → Mounted D → Mounted E → Mounted E → List ℕ → Result ℕ CopyFault → Type 0
  CopiesFile from from' to to' path = Works from from' to to' (HasFile path)

  abbrev pub CopiesObject : Mounted D → Mounted D → Mounted E → Mounted E → TreeRow → List ℕ → Result ℕ CopyFault → Type 0
  CopiesObject from from' to to' row path = Works from from' to to' (HasObject row path)

  abbrev pub CopiesLink : Mounted D → Mounted D → Mounted E → Mounted E → List TreeRow → ℕ → TreeRow → List ℕ → Result ℕ CopyFault
      → Type 0
  CopiesLink from from' to to' rows place row path = Works from from' to to' (HasLink rows place row path)

  abbrev pub CopiesName : Mounted D → Mounted D → Mounted E → Mounted E → List TreeRow → ℕ → TreeRow → Result ℕ CopyFault → Type 0
  CopiesName from from' to to' rows index row = Works from from' to to' (HasName rows index row)

  abbrev pub CopiesNames : Mounted D → Mounted D → Mounted E → Mounted E → List TreeRow → Result ℕ CopyFault → Type 0
  CopiesNames from from' to to' rows = Works from from' to to' (HasNames rows (length rows))

  abbrev pub MakesTree : Mounted D → Mounted D → Mounted E → Mounted E → List TreeRow → ℕ → Result Copied CopyFault → Type 0
  MakesTree from from' to to' rows version = Works from from' to to' (HasTree rows version)

  -- A copy of the tree of a volume: the calls of both, and what they come to by the result. The old volume is as it was.
  pub record CopiesTree (from from' : Mounted D) (to to' : Mounted E) (result : Result Copied CopyFault) : Type 0 where
    pub gets : List Made
    pub puts : List Made
    pub serves : ServesBoth from from' to to' gets puts
    pub untouched : IsUntouched (state from.log.device) (state from'.log.device)
    pub ends : EndsCopy gets puts result
    pub saved : OnOk result (IsSaved state' to to')
