-- What is asked of both volumes before anything is copied. The command is an own choice.
use Rattle.std.specs.Prelude.{◌≡◌, ◌≢◌, ℕ, List, [], ◌∷◌, ◌++◌, Result, Ok, Err, codes, false, map, true}
use Rattle.std.specs.List.{AllByRecursion}
use Rattle.lfs_model.specs.Call.{Call, Close, DirectoryEntry, Entries, FormatVersion, ListTree, Readdir, Refuse, Room, Rows, Space, Stat}
use Rattle.lfs_model.specs.Call.{StatOf, Status, Version, is_ok, may_write}
use Rattle.lfs_model.specs.Device.{DeviceState}
use Rattle.lfs_fs.specs.Answers.{row_of}
use Rattle.lfs_fs.specs.Refusals.{refusal_of}
use Rattle.lfs_fs.specs.Volume.{Mounted}
use Rattle.lfs_fs.specs.declared.error.FsError.{FsError}
use Rattle.lfs_fs.specs.entries.declared.rows.TreeRow.{TreeRow}
use Rattle.lfs_put.specs.Calls.{Made, ServesAll, made}
use Rattle.lfs_copy.specs.declared.fault.CopyFault.{CopyFault}
use Rattle.lfs_copy.specs.declared.fault.CopyFault.TheVariants as why
use Rattle.lfs_copy.specs.declared.looking.Target.{Target}
use Rattle.lfs_copy.specs.declared.looking.Told.{Told}

-- none of these calls was refused
abbrev pub AreDone : List Made → Type 0
AreDone = AllByRecursion (λ (m : Made). is_ok m.answer ≡ true)

-- none of these calls may write
abbrev pub AreReads : List Made → Type 0
AreReads = AllByRecursion (λ (m : Made). may_write m.call ≡ false)

abbrev pub IsClose : Call → Type 0
IsClose (Close handle) = Unit {0}
IsClose _ = ⊥

-- each of these calls gives up a handle
abbrev pub AreCloses : List Made → Type 0
AreCloses = AllByRecursion (λ (m : Made). IsClose m.call)

-- One of these calls was refused for this fault, the first that was, and those behind it give up handles.
pub record IsRefused (fault : FsError) (calls : List Made) : Type 0 where
  pub before : List Made
  pub call : Call
  pub after : List Made
  pub order : calls ≡ before ++ made call (Refuse (refusal_of fault)) ∷ after
  pub done : AreDone before
  pub closes : AreCloses after

-- ---- the old volume

-- the calls that tell its tree, what that needs and how large its root is
abbrev pub telling_old : List TreeRow → ℕ → ℕ → ℕ → ℕ → Stat → List Made
telling_old rows data_blocks meta_blocks need limit root = made ListTree (Rows (map row_of rows))
    ∷ made Space (Room data_blocks meta_blocks need limit) ∷ made (StatOf (codes "/")) (Status root) ∷ []

-- What was told so.
pub record IsTold (told : Told) (calls : List Made) : Type 0 where
  pub data_blocks : ℕ
  pub meta_blocks : ℕ
  pub limit : ℕ
  pub root : Stat
  pub order : calls ≡ telling_old told.rows.items data_blocks meta_blocks told.need limit root
  pub size : told.size ≡ root.size

-- by the result: it was told, or one of the calls was refused
abbrev pub HasTold : List Made → Result Told FsError → Type 0
HasTold calls (Ok told) = IsTold told calls
HasTold calls (Err fault) = IsRefused fault calls

-- ---- the new volume

-- the calls that tell its version and its limit
abbrev pub measuring : ℕ → ℕ → ℕ → ℕ → ℕ → List Made
measuring version data_blocks meta_blocks need limit = made Version (FormatVersion version)
    ∷ made Space (Room data_blocks meta_blocks need limit) ∷ []

-- What was told so.
pub record IsMeasured (target : Target) (calls : List Made) : Type 0 where
  pub data_blocks : ℕ
  pub meta_blocks : ℕ
  pub need : ℕ
  pub order : calls ≡ measuring target.version data_blocks meta_blocks need target.limit

abbrev pub HasMeasured : List Made → Result Target FsError → Type 0
HasMeasured calls (Ok target) = IsMeasured target calls
HasMeasured calls (Err fault) = IsRefused fault calls

-- the call that tells that it is empty
abbrev pub is_empty_call : Made
is_empty_call = made (Readdir (codes "/")) (Entries [])

-- Its root was listed, and has entries.
abbrev pub IsNotEmpty : List Made → Type 0
IsNotEmpty calls = (entries : List DirectoryEntry) × (entries ≢ []) × (calls ≡ made (Readdir (codes "/")) (Entries entries) ∷ [])

-- by the result: it is empty, and was measured; or it isn't, or one of the calls was refused
abbrev pub HasLooked : List Made → Result Target CopyFault → Type 0
HasLooked calls (Ok target) = (rest : List Made) × (calls ≡ is_empty_call ∷ rest) × IsMeasured target rest
HasLooked calls (Err why.NotEmpty) = IsNotEmpty calls
HasLooked calls (Err (why.New fault)) = IsRefused fault calls
HasLooked calls (Err fault) = ⊥

module _ {D : Type 0} (state : D → DeviceState) where
  pub record LooksAtOld (old new : Mounted D) (result : Result Told FsError) : Type 0 where
    pub calls : List Made
    pub served : ServesAll state old new calls
    pub only_reads : AreReads calls
    pub outcome : HasTold calls result

  pub record Measures (old new : Mounted D) (result : Result Target FsError) : Type 0 where
    pub calls : List Made
    pub served : ServesAll state old new calls
    pub outcome : HasMeasured calls result

  pub record LooksAtNew (old new : Mounted D) (result : Result Target CopyFault) : Type 0 where
    pub calls : List Made
    pub served : ServesAll state old new calls
    pub outcome : HasLooked calls result
