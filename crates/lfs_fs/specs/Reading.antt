-- What calls find at the end of a path, and what listings tell of what stands at a number.
use Rattle.std.specs.Prelude.{◌≡◌, ℕ, Bool, true, false, List, [], Option, Some, None}
use Rattle.lfs_model.specs.declared.Kind.{Kind}
use Rattle.lfs_model.specs.declared.Kind.TheVariants as kind
use Rattle.lfs_model.specs.Call as call
use Rattle.lfs_model.specs.Call.{Call, Refuse, cleans, never_for_device, takes_no_memory}
use Rattle.lfs_model.specs.Checkpoint.{CheckpointValue}
use Rattle.lfs_model.specs.Device.{DeviceState}
use Rattle.lfs_model.specs.Refusal.{Refusal}
use Rattle.lfs_model.specs.Stands.{LogMap}
use Rattle.lfs_model.specs.Step.{Step}
use Rattle.lfs_model.specs.Tree.{State}
use Rattle.lfs_model.specs.Walk.{At, Refused, Resolve}
use Rattle.lfs_files.specs.declared.header.Header.{Header}
use Rattle.lfs_files.specs.Headers.{HeaderAnswer}
use Rattle.lfs_store.specs.StoreState.{drafted_of}
use Rattle.lfs_path.specs.dirs.Directory.{names_at}
use Rattle.lfs_path.specs.Seeing.{HasHeader}
use Rattle.lfs_entries.specs.declared.rows.TreeRow.{TreeRow}
use Rattle.lfs_entries.specs.Rows.{AreTold, IsListable, IsRow}
use Rattle.lfs_fs.specs.declared.error.FsError.{FsError}
use Rattle.lfs_fs.specs.declared.fs.Fs.{Fs}
use Rattle.lfs_fs.specs.Refusals.{refusal_of}
use Rattle.lfs_fs.specs.Seen.{IsReady, seen}
use Rattle.lfs_fs.specs.Volume.{IsIn, IsStill, Mounted, Serves}

-- the call that tells of the object of a path: stat follows a last link, lstat doesn't
abbrev pub stat_call : Bool → List ℕ → Call
stat_call true p = call.StatOf p
stat_call false p = call.LstatOf p

module _ {D : Type 0} (state : D → DeviceState) where
  -- A call walked a path whole, and came to object n. The volume is as before, and nothing is drafted.
  pub record ReachesObject (v : Mounted D) (f : Fs D) (path : List ℕ) (follow : Bool) (n : ℕ) : Type 0 where
    pub still : IsStill state v (seen f)
    pub ready : IsReady f
    pub drafted : drafted_of f.store ≡ (seen f).log.totals
    pub walk : (k : CheckpointValue) (m0 m : LogMap) (s : State) → (state (seen f).log.device).keeps_model → IsIn state v k m0 m s
        → Resolve s.tree path follow (At n)

  -- it did so first
  abbrev pub FindsObject : Fs D → Fs D → List ℕ → Bool → ℕ → Type 0
  FindsObject old new path follow n = ReachesObject (seen old) new path follow n

  -- It didn't: a call that the model refuses where the walk is refused serves with this fault.
  abbrev pub RefusesPath : Fs D → Fs D → List ℕ → Bool → FsError → Type 0
  RefusesPath old new path follow fault = (c : Call) → never_for_device c ≡ false → cleans c ≡ false → takes_no_memory c ≡ false
      → ((N : ℕ) (s : State) (r : Refusal) → Resolve s.tree path follow (Refused r) → Step N s c (Refuse r) s)
      → Serves state (seen old) (seen new) c (Refuse (refusal_of fault))

-- ---- listings, over any files

-- each directory can be listed
abbrev pub AreListable : LogMap → Type 0
AreListable m = (d : ℕ) (head : Header) → HasHeader d head m → head.kind ≡ kind.Directory → IsListable d head m

-- the rows of an object of this kind and header: only a directory has some
abbrev pub RowsBy : LogMap → ℕ → Header → List TreeRow → Kind → Type 0
RowsBy m n head rows kind.File = rows ≡ []
RowsBy m n head rows kind.Directory = AreTold (IsRow m n) (names_at m n head) rows
RowsBy m n head rows kind.Link = rows ≡ []

-- those of what stands at a number
abbrev pub RowsOf : LogMap → ℕ → List TreeRow → Option Header → Type 0
RowsOf m n rows None = rows ≡ []
RowsOf m n rows (Some head) = RowsBy m n head rows head.kind

-- These are the rows of what stands at number n.
pub record HasRows (n : ℕ) (rows : List TreeRow) (m : LogMap) : Type 0 where
  pub found : Option Header
  pub header : HeaderAnswer m n found
  pub are : RowsOf m n rows found
