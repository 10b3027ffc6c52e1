-- How much the drafts of calls grow, and that memory takes all of it.
use Rattle.lfs_fs.proofs.Prelude.{◌≡◌, ◌<◌, ◌≤◌, ℕ, refl, arith, DeviceState, StoreFault, Store, IsEmpty, asked_by, draft_of}
use Rattle.lfs_fs.proofs.Prelude.{files_of, GrowsDirectory, EntryFault, FsError, error_of_store, List, length, Result, Ok, Err, OnOk}
use Rattle.lfs_fs.proofs.Prelude.{Pwrite}
use Rattle.lfs_files.specs.declared.fault.LogFault.TheVariants as log
use Rattle.lfs_files.specs.declared.fault.StoreFault.TheVariants as store
use Rattle.lfs_files.specs.Files.{asked_by_directory}
use Rattle.lfs_store.specs.Growing.{asked_by_changes}
use Rattle.lfs_store.proofs.Known.{grown_asks}
use Rattle.lfs_entries.specs.Bytes.{DraftsBytes}
use Rattle.lfs_fs.specs.Asking.{blocks_of, most_asked}
use Rattle.lfs_fs.specs.declared.error.FsError.TheVariants as error

-- ---- names in directories: a draft that was begun empty has room
pub adds_fit : {D : Type 0} (state : D → DeviceState) (a b : Store D) (h k : ℕ) {most : ℕ} → asked_by_changes h k ≤ most
    → IsEmpty (draft_of a) → GrowsDirectory (files_of state a) (files_of state b) h k → asked_by (draft_of b) ≤ most
adds_fit state a b h k few none is =
    let asks = grown_asks (draft_of a) (draft_of b) h k none is.headers is.blocks in omega (arith, few, asks)

-- ---- bytes of files: a draft has room that was begun empty

-- it asks for no more than by its blocks, and no more than what fills a directory
pub bytes_fit : {D : Type 0} (state : D → DeviceState) (a b : Store D) (n at : ℕ) (w : List ℕ) → IsEmpty (draft_of a)
    → (drafted : Result (Unit {0}) EntryFault) → OnOk drafted (DraftsBytes (files_of state a) (files_of state b) n at w)
    → OnOk drafted (asked_by (draft_of b) ≤ asked_by_directory) → (h : ℕ)
    → OnOk drafted (asked_by (draft_of b) ≤ most_asked (Pwrite h at w))
bytes_fit state a b n at w none (Ok x) drafts asked h =
    let asks = grown_asks (draft_of a) (draft_of b) 1 (blocks_of at (length w)) none drafts.writes.headers drafts.writes.blocks in
    omega (arith, asks, asked)
bytes_fit state a b n at w none (Err e) drafts asked h = tt

-- a fault of memory comes of a draft that asks for more
pub never_large : (fault : StoreFault) {e : FsError} (n : ℕ) → e ≡ error_of_store fault → n ≤ 456 → (fault ≡ store.NoMemory → 456 < n)
    → e ≡ error.NoMemory → ⊥
never_large store.NoMemory n is low large memory = let high = large refl in omega (arith, low, high)
never_large (store.Log log.Full) {e} n is low large memory = let other : e ≡ error.Device = is in cc
never_large (store.Log log.Device) {e} n is low large memory = let other : e ≡ error.Device = is in cc
never_large (store.Log log.Halted) {e} n is low large memory = let other : e ≡ error.Halted = is in cc
