-- How a call comes to the last piece of a path, and what it serves where it doesn't.
use Rattle.lfs_fs.proofs.Prelude.{◌≡◌, ℕ, false, List, Option, Some, None, refl, ◌∙◌, subst, inl, inr, ⊎_elim, AreBytes, Call, Refuse}
use Rattle.lfs_fs.proofs.Prelude.{cleans, takes_no_memory, never_for_device, CheckpointValue, DeviceState, IsLawful, Refusal, LogMap, Step}
use Rattle.lfs_fs.proofs.Prelude.{State, Refused, Store, files_of, Last, EndsParent, FsError, Fs, BeginsAt, BeginsNowhere}
use Rattle.lfs_fs.proofs.Prelude.{FindsPlace, LacksPlace, Reaches, refusal_of, Begins, IsReady, OnlyReads, seen, IsIn, IsStill, Mounted}
use Rattle.lfs_fs.proofs.Prelude.{Serves, segments_of}
use Rattle.lfs_files.specs.Files as files
use Rattle.lfs_fs.specs.Naming.{BeginsOnly}
use Rattle.lfs_fs.proofs.paths.Later.{later_reaches, later_refused}
use Rattle.lfs_fs.proofs.paths.Looks.{only_none}
use Rattle.lfs_fs.proofs.paths.Ends.{store_reads}
use Rattle.lfs_fs.proofs.read.Ends.{begun_running, halted_serves}
use Rattle.lfs_fs.proofs.calls.StoreCalls.{log_reads, same_drafted}

module _ {D : Type 0} (state : D → DeviceState) where
  -- ---- volumes that may draft

  pub begun_ready : {old : Fs D} (begun : Fs D) → Begins old begun → IsReady begun
  begun_ready {old} begun begins = record { running = begun_running state begins; empty = begins.empty }

  pub ready_after : {old new : Fs D} → IsReady old → OnlyReads state old new → IsReady new
  ready_after ready reads = record {
    running = reads.still.reads.halted ∙ ready.running;
    empty = rw reads.draft ready.empty;
  }

  -- a store that was read for the walk of a path
  pub path_read : {old : Fs D} (store : Store D) → files.Reads (files_of state old.store) (files_of state store)
      → OnlyReads state old (record { alloc = old.alloc; store = store; handles = old.handles })
  path_read {old} store reads = store_reads state
      (log_reads state old.store store reads) reads.draft (same_drafted state old.store store reads) refl

  -- a call that has begun changed nothing
  pub begun_still : {old : Fs D} (begun : Fs D) → Begins old begun → IsStill state (seen old) (seen begun)
  begun_still begun begins = subst (λ (v : Mounted D). IsStill state v (seen begun)) begins.same (only_none state begun).still

module _ {D : Type 0} {state : D → DeviceState} (lawful : (d : D) → IsLawful (state d)) (old new : Fs D) (path : List ℕ) where
  -- ---- a call that has begun comes to a place

  module _ {begun : Fs D} (begins : Begins old begun) (reads : OnlyReads state begun new) where
    pub place_reached : AreBytes path → {d : ℕ} {piece : Option Last} → FindsPlace state begun new path d piece
        → Reaches state (seen old) new path d piece
    place_reached bytes {d} {piece} finds =
        later_reaches lawful (begun_still state begun begins) begins.running begins.empty reads
        begins.drafted path bytes finds.last finds.walks

    pub place_ready : IsReady new
    place_ready = ready_after state (begun_ready state begun begins) reads

    pub place_lacks : AreBytes path → (nameless fault : FsError) → LacksPlace state begun new path nameless fault
        → BeginsNowhere state old new path nameless fault
    place_lacks bytes nameless fault lacks = inr (⊎_elim
        (λ fails. inl (record { begun = begun; begins = begins; reads = reads; fails = fails }))
        (λ none. inr (none.0, (none.1.0, (place_reached bytes none.1.1, place_ready)))) lacks)

  -- ---- a call comes nowhere

  -- where the walk of the path is refused, so is the call
  abbrev pub IsRefusedBy : Call → Type 0
  IsRefusedBy call = (k : CheckpointValue) (m0 m : LogMap) (s : State) → (state (seen new).log.device).keeps_model
      → IsIn state (seen old) k m0 m s → (r : Refusal) → EndsParent path s.tree (Refused r)
      → Step (segments_of (seen old)) s call (Refuse r) s

  module _ (call : Call) (free : never_for_device call ≡ false) (unclean : cleans call ≡ false) (memory : takes_no_memory call ≡ false)
      (steps : IsRefusedBy call) where
    pub path_fails : {fault : FsError} → BeginsOnly state old new path fault
        → Serves state (seen old) (seen new) call (Refuse (refusal_of fault))
    path_fails only =
        later_refused lawful (begun_still state only.begun only.begins) only.begins.running
        only.begins.empty only.reads (EndsParent path) free unclean memory steps only.fails.is only.fails.ends
        only.fails.halted only.fails.other

    -- what it serves where the path has no piece is its own
    pub nowhere_serves : (nameless fault : FsError) → BeginsNowhere state old new path nameless fault
        → ((d : ℕ) → Reaches state (seen old) new path d None → (seen new).log.halted ≡ false
        → Serves state (seen old) (seen new) call (Refuse (refusal_of nameless)))
        → Serves state (seen old) (seen new) call (Refuse (refusal_of fault))
    nowhere_serves nameless fault none named = ⊎_elim
        (λ halts. halted_serves state call (lawful (seen old).log.device) halts.1 halts.2 halts.0)
        (λ began. ⊎_elim
        path_fails
        (λ lacks. rw lacks.0 (named lacks.1.0 lacks.1.1.0 lacks.1.1.1.running))
        began)
        none

-- it comes to the path's last piece
pub place_begins : {D : Type 0} {state : D → DeviceState} (lawful : (d : D) → IsLawful (state d)) {old new begun : Fs D} {path : List ℕ}
    {d : ℕ} {l : Last} → Begins old begun → OnlyReads state begun new → AreBytes path → FindsPlace state begun new path d (Some l)
    → BeginsAt state old new path d l
place_begins {state} lawful {old} {new} {begun} {path} {d} {l} begins reads bytes finds = record {
  reached = place_reached lawful old new path begins reads bytes finds;
  ready = place_ready lawful old new path begins reads;
}
