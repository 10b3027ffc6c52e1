-- Calls that change nothing, over files: what is told of each log map answers them, and a fault refuses them. How a call comes to the
-- object of a path.
use Rattle.lfs_fs.proofs.Prelude.{◌≡◌, ℕ, Bool, true, false, List, sym, subst, Answer, Call, Refuse, changes, cleans, commits}
use Rattle.lfs_fs.proofs.Prelude.{never_for_device, takes_no_memory, DeviceState, IsLawful, LogMap, Step, State, Tree, At, Resolve}
use Rattle.lfs_fs.proofs.Prelude.{LogFault, Store, files_of, WalkFault, HasHeader, HasObject, Tells, TellsFault, TellsRefusal, EntryFault}
use Rattle.lfs_fs.proofs.Prelude.{FailsWhere, FsError, Fs, error_of_entry, error_of_log, error_of_walk, ReachesObject, refusal_of, Begins}
use Rattle.lfs_fs.proofs.Prelude.{seen, Mounted, Serves, segments_of, no_header_none}
use Rattle.lfs_model.specs.Refusal.{NoMemory}
use Rattle.lfs_files.specs.declared.fault.LogFault.TheVariants as log
use Rattle.lfs_files.specs.declared.header.Header.{Header}
use Rattle.lfs_path.specs.declared.walk_fault.WalkFault.TheVariants as walk
use Rattle.lfs_path.specs.Reaching.{EndsResolve, ResolvesTo}
use Rattle.lfs_path.specs.Trees.{HasTree}
use Rattle.lfs_entries.specs.declared.fault.EntryFault.TheVariants as fault
use Rattle.lfs_entries.specs.Telling as telling
use Rattle.lfs_fs.specs.Reading.{FindsObject, RefusesPath}
use Rattle.lfs_fs.proofs.calls.AnyDevice.{IsOrdinary}
use Rattle.lfs_fs.proofs.calls.Files.{Explains, IsBegun, Rose, begun_after, explains_where, fault_serves, has_in, read_still, risen}
use Rattle.lfs_fs.proofs.calls.Files.{unanswered, was, with_store}
pub use Rattle.lfs_fs.proofs.calls.Files.{In, ReadsTo}
use Rattle.lfs_fs.proofs.calls.Reads.{memory_serves}
use Rattle.lfs_fs.proofs.calls.StoreCalls.{ends_refused}
use Rattle.lfs_fs.proofs.paths.Later.{later_refused}
use Rattle.lfs_fs.proofs.paths.Places.{begun_ready, begun_still, path_read}
use Rattle.lfs_fs.proofs.paths.Walks.{tree_of_volume}
use Rattle.lfs_fs.proofs.read.Ends.{step_serves}
use Rattle.lfs_steps.proofs.volume.Nodes.{resolved_there}

-- A call that changes nothing.
pub record IsQuiet (call : Call) : Type 0 where
  pub free : never_for_device call ≡ false
  pub memory : takes_no_memory call ≡ false
  pub leaves : changes call ≡ false
  pub unclean : cleans call ≡ false
  pub kept : commits call ≡ false

module _ {D : Type 0} (state : D → DeviceState) where
  -- a fault of what reads them, for such a reason, refuses the call
  abbrev pub Fails : Mounted D → Fs D → Store D → Call → (EntryFault → Type 0) → Type 0
  Fails v f store call Why = (e : EntryFault) → (e ≡ fault.Log log.Halted → (files_of state f.store).halted ≡ true)
      → (e ≡ fault.Log log.Full → ⊥) → Why e → Serves state v (seen (with_store f store)) call (Refuse (refusal_of (error_of_entry e)))

  -- ---- a call has begun, or it walked a path too
  pub begun_by : {old : Fs D} (f : Fs D) → Begins old f → IsBegun state (seen old) f
  begun_by {old} f begins =
      record { still = begun_still state f begins; ready = begun_ready state f begins; drafted = begins.drafted }

  pub begun_with : {v : Mounted D} {f : Fs D} {path : List ℕ} {follow : Bool} {n : ℕ} → ReachesObject state v f path follow n
      → IsBegun state v f
  begun_with reached = record { still = reached.still; ready = reached.ready; drafted = reached.drafted }

module _ {D : Type 0} {state : D → DeviceState} (lawful : (d : D) → IsLawful (state d)) {v : Mounted D} {f : Fs D}
    (begun : IsBegun state v f) where
  -- ---- a volume that was only read since its call began
  module _ {call : Call} (quiet : IsQuiet call) where
    pub answers : {a : Answer} → IsOrdinary a → In state v f (λ m s. Step (segments_of v) s call a s) → Serves state v (seen f) call a
    answers {a} ordinary = step_serves v call (lawful v.log.device) begun.still (was state lawful v f begun) a ordinary
        quiet.leaves quiet.unclean quiet.kept

    pub lacks_memory : Serves state v (seen f) call (Refuse NoMemory)
    lacks_memory = memory_serves (lawful v.log.device) begun.still (was state lawful v f begun) quiet.memory

  -- ---- its files are read
  module _ (store : Store D) (reads : ReadsTo state f store) where
    abbrev new : Fs D
    new = with_store f store

    pub now : IsBegun state v new
    now = begun_after f store reads lawful begun

    pub later : (P : LogMap → State → Type 0) → In state v f P → In state v new P
    later P each k m0 m s keeps = each k m0 m s (reads.looks.carries.kept_before keeps)

    pub known : {P : LogMap → Type 0} → telling.InEach (files_of state f.store) (files_of state store) P → In state v new (λ m s. P m)
    known each k m0 m s keeps is = each m m keeps (has_in begun is)

    -- a call of the device failed where something is so that is so in each state
    pub rises : {P : LogMap → Type 0} → In state v f (λ m s. P m) → TellsFault (files_of state f.store) (files_of state store) P
        → In state v new (λ m s. Rose state v store)
    rises {P = P} each why k m0 m s keeps is =
        risen begun store (why m m keeps (has_in begun is) (later (λ m s. P m) each k m0 m s keeps is))

    -- so a fault of the log refuses a call
    pub log_fails : {P : LogMap → Type 0} → In state v f (λ m s. P m) → {call : Call} → never_for_device call ≡ false → (e : LogFault)
        → (e ≡ log.Halted → (files_of state f.store).halted ≡ true) → (e ≡ log.Full → ⊥)
        → TellsFault (files_of state f.store) (files_of state store) P
        → Serves state v (seen new) call (Refuse (refusal_of (error_of_log e)))
    log_fails {P = P} each {call = call} free e halted other why = unanswered state lawful v f begun store
        (read_still f store reads) call free e halted other (rises {P = P} each why)

    module _ {call : Call} (quiet : IsQuiet call) where
      abbrev pub IsWhy : EntryFault → Type 0
      IsWhy e = In state v new (λ m s. Explains call (segments_of v) s (Rose state v store) e)

      pub fails : {Why : EntryFault → Type 0} → ((e : EntryFault) → Why e → IsWhy e) → Fails state v f store call Why
      fails explains e halted other why = fault_serves state lawful v f begun store (read_still f store reads) call
          quiet.free quiet.unclean quiet.memory e halted other (explains e why)

      pub fails_where : {P : LogMap → Type 0} → In state v f (λ m s. P m)
          → Fails state v f store call (FailsWhere (files_of state f.store) (files_of state store) P)
      fails_where {P = P} each = fails (explains_where begun store {P = P} (later (λ m s. P m) each) call)

-- ---- a path is walked to its object
module _ {D : Type 0} {state : D → DeviceState} (lawful : (d : D) → IsLawful (state d)) {old f : Fs D} (begins : Begins old f)
    (store : Store D) (reads : ReadsTo state f store) where
  begun : IsBegun state (seen old) f
  begun = begun_by state f begins

  pub finds_object : {path : List ℕ} {follow : Bool} {n : ℕ}
      → Tells (files_of state f.store) (files_of state store) HasTree (ResolvesTo path follow n)
      → FindsObject state old (with_store f store) path follow n
  finds_object {path = path} {follow = follow} {n = n} tells = let after = now lawful begun store reads in record {
    still = after.still;
    ready = after.ready;
    drafted = after.drafted;
    walk = λ k m0 m s keeps is. subst (λ (t : Tree). Resolve t path follow (At n)) (sym is.log.is)
        (known lawful begun store reads tells k m0 m s keeps is (tree_of_volume is));
  }

  pub refuses_path : (path : List ℕ) (follow : Bool) {fault : FsError} (e : WalkFault) → fault ≡ error_of_walk e
      → TellsRefusal (files_of state f.store) (files_of state store) HasTree (EndsResolve path follow) e
      → (e ≡ walk.Log log.Halted → (files_of state f.store).halted ≡ true) → (e ≡ walk.Log log.Full → ⊥)
      → RefusesPath state old (with_store f store) path follow fault
  refuses_path path follow {fault = fault} e is ends halted other call free unclean memory steps =
      later_refused lawful begun.still begins.running begins.empty
      (path_read state {old = f} store reads) (EndsResolve path follow) free unclean memory
      (λ k m0 m s keeps is. steps (segments_of (seen old)) s) is
      (ends_refused state f.store store (EndsResolve path follow) e ends) halted other

-- ---- the object is looked at

-- The call came to object n, which has this header.
pub record IsLooked {D : Type 0} (state : D → DeviceState) (v : Mounted D) (f : Fs D) (path : List ℕ) (follow : Bool) (n : ℕ)
    (head : Header) : Type 0 where
  pub begun : IsBegun state v f
  pub walk : In state v f (λ m s. Resolve s.tree path follow (At n))
  pub header : In state v f (λ m s. HasHeader n head m)

module _ {D : Type 0} {state : D → DeviceState} (lawful : (d : D) → IsLawful (state d)) {v : Mounted D} {f : Fs D} {path : List ℕ}
    {follow : Bool} {n : ℕ} (reached : ReachesObject state v f path follow n) where
  -- it is there
  pub object_there : In state v f (λ m s. HasObject n m)
  object_there k m0 m s keeps is none = resolved_there s is.log.sound path follow n (reached.walk k m0 m s keeps is)
      (no_header_none is.log n none)

  module _ (store : Store D) (reads : ReadsTo state f store) where
    pub looked : (head : Header) → Tells (files_of state f.store) (files_of state store) (λ m. Unit {0}) (HasHeader n head)
        → IsLooked state v (with_store f store) path follow n head
    looked head header = let begun = begun_with state reached in record {
      begun = now lawful begun store reads;
      walk = later lawful begun store reads (λ m s. Resolve s.tree path follow (At n)) reached.walk;
      header = known lawful begun store reads (λ m m' keeps has. header m m' keeps has tt);
    }

    pub unlooked : {call : Call} → never_for_device call ≡ false → (e : LogFault)
        → (e ≡ log.Halted → (files_of state f.store).halted ≡ true)
        → (e ≡ log.Full → ⊥) → TellsFault (files_of state f.store) (files_of state store) (HasObject n)
        → Serves state v (seen (with_store f store)) call (Refuse (refusal_of (error_of_log e)))
    unlooked free e halted other = log_fails lawful (begun_with state reached) store reads object_there free e halted other
