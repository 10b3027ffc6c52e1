-- The exits that calls share: where a `?` returns, where a call doesn't begin and what it does where it began, and what it reads then.
use Rattle.std.specs.Prelude.{IfOk, IsErr, IsErrAnd}
use Rattle.lfs_fs.proofs.Prelude.{◌≡◌, ◌≤◌, ℕ, Bool, false, Err, Ok, Result, OnOk, OnErr, IsErrOf, List, ap, ok_then}
use Rattle.lfs_fs.proofs.Prelude.{err_from_is_err_and, Answer, Call, Refuse, never_for_device, DeviceState, IsLawful}
use Rattle.lfs_fs.proofs.Prelude.{LogFault, Store, files_of, HasHeader, HasObject, Tells, TellsFault}
use Rattle.lfs_fs.proofs.Prelude.{EntryFault, FsError, Fs, error_of_entry, error_of_log, ReachesObject, FilesState, asked_by, draft_of}
use Rattle.lfs_fs.proofs.Prelude.{WalkFault, TellsRefusal, EndsParent, IsParent, HasLast, Last, FindsPlace, error_of_walk, here, Option}
use Rattle.lfs_fs.proofs.Prelude.{IfErr, refl, true}
use Rattle.lfs_fs.specs.Naming.{FailsPlace}
use Rattle.lfs_path.specs.Trees.{HasTree}
use Rattle.lfs_path.specs.declared.tree.Place.{Place}
use Rattle.lfs_path.specs.declared.walk_fault.WalkFault.TheVariants as walk
use Rattle.lfs_fs.specs.Naming.{BeginsAt}
use Rattle.lfs_fs.proofs.new_entries.Rule.{read}
use Rattle.lfs_fs.proofs.calls.StoreCalls.{ends_parent, ends_refused}
use Rattle.lfs_fs.proofs.Prelude.{refusal_of, Begins, seen, Mounted, Serves}
use Rattle.lfs_files.specs.declared.fault.LogFault.TheVariants as log
use Rattle.lfs_files.specs.declared.header.Header.{Header}
use Rattle.lfs_files.specs.Files as files
use Rattle.lfs_store.specs.Growing.{asked_by_changes}
use Rattle.lfs_entries.specs.Telling.{AsksOnly, DraftsOnly}
use Rattle.lfs_path.specs.dirs.Growing.{GrowsDirectory}
use Rattle.lfs_fs.specs.declared.error.FsError.TheVariants as error
use Rattle.lfs_fs.proofs.calls.Answers.{Fails, IsLooked, looked, unlooked}
use Rattle.lfs_fs.proofs.calls.Files.{IsBegun, takes_draft, with_store}
use Rattle.lfs_fs.proofs.read.Ends.{begun_running, begun_serves, halted_serves}

-- ---- a `?`

-- what it returns is the fault that came, as the caller's
pub returned : {T E : Type 0} {r : Result T E} {e : E} → IsErr r × IsErrAnd r (λ y. y ≡ e) → r ≡ Err e
returned {r} gives = let p = err_from_is_err_and r gives.1 in let is = p.1 in let of = p.2 in cc

-- ---- how a call begins

-- what is told where it doesn't: the volume is halted
abbrev pub Unbegun : {D : Type 0} → Fs D → Fs D → FsError → Type 0
Unbegun old new fault = record {
  done : Unit {0};
  same : new ≡ old;
  halted : (seen old).log.halted ≡ true;
  fault : fault ≡ error.Halted;
}

-- then it serves so
pub unbegun : {D : Type 0} {state : D → DeviceState} (lawful : (d : D) → IsLawful (state d)) {old new : Fs D} {call : Call}
    {fault : FsError} → Unbegun old new fault → Serves state (seen old) (seen new) call (Refuse (refusal_of fault))
unbegun {state = state} lawful {old = old} {call = call} none =
    halted_serves state call (lawful (seen old).log.device) none.same none.halted none.fault

-- one that began does what it does then, where the volume isn't halted
pub after_begin : {D : Type 0} {state : D → DeviceState} {old mid : Fs D} {new : Mounted D} {call : Call} {a : Answer} → Begins old mid
    → ((seen mid).log.halted ≡ false → Serves state (seen mid) new call a) → Serves state (seen old) new call a
after_begin {state = state} begins serves = begun_serves state begins (serves (begun_running state begins))

-- ---- what it reads

-- what is told of the header of an object
abbrev pub HeaderTold : {S D : Type 0} → FilesState S D → FilesState S D → ℕ → Result Header LogFault → Type 0
HeaderTold s s' n result = record {
  reads : files.Reads s s';
  answer : IfOk result (λ header. Tells s s' (λ m. Unit {0}) (HasHeader n header));
  failed : OnErr result (TellsFault s s' (HasObject n));
  halted : IsErrOf result log.Halted → s.halted ≡ true;
  other : IsErrOf result log.Full → ⊥;
}

module _ {D : Type 0} {state : D → DeviceState} (lawful : (d : D) → IsLawful (state d)) {v : Mounted D} {f : Fs D} {path : List ℕ}
    {follow : Bool} {n : ℕ} (reached : ReachesObject state v f path follow n) {store : Store D} where
  -- the header of the object that a call came to
  pub header_read : {head : Header} → HeaderTold (files_of state f.store) (files_of state store) n (Ok head)
      → IsLooked state v (with_store f store) path follow n head
  header_read {head} told = looked lawful reached store told.reads head told.answer

  pub header_fails : {call : Call} → never_for_device call ≡ false → {e : LogFault}
      → HeaderTold (files_of state f.store) (files_of state store) n (Err e)
      → Serves state v (seen (with_store f store)) call (Refuse (refusal_of (error_of_log e)))
  header_fails free {e} told = unlooked lawful reached store told.reads free e (λ same. told.halted (ap Err same))
      (λ same. told.other (ap Err same)) told.failed

-- a fault of what reads refuses the call
pub asked_fails : {D : Type 0} {state : D → DeviceState} {v : Mounted D} {f : Fs D} {store : Store D} {call : Call} {X : Type 0}
    {e : EntryFault} {Why : EntryFault → Type 0} → Fails state v f store call Why
    → AsksOnly (files_of state f.store) (files_of state store) {A = X} (Err e) → Why e
    → Serves state v (seen (with_store f store)) call (Refuse (refusal_of (error_of_entry e)))
asked_fails {e = e} fails only = fails e (λ same. only.halted (ap Err same)) (λ same. only.other (ap Err same))

-- what is told of a walk to the last piece of a path
abbrev pub ParentTold : {S D : Type 0} → FilesState S D → FilesState S D → List ℕ → Result Place WalkFault → Type 0
ParentTold s s' path result = record {
  reads : files.Reads s s';
  last : IfOk result (λ place. HasLast path place.last);
  answer : IfOk result (λ place. Tells s s' HasTree (IsParent path place.chain));
  refused : IfErr result (TellsRefusal s s' HasTree (EndsParent path));
  halted : IsErrOf result (walk.Log log.Halted) → s.halted ≡ true;
  other : IsErrOf result (walk.Log log.Full) → ⊥;
}

module _ {D : Type 0} {state : D → DeviceState} {f : Fs D} {store : Store D} {path : List ℕ} where
  pub parent_found : {place : Place} → ParentTold (files_of state f.store) (files_of state store) path (Ok place) → {piece : Option Last}
      → place.last ≡ piece → {d : ℕ} → d ≡ here place.chain → FindsPlace state f (with_store f store) path d piece
  parent_found {place} told same at = record {
    last = rw (← same) told.last;
    walks = ends_parent state f.store store path place.chain at told.answer;
  }

  pub parent_fails : {cause : WalkFault} → ParentTold (files_of state f.store) (files_of state store) path (Err cause)
      → FailsPlace state f (with_store f store) path (error_of_walk cause)
  parent_fails {cause} told = record {
    cause = cause;
    is = refl;
    ends = ends_refused state f.store store (EndsParent path) cause told.refused;
    halted = λ same. told.halted (ap Err same);
    other = λ same. told.other (ap Err same);
  }

-- ---- what it drafts

-- it asks for no more memory than so many headers and blocks do
pub draft_fits : {D : Type 0} {state : D → DeviceState} (lawful : (d : D) → IsLawful (state d)) {v : Mounted D} {f : Fs D}
    → IsBegun state v f → {store : Store D} {result : Result (Unit {0}) EntryFault}
    → DraftsOnly (files_of state f.store) (files_of state store) result → (headers blocks : ℕ) {most : ℕ}
    → asked_by_changes headers blocks ≤ most
    → OnOk result (GrowsDirectory (files_of state f.store) (files_of state store) headers blocks)
    → OnOk result (asked_by (draft_of store) ≤ most)
draft_fits {state = state} lawful {v} {f} begun {store} {result} only headers blocks few =
    ok_then result _ _ (takes_draft state lawful v f begun store only.redrafts headers blocks few)

-- so where the rule of an entry was asked before
pub entry_fits : {D : Type 0} {state : D → DeviceState} (lawful : (d : D) → IsLawful (state d)) {old f : Fs D} {path : List ℕ} {d : ℕ}
    {l : Last} → BeginsAt state old f path d l → {asked drafted : Store D} {X : Type 0} {rule : Result X EntryFault}
    → AsksOnly (files_of state f.store) (files_of state asked) rule → {result : Result (Unit {0}) EntryFault}
    → DraftsOnly (files_of state asked) (files_of state drafted) result → (headers blocks : ℕ) {most : ℕ}
    → asked_by_changes headers blocks ≤ most
    → OnOk result (GrowsDirectory (files_of state asked) (files_of state drafted) headers blocks)
    → OnOk result (asked_by (draft_of drafted) ≤ most)
entry_fits {state = state} lawful begins {asked} only = draft_fits lawful (read state lawful begins asked only.reads)
