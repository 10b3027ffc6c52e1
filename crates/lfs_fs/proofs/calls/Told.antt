-- The ends of a call that finishes a draft, by what is told of it.
use Rattle.lfs_fs.proofs.Prelude.{◌≡◌, ◌≤◌, ℕ, true, false, Result, Ok, Err, refl, ap, IfErr, OnOk, Answer, Call, Done, Refuse, changes}
use Rattle.lfs_fs.proofs.Prelude.{is_ok, never_for_device, takes_no_memory, DeviceState, IsLawful, Handles, FilesState, Store, files_of}
use Rattle.lfs_fs.proofs.Prelude.{GrowsDirectory, EntryFault, FsError, Fs, error_of_entry, Finishes, refusal_of, answer_by, seen, Behaves}
use Rattle.lfs_fs.proofs.Prelude.{Mounted, Serves, segments_of, asked_by, cleans, draft_of}
use Rattle.lfs_store.specs.Growing.{asked_by_changes}
use Rattle.lfs_entries.specs.declared.fault.EntryFault.TheVariants as fault
use Rattle.lfs_entries.specs.Telling.{DraftsOnly, FailsAt}
use Rattle.lfs_fs.specs.Asking.{most_asked}
use Rattle.lfs_fs.proofs.calls.AnyDevice.{IsBounded}
use Rattle.lfs_fs.proofs.calls.Files.{EndsWith, Explains, In, IsBegun, MakesNext, RedraftsTo, Rose, finish_ends, finish_opens}
use Rattle.lfs_fs.proofs.calls.Files.{finish_turned, gives_up, has_in, risen, still_ready, takes_draft, with_store}
use Rattle.lfs_fs.proofs.write.Ends.{with_open}

-- what is told of a draft that has P and Q where it is whole, and grows by so many headers and blocks at most
abbrev pub DraftTold : {S D : Type 0} → FilesState S D → FilesState S D → ℕ → ℕ → Type 0 → Type 0 → Result (Unit {0}) EntryFault → Type 0
DraftTold s s' headers blocks P Q draft = record {
  only : DraftsOnly s s' draft;
  done : OnOk draft P;
  small : OnOk draft (GrowsDirectory s s' headers blocks);
  counted : OnOk draft Q;
  failed : IfErr draft (FailsAt s s');
}

module _ {D : Type 0} {state : D → DeviceState} (lawful : (d : D) → IsLawful (state d)) {v : Mounted D} {f : Fs D}
    (begun : IsBegun state v f) (store : Store D) (redrafts : RedraftsTo state f store) where
  abbrev Told : ℕ → ℕ → Type 0 → Type 0 → Result (Unit {0}) EntryFault → Type 0
  Told = DraftTold (files_of state f.store) (files_of state store)

  module _ (call : Call) (change : changes call ≡ true) (free : never_for_device call ≡ false)
      (memory : takes_no_memory call ≡ false) (unclean : cleans call ≡ false) (headers blocks : ℕ)
      (most : asked_by_changes headers blocks ≤ most_asked call) {P Q : Type 0}
      (makes : P → Q → In state v (with_store f store) (MakesNext state v (with_store f store) call))
      (new : Fs D) (rest : new.handles ≡ f.handles) where
    small : GrowsDirectory (files_of state f.store) (files_of state store) headers blocks → asked_by (draft_of store) ≤ most_asked call
    small = takes_draft state lawful v f begun store redrafts headers blocks most

    -- the draft isn't whole
    failed : (why : EntryFault) → Told headers blocks P Q (Err why) → (result : Result (Unit {0}) FsError)
        → Finishes state (with_store f store) new (Err why) result → Serves state v (seen new) call (answer_by (λ _. Done) result)
    failed why draft result finishes =
        gives_up state lawful v f begun store (still_ready state lawful v f begun store redrafts) call free unclean memory
        finishes (λ e. draft.only.halted (ap Err e)) (λ e. draft.only.other (ap Err e)) (explains why draft.failed) Done
      where
        explains : (why : EntryFault) → FailsAt (files_of state f.store) (files_of state store) why
            → In state v (with_store f store) (λ m s. Explains call (segments_of v) s (Rose state v store) why)
        explains fault.NoMemory fails k m0 m st keeps is = tt
        explains (fault.Log why) fails k m0 m st keeps is = risen begun store (fails m m keeps (has_in begun is))
        explains other fails k m0 m st keeps is = absurd fails

    abbrev pub EndsSo : Answer → Handles → Type 0
    EndsSo a table = (p : P) (q : Q)
        → EndsWith state lawful v f begun store redrafts call change free memory unclean (makes p q) new rest a a table

    -- the open files stay
    pub told_ends : EndsSo Done v.table → (draft : Result (Unit {0}) EntryFault) → Told headers blocks P Q draft
        → (result : Result (Unit {0}) FsError) → Finishes state (with_store f store) new draft result
        → Serves state v (seen new) call (answer_by (λ _. Done) result)
    told_ends ends (Ok u) draft result finishes = finish_ends state lawful v f begun store redrafts call change free memory unclean
        (makes draft.done draft.counted) new rest Done (small draft.small) refl (ends draft.done draft.counted) finishes
    told_ends ends (Err why) draft result finishes = failed why draft result finishes

    -- or the call was to open the file: it is refused,
    pub told_turned : (draft : Result (Unit {0}) EntryFault) → Told headers blocks P Q draft → (e : FsError)
        → Finishes state (with_store f store) new draft (Err e) → Serves state v (seen new) call (Refuse (refusal_of e))
    told_turned (Ok u) draft e finishes = finish_turned state lawful v f begun store redrafts call change free memory unclean
        (makes draft.done draft.counted) new rest Done (small draft.small) e finishes.refused
    told_turned (Err why) draft e finishes = failed why draft (Err e) finishes

    -- or these files are open then
    pub told_opens : (a : Answer) → is_ok a ≡ true → (table : Handles) → EndsSo a table
        → (IsBounded state v (with_open new table) call → Behaves state v (with_open new table) call a)
        → (draft : Result (Unit {0}) EntryFault)
        → Told headers blocks P Q draft → (u : Unit {0}) → Finishes state (with_store f store) new draft (Ok u)
        → Serves state v (with_open new table) call a
    told_opens a ok table ends behaves (Ok done) draft u finishes =
        finish_opens state lawful v f begun store redrafts call change free memory unclean (makes draft.done draft.counted) new rest a
        (small draft.small) ok table (ends draft.done draft.counted) behaves finishes.done
    told_opens a ok table ends behaves (Err why) draft u finishes =
        absurd (let no : ◌≡◌ {A = Result (Unit {0}) FsError} (Ok u) (Err (error_of_entry why)) = finishes.is in cc)
