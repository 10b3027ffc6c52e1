-- A name that a call drafted away, as a step of the model.
use Rattle.lfs_fs.proofs.Prelude.{◌≡◌, ◌≢◌, ◌≤◌, ℕ, Bool, true, false, List, Result, refl, sym, ◌∙◌, subst, arith, IfErr, IsErrOf, OnOk}
use Rattle.lfs_fs.proofs.Prelude.{Call, Done, changes, cleans, never_for_device, takes_no_memory, DeviceState, IsLawful, opened, FilesState}
use Rattle.lfs_fs.proofs.Prelude.{Draft, Store, StagedLog, files_of, totals_of_tree, Last, Entry, EntryFault, is_directory, CountsDrop}
use Rattle.lfs_fs.proofs.Prelude.{DraftsDrop, HasOld, FailsWhere, FsError, Fs, Finishes, answer_by, seen, Mounted, Serves, segments_of}
use Rattle.lfs_fs.proofs.Prelude.{MayGo, gone, room_shaped, Handles, asked_by, draft_of}
use Rattle.lfs_files.specs.declared.fault.LogFault.TheVariants as log
use Rattle.lfs_entries.specs.declared.fault.EntryFault.TheVariants as fault
use Rattle.lfs_fs.specs.Asking.{most_asked}
use Rattle.lfs_fs.proofs.calls.Files.{In, IsBegun, MakesNext, RedraftsTo, apart_now, counted_now, drafted_ends, explains_where, fits_now}
use Rattle.lfs_fs.proofs.calls.Files.{has_in, with_store}
use Rattle.lfs_steps.proofs.old_entries.Dropping.{gone_map, gone_shape, has_old, takes_drop}

module _ {D : Type 0} (state : D → DeviceState) (lawful : (d : D) → IsLawful (state d)) (v : Mounted D) (f : Fs D)
    (begun : IsBegun state v f) (store : Store D) (redrafts : RedraftsTo state f store)
    (path : List ℕ) (d : ℕ) (l : Last) (e : Entry) (call : Call) (change : changes call ≡ true) (free : never_for_device call ≡ false)
    (memory : takes_no_memory call ≡ false) (unclean : cleans call ≡ false)
    (may : In state v (with_store f store) (λ m s. MayGo (segments_of v) m s path d l e call))
    (is_open : Bool) (opens : is_open ≡ true → opened f.handles e.object.number.value ≢ 0)
    (shut : is_open ≡ false → is_directory e.object.header.kind ≡ false → opened f.handles e.object.number.value ≡ 0) where
  abbrev s : FilesState StagedLog Draft
  s = files_of state f.store

  abbrev s' : FilesState StagedLog Draft
  s' = files_of state store

  -- ---- it is drafted
  module _ (drafts : DraftsDrop s s' d e is_open l.name.now) (counts : CountsDrop s s' d e) where
    makes : In state v (with_store f store) (MakesNext state v (with_store f store) call)
    makes k m0 m st keeps is =
        let go = may k m0 m st keeps is in
        let here = has_in begun is in
        let dropped = drafts.has m m keeps here (has_old go).both in
        let table = sym (is.handles ∙ sym begun.still.table) in
        let opens_in = subst (λ (hs : Handles). is_open ≡ true → opened hs e.object.number.value ≢ 0) table opens in
        let shut_in =
        subst (λ (hs : Handles). is_open ≡ false → is_directory e.object.header.kind ≡ false → opened hs e.object.number.value ≡ 0)
        table shut in
        let map = gone_map go s' opens_in shut_in dropped in
        let counted = counts m m dropped.map keeps here dropped.has (has_old go).both (go.shaped.long d) map.map
        (counted_now state lawful v f begun is) in
        let room = room_shaped totals_of_tree (segments_of v) map (gone_shape go s' opens_in shut_in dropped) counted in
        record {
          next = gone st path d;
          answer = Done;
          ok = refl;
          map = dropped.map;
          has = dropped.has;
          fits = drafts.fits m m keeps here (fits_now state lawful v f begun m)
              (takes_drop go s (apart_now state lawful v f begun));
          counted = counted;
          is = λ has_room. map;
          done = λ has_room. go.done;
          lacks = λ more. absurd (omega (arith, room, more));
        }

  -- ---- the call
  pub drop_ends : (new : Fs D) → new.handles ≡ f.handles → (drafted : Result (Unit {0}) EntryFault) (result : Result (Unit {0}) FsError)
      → Finishes state (with_store f store) new drafted result
      → OnOk drafted (asked_by (draft_of store) ≤ most_asked call) → OnOk drafted (DraftsDrop s s' d e is_open l.name.now)
      → OnOk drafted (CountsDrop s s' d e) → IfErr drafted (FailsWhere s s' (HasOld d e l.name.now))
      → (IsErrOf drafted (fault.Log log.Halted) → s.halted ≡ true) → (IsErrOf drafted (fault.Log log.Full) → ⊥)
      → Serves state v (seen new) call (answer_by (λ _. Done) result)
  unfolding makes
  drop_ends new rest drafted result finishes small drafts counts =
      drafted_ends state lawful v f begun store redrafts call change free memory unclean makes new rest Done refl
      (λ p q k m0 m st keeps is. (refl, is.handles))
      (explains_where begun store {P = HasOld d e l.name.now} (λ k m0 m st keeps is. has_old (may k m0 m st keeps is)) call)
      drafted result finishes small drafts counts
