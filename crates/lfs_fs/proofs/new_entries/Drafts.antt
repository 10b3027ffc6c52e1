-- A new object that a call drafted with its name, as a step of the model.
use Rattle.lfs_fs.proofs.Prelude.{◌≡◌, ◌<◌, ◌≤◌, ◌*◌, ℕ, true, false, List, Result, Ok, Err, refl, sym, ◌∙◌, ap, arith, MOST_LINKS, Answer}
use Rattle.lfs_fs.proofs.Prelude.{Done, Refuse, is_ok, DeviceState, IsLawful, need, Handles, State, FilesState, Draft, Store, StagedLog}
use Rattle.lfs_fs.proofs.Prelude.{files_of, IsVacant, totals_of_tree, Last, EntryFault, makes_directory, FsError, Fs, need_of, Finishes}
use Rattle.lfs_fs.proofs.Prelude.{BeginsAt, refusal_of, answer_by, seen, Behaves, Mounted, Serves, segments_of, IsNew, Asked, NewCall}
use Rattle.lfs_fs.proofs.Prelude.{need_shaped}
use Rattle.lfs_model.specs.Step.{with_new}
use Rattle.lfs_model.specs.Tree.{least}
use Rattle.lfs_model.proofs.KeepsAll.{call_keeps}
use Rattle.lfs_files.specs.declared.header.Header.{Header}
use Rattle.lfs_store.specs.Growing.{asked_by_changes}
use Rattle.lfs_entries.specs.NewNames.{CountsEntry, DraftsEntry}
use Rattle.lfs_fs.specs.Asking.{most_asked}
use Rattle.lfs_fs.proofs.calls.AnyDevice.{IsBounded}
use Rattle.lfs_fs.proofs.calls.Files.{In, IsBegun, MakesNext, RedraftsTo, apart_now, counted_now, fits_now, has_in, with_store}
use Rattle.lfs_fs.proofs.calls.Told.{DraftTold, told_ends, told_opens, told_turned}
use Rattle.lfs_fs.proofs.new_entries.Outcomes.{entry_asked, may_make}
use Rattle.lfs_fs.proofs.new_entries.Rule.{RuleTold, read}
use Rattle.lfs_steps.proofs.new_entries.Maps.{known_there, lacks, new_map, new_shape, new_tree, takes, top_least}
use Rattle.lfs_steps.proofs.new_entries.Steps.{new_done, new_no_space, new_node, with_entry}
use Rattle.lfs_fs.proofs.write.Ends.{with_open}

module _ {D : Type 0} (state : D → DeviceState) (lawful : (d : D) → IsLawful (state d)) {old f : Fs D} {path : List ℕ} {d : ℕ} {l : Last}
    (begins : BeginsAt state old f path d l) (of : NewCall (seen old).log.version (segments_of (seen old)) path d) (ruled : Store D)
    (head : Header) (rule : RuleTold (files_of state f.store) (files_of state ruled) d l of.is_mkdir (Ok head))
    (few : makes_directory of.kind ≡ true → head.links < MOST_LINKS) (n : ℕ) (vacant : IsVacant state ruled.log n)
    (allowed : Asked d f.handles head.links (λ s. of.own s ≡ false)) (store : Store D)
    (redrafts : RedraftsTo state (with_store f ruled) store) where
  abbrev v : Mounted D
  v = seen old

  abbrev g : Fs D
  g = with_store f ruled

  abbrev begun : IsBegun state v g
  begun = read state lawful begins ruled rule.only.reads

  abbrev after : Fs D
  after = with_store f store

  may : In state v after (IsNew of l head n)
  may = may_make lawful begins of ruled head rule few n vacant store redrafts

  abbrev s : FilesState StagedLog Draft
  s = files_of state ruled

  abbrev s' : FilesState StagedLog Draft
  s' = files_of state store

  asked : {P : State → Type 0} → Asked d f.handles head.links P → In state v after (λ m st. P st)
  asked so k m0 m st keeps is = entry_asked lawful begins of ruled head rule so is (may k m0 m st keeps is).enters

  makes : DraftsEntry s s' d head n of.kind l.name.now → CountsEntry s s' d head n of.kind → In state v after
      (MakesNext state v after of.call)
  makes drafts counts k m0 m st keeps is =
      let new = may k m0 m st keeps is in
      let at = new.enters.at in
      let own = asked allowed k m0 m st keeps is in
      let here = has_in begun is in
      let made = drafts.has m m keeps here (lacks new) in
      let shape = new_shape new made.object made.links made.names in
      let counted = counts m m made.map keeps here made.has (lacks new) (known_there new) shape.map
      (counted_now state lawful v g begun is) in
      let needs : need (with_new st.tree d path (new_node of.kind)) ≡ need_of after
      = ap need (sym (new_tree new made.object made.links made.names)) ∙ (need_shaped totals_of_tree shape counted).0 in
      let done = λ (room : need_of after ≤ 47 * segments_of v).
      new_done of st new.same at.walk new.enters.taken own (top_least new) (omega (arith, needs, room)) in
      record {
        next = with_entry of st new.same at.walk;
        answer = of.answer st;
        ok = of.ok st;
        map = made.map;
        has = made.has;
        fits = drafts.fits m m keeps here (fits_now state lawful v g begun m)
            (takes new s (apart_now state lawful v g begun) made.names.file.bytes.size);
        counted = counted;
        is = λ room. new_map new made.object made.links made.names refl refl (call_keeps of.call (segments_of v) st
            (with_entry of st new.same at.walk) (of.answer st) at.map.log.sound of.arguments (done room));
        done = done;
        lacks = λ more. new_no_space of st new.same at.walk new.enters.taken own (top_least new) (omega (arith, needs, more));
      }

  -- ---- the ends of the call
  abbrev EntryTold : Result (Unit {0}) EntryFault → Type 0
  EntryTold = DraftTold s s' 4 4 (DraftsEntry s s' d head n of.kind l.name.now) (CountsEntry s s' d head n of.kind)

  module _ (most : asked_by_changes 4 4 ≤ most_asked of.call) (new : Fs D) (rest : new.handles ≡ f.handles) where
    pub entry_ends : Asked d f.handles head.links (λ s. (of.answer s ≡ Done) × (of.handles s ≡ s.handles))
        → (draft : Result (Unit {0}) EntryFault) → EntryTold draft → (result : Result (Unit {0}) FsError)
        → Finishes state after new draft result → Serves state v (seen new) of.call (answer_by (λ _. Done) result)
    unfolding makes
    entry_ends so =
        told_ends lawful begun store redrafts of.call of.changing of.uncommitted of.remembering of.unclean 4 4 most makes new rest
        (λ drafts counts k m0 m st keeps is.
        let ends = asked so k m0 m st keeps is in (ends.0, ends.1 ∙ is.handles))

    -- where the call was to open the file
    pub entry_turned : (draft : Result (Unit {0}) EntryFault) → EntryTold draft → (e : FsError) → Finishes state after new draft (Err e)
        → Serves state v (seen new) of.call (Refuse (refusal_of e))
    entry_turned =
        told_turned lawful begun store redrafts of.call of.changing of.uncommitted of.remembering of.unclean 4 4 most makes new rest

    pub entry_opens : {a : Answer} → is_ok a ≡ true → (table : Handles)
        → Asked d f.handles head.links (λ s. least s.tree ≡ n → (of.answer s ≡ a) × (of.handles s ≡ table))
        → (IsBounded state v (with_open new table) of.call → Behaves state v (with_open new table) of.call a)
        → (draft : Result (Unit {0}) EntryFault) → EntryTold draft → (u : Unit {0}) → Finishes state after new draft (Ok u)
        → Serves state v (with_open new table) of.call a
    unfolding makes
    entry_opens {a} ok table so =
        told_opens lawful begun store redrafts of.call of.changing of.uncommitted of.remembering of.unclean 4 4 most makes new rest
        a ok table
        (λ drafts counts k m0 m st keeps is.
        asked so k m0 m st keeps is (may k m0 m st keeps is).first)
