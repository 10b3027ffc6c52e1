-- The call unlink as a step of the model: what the rule of an old entry takes, and the name that goes.
use Rattle.lfs_fs.proofs.Prelude.{◌≡◌, ◌≢◌, ◌≤◌, ℕ, Bool, true, false, List, Some, Result, refl, sym, ◌∙◌, IfErr, IsErrOf, OnOk, Done}
use Rattle.lfs_fs.proofs.Prelude.{DeviceState, IsLawful, LogMap, Step, State, is_dir, node, opened, FilesState, Store, files_of, Last}
use Rattle.lfs_fs.proofs.Prelude.{Entry, EntryFault, GivesObject, CountsDrop, DraftsDrop}
use Rattle.lfs_fs.proofs.Prelude.{HasOld, FailsWhere, FsError, Fs, Finishes, Reaches}
use Rattle.lfs_fs.proofs.Prelude.{IsReady, answer_by, seen, Mounted, Serves, segments_of, MayGo, gone, IsReached, dots_is, gives_is}
use Rattle.lfs_fs.proofs.Prelude.{kind_is, short_is, slash_is, there_is, IsShaped, Unlink, asked_by, draft_of}
use Rattle.lfs_model.proofs.Keeps.{unlink_keeps}
use Rattle.lfs_files.specs.declared.fault.LogFault.TheVariants as log
use Rattle.lfs_entries.specs.declared.fault.EntryFault.TheVariants as fault
use Rattle.lfs_entries.specs.OldEntries.{HasEntry}
use Rattle.lfs_fs.specs.Asking.{most_asked}
use Rattle.lfs_fs.proofs.calls.Files.{In, IsBegun, ReadsTo, RedraftsTo, begun_after, begun_at, has_in, reached_in, with_store}
use Rattle.lfs_fs.proofs.old_entries.Drops.{drop_ends}
use Rattle.lfs_fs.proofs.old_entries.Explained.{plain_so}
use Rattle.lfs_steps.proofs.rename.Views.{none_in}
use Rattle.lfs_steps.proofs.unlink.Steps.{unlink_done}
use Rattle.lfs_fs.proofs.volume.Map.{shape_of_volume}

module _ {S D : Type 0} {a b : FilesState S D} {N : ℕ} {m : LogMap} {s : State} {p : List ℕ} {d : ℕ} {l : Last} {e : Entry}
    (has : HasEntry a b d l.name.now l.slash e) (g : IsReached N m s p d l) (shaped : IsShaped m)
    (looks : GivesObject m d l.name.now e.holder (Some e.object)) where
  plain : is_dir (node s.tree e.object.number.value) ≡ false
  plain = kind_is g e.holder looks.looks.header l.name.now (sym looks.looks.gives) e.object.header looks.there
      ∙ plain_so e.object.header.kind has.other

  done : Step N s (Unlink p) Done (gone s p d)
  done = unlink_done N s p d g.walk (dots_is g ∙ has.finds.named) (short_is g e.holder looks.looks.header has.finds.short)
      (there_is g looks.looks) (slash_is g ∙ has.plain)
      (gives_is g looks.looks e.object.header looks.there ∙ plain_so e.object.header.kind has.other)

  pub may_unlink : MayGo N m s p d l e (Unlink p)
  may_unlink = record {
    reached = g;
    shaped = shaped;
    looks = looks;
    empty = none_in (node s.tree e.object.number.value) plain;
    done = done;
    sound = unlink_keeps N s (gone s p d) p Done g.map.log.sound done;
  }

-- ---- the call

module _ {D : Type 0} {state : D → DeviceState} (lawful : (d : D) → IsLawful (state d)) {v : Mounted D} {f : Fs D} {path : List ℕ} {d : ℕ}
    {l : Last} (reached : Reaches state v f path d (Some l)) (ready : IsReady f) (store : Store D)
    (reads : ReadsTo state f store) {e : Entry}
    (has : HasEntry (files_of state f.store) (files_of state store) d l.name.now l.slash e) (next : Store D)
    (redrafts : RedraftsTo state (with_store f store) next) where
  begun : IsBegun state v f
  begun = begun_at state reached ready

  read : IsBegun state v (with_store f store)
  read = begun_after f store reads lawful begun

  may : In state v (with_store f next) (λ m s. MayGo (segments_of v) m s path d l e (Unlink path))
  may k m0 m s keeps is =
      let kept = redrafts.looks.carries.kept_before keeps in
      may_unlink has (reached_in reached k m0 m s (reads.looks.carries.kept_before kept) is) (shape_of_volume is)
      (has.finds.looks m m kept (has_in begun is))

  pub unlink_ends : {is_open : Bool} → (is_open ≡ true → opened f.handles e.object.number.value ≢ 0)
      → (is_open ≡ false → opened f.handles e.object.number.value ≡ 0) → (new : Fs D) → new.handles ≡ f.handles
      → (drafted : Result (Unit {0}) EntryFault) (result : Result (Unit {0}) FsError)
      → Finishes state (with_store f next) new drafted result
      → OnOk drafted (asked_by (draft_of next) ≤ most_asked (Unlink path))
      → OnOk drafted (DraftsDrop (files_of state store) (files_of state next) d e is_open l.name.now)
      → OnOk drafted (CountsDrop (files_of state store) (files_of state next) d e)
      → IfErr drafted (FailsWhere (files_of state store) (files_of state next) (HasOld d e l.name.now))
      → (IsErrOf drafted (fault.Log log.Halted) → (files_of state store).halted ≡ true) → (IsErrOf drafted (fault.Log log.Full) → ⊥)
      → Serves state v (seen new) (Unlink path) (answer_by (λ _. Done) result)
  unlink_ends {is_open} opens shut new rest drafted result =
      drop_ends state lawful v (with_store f store) read next redrafts path d l e (Unlink path) refl refl refl refl may is_open opens
      (λ off plain. shut off) new rest drafted result
