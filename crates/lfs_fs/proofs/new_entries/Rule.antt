-- The rule of a new entry, as a call asks it that came to the last piece of a path.
use Rattle.lfs_fs.proofs.Prelude.{◌≡◌, ◌||◌, ℕ, Bool, false, List, Ok, Err, ap, IfErr, Result, Call, Refuse, cleans, never_for_device}
use Rattle.lfs_fs.proofs.Prelude.{takes_no_memory, DeviceState, IsLawful, last_dots, State, At, Parent, FilesState, Store, files_of, Last}
use Rattle.lfs_fs.proofs.Prelude.{EntryFault, RefusesEntry, TakesEntry, FsError, Fs, error_of_entry, BeginsAt, BeginsNowhere, refusal_of}
use Rattle.lfs_fs.proofs.Prelude.{seen, Serves, segments_of, Enters, ChecksNew, new_dots, IsReached}
use Rattle.std.specs.Prelude.{IfOk}
use Rattle.lfs_model.specs.Refusal as refusals
use Rattle.lfs_files.specs.declared.header.Header.{Header}
use Rattle.lfs_fs.specs.declared.error.FsError.TheVariants as error
use Rattle.lfs_entries.specs.Telling.{AsksOnly}
use Rattle.lfs_fs.proofs.calls.Files.{In, IsBegun, ReadsTo, Rose, begun_after, begun_at, fault_serves, has_in, nameless, reached_in}
use Rattle.lfs_fs.proofs.calls.Files.{read_still, risen, with_store}
use Rattle.lfs_fs.proofs.new_entries.Explained.{is_taken, new_explained}
use Rattle.lfs_fs.proofs.volume.Map.{shape_of_volume}
use Rattle.lfs_fs.proofs.paths.Places.{IsRefusedBy, nowhere_serves}

-- what is told of the rule
abbrev pub RuleTold : {S D : Type 0} → FilesState S D → FilesState S D → ℕ → Last → Bool → Result Header EntryFault → Type 0
RuleTold s s' d l is_mkdir result = record {
  only : AsksOnly s s' result;
  taken : IfOk result (TakesEntry s s' d l.name.now l.slash is_mkdir);
  refused : IfErr result (RefusesEntry s s' d l.name.now l.slash is_mkdir);
}

module _ {D : Type 0} {state : D → DeviceState} {old f : Fs D} {path : List ℕ} {d : ℕ} {l : Last}
    (begins : BeginsAt state old f path d l) where
  pub begun : IsBegun state (seen old) f
  begun = begun_at state begins.reached begins.ready

  pub at : (store : Store D) → ReadsTo state f store
      → In state (seen old) (with_store f store) (λ m s. IsReached (segments_of (seen old)) m s path d l)
  at store reads k m0 m s keeps = reached_in begins.reached k m0 m s (reads.looks.carries.kept_before keeps)

  -- it takes an entry
  pub enters : (store : Store D) (is_mkdir : Bool) (head : Header)
      → RuleTold (files_of state f.store) (files_of state store) d l is_mkdir (Ok head)
      → In state (seen old) (with_store f store) (λ m s. Enters (segments_of (seen old)) m s path d l is_mkdir head)
  enters store is_mkdir head rule k m0 m s keeps is =
      let g = at store rule.only.reads k m0 m s keeps is in
      let has = has_in begun is in
      record {
        at = g;
        shaped = shape_of_volume is;
        taken = is_taken (files_of state f.store) (files_of state store) g keeps has is_mkdir head rule.taken;
        looks = rule.taken.looks m m keeps has;
        room = rule.taken.room;
      }

  -- it takes none
  pub rule_refused : (lawful : (d : D) → IsLawful (state d)) (store : Store D) {call : Call} → never_for_device call ≡ false
      → cleans call ≡ false → takes_no_memory call ≡ false → (is_mkdir : Bool)
      → In state (seen old) (with_store f store) (λ m s. ChecksNew (segments_of (seen old)) s path d call is_mkdir) → (why : EntryFault)
      → RuleTold (files_of state f.store) (files_of state store) d l is_mkdir (Err why)
      → Serves state (seen old) (seen (with_store f store)) call (Refuse (refusal_of (error_of_entry why)))
  rule_refused lawful store {call} free unclean memory is_mkdir checks why rule =
      fault_serves state lawful (seen old) f begun store (read_still f store rule.only.reads) call free unclean memory why
      (λ e. rule.only.halted (ap Err e)) (λ e. rule.only.other (ap Err e))
      (λ k m0 m s keeps is.
      new_explained (files_of state f.store) (files_of state store) (at store rule.only.reads k m0 m s keeps is) keeps (has_in begun is)
      is_mkdir (Rose state (seen old) store) (risen begun store) (checks k m0 m s keeps is) why rule.refused)

-- the volume after the rule
pub read : {D : Type 0} (state : D → DeviceState) (lawful : (d : D) → IsLawful (state d)) {old f : Fs D} {path : List ℕ} {d : ℕ} {l : Last}
    → BeginsAt state old f path d l → (store : Store D) → ReadsTo state f store → IsBegun state (seen old) (with_store f store)
read state lawful {f = f} begins store reads = begun_after f store reads lawful (begun begins)

-- ---- a call that comes to no last piece

module _ {D : Type 0} {state : D → DeviceState} (lawful : (d : D) → IsLawful (state d)) (old new : Fs D) (path : List ℕ) (call : Call)
    (free : never_for_device call ≡ false) (unclean : cleans call ≡ false) (memory : takes_no_memory call ≡ false)
    (steps : IsRefusedBy lawful old new path call) (is_mkdir : Bool)
    (checks : (s : State) (d : ℕ) → Parent s.tree path (At d) → ChecksNew (segments_of (seen old)) s path d call is_mkdir) where
  pub unreached : (fault : FsError) → BeginsNowhere state old new path error.Exist fault
      → Serves state (seen old) (seen new) call (Refuse (refusal_of fault))
  unreached fault none = nowhere_serves lawful old new path call free unclean memory steps error.Exist fault none
      (λ d reached running. nameless lawful d reached running call unclean refusals.Exist tt
      (λ s sound walk none. new_dots (checks s d walk) (ap (λ (b : Bool). b || last_dots path) none)))
