-- The calls that make an object under the last piece of a path, exit by exit.
use Rattle.lfs_fs.proofs.Prelude.{◌≡◌, ◌<◌, ℕ, true, false, List, Ok, Err, sym, ◌∙◌, arith, MOST_LINKS, Refuse, CheckpointValue}
use Rattle.lfs_fs.proofs.Prelude.{DeviceState, IsLawful, LogMap, Step, State, Store, Holds, IsVacant, volume_of, files_of, Last, EntryFault}
use Rattle.lfs_fs.proofs.Prelude.{makes_directory, Fs, error_of_entry, BeginsAt, refusal_of, seen, IsIn, Serves, segments_of, Enters, IsNew}
use Rattle.lfs_fs.proofs.Prelude.{Asked, NewCall, checks_new, links_are}
use Rattle.lfs_model.specs.Refusal as refusals
use Rattle.lfs_files.specs.declared.header.Header.{Header}
use Rattle.lfs_store.specs.log.LogState.{HasAll}
use Rattle.lfs_fs.proofs.calls.AnyDevice.{IsOrdinary}
use Rattle.lfs_fs.proofs.calls.Exits.{still_in}
use Rattle.lfs_fs.proofs.calls.Files.{In, RedraftsTo, read_still, refused_after, with_store}
use Rattle.lfs_fs.proofs.new_entries.Rule.{RuleTold, at, begun, enters, read, rule_refused}
use Rattle.lfs_steps.proofs.new_entries.Steps.{new_no_number, new_own}
use Rattle.lfs_steps.proofs.volume.Directories.{least_number, no_least}
use Rattle.lfs_fs.proofs.volume.Map.{map_of_volume, version_of_volume}

module _ {D : Type 0} {state : D → DeviceState} (lawful : (d : D) → IsLawful (state d)) {old f : Fs D} {path : List ℕ} {d : ℕ} {l : Last}
    (begins : BeginsAt state old f path d l) (of : NewCall (seen old).log.version (segments_of (seen old)) path d) (store : Store D) where
  abbrev N : ℕ
  N = segments_of (seen old)

  -- the directory doesn't take the entry
  pub entry_refused : (why : EntryFault) → RuleTold (files_of state f.store) (files_of state store) d l of.is_mkdir (Err why)
      → Serves state (seen old) (seen (with_store f store)) of.call (Refuse (refusal_of (error_of_entry why)))
  entry_refused why rule =
      rule_refused begins lawful store of.uncommitted of.unclean of.remembering of.is_mkdir
      (λ k m0 m s keeps is. checks_new of s (version_of_volume is) (at begins store rule.only.reads k m0 m s keeps is).walk) why rule

  -- it does
  module _ (head : Header) (rule : RuleTold (files_of state f.store) (files_of state store) d l of.is_mkdir (Ok head)) where
    entering : In state (seen old) (with_store f store) (λ m s. Enters N m s path d l of.is_mkdir head)
    entering = enters begins store of.is_mkdir head rule

    pub entry_asked : {P : State → Type 0} → Asked d f.handles head.links P → {k : CheckpointValue} {m0 m : LogMap} {s : State}
        → IsIn state (seen old) k m0 m s → Enters N m s path d l of.is_mkdir head → P s
    entry_asked so {s = s} is g = so s (is.handles ∙ sym begins.reached.still.table) (links_are g.at head g.looks.header)

    refused : (r : refusals.Refusal) → IsOrdinary (Refuse r)
        → In state (seen old) (with_store f store) (λ m s. Step N s of.call (Refuse r) s)
        → Serves state (seen old) (seen (with_store f store)) of.call (Refuse r)
    refused = refused_after state lawful (seen old) f (begun begins) store (read_still f store rule.only.reads)
        of.call of.uncommitted of.unclean of.remembering

    -- the call is refused for its own reason
    pub own_refused : IsOrdinary (Refuse of.why) → Asked d f.handles head.links (λ s. of.own s ≡ true)
        → Serves state (seen old) (seen (with_store f store)) of.call (Refuse of.why)
    own_refused ordinary own = refused of.why ordinary (λ k m0 m s keeps is.
        let g = entering k m0 m s keeps is in
        new_own of s (version_of_volume is) g.at.walk g.taken (entry_asked own is g))

    holds_in : (k : CheckpointValue) (m0 m : LogMap) (s : State) → IsIn state (seen old) k m0 m s → Holds state (volume_of store) k m0 m
    holds_in k m0 m s is =
        (still_in state (read state lawful begins store rule.only.reads).still is).holds

    -- no number is free
    pub number_refused : Asked d f.handles head.links (λ s. of.own s ≡ false) → HasAll state (volume_of store)
        → Serves state (seen old) (seen (with_store f store)) of.call (Refuse refusals.NoNumber)
    number_refused allowed all = refused refusals.NoNumber tt (λ k m0 m s keeps is.
        let g = entering k m0 m s keeps is in
        new_no_number of s (version_of_volume is) g.at.walk g.taken (entry_asked allowed is g)
        (no_least N m s (map_of_volume is) (all k m0 m (holds_in k m0 m s is))))

    -- the call makes the object
    pub may_make : (makes_directory of.kind ≡ true → head.links < MOST_LINKS) → (n : ℕ) → IsVacant state (volume_of store) n
        → (drafted : Store D) → RedraftsTo state (with_store f store) drafted
        → In state (seen old) (with_store f drafted) (IsNew of l head n)
    may_make few n vacant drafted redrafts k m0 m s after is =
        let holds = holds_in k m0 m s is in
        record {
          enters = entering k m0 m s (redrafts.looks.carries.kept_before after) is;
          same = version_of_volume is;
          links = few;
          free = vacant.free k m0 m holds;
          first = least_number N m s (map_of_volume is) n vacant.some vacant.few (vacant.free k m0 m holds)
              (λ q low below. vacant.least k m0 m holds q low below);
          top = (let most = vacant.few in omega (arith, most));
        }
