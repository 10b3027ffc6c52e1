-- The calls that read, over files that were read: what each answers is a step of the model.
use Rattle.lfs_fs.proofs.Prelude.{◌≡◌, ◌≢◌, ◌<◌, ◌≤◌, ℕ, Bool, true, false, List, map, None, Some, refl, sym, ◌∙◌, ap, nat_cmp, find}
use Rattle.lfs_fs.proofs.Prelude.{Data, Entries, Pread, Readdir, Readlink, Refuse, Status, Text, DeviceState, IsLawful, BadHandle, Inval}
use Rattle.lfs_fs.proofs.Prelude.{NotDir, Store, files_of, names_at, HasObject, EntryFault, ListedEntry, AreTold, IsListable}
use Rattle.lfs_fs.proofs.Prelude.{IsListed, FailsWhere, FsError, Fs, ReachesObject, stat_call, refusal_of, Begins, GivesNone, seen, Mounted}
use Rattle.lfs_fs.proofs.Prelude.{Serves, segments_of, opened_file}
use Rattle.lfs_model.specs.declared.Kind.TheVariants as kind
use Rattle.lfs_files.specs.declared.header.Header.{Header}
use Rattle.lfs_files.specs.Headers.{as_header}
use Rattle.lfs_entries.specs.declared.fault.EntryFault.TheVariants as fault
use Rattle.lfs_entries.specs.Reading.{ReadsObject, ReadsText, RefusesText}
use Rattle.lfs_entries.specs.Telling as telling
use Rattle.lfs_fs.specs.Answers.{entry_of}
use Rattle.lfs_fs.proofs.calls.Answers.{Fails, In, IsLooked, IsQuiet, IsWhy, ReadsTo, answers, begun_by, begun_with, fails, fails_where}
use Rattle.lfs_fs.proofs.calls.Answers.{known, now, object_there, rises}
use Rattle.lfs_fs.proofs.calls.Files.{IsBegun, with_store}
use Rattle.lfs_fs.proofs.calls.Steps.{pread_clipped, stat_step}
use Rattle.lfs_steps.proofs.open_files.Steps.{read_bad_handle, read_too_much}
use Rattle.lfs_fs.proofs.paths.Steps.{readdir_done, readdir_no_directory, readlink_done, readlink_no_link}
use Rattle.lfs_fs.proofs.read.Shown.{all_listable, directory, link, listing_is, other_directory, other_link, text_is, told_by}
use Rattle.lfs_fs.proofs.volume.Map.{headers_of_volume, map_of_volume}

-- ---- calls that change nothing

pread_quiet : (h off count : ℕ) → IsQuiet (Pread h off count)
pread_quiet h off count = record { free = refl; memory = refl; leaves = refl; unclean = refl; kept = refl }

pub stat_quiet : (follow : Bool) (path : List ℕ) → IsQuiet (stat_call follow path)
stat_quiet true path = record { free = refl; memory = refl; leaves = refl; unclean = refl; kept = refl }
stat_quiet false path = record { free = refl; memory = refl; leaves = refl; unclean = refl; kept = refl }

readlink_quiet : (path : List ℕ) → IsQuiet (Readlink path)
readlink_quiet path = record { free = refl; memory = refl; leaves = refl; unclean = refl; kept = refl }

pub readdir_quiet : (path : List ℕ) → IsQuiet (Readdir path)
readdir_quiet path = record { free = refl; memory = refl; leaves = refl; unclean = refl; kept = refl }

module _ {D : Type 0} {state : D → DeviceState} (lawful : (d : D) → IsLawful (state d)) where
  -- ---- pread
  module _ {old f : Fs D} (begins : Begins old f) where
    begun : IsBegun state (seen old) f
    begun = begun_by state f begins

    -- the handle in a state
    handle_is : (h : ℕ) → In state (seen old) f (λ m s. find nat_cmp h s.handles ≡ find nat_cmp h f.handles)
    handle_is h k m0 m s keeps is = ap (find nat_cmp h) (is.handles ∙ sym begun.still.table)

    pub pread_without : {h off count : ℕ} (e : FsError) → GivesNone f.handles h e
        → Serves state (seen old) (seen f) (Pread h off count) (Refuse (refusal_of e))
    pread_without {h = h} {off = off} {count = count} e none =
        rw none.0 (answers lawful begun (pread_quiet h off count) {a = Refuse BadHandle} tt (λ k m0 m s keeps is.
        read_bad_handle (segments_of (seen old)) s h off count (handle_is h k m0 m s keeps is ∙ none.1)))

    module _ (h : ℕ) {n : ℕ} (opens : find nat_cmp h f.handles ≡ Some n) where
      opens_in : In state (seen old) f (λ m s. find nat_cmp h s.handles ≡ Some n)
      opens_in k m0 m s keeps is = handle_is h k m0 m s keeps is ∙ opens

      pub pread_too_much : {off count : ℕ} → 65536 < count → Serves state (seen old) (seen f) (Pread h off count) (Refuse Inval)
      pread_too_much {off = off} {count = count} much = answers lawful begun (pread_quiet h off count) tt
          (λ k m0 m s keeps is. read_too_much (segments_of (seen old)) s h off count n (opens_in k m0 m s keeps is) much)

      module _ (store : Store D) (reads : ReadsTo state f store) {off count : ℕ} where
        pub pread_gives : count ≤ 65536 → {bytes : List ℕ} → ReadsObject (files_of state f.store) (files_of state store) n off count bytes
            → Serves state (seen old) (seen (with_store f store)) (Pread h off count) (Data bytes)
        pread_gives few {bytes} read = answers lawful (now lawful begun store reads) (pread_quiet h off count) tt
            (λ k m0 m s keeps is. pread_clipped m s (map_of_volume is) h n off count
            (opens_in k m0 m s (reads.looks.carries.kept_before keeps) is) read.head
            (known lawful begun store reads read.header k m0 m s keeps is) few bytes
            (known lawful begun store reads read.is k m0 m s keeps is))

        pub pread_fails : Fails state (seen old) f store (Pread h off count)
            (FailsWhere (files_of state f.store) (files_of state store) (HasObject n))
        pread_fails = fails_where lawful begun store reads (pread_quiet h off count)
            (λ k m0 m s keeps is none. let file = opened_file is.log h (opens_in k m0 m s keeps is) in
            let both : None ≡ Some file.head = sym none ∙ file.there in cc)

  -- ---- stat, lstat
  pub stat_gives : {v : Mounted D} {f : Fs D} {path : List ℕ} {follow : Bool} {n : ℕ} {head : Header}
      → IsLooked state v f path follow n head → Serves state v (seen f) (stat_call follow path) (Status (told_by n head))
  stat_gives {v = v} {path = path} {follow = follow} {n = n} {head = head} looked =
      answers lawful looked.begun (stat_quiet follow path) tt
      (λ k m0 m s keeps is. let at = looked.header k m0 m s keeps is in
      stat_step m s (map_of_volume is) path follow n (looked.walk k m0 m s keeps is) at (headers_of_volume is n (as_header head) at))

  -- ---- readlink
  module _ {v : Mounted D} {f : Fs D} {path : List ℕ} {n : ℕ} (reached : ReachesObject state v f path false n) (store : Store D)
      (reads : ReadsTo state f store) where
    is_begun : IsBegun state v f
    is_begun = begun_with state reached

    pub readlink_gives : {text : List ℕ} → ReadsText (files_of state f.store) (files_of state store) n text
        → Serves state v (seen (with_store f store)) (Readlink path) (Text text)
    readlink_gives {text} read = answers lawful (now lawful is_begun store reads) (readlink_quiet path) tt
        (λ k m0 m s keeps is.
        let map_is = map_of_volume is in
        let headers = headers_of_volume is in
        let at = known lawful is_begun store reads read.header k m0 m s keeps is in
        rw (← text_is map_is headers at text read.link (known lawful is_begun store reads read.is k m0 m s keeps is))
        (readlink_done (segments_of v) s path n (reached.walk k m0 m s (reads.looks.carries.kept_before keeps) is)
        (link map_is headers at read.link)))

    pub readlink_fails : Fails state v f store (Readlink path) (RefusesText (files_of state f.store) (files_of state store) n)
    readlink_fails = fails lawful is_begun store reads (readlink_quiet path) by
      where
        by : (e : EntryFault) → RefusesText (files_of state f.store) (files_of state store) n e
            → IsWhy lawful is_begun store reads (readlink_quiet path) e
        by fault.Inval none k m0 m s keeps is =
            readlink_no_link (segments_of v) s path n (reached.walk k m0 m s (reads.looks.carries.kept_before keeps) is)
            (other_link (map_of_volume is) (headers_of_volume is)
            (known lawful is_begun store reads none.header k m0 m s keeps is) none.other)
        by fault.NoMemory any k m0 m s keeps is = tt
        by (fault.Log x) failed k m0 m s keeps is =
            rises lawful is_begun store reads (object_there lawful reached) failed k m0 m s keeps is
        by other never k m0 m s keeps is = absurd never

  -- ---- readdir
  module _ {v : Mounted D} {f : Fs D} {path : List ℕ} {n : ℕ} {head : Header} (looked : IsLooked state v f path true n head) where
    pub no_directory : head.kind ≢ kind.Directory → Serves state v (seen f) (Readdir path) (Refuse NotDir)
    no_directory other = answers lawful looked.begun (readdir_quiet path) tt
        (λ k m0 m s keeps is. readdir_no_directory (segments_of v) s path n (looked.walk k m0 m s keeps is)
        (other_directory (map_of_volume is) (headers_of_volume is) (looked.header k m0 m s keeps is) other))

    module _ (dir : head.kind ≡ kind.Directory) (store : Store D) (reads : ReadsTo state f store) where
      pub readdir_gives : (entries : List ListedEntry)
          → telling.InEach (files_of state f.store) (files_of state store) (λ m. AreTold (IsListed m) (names_at m n head) entries)
          → Serves state v (seen (with_store f store)) (Readdir path) (Entries (map entry_of entries))
      readdir_gives entries listed = answers lawful (now lawful looked.begun store reads) (readdir_quiet path) tt
          (λ k m0 m s keeps is.
          let map_is = map_of_volume is in
          let headers = headers_of_volume is in
          let before = reads.looks.carries.kept_before keeps in
          let there = looked.header k m0 m s before is in
          rw (listing_is map_is headers there dir entries (known lawful looked.begun store reads listed k m0 m s keeps is))
          (readdir_done (segments_of v) s path n (looked.walk k m0 m s before is) (directory map_is headers there dir)))

      pub readdir_fails : Fails state v f store (Readdir path)
          (FailsWhere (files_of state f.store) (files_of state store) (IsListable n head))
      readdir_fails = fails_where lawful looked.begun store reads (readdir_quiet path)
          (λ k m0 m s keeps is. all_listable (map_of_volume is) (headers_of_volume is) n head (looked.header k m0 m s keeps is) dir)
