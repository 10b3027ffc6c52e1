-- A write to an open file and a cut of it, from what is drafted to the call as a step of the model.
use Rattle.lfs_fs.proofs.Prelude.{◌≡◌, ◌<◌, ◌≤◌, ◌+◌, ℕ, true, List, length, Some, refl, sym, ◌∙◌, ap, arith, Result, OnOk, IfErr, IsErrOf}
use Rattle.lfs_fs.proofs.Prelude.{nat_cmp, find, AreBytes, Count, Done, Pwrite, Truncate, CheckpointValue, DeviceState, IsLawful}
use Rattle.lfs_fs.proofs.Prelude.{IsHeaderOf, LogMap, with_tree, State, FilesState, HasHeader, HasObject, Draft, Store, StagedLog, files_of}
use Rattle.lfs_fs.proofs.Prelude.{IsEmpty, draft_of, totals_of_tree, EntryFault, FailsWhere, FsError, Fs, Finishes, answer_by, seen, IsIn}
use Rattle.lfs_fs.proofs.Prelude.{asked_by, Mounted, Serves, segments_of, written, IsMapOf, IsShaped, opened_file, room_shaped}
use Rattle.lfs_model.specs.declared.Kind.TheVariants as kind
use Rattle.lfs_model.specs.Entry as entry
use Rattle.lfs_files.specs.declared.fault.LogFault.TheVariants as log
use Rattle.lfs_files.specs.declared.header.Header.{Header}
use Rattle.lfs_files.specs.Files.{Counts, IsLoneWrite, asked_by_directory}
use Rattle.lfs_files.specs.Headers.{as_header}
use Rattle.lfs_entries.specs.declared.fault.EntryFault.TheVariants as fault
use Rattle.lfs_entries.specs.Bytes.{DraftsBytes, DraftsLength}
use Rattle.lfs_fs.specs.Asking.{most_asked}
use Rattle.lfs_fs.proofs.calls.DraftSizes.{bytes_fit}
use Rattle.lfs_fs.proofs.calls.Files.{In, IsBegun, MakesNext, RedraftsTo, apart_now, counted_now, drafted_ends, explains_where, fits_now}
use Rattle.lfs_fs.proofs.calls.Files.{has_in, with_store}
use Rattle.lfs_fs.proofs.calls.Steps.{pwrite_ends}
use Rattle.lfs_fs.proofs.volume.Map.{headers_of_volume, map_of_volume, shape_of_volume}
use Rattle.lfs_steps.proofs.open_files.Steps.{cut_all_done, shortened}
use Rattle.lfs_steps.proofs.volume.Headers.{file_fits}
use Rattle.lfs_steps.proofs.write.Bytes.{written_log}
use Rattle.lfs_steps.proofs.write.Lengths.{shortened_map, shortened_shape}

-- bytes come alone into an empty draft
pub lone_write : {D : Type 0} (state : D → DeviceState) (s : Store D) {w : List ℕ} → IsEmpty (draft_of s) → length w ≤ 65536
    → IsLoneWrite (files_of state s) w
lone_write state s none few = record {
  headers = let no_header = ap length none.headers in omega (arith, no_header);
  blocks = ap length none.blocks;
  few = omega (arith, few);
}

module _ {D : Type 0} {state : D → DeviceState} (lawful : (d : D) → IsLawful (state d)) {v : Mounted D} {f : Fs D}
    (begun : IsBegun state v f) (store : Store D) (redrafts : RedraftsTo state f store) (h : ℕ)
    {n : ℕ}
    (opens : find nat_cmp h v.table ≡ Some n) where
  abbrev a : FilesState StagedLog Draft
  a = files_of state f.store

  abbrev b : FilesState StagedLog Draft
  b = files_of state store

  -- ---- the file in a state, and its header
  module _ {k : CheckpointValue} {m0 m : LogMap} {s : State} (is : IsIn state v k m0 m s) where
    file : find nat_cmp h s.handles ≡ Some n
    file = ap (find nat_cmp h) is.handles ∙ opens

    map : IsMapOf (segments_of v) m s
    map = map_of_volume is

    shaped : IsShaped m
    shaped = shape_of_volume is

    -- it is there
    object : HasObject n m
    object none = let there = (opened_file is.log h file).there in absurd (cc)

    module _ (head : Header) (there : HasHeader n head m) where
      header_fits : IsHeaderOf n (as_header head)
      header_fits = headers_of_volume is n (as_header head) there

      is_file : head.kind ≡ kind.File
      is_file =
          let was = opened_file is.log h file in
          let same : was.head ≡ as_header head = let both : Some was.head ≡ Some (as_header head) = sym was.there ∙ there in cc in
          sym (ap (λ (x : entry.Header). x.kind) same) ∙ was.kind

  -- ---- a write
  module _ (at : ℕ) (w : List ℕ) (some : 0 < length w) (few : length w ≤ 65536) (end : at + length w ≤ 8511488) (bytes : AreBytes w) where
    write_makes : DraftsBytes a b n at w → Counts a b
        → In state v (with_store f store) (MakesNext state v (with_store f store) (Pwrite h at w))
    write_makes drafts counts k m0 m s keeps is =
        let here = has_in begun is in
        let there = drafts.header m m keeps here in
        let done = drafts.writes.file m m keeps here in
        let log = written_log m done.map s h n (map is) (file is) drafts.head there w done.file end in
        let counted = counts m m done.map keeps here done.has is.map log (counted_now state lawful v f begun is) in
        let ends = pwrite_ends m s (map is) totals_of_tree (shaped is) counted h n (file is) there at w done.file some few end in
        let fits = header_fits is drafts.head there in
        let most = fits.most in
        record {
          next = with_tree s (written (segments_of v) s h at w);
          answer = Count (length w);
          ok = refl;
          map = done.map;
          has = done.has;
          fits = drafts.writes.fits m m here (fits_now state lawful v f begun m) record {
            there = there;
            apart = apart_now state lawful v f begun n;
            within = λ none. absurd (object is none);
            header = file_fits n drafts.head fits (is_file is drafts.head there) (omega (arith, most, end));
          };
          counted = counted;
          is = ends.2 bytes;
          done = ends.1;
          lacks = ends.0;
        }

  -- ---- a cut
  module _ (len : ℕ) (end : len ≤ 8511488) where
    cut_makes : DraftsLength a b n len → Counts a b
        → In state v (with_store f store) (MakesNext state v (with_store f store) (Truncate h len))
    cut_makes drafts counts k m0 m s keeps is =
        let here = has_in begun is in
        let there = drafts.header m m keeps here in
        let done = drafts.sets.file m m keeps here in
        let after =
        shortened_map m s h n (map is) (file is) there len done.file end in
        let counted = counts m m done.map keeps here done.has is.map after.map (counted_now state lawful v f begun is) in
        let room = room_shaped totals_of_tree (segments_of v) after (shortened_shape m s h n (map is) (file is) there len done.file end
        (shaped is)) counted in
        record {
          next = with_tree s (shortened (segments_of v) s h len);
          answer = Done;
          ok = refl;
          map = done.map;
          has = done.has;
          fits = drafts.sets.fits m m here there (file_fits n drafts.head (header_fits is drafts.head there)
              (is_file is drafts.head there) {size = len} end);
          counted = counted;
          is = λ has_room. after;
          done = λ has_room. cut_all_done (segments_of v) s h len n (file is) end;
          lacks = λ more. absurd (omega (arith, room, more));
        }

  -- ---- what becomes of either
  module _ (new : Fs D) (rest : new.handles ≡ f.handles) (drafted : Result (Unit {0}) EntryFault) (result : Result (Unit {0}) FsError)
      (finishes : Finishes state (with_store f store) new drafted result) (counts : OnOk drafted (Counts a b))
      (failed : IfErr drafted (FailsWhere a b (HasObject n)))
      (halted : IsErrOf drafted (fault.Log log.Halted) → a.halted ≡ true) (other : IsErrOf drafted (fault.Log log.Full) → ⊥) where
    pub write_ends : {at : ℕ} {w : List ℕ} → 0 < length w → length w ≤ 65536 → at + length w ≤ 8511488 → AreBytes w
        → OnOk drafted (DraftsBytes a b n at w) → OnOk drafted (asked_by (draft_of store) ≤ asked_by_directory)
        → Serves state v (seen new) (Pwrite h at w) (answer_by (λ _. Count (length w)) result)
    unfolding write_makes
    write_ends {at} {w} some few end bytes drafts asked =
        drafted_ends state lawful v f begun store redrafts (Pwrite h at w) refl refl refl refl (write_makes at w some few end bytes) new
        rest (Count (length w)) refl (λ p q k m0 m s keeps is. (refl, is.handles))
        (explains_where begun store {P = HasObject n} (λ k m0 m s keeps is. object is) (Pwrite h at w))
        drafted result finishes (bytes_fit state f.store store n at w begun.ready.empty drafted drafts asked h) drafts counts failed halted
        other

    pub cut_ends : {len : ℕ} → len ≤ 8511488 → OnOk drafted (DraftsLength a b n len)
        → OnOk drafted (asked_by (draft_of store) ≤ most_asked (Truncate h len))
        → Serves state v (seen new) (Truncate h len) (answer_by (λ _. Done) result)
    unfolding cut_makes
    cut_ends {len} end drafts small =
        drafted_ends state lawful v f begun store redrafts (Truncate h len) refl refl refl refl (cut_makes len end) new rest Done refl
        (λ p q k m0 m s keeps is. (refl, is.handles))
        (explains_where begun store {P = HasObject n} (λ k m0 m s keeps is. object is) (Truncate h len))
        drafted result finishes small drafts counts failed halted other
