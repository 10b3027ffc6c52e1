-- The exits of widen behind its walk, from what is drafted to the call as a step of the model.
use Rattle.lfs_fs.proofs.Prelude.{◌≡◌, ◌≢◌, ◌<◌, ◌≤◌, ◌^◌, ℕ, zero, suc, true, List, length, refl, sym, ◌∙◌, ap, arith, eq-eqb}
use Rattle.lfs_fs.proofs.Prelude.{Result, Ok, Err, OnOk, OnErr, IfErr, IsErrOf, ne_eqb, Done, Refuse, Widen, DeviceState, IsLawful}
use Rattle.lfs_fs.proofs.Prelude.{IsForm, Inval, NotDir, widened, with_tree, form_of, node, FilesState, Draft, Store, StagedLog, files_of}
use Rattle.lfs_fs.proofs.Prelude.{asked_by, draft_of, WidensNames, EntryFault, FailsWhere, MayWiden, FsError, Fs, Finishes}
use Rattle.lfs_fs.proofs.Prelude.{IsReady, answer_by, seen, Mounted, Serves, segments_of, IsMapOf}
use Rattle.lfs_model.specs.declared.Kind.TheVariants as kind
use Rattle.lfs_files.specs.declared.fault.LogFault.TheVariants as log
use Rattle.lfs_files.specs.declared.header.Header.{Header}
use Rattle.lfs_files.specs.Files as files
use Rattle.lfs_files.specs.Files.{asked_by_directory}
use Rattle.lfs_files.specs.Headers.{as_header}
use Rattle.lfs_path.specs.dirs.Widening.{CountsWidened, HasWidened, Widens}
use Rattle.lfs_entries.specs.declared.fault.EntryFault.TheVariants as fault
use Rattle.lfs_fs.specs.declared.error.FsError.TheVariants as error
use Rattle.lfs_fs.specs.Upgrading.{ReachesNarrow}
use Rattle.lfs_fs.proofs.calls.Answers.{IsLooked, begun_with}
use Rattle.lfs_fs.proofs.calls.Files.{InEach, IsBegun, Makes, apart_now, counted_now, finish_ends, fits_now, gives_up_where, has_now}
use Rattle.lfs_fs.proofs.calls.Files.{refused_after, still_ready, was, with_store}
use Rattle.lfs_fs.proofs.read.Shown.{directory, other_directory}
use Rattle.lfs_fs.proofs.volume.Map.{headers_of_volume, map_of_volume, version_of_volume}
use Rattle.lfs_fs.proofs.widen.Maps.{after, done, form_here, kept, known, lacks, may_widen, wide_fits}
use Rattle.lfs_fs.proofs.widen.Upgrades.{nothing_ends}
use Rattle.lfs_fs.proofs.write.Ends.{still_none}
use Rattle.lfs_steps.proofs.widen.Steps.{widen_no_directory, widen_nothing, widen_old_volume}

-- a directory has form 0 or 1
wide_form : (form : ℕ) → IsForm 2 kind.Directory form → form ≢ 0 → form ≡ 1
wide_form zero is ne = absurd (ne refl)
wide_form (suc form) is ne = omega (arith, is.0)

-- ---- what the header says
module _ {D : Type 0} {state : D → DeviceState} (lawful : (d : D) → IsLawful (state d)) {v : Mounted D} {f : Fs D} {path : List ℕ} {n : ℕ}
    {head : Header} (looked : IsLooked state v f path true n head) where
  pub no_directory : head.kind ≢ kind.Directory → Serves state v (seen f) (Widen path) (Refuse NotDir)
  no_directory other = refused_after state lawful v f looked.begun f.store (still_none state lawful (seen f)) (Widen path) refl refl refl
      NotDir tt (λ k m0 m s keeps is. widen_no_directory (segments_of v) s path n (looked.walk k m0 m s keeps is)
      (other_directory (map_of_volume is) (headers_of_volume is) (looked.header k m0 m s keeps is) other))

  module _ (dir : head.kind ≡ kind.Directory) where
    pub old_volume : v.log.version ≡ 1 → Serves state v (seen f) (Widen path) (Refuse Inval)
    old_volume one = refused_after state lawful v f looked.begun f.store (still_none state lawful (seen f)) (Widen path) refl refl refl
        Inval tt (λ k m0 m s keeps is. widen_old_volume (segments_of v) s path n (looked.walk k m0 m s keeps is)
        (directory (map_of_volume is) (headers_of_volume is) (looked.header k m0 m s keeps is) dir)
        (eq-eqb s.version 1 (version_of_volume is ∙ one)))

    -- it has form 1 already
    pub wide_already : (v.log.version ≡ 1 → ⊥) → head.form ≢ 0 → {X : Type 0} (r : Result X FsError)
        → OnOk r ((seen f).log.number < 2 ^ 62) → OnErr r (2 ^ 62 ≤ (seen f).log.number) → IfErr r (λ fault. fault ≡ error.Worn)
        → Serves state v (seen f) (Widen path) (answer_by (λ _. Done) r)
    wide_already new wide =
        nothing_ends lawful looked.begun.still (was state lawful v f looked.begun) refl (λ e. cc)
        (λ k m0 m s keeps is.
        let map = map_of_volume is in
        let headers = headers_of_volume is in
        let there = looked.header k m0 m s keeps is in
        widen_nothing (segments_of v) s path n (looked.walk k m0 m s keeps is) (directory map headers there dir)
        (ne_eqb s.version 1 (λ e. new (sym (version_of_volume is) ∙ e)))
        (eq-eqb (form_of (node s.tree n)) 1 (form_here map headers there dir
        ∙ wide_form head.form (rw dir at (headers n (as_header head) there).form) wide)))

    pub narrow_reached : (v.log.version ≡ 1 → ⊥) → head.form ≡ 0 → ReachesNarrow state v f path n head
    narrow_reached new narrow = record {
      reached = record {
        still = looked.begun.still;
        ready = looked.begun.ready;
        drafted = looked.begun.drafted;
        walk = looked.walk;
      };
      there = looked.header;
      directory = dir;
      narrow = narrow;
      version = new;
    }

-- ---- it is widened
-- the memory that it asks for
pub takes_wide : {D : Type 0} (state : D → DeviceState) {f : Fs D} → IsReady f → (store : Store D) (n : ℕ) (head : Header)
    → Widens (files_of state f.store) (files_of state store) n head → asked_by (draft_of store) ≤ asked_by_directory
takes_wide state ready store n head widens =
    widens.asked (ap length ready.empty.headers) (ap length ready.empty.blocks)

module _ {D : Type 0} {state : D → DeviceState} (lawful : (d : D) → IsLawful (state d)) {v : Mounted D} {f : Fs D} {path : List ℕ} {n : ℕ}
    {head : Header} (at : ReachesNarrow state v f path n head) (store : Store D)
    (redrafts : files.Redrafts (files_of state f.store) (files_of state store)) where
  abbrev a : FilesState StagedLog Draft
  a = files_of state f.store

  abbrev b : FilesState StagedLog Draft
  b = files_of state store

  begun : IsBegun state v f
  begun = begun_with state at.reached

  may : InEach state lawful v f begun store (λ m s. MayWiden n head m)
  may k m0 m s keeps is = may_widen (map_of_volume is) (headers_of_volume is)
      (at.there k m0 m s (redrafts.looks.carries.kept_before keeps) is) at.directory

  widen_makes : Widens a b n head → CountsWidened a b n head
      → InEach state lawful v f begun store (Makes state lawful v f begun store redrafts (Widen path) refl refl refl refl)
  widen_makes widens counts k m0 m s keeps is =
      let before : (state (seen f).log.device).keeps_model = redrafts.looks.carries.kept_before keeps in
      let map : IsMapOf (segments_of v) m s = map_of_volume is in
      let headers = headers_of_volume is in
      let there = at.there k m0 m s before is in
      let dir = at.directory in
      let new : s.version ≡ 1 → ⊥ = (λ one. at.version (sym (version_of_volume is) ∙ one)) in
      let here : a.has m m = has_now state lawful v f begun is in
      let wide : HasWidened b m m n head = widens.has m m keeps here in
      let formed = (may k m0 m s keeps is).formed in
      let names : WidensNames m wide.map n head = wide.names formed in
      let whole = kept map headers there dir new wide.file names in
      let counted = counts m m wide.map keeps here wide.has record { map = map.map; there = there } (map.long n) formed
      (known map headers there dir new) whole (counted_now state lawful v f begun is) in
      let walk = at.reached.walk k m0 m s before is in
      record {
        next = with_tree s (widened s.tree n);
        answer = Done;
        ok = refl;
        map = wide.map;
        has = wide.has;
        fits = widens.fits m m here (fits_now state lawful v f begun m) record {
          staged = λ none. absurd (let some = there in cc);
          there = there;
          header = wide_fits map headers there dir;
          apart = apart_now state lawful v f begun n;
        };
        counted = counted;
        is = after map headers there dir new wide.file names path walk at.narrow counted;
        done = done map headers there dir new wide.file names path walk at.narrow counted;
        lacks = lacks map headers there dir new wide.file names path walk at.narrow counted;
      }

  module _ (new : Fs D) (rest : new.handles ≡ f.handles) (result : Result (Unit {0}) FsError) where
    pub widen_ends : (drafted : Result (Unit {0}) EntryFault) → Finishes state (with_store f store) new drafted result
        → OnOk drafted (Widens a b n head) → OnOk drafted (CountsWidened a b n head) → IfErr drafted (FailsWhere a b (MayWiden n head))
        → (IsErrOf drafted (fault.Log log.Halted) → a.halted ≡ true) → (IsErrOf drafted (fault.Log log.Full) → ⊥)
        → Serves state v (seen new) (Widen path) (answer_by (λ _. Done) result)
    unfolding widen_makes
    widen_ends (Ok drafted) finishes widens counts failed halted other =
        finish_ends state lawful v f begun store redrafts (Widen path) refl refl refl refl (widen_makes widens counts) new rest Done
        (takes_wide state begun.ready store n head widens) refl
        (λ k m0 m s keeps is. (refl, is.handles)) finishes
    widen_ends (Err why) finishes widens counts failed halted other =
        gives_up_where state lawful v f begun store (still_ready state lawful v f begun store redrafts) (Widen path) refl refl refl
        (MayWiden n head) may finishes failed (λ same. halted (ap Err same)) (λ same. other (ap Err same)) Done
