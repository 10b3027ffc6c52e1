-- The call rmdir as a step of the model: what the rule of an empty directory takes, why it takes none, and the name that goes.
use Rattle.lfs_fs.proofs.Prelude.{◌≡◌, ◌<◌, ◌≤◌, ◌*◌, ℕ, Bool, true, false, List, [], length, Option, Some, Result, refl, sym, ◌∙◌, ap}
use Rattle.lfs_fs.proofs.Prelude.{arith, IfErr, IsErrOf, OnOk, unwrap_or, Kind, Done, Refuse, Rmdir, DeviceState, IsLawful, LogMap, Step}
use Rattle.lfs_fs.proofs.Prelude.{Dir, File, Names, Node, State, is_dir, names_in, names_of, node, slot_len, node_by, FilesState, Store}
use Rattle.lfs_fs.proofs.Prelude.{files_of, Last, Entry, EntryFault, is_directory, GivesObject, CountsDrop, DraftsDrop, HasOld, FailsWhere}
use Rattle.lfs_fs.proofs.Prelude.{FsError, Fs, error_of_entry, Finishes, Reaches, refusal_of, IsReady, answer_by, seen, Mounted, Serves}
use Rattle.lfs_fs.proofs.Prelude.{segments_of, MayGo, gone, IsReached, gives_is, has_piece, holder, kind_is, last_dots_is, long_is}
use Rattle.lfs_fs.proofs.Prelude.{short_is, target_is, there_is, IsShaped, node_by_header, nat_lt, asked_by, draft_of}
use Rattle.lfs_model.specs.declared.Kind.TheVariants as kind
use Rattle.lfs_model.specs.Step.{target}
use Rattle.lfs_model.proofs.KeepsNames.{rmdir_keeps}
use Rattle.lfs_files.specs.declared.fault.LogFault.TheVariants as log
use Rattle.lfs_files.specs.declared.header.Header.{Header}
use Rattle.lfs_files.specs.Headers.{as_header}
use Rattle.lfs_path.proofs.of_dirs.SlotsKept.{empty_directory}
use Rattle.lfs_entries.specs.declared.fault.EntryFault.TheVariants as fault
use Rattle.lfs_entries.specs.OldEntries.{HasEmpty, RefusesEmpty}
use Rattle.lfs_fs.specs.Asking.{most_asked}
use Rattle.lfs_steps.proofs.calls.Checks.{below, not_below}
use Rattle.lfs_fs.proofs.calls.Files.{Explains, In, IsBegun, ReadsTo, RedraftsTo, Rose, begun_after, begun_at, fault_serves, has_in}
use Rattle.lfs_fs.proofs.calls.Files.{reached_in, read_still, risen, with_store}
use Rattle.lfs_fs.proofs.old_entries.Drops.{drop_ends}
use Rattle.lfs_fs.proofs.old_entries.Explained.{plain_so}
use Rattle.lfs_steps.proofs.paths.Named.{range_n}
use Rattle.lfs_steps.proofs.rmdir.Steps.{rmdir_done, rmdir_dots, rmdir_full, rmdir_long, rmdir_missing, rmdir_plain}
use Rattle.lfs_steps.proofs.volume.Directories.{size_of_directory}
use Rattle.lfs_fs.proofs.volume.Map.{shape_of_volume}
use Rattle.lfs_steps.proofs.volume.Slots.{no_slots, some_names}

module _ {N : ℕ} {m : LogMap} {s : State} {p : List ℕ} {d : ℕ} {l : Last} (g : IsReached N m s p d l) (e : Entry)
    (looks : GivesObject m d l.name.now e.holder (Some e.object)) (is_kind : e.object.header.kind ≡ kind.Directory) where
  abbrev n : ℕ
  n = e.object.number.value

  abbrev object : Header
  object = e.object.header

  dir_n : is_dir (node s.tree n) ≡ true
  dir_n = kind_is g e.holder looks.looks.header l.name.now (sym looks.looks.gives) object looks.there ∙ ap is_directory is_kind

  -- it has a name for each slot
  size_n : slot_len object.form * length (names_in s.tree n) ≡ object.size
  size_n = size_of_directory N m s g.map n dir_n object looks.there (g.headers n (as_header object) looks.there)

  has_names : {b : Bool} → nat_lt 0 (length (names_in s.tree n)) ≡ b → nat_lt 0 (length (names_in s.tree (target s.tree d p))) ≡ b
  has_names are =
      ap (λ (q : ℕ). nat_lt 0 (length (names_in s.tree q))) (target_is g looks.looks) ∙ are

  pub some_there : 0 < object.size → nat_lt 0 (length (names_in s.tree (target s.tree d p))) ≡ true
  some_there some = has_names (below 0 (length (names_in s.tree n)) (some_names object.form (length (names_in s.tree n)) size_n some))

  module _ (empty : object.size ≡ 0) where
    pub none_there : nat_lt 0 (length (names_in s.tree (target s.tree d p))) ≡ false
    none_there = has_names (not_below 0 (length (names_in s.tree n))
        (let none = no_slots object.form (length (names_in s.tree n)) size_n empty in omega (arith, none)))

    empty_node : node s.tree n ≡ Some (Dir object.form [])
    empty_node =
        node_by_header g.map.log n (range_n g e.holder looks.looks.header l.name.now (sym looks.looks.gives)) looks.there
        ∙ ap (λ (x : Kind). Some (node_by m x n (as_header object))) is_kind
        ∙ ap (λ (ms : Names). Some (Dir object.form ms)) (empty_directory m n object empty).1

    pub no_names : names_in s.tree n ≡ []
    no_names = ap (λ (o : Option Node). names_of (unwrap_or o (File []))) empty_node

-- ---- it is taken

module _ {S D : Type 0} {a b : FilesState S D} {N : ℕ} {m : LogMap} {s : State} {p : List ℕ} {d : ℕ} {l : Last} {e : Entry}
    (has : HasEmpty a b d l.name.now e) (g : IsReached N m s p d l) (shaped : IsShaped m)
    (looks : GivesObject m d l.name.now e.holder (Some e.object)) where
  done : Step N s (Rmdir p) Done (gone s p d)
  done = rmdir_done N s p d g.walk (has_piece g) (last_dots_is g ∙ has.finds.named)
      (short_is g e.holder looks.looks.header has.finds.short) (there_is g looks.looks)
      (gives_is g looks.looks e.object.header looks.there ∙ ap is_directory has.dir) (none_there g e looks has.dir has.empty)

  pub may_rmdir : MayGo N m s p d l e (Rmdir p)
  may_rmdir = record {
    reached = g;
    shaped = shaped;
    looks = looks;
    empty = no_names g e looks has.dir has.empty;
    done = done;
    sound = rmdir_keeps N s (gone s p d) p Done g.map.log.sound done;
  }

-- ---- it isn't

module _ {S D : Type 0} (a b : FilesState S D) {N : ℕ} {m : LogMap} {s : State} {p : List ℕ} {d : ℕ} {l : Last}
    (g : IsReached N m s p d l) (keeps : b.device.keeps_model) (has : a.has m m) (rose : Type 0)
    (rises : a.device.failures < b.device.failures → rose) where
  pub empty_explained : (why : EntryFault) → RefusesEmpty a b d l.name.now why → Explains (Rmdir p) N s rose why
  empty_explained fault.Inval why = rmdir_dots N s p d g.walk (has_piece g) (last_dots_is g ∙ why)
  empty_explained fault.NameTooLong why =
      rmdir_long N s p d g.walk (has_piece g) (last_dots_is g ∙ why.0)
      (long_is g why.1.head (why.1.header m m keeps has) why.1.long)
  empty_explained fault.NoEntry why =
      let at = why.1.looks m m keeps has in
      rmdir_missing N s p d g.walk (has_piece g) (last_dots_is g ∙ why.0) (short_is g why.1.head at.header why.1.short) (there_is g at)
  empty_explained fault.NotDir why =
      let e = why.1.entry in
      let at = why.1.looks m m keeps has in
      rmdir_plain N s p d g.walk (has_piece g) (last_dots_is g ∙ why.0) (short_is g e.holder at.looks.header why.1.short)
      (there_is g at.looks) (gives_is g at.looks e.object.header at.there ∙ plain_so e.object.header.kind why.1.is)
  empty_explained fault.NotEmpty why =
      let e = why.1.entry in
      let at = why.1.looks m m keeps has in
      rmdir_full N s p d g.walk (has_piece g) (last_dots_is g ∙ why.0) (short_is g e.holder at.looks.header why.1.short)
      (there_is g at.looks) (gives_is g at.looks e.object.header at.there ∙ ap is_directory why.1.is.0)
      (some_there g e at why.1.is.0 why.1.is.1)
  empty_explained (fault.Log f) why = rises (why m m keeps has (holder g))
  empty_explained other why = absurd why

-- ---- the call

module _ {D : Type 0} {state : D → DeviceState} (lawful : (d : D) → IsLawful (state d)) {v : Mounted D} {f : Fs D} {path : List ℕ} {d : ℕ}
    {l : Last} (reached : Reaches state v f path d (Some l)) (ready : IsReady f) (store : Store D)
    (reads : ReadsTo state f store) where
  begun : IsBegun state v f
  begun = begun_at state reached ready

  pub empty_refused : (why : EntryFault) → (why ≡ fault.Log log.Halted → (files_of state f.store).halted ≡ true)
      → (why ≡ fault.Log log.Full → ⊥) → RefusesEmpty (files_of state f.store) (files_of state store) d l.name.now why
      → Serves state v (seen (with_store f store)) (Rmdir path) (Refuse (refusal_of (error_of_entry why)))
  empty_refused why halted other refuses =
      fault_serves state lawful v f begun store (read_still f store reads) (Rmdir path) refl refl refl why halted other
      (λ k m0 m s keeps is.
      empty_explained (files_of state f.store) (files_of state store)
      (reached_in reached k m0 m s (reads.looks.carries.kept_before keeps) is) keeps (has_in begun is) (Rose state v store)
      (risen begun store) why refuses)

  module _ {e : Entry} (has : HasEmpty (files_of state f.store) (files_of state store) d l.name.now e) (next : Store D)
      (redrafts : RedraftsTo state (with_store f store) next) where
    read : IsBegun state v (with_store f store)
    read = begun_after f store reads lawful begun

    may : In state v (with_store f next) (λ m s. MayGo (segments_of v) m s path d l e (Rmdir path))
    may k m0 m s keeps is =
        let kept = redrafts.looks.carries.kept_before keeps in
        may_rmdir has (reached_in reached k m0 m s (reads.looks.carries.kept_before kept) is) (shape_of_volume is)
        (has.finds.looks m m kept (has_in begun is))

    pub rmdir_ends : (new : Fs D) → new.handles ≡ f.handles → (drafted : Result (Unit {0}) EntryFault) (result : Result (Unit {0}) FsError)
        → Finishes state (with_store f next) new drafted result
        → OnOk drafted (asked_by (draft_of next) ≤ most_asked (Rmdir path))
        → OnOk drafted (DraftsDrop (files_of state store) (files_of state next) d e false l.name.now)
        → OnOk drafted (CountsDrop (files_of state store) (files_of state next) d e)
        → IfErr drafted (FailsWhere (files_of state store) (files_of state next) (HasOld d e l.name.now))
        → (IsErrOf drafted (fault.Log log.Halted) → (files_of state store).halted ≡ true) → (IsErrOf drafted (fault.Log log.Full) → ⊥)
        → Serves state v (seen new) (Rmdir path) (answer_by (λ _. Done) result)
    rmdir_ends new rest drafted result =
        drop_ends state lawful v (with_store f store) read next redrafts path d l e (Rmdir path) refl refl refl refl may false (λ no. cc)
        (λ off plain. absurd (let on : is_directory e.object.header.kind ≡ true = ap is_directory has.dir in cc)) new rest drafted result
