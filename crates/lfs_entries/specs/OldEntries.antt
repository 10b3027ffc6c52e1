-- The rules of entries that are to go, or to get a further name.
use Rattle.std.specs.Prelude.{◌≡◌, ◌≢◌, ◌⊎◌, ◌≤◌, ◌<◌, ℕ, Bool, true, false, List, length, Some, None}
use Rattle.lfs_model.specs.declared.Kind.TheVariants as kind
use Rattle.lfs_model.specs.Tree.{name_len}
use Rattle.lfs_files.specs.declared.header.Header.{Header}
use Rattle.lfs_files.specs.Files.{FilesState}
use Rattle.lfs_path.specs.Pieces.{is_dots}
use Rattle.lfs_path.specs.Telling.{TellsFault}
use Rattle.lfs_entries.specs.declared.entry.Entry.{Entry}
use Rattle.lfs_entries.specs.declared.fault.EntryFault.{EntryFault}
use Rattle.lfs_entries.specs.declared.fault.EntryFault.TheVariants as fault
use Rattle.lfs_entries.specs.Finding.{FindsName, IsHolder, IsTooLong}
use Rattle.lfs_entries.specs.NewEntries.{Gives}
use Rattle.lfs_entries.specs.Sizes.{IsSmall}

module _ {S D : Type 0} (s s' : FilesState S D) where
  -- A name that isn't too long gives an object in directory d whose header is so.
  pub record GivesSome (d : ℕ) (name : List ℕ) (P : Header → Type 0) : Type 0 where
    pub entry : Entry
    pub looks : FindsName s s' d name entry.holder (Some entry.object)
    pub short : length name ≤ name_len entry.holder.form
    pub is : P entry.object.header

  -- A name of directory d gives this.
  pub record FindsEntry (d : ℕ) (name : List ℕ) (e : Entry) : Type 0 where
    pub looks : FindsName s s' d name e.holder (Some e.object)
    pub named : is_dots name ≡ false
    pub short : length name ≤ name_len e.holder.form
    pub size : IsSmall e.holder

  -- ---- what is no directory

  -- It is no directory, and nothing is asked of it that it isn't.
  pub record HasEntry (d : ℕ) (name : List ℕ) (slash : Bool) (e : Entry) : Type 0 where
    pub finds : FindsEntry d name e
    pub plain : slash ≡ false
    pub other : e.object.header.kind ≢ kind.Directory

  -- why there is none
  abbrev pub RefusesOld : ℕ → List ℕ → Bool → EntryFault → Type 0
  RefusesOld d name slash fault.Perm = (is_dots name ≡ true)
      ⊎ ((is_dots name ≡ false) × GivesSome d name (λ h. h.kind ≡ kind.Directory))
  RefusesOld d name slash fault.NameTooLong = (is_dots name ≡ false) × IsTooLong s s' d name
  RefusesOld d name slash fault.NoEntry = (is_dots name ≡ false) × Gives s s' d name None
  RefusesOld d name slash fault.NotDir = (is_dots name ≡ false) × (slash ≡ true)
      × GivesSome d name (λ h. h.kind ≢ kind.Directory)
  RefusesOld d name slash (fault.Log f) = TellsFault s s' (IsHolder d)
  RefusesOld d name slash _ = ⊥

  -- ---- an empty directory

  -- It is a directory of no bytes; the one that has it has a link for it.
  pub record HasEmpty (d : ℕ) (name : List ℕ) (e : Entry) : Type 0 where
    pub finds : FindsEntry d name e
    pub dir : e.object.header.kind ≡ kind.Directory
    pub empty : e.object.header.size ≡ 0
    pub linked : 3 ≤ e.holder.links

  -- why there is none
  abbrev pub RefusesEmpty : ℕ → List ℕ → EntryFault → Type 0
  RefusesEmpty d name fault.Inval = is_dots name ≡ true
  RefusesEmpty d name fault.NameTooLong = (is_dots name ≡ false) × IsTooLong s s' d name
  RefusesEmpty d name fault.NoEntry = (is_dots name ≡ false) × Gives s s' d name None
  RefusesEmpty d name fault.NotDir = (is_dots name ≡ false)
      × GivesSome d name (λ h. h.kind ≢ kind.Directory)
  RefusesEmpty d name fault.NotEmpty = (is_dots name ≡ false)
      × GivesSome d name (λ h. (h.kind ≡ kind.Directory) × (0 < h.size))
  RefusesEmpty d name (fault.Log f) = TellsFault s s' (IsHolder d)
  RefusesEmpty d name _ = ⊥
