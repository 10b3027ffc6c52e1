-- The rule of a new entry of a directory.
use Rattle.std.specs.Prelude.{◌≡◌, ◌⊎◌, ◌≤◌, ◌<◌, ◌-◌, ◌*◌, ◌&&◌, not, ℕ, Bool, true, false, List, length, Option, Some, None}
use Rattle.lfs_model.specs.declared.limits.TheConstants.{MOST_ENTRIES}
use Rattle.lfs_model.specs.Slot.{IsName}
use Rattle.lfs_model.specs.Tree.{name_len, slot_len}
use Rattle.lfs_files.specs.declared.header.Header.{Header}
use Rattle.lfs_files.specs.Files.{FilesState}
use Rattle.lfs_path.specs.Pieces.{is_dots}
use Rattle.lfs_path.specs.Telling.{TellsFault}
use Rattle.lfs_entries.specs.declared.fault.EntryFault.{EntryFault}
use Rattle.lfs_entries.specs.declared.fault.EntryFault.TheVariants as fault
use Rattle.lfs_entries.specs.Finding.{FindsNumber, IsHolder, IsTooLong}
use Rattle.lfs_entries.specs.Sizes.{TakesOneMore}

module _ {S D : Type 0} (s s' : FilesState S D) where
  -- What a name that isn't too long gives in directory d.
  pub record Gives (d : ℕ) (name : List ℕ) (found : Option ℕ) : Type 0 where
    pub head : Header
    pub looks : FindsNumber s s' d name head found
    pub short : length name ≤ name_len head.form

  -- It gives something.
  pub record HasName (d : ℕ) (name : List ℕ) : Type 0 where
    pub number : ℕ
    pub gives : Gives d name (Some number)

  -- It gives nothing, and d has no room for it.
  pub record IsFull (d : ℕ) (name : List ℕ) : Type 0 where
    pub gives : Gives d name None
    pub full : (MOST_ENTRIES - 1) * slot_len gives.head.form < gives.head.size

  -- It is no name, and isn't too long for one.
  pub record IsNoName (d : ℕ) (name : List ℕ) : Type 0 where
    pub found : Option ℕ
    pub gives : Gives d name found
    pub none : IsName (name_len gives.head.form) name → ⊥

  -- Directory d takes an entry of this name, which a slash may follow where it is to be a directory's.
  pub record TakesEntry (d : ℕ) (name : List ℕ) (slash is_mkdir : Bool) (head : Header) : Type 0 where
    pub looks : FindsNumber s s' d name head None
    pub named : is_dots name ≡ false
    pub is_name : IsName (name_len head.form) name
    pub plain : (slash && not is_mkdir) ≡ false
    pub room : TakesOneMore head

  -- why it doesn't
  abbrev pub RefusesEntry : ℕ → List ℕ → Bool → Bool → EntryFault → Type 0
  RefusesEntry d name slash is_mkdir fault.Exist = (is_dots name ≡ true)
      ⊎ ((is_dots name ≡ false) × HasName d name)
  RefusesEntry d name slash is_mkdir fault.NameTooLong = (is_dots name ≡ false) × IsTooLong s s' d name
  RefusesEntry d name slash is_mkdir fault.Inval = (is_dots name ≡ false) × IsNoName d name
  RefusesEntry d name slash is_mkdir fault.NoEntry = (is_dots name ≡ false) × ((slash && not is_mkdir) ≡ true)
      × Gives d name None
  RefusesEntry d name slash is_mkdir fault.DirFull = (is_dots name ≡ false) × ((slash && not is_mkdir) ≡ false)
      × IsFull d name
  RefusesEntry d name slash is_mkdir (fault.Log f) = TellsFault s s' (IsHolder d)
  RefusesEntry d name slash is_mkdir _ = ⊥
