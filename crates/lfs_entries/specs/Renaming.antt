-- What a rename finds, and why it is refused.
use Rattle.std.specs.Prelude.{◌≡◌, ◌≢◌, ◌≤◌, ◌==◌, ◌&&◌, not, ℕ, zero, suc, Bool, true, false, List, length, Option, Some, None}
use Rattle.lfs_model.specs.declared.Kind.{Kind}
use Rattle.lfs_model.specs.Slot.{IsName}
use Rattle.lfs_model.specs.Tree.{name_len}
use Rattle.lfs_files.specs.Files.{FilesState}
use Rattle.lfs_path.specs.Telling.{TellsFault}
use Rattle.lfs_path.specs.Trees.{here, risen}
use Rattle.lfs_entries.specs.declared.entry.Object.{Object}
use Rattle.lfs_entries.specs.declared.fault.EntryFault.{EntryFault}
use Rattle.lfs_entries.specs.declared.fault.EntryFault.TheVariants as fault
use Rattle.lfs_entries.specs.declared.moving.Source.{Source}
use Rattle.lfs_entries.specs.declared.moving.Target.{Target}
use Rattle.lfs_entries.specs.Entries.{is_directory}
use Rattle.lfs_entries.specs.Finding.{FindsName, IsHolder, IsTooLong}
use Rattle.lfs_entries.specs.NewEntries.{Gives}
use Rattle.lfs_entries.specs.OldEntries.{GivesSome}
use Rattle.lfs_entries.specs.Replacing.{FitsTarget, RefusesTarget}
use Rattle.lfs_entries.specs.Sizes.{IsSmall}

-- ---- a directory and those above it

-- the chain from the k-th above it on
abbrev pub risen_by : ℕ → List ℕ → List ℕ
risen_by zero chain = chain
risen_by (suc k) chain = risen (risen_by k chain)

-- number n is one of them
pub record IsAbove (chain : List ℕ) (n : ℕ) : Type 0 where
  pub count : ℕ
  pub is : here (risen_by count chain) ≡ n

-- It is none up to one that is above itself, as only the root is.
pub record IsNotAbove (chain : List ℕ) (n : ℕ) : Type 0 where
  pub count : ℕ
  pub none : (k : ℕ) → k ≤ count → here (risen_by k chain) ≢ n
  pub stays : here (risen_by (suc count) chain) ≡ here (risen_by count chain)

-- ---- what both names give

-- where both names stand in one directory, it was read with one form
abbrev pub HaveOneForm : Source → Target → Type 0
HaveOneForm source target = source.directory.value ≡ target.directory.value → source.holder.form ≡ target.holder.form

-- what was found is this object
abbrev pub GivesName : Option Object → ℕ → Bool
GivesName None n = false
GivesName (Some o) n = o.number.value == n

-- it is a name wherever it isn't too long, as a piece of a path is
abbrev pub MayName : List ℕ → Type 0
MayName name = (len : ℕ) → length name ≤ len → IsName len name

module _ {S D : Type 0} (s s' : FilesState S D) where
  -- ---- the first name
  pub record FindsSource (d : ℕ) (name : List ℕ) (slash : Bool) (source : Source) : Type 0 where
    pub directory : source.directory.value ≡ d
    pub named : source.name.now ≡ name
    pub looks : FindsName s s' d name source.holder (Some source.object)
    pub size : IsSmall source.holder
    pub links : 2 ≤ source.holder.links
    pub short : length name ≤ name_len source.holder.form
    pub plain : (slash && not (is_directory source.object.header.kind)) ≡ false

  abbrev pub RefusesSource : ℕ → List ℕ → Bool → EntryFault → Type 0
  RefusesSource d name slash fault.NameTooLong = IsTooLong s s' d name
  RefusesSource d name slash fault.NoEntry = Gives s s' d name None
  RefusesSource d name slash fault.NotDir = GivesSome s s' d name (λ h. (slash && not (is_directory h.kind)) ≡ true)
  RefusesSource d name slash (fault.Log f) = TellsFault s s' (IsHolder d)
  RefusesSource d name slash _ = ⊥

  -- ---- the second
  pub record FindsTarget (d : ℕ) (name : List ℕ) (slash : Bool) (k : Kind) (target : Target) : Type 0 where
    pub directory : target.directory.value ≡ d
    pub named : target.name.now ≡ name
    pub looks : FindsName s s' d name target.holder target.replaced
    pub size : IsSmall target.holder
    pub is_name : IsName (name_len target.holder.form) name
    pub plain : (slash && not (is_directory k)) ≡ false

  abbrev pub RefusesNext : ℕ → List ℕ → Bool → Kind → EntryFault → Type 0
  RefusesNext d name slash k fault.NameTooLong = IsTooLong s s' d name
  RefusesNext d name slash k fault.NotDir = ((slash && not (is_directory k)) ≡ true)
      × ((found : Option ℕ) × Gives s s' d name found)
  RefusesNext d name slash k (fault.Log f) = MayName name → TellsFault s s' (IsHolder d)
  RefusesNext d name slash k _ = ⊥

  -- ---- both
  pub record FindsBoth (da : ℕ) (na : List ℕ) (ea : Bool) (db : ℕ) (nb : List ℕ) (eb : Bool) (source : Source) (target : Target) : Type 0
    where
      pub first : FindsSource da na ea source
      pub second : FindsTarget db nb eb source.object.header.kind target

  -- The object isn't what it replaces, nor within itself, and what it replaces may be replaced.
  pub record ChecksRename (da : ℕ) (na : List ℕ) (ea : Bool) (chain nb : List ℕ) (eb : Bool) (source : Source) (target : Target) : Type 0
    where
      pub both : FindsBoth da na ea (here chain) nb eb source target
      pub form : HaveOneForm source target
      pub other : GivesName target.replaced source.object.number.value ≡ false
      pub apart : IsNotAbove chain source.object.number.value
      pub fits : FitsTarget source target

  -- Both names give one object.
  pub record HasBothNames (da : ℕ) (na : List ℕ) (ea : Bool) (chain nb : List ℕ) (eb : Bool) : Type 0 where
    pub source : Source
    pub target : Target
    pub both : FindsBoth da na ea (here chain) nb eb source target
    pub same : GivesName target.replaced source.object.number.value ≡ true

  abbrev pub TakesRename : ℕ → List ℕ → Bool → List ℕ → List ℕ → Bool → Option (Source × Target) → Type 0
  TakesRename da na ea chain nb eb None = HasBothNames da na ea chain nb eb
  TakesRename da na ea chain nb eb (Some p) = ChecksRename da na ea chain nb eb p.0 p.1

  -- Why a rename is refused: for the first name, for the second, or for what both give.
  pub data RefusesRename (da : ℕ) (na : List ℕ) (ea : Bool) (chain nb : List ℕ) (eb : Bool) (why : EntryFault) : Type 0 where
    of_first : RefusesSource da na ea why → RefusesRename da na ea chain nb eb why
    of_second : (source : Source) → FindsSource da na ea source → RefusesNext (here chain) nb eb source.object.header.kind why
        → RefusesRename da na ea chain nb eb why
    of_within : (source : Source) (target : Target) → FindsBoth da na ea (here chain) nb eb source target
        → GivesName target.replaced source.object.number.value ≡ false
        → IsAbove chain source.object.number.value → why ≡ fault.Inval → RefusesRename da na ea chain nb eb why
    of_target : (source : Source) (target : Target) → FindsBoth da na ea (here chain) nb eb source target
        → GivesName target.replaced source.object.number.value ≡ false
        → IsNotAbove chain source.object.number.value → RefusesTarget source target why → RefusesRename da na ea chain nb eb why
