-- An object drafted under another name, in place of what has it.
use Rattle.std.specs.Prelude.{◌≡◌, ◌≢◌, ◌<◌, ◌≤◌, ◌+◌, ◌-◌, ◌*◌, ◌==◌, ◌&&◌, ◌||◌, not, ℕ, Bool, true, false, List, length, max}
use Rattle.std.specs.Prelude.{if◌then◌else◌, Option, Some, None, is_some, is_none}
use Rattle.lfs_model.specs.Encodes.{IsLogMap}
use Rattle.lfs_model.specs.Entry.{Entry}
use Rattle.lfs_model.specs.Objects.{AreLong, IsDirectory}
use Rattle.lfs_model.specs.Slot.{IsName}
use Rattle.lfs_model.specs.Stands.{LogMap}
use Rattle.lfs_model.specs.Tree.{name_len, slot_len}
use Rattle.lfs_files.specs.declared.header.Header.{Header}
use Rattle.lfs_files.specs.Files.{AreCounted, FilesState, IsApart, WritesFile}
use Rattle.lfs_files.specs.Headers.{FitsHeader, as_header, relinked}
use Rattle.lfs_files.specs.Making.{TakesLinks}
use Rattle.lfs_path.specs.dirs.Adding.{Adds, slot_for}
use Rattle.lfs_path.specs.dirs.Repointing.{Repoints, RepointsName}
use Rattle.lfs_path.specs.dirs.Taking.{shrunk}
use Rattle.lfs_path.specs.Seeing.{HasHeader}
use Rattle.lfs_entries.specs.declared.entry.Object.{Object}
use Rattle.lfs_entries.specs.declared.moving.Source.{Source}
use Rattle.lfs_entries.specs.declared.moving.Target.{Target}
use Rattle.lfs_entries.specs.Drafting.{HasNamed}
use Rattle.lfs_entries.specs.Entries.{is_directory}
use Rattle.lfs_entries.specs.NewNames.{Names}
use Rattle.lfs_entries.specs.OldNames.{LosesLink, Untied, stays}
use Rattle.lfs_entries.specs.Renaming.{HaveOneForm}
use Rattle.lfs_entries.specs.Replacing.{FitsTarget}
use Rattle.lfs_entries.specs.Sizes.{IsSmall}

-- ---- links of both directories

-- the first directory has a directory less: one goes to another directory, or takes the place of one
abbrev pub loses_directory : Source → Target → Bool
loses_directory source target =
    is_directory source.object.header.kind && (not (source.directory.value == target.directory.value) || is_some target.replaced)

-- the second has one more
abbrev pub gains_directory : Source → Target → Bool
gains_directory source target =
    is_directory source.object.header.kind && (not (source.directory.value == target.directory.value) && is_none target.replaced)

-- the links of both
abbrev pub fewer_links : Source → Target → ℕ
fewer_links source target = if loses_directory source target then source.holder.links - 1 else source.holder.links

abbrev pub more_links : Source → Target → ℕ
more_links source target = if gains_directory source target then target.holder.links + 1 else target.holder.links

-- their headers with them
abbrev pub first_holder : Source → Target → Header
first_holder source target = relinked source.holder (fewer_links source target)

abbrev pub second_linked : Source → Target → Header
second_linked source target = relinked target.holder (more_links source target)

-- and that of the second without the first name: where both are one, it is a slot shorter then
abbrev pub second_holder : Source → Target → Header
second_holder source target = if source.directory.value == target.directory.value then shrunk (first_holder source target)
    else second_linked source target

-- Sizes and links are those of a volume.
pub record MayMove (source : Source) (target : Target) : Type 0 where
  pub from_size : IsSmall source.holder
  pub from_links : 2 ≤ source.holder.links
  pub to_size : IsSmall target.holder
  pub is_name : IsName (name_len target.holder.form) target.name.now
  pub form : HaveOneForm source target
  pub fits : FitsTarget source target

-- ---- what is replaced loses a link

-- it is apart from directory d, and from the root
abbrev pub IsOther : Option Object → ℕ → Type 0
IsOther None d = Unit {0}
IsOther (Some o) d = d ≢ o.number.value

abbrev pub IsThere : Option Object → LogMap → Type 0
IsThere None m = Unit {0}
IsThere (Some o) m = HasHeader o.number.value o.header m × (o.number.value ≢ 1)

abbrev pub LostFound : Option Object → Bool → LogMap → LogMap → Type 0
LostFound None is_open m m' = m' ≡ m
LostFound (Some o) is_open m m' = LosesLink (stays o.header is_open) m m' o.number.value o.header

module _ {S D : Type 0} where
  abbrev pub TakesFound : FilesState S D → LogMap → Option Object → Type 0
  TakesFound s m' None = Unit {0}
  TakesFound s m' (Some o) = TakesLinks s m' o.number.value o.header (o.header.links - 1)

  -- With the draft there is a log map, where it has lost it.
  pub record HasLostFound (s s' : FilesState S D) (m m' : LogMap) (found : Option Object) (is_open : Bool) : Type 0 where
    pub map : LogMap
    pub has : s'.has m map
    pub file : LostFound found is_open m' map
    pub keeps : IsLogMap m' → IsThere found m' → IsLogMap map
    pub counted : IsLogMap m' → IsThere found m' → AreCounted m' s.drafted → AreCounted map s'.drafted

  -- A draft by which it does, if anything is replaced.
  pub record LosesFound (s s' : FilesState S D) (found : Option Object) (is_open : Bool) : Type 0 where
    pub apart : (k : ℕ) → IsOther found k → IsApart s.lost k → IsApart s'.lost k
    pub fits : (m m' : LogMap) → s.has m m' → s.fits m → TakesFound s m' found → s'.fits m
    pub has : (m m' : LogMap) → s'.device.keeps_model → s.has m m' → HasLostFound s s' m m' found is_open

-- ---- links of both directories

-- Both directories have these headers.
pub record HasHolders (m : LogMap) (source : Source) (target : Target) : Type 0 where
  pub first : HasHeader source.directory.value source.holder m
  pub second : HasHeader target.directory.value target.holder m

-- Both have the links that they are to have; nothing else changes.
pub record AreRelinked (m m' : LogMap) (source : Source) (target : Target) : Type 0 where
  pub first : HasHeader source.directory.value (first_holder source target) m'
  pub second : source.directory.value ≢ target.directory.value → HasHeader target.directory.value (second_linked source target) m'
  pub others : (k : ℕ) → k ≢ source.directory.value → k ≢ target.directory.value → m'.header k ≡ m.header k
  pub block : (k i : ℕ) → m'.block k i ≡ m.block k i
  pub version : m'.version ≡ m.version

module _ {S D : Type 0} where
  -- The log map may be changed so.
  pub record TakesBoth (s : FilesState S D) (m' : LogMap) (source : Source) (target : Target) : Type 0 where
    pub holders : HasHolders m' source target
    pub first : loses_directory source target ≡ true → TakesLinks s m' source.directory.value source.holder (fewer_links source target)
    pub second : gains_directory source target ≡ true → TakesLinks s m' target.directory.value target.holder (more_links source target)

  -- With the draft there is a log map, where they have them.
  pub record HasBothLinks (s s' : FilesState S D) (m m' : LogMap) (source : Source) (target : Target) : Type 0 where
    pub map : LogMap
    pub has : s'.has m map
    pub links : AreRelinked m' map source target
    pub same : loses_directory source target ≡ false → gains_directory source target ≡ false → map ≡ m'
    pub keeps : IsLogMap m' → IsLogMap map
    pub counted : AreCounted m' s.drafted → AreCounted map s'.drafted

  -- A draft that gives them. It loses nothing.
  pub record RelinksBoth (s s' : FilesState S D) (source : Source) (target : Target) : Type 0 where
    pub lost : (x : Entry) → s'.lost x ≡ s.lost x
    pub fits : (m m' : LogMap) → s.has m m' → s.fits m → TakesBoth s m' source target → s'.fits m
    pub has : (m m' : LogMap) → s.has m m' → HasHolders m' source target → HasBothLinks s s' m m' source target

  -- ---- the second name

  -- the name gives the object: where it was there another number is written, else a name more
  abbrev pub NamesFound : FilesState S D → FilesState S D → Option Object → ℕ → Header → ℕ → List ℕ → Type 0
  NamesFound s s' None d head n name = Adds s s' d head n name
  NamesFound s s' (Some o) d head n name = Repoints s s' d head n name

-- the directory has the name that was found there
abbrev pub HasFoundName : Option Object → ℕ → Header → List ℕ → LogMap → Type 0
HasFoundName None d head name m = Unit {0}
HasFoundName (Some o) d head name m = HasNamed d head name m

-- A slot of directory d is another; where it is a directory, a name that it has gives number n.
pub record Renumbers (m m' : LogMap) (d : ℕ) (head : Header) (n : ℕ) (name : List ℕ) : Type 0 where
  pub place : ℕ
  pub file : WritesFile m m' d head head (slot_len head.form * place) (slot_for head.form n name)
  pub names : IsDirectory m d (as_header head) → RepointsName m m' d head n name

-- the name gives number n in the log map
abbrev pub NamedFound : Option Object → LogMap → LogMap → ℕ → Header → ℕ → List ℕ → Type 0
NamedFound None m m' d head n name = Names m m' d head n name
NamedFound (Some o) m m' d head n name = Renumbers m m' d head n name

-- the size of the directory with it
abbrev pub size_with : Option Object → Header → ℕ → List ℕ → ℕ
size_with None head n name = max head.size (head.size + length (slot_for head.form n name))
size_with (Some o) head n name = head.size

-- ---- all of it

-- Both directories are there, and what is replaced is another object, which isn't the root.
pub record HasMove (source : Source) (target : Target) (m : LogMap) : Type 0 where
  pub map : IsLogMap m
  pub holders : HasHolders m source target
  pub replaced : IsThere target.replaced m
  pub not_first : IsOther target.replaced source.directory.value
  pub not_second : IsOther target.replaced target.directory.value

-- They have the names too, which give two objects.
pub record HasNames (source : Source) (target : Target) (m : LogMap) : Type 0 where
  pub move : HasMove source target m
  pub first : HasNamed source.directory.value source.holder source.name.now m
  pub second : HasFoundName target.replaced target.directory.value target.holder target.name.now m
  pub others : source.directory.value ≡ target.directory.value → source.name.now ≢ target.name.now

module _ {S D : Type 0} where
  -- With the draft there is another log map: what is replaced loses a link, both directories have their links, the first name goes, and
  -- the second gives the object.
  pub record HasMoved (s' : FilesState S D) (m m' : LogMap) (source : Source) (target : Target) (is_open : Bool) : Type 0 where
    pub lost : LogMap
    pub linked : LogMap
    pub taken : LogMap
    pub map : LogMap
    pub has : s'.has m map
    pub loses : LostFound target.replaced is_open m' lost
    pub links : AreRelinked lost linked source target
    pub same : loses_directory source target ≡ false → gains_directory source target ≡ false → linked ≡ lost
    pub untied : Untied linked taken source.directory.value (first_holder source target) source.name.now
    pub named : NamedFound target.replaced taken map target.directory.value (second_holder source target) source.object.number.value
        target.name.now

  -- The log map may be changed so.
  pub record TakesMove (s : FilesState S D) (m m' : LogMap) (source : Source) (target : Target) : Type 0 where
    pub move : HasMove source target m'
    pub first_staged : m.header source.directory.value ≢ None
    pub second_staged : m.header target.directory.value ≢ None
    pub first_apart : IsApart s.lost source.directory.value
    pub second_apart : IsApart s.lost target.directory.value
    pub replaced : TakesFound s m' target.replaced
    pub first_linked : 0 < source.holder.links
    pub second_linked : 0 < target.holder.links
    pub first : FitsHeader source.holder.kind source.holder.form (fewer_links source target) source.holder.size
    pub second : FitsHeader target.holder.kind target.holder.form (more_links source target) target.holder.size
    pub shorter : FitsHeader source.holder.kind source.holder.form (fewer_links source target)
        (source.holder.size - slot_len source.holder.form)
    pub longer : FitsHeader (second_holder source target).kind (second_holder source target).form (second_holder source target).links
        (size_with target.replaced (second_holder source target) source.object.number.value target.name.now)

  -- A draft by which it does.
  pub record DraftsMove (s s' : FilesState S D) (source : Source) (target : Target) (is_open : Bool) : Type 0 where
    pub fits : (m m' : LogMap) → s'.device.keeps_model → s.has m m' → s.fits m → TakesMove s m m' source target → s'.fits m
    pub has : (m m' : LogMap) → s'.device.keeps_model → s.has m m' → HasMove source target m' → HasMoved s' m m' source target is_open

  -- The totals with the draft stay those of the log map with it.
  abbrev pub CountsMove : FilesState S D → FilesState S D → Source → Target → Type 0
  CountsMove s s' source target = (m a b : LogMap) → s'.device.keeps_model → s.has m a → s'.has m b → HasMove source target a
      → AreLong a source.directory.value → IsLogMap b → AreCounted a s.drafted → AreCounted b s'.drafted
