-- What an object may replace, and which directories may get it.
use Rattle.std.specs.Prelude.{◌≡◌, ◌≢◌, ◌≤◌, ◌<◌, ◌-◌, ◌*◌, true, false, Option, Some, None}
use Rattle.lfs_model.specs.declared.Kind.{Kind}
use Rattle.lfs_model.specs.declared.limits.TheConstants.{MOST_ENTRIES, MOST_LINKS}
use Rattle.lfs_model.specs.Tree.{slot_len}
use Rattle.lfs_files.specs.declared.header.Header.{Header}
use Rattle.lfs_entries.specs.declared.entry.Object.{Object}
use Rattle.lfs_entries.specs.declared.fault.EntryFault.{EntryFault}
use Rattle.lfs_entries.specs.declared.fault.EntryFault.TheVariants as fault
use Rattle.lfs_entries.specs.declared.moving.Source.{Source}
use Rattle.lfs_entries.specs.declared.moving.Target.{Target}
use Rattle.lfs_entries.specs.Entries.{is_directory}
use Rattle.lfs_entries.specs.Sizes.{TakesOneMore}

-- An object of this kind may replace one of this header: both are directories, and the other is empty, or neither is.
pub record FitsReplaced (k : Kind) (replaced : Header) : Type 0 where
  pub same : is_directory replaced.kind ≡ is_directory k
  pub empty : is_directory k ≡ true → replaced.size ≡ 0

abbrev pub RefusesReplaced : Kind → Header → EntryFault → Type 0
RefusesReplaced k replaced fault.IsDir = (is_directory replaced.kind ≡ true) × (is_directory k ≡ false)
RefusesReplaced k replaced fault.NotDir = (is_directory replaced.kind ≡ false) × (is_directory k ≡ true)
RefusesReplaced k replaced fault.NotEmpty = (is_directory replaced.kind ≡ true) × (is_directory k ≡ true) × (0 < replaced.size)
RefusesReplaced k replaced _ = ⊥

-- A directory of this header may get an object of this kind.
pub record TakesMoved (k : Kind) (holder : Header) : Type 0 where
  pub size : TakesOneMore holder
  pub links : is_directory k ≡ true → holder.links < MOST_LINKS

abbrev pub RefusesFull : Kind → Header → EntryFault → Type 0
RefusesFull k holder fault.DirFull = (MOST_ENTRIES - 1) * slot_len holder.form < holder.size
RefusesFull k holder fault.TooManyLinks = (TakesOneMore holder) × (is_directory k ≡ true) × (MOST_LINKS ≤ holder.links)
RefusesFull k holder _ = ⊥

-- the same by what is replaced, if anything is
abbrev pub FitsFound : Option Object → Source → Target → Type 0
FitsFound None source target = source.directory.value ≢ target.directory.value → TakesMoved source.object.header.kind target.holder
FitsFound (Some o) source target = FitsReplaced source.object.header.kind o.header

abbrev pub RefusesFound : Option Object → Source → Target → EntryFault → Type 0
RefusesFound None source target fault = (source.directory.value ≢ target.directory.value)
    × RefusesFull source.object.header.kind target.holder fault
RefusesFound (Some o) source target fault = RefusesReplaced source.object.header.kind o.header fault

abbrev pub FitsTarget : Source → Target → Type 0
FitsTarget source target = FitsFound target.replaced source target

abbrev pub RefusesTarget : Source → Target → EntryFault → Type 0
RefusesTarget source target = RefusesFound target.replaced source target
