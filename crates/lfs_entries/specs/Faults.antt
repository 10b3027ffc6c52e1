-- The faults of what is asked of entries by those of calls on files.
use Rattle.lfs_files.specs.declared.fault.LogFault.{LogFault}
use Rattle.lfs_files.specs.declared.fault.StoreFault.{StoreFault}
use Rattle.lfs_files.specs.declared.fault.StoreFault.TheVariants as store
use Rattle.lfs_entries.specs.declared.fault.EntryFault.{EntryFault}
use Rattle.lfs_entries.specs.declared.fault.EntryFault.TheVariants as fault

abbrev pub fault_of_log : LogFault → EntryFault
fault_of_log f = fault.Log f

abbrev pub fault_of_store : StoreFault → EntryFault
fault_of_store store.NoMemory = fault.NoMemory
fault_of_store (store.Log f) = fault.Log f
