-- A mount that is refused.
use Rattle.lfs_model.specs.Device.{DeviceState}
use Rattle.lfs_cleaner.specs.log.verify.declared.fault.MountFault.{MountFault}
use Rattle.lfs_cleaner.specs.log.verify.Faults.{IsOpenFault}
use Rattle.lfs_cleaner.proofs.of_log.of_verify.FaultCases.{fault_on}
use Rattle.lfs_store.specs.Accepting.{IsMountRefusal}

-- the log isn't there
pub log_refused : (old new : DeviceState) (f : MountFault) → IsOpenFault old new f → IsMountRefusal old new f
log_refused old new f =
    fault_on _ _ _ _
    (λ rose m keeps is. rose) (λ lacks. lacks) f
