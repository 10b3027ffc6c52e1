-- By which refusal a command tells why a volume isn't mounted. The command line is an own choice.
use Rattle.lfs_fs.specs.log.verify.declared.fault.MountFault.{MountFault}
use Rattle.lfs_fs.specs.log.verify.declared.fault.MountFault.TheVariants as mount
use Rattle.lfs_host.specs.declared.fault.Refusal.{Refusal}
use Rattle.lfs_host.specs.declared.fault.Refusal.TheVariants as refusal

-- a stage of damage by itself, and each other fault as one of the mount
abbrev pub refusal_of_mount : MountFault → Refusal
refusal_of_mount (mount.Damaged code) = refusal.Damaged code
refusal_of_mount fault = refusal.Mount fault
