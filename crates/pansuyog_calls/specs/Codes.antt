-- The numbers by which C is answered: from 0 on for a call that was done, below for one that was refused.
use Rattle.std.specs.Prelude.{ℕ, ℤ, pos, negsuc, neg_ℤ, min, ◌+◌, ◌-◌, ◌^◌, length}
use Rattle.lfs_model.specs.Call as model
use Rattle.lfs_model.specs.Call.{Answer}
use Rattle.lfs_model.specs.Refusal as refusal
use Rattle.lfs_model.specs.Refusal.{Refusal}
use Rattle.lfs_model.specs.declared.Kind.{Kind}
use Rattle.lfs_model.specs.declared.Kind.TheVariants as kind
use Rattle.lfs_format.specs.declared.fault.FormatFault.{FormatFault}
use Rattle.lfs_format.specs.declared.fault.FormatFault.TheVariants as format_fault
use Rattle.lfs_store.specs.log.verify.declared.fault.MountFault.{MountFault}
use Rattle.lfs_store.specs.log.verify.declared.fault.MountFault.TheVariants as mount_fault

abbrev pub code_of_refusal : Refusal → ℤ
code_of_refusal refusal.NoEntry = negsuc 0
code_of_refusal refusal.NotDir = negsuc 1
code_of_refusal refusal.IsDir = negsuc 2
code_of_refusal refusal.Exist = negsuc 3
code_of_refusal refusal.NotEmpty = negsuc 4
code_of_refusal refusal.Inval = negsuc 5
code_of_refusal refusal.NameTooLong = negsuc 6
code_of_refusal refusal.Loop = negsuc 7
code_of_refusal refusal.Perm = negsuc 8
code_of_refusal refusal.Busy = negsuc 9
code_of_refusal refusal.BadHandle = negsuc 10
code_of_refusal refusal.TooManyOpen = negsuc 11
code_of_refusal refusal.TooManyLinks = negsuc 12
code_of_refusal refusal.FileTooBig = negsuc 13
code_of_refusal refusal.NoSpace = negsuc 14
code_of_refusal refusal.NoNumber = negsuc 15
code_of_refusal refusal.DirFull = negsuc 16
code_of_refusal refusal.NoMemory = negsuc 17
code_of_refusal refusal.Device = negsuc 18
code_of_refusal refusal.Halted = negsuc 19
code_of_refusal refusal.Stuck = negsuc 20
code_of_refusal refusal.Worn = negsuc 21

-- those of a call of the library that makes none of a volume
abbrev pub inval : ℤ
inval = negsuc 5

abbrev pub no_memory : ℤ
no_memory = negsuc 17

abbrev pub device_failed : ℤ
device_failed = negsuc 18

abbrev pub too_small : ℤ
too_small = negsuc 29

abbrev pub no_checkpoint : ℤ
no_checkpoint = negsuc 30

abbrev pub not_mounted : ℤ
not_mounted = negsuc 39

abbrev pub already_mounted : ℤ
already_mounted = negsuc 40

abbrev pub no_order : ℤ
no_order = negsuc 41

abbrev pub read_only : ℤ
read_only = negsuc 42

abbrev pub in_use : ℤ
in_use = negsuc 43

abbrev pub lock_failed : ℤ
lock_failed = negsuc 44

-- the number of a mount that is refused: where the volume is damaged it is as far below -100 as the stage's
abbrev pub code_of_mount_fault : MountFault → ℤ
code_of_mount_fault mount_fault.NoMemory = no_memory
code_of_mount_fault mount_fault.Device = device_failed
code_of_mount_fault mount_fault.TooSmall = too_small
code_of_mount_fault mount_fault.NoCheckpoint = no_checkpoint
code_of_mount_fault (mount_fault.Damaged stage) = neg_ℤ (pos (100 + stage))

abbrev pub code_of_format_fault : FormatFault → ℤ
code_of_format_fault format_fault.Inval = inval
code_of_format_fault format_fault.TooSmall = too_small
code_of_format_fault format_fault.Device = device_failed

-- a count as a number of C
abbrev pub code_of_count : ℕ → ℤ
code_of_count n = pos (min n (2 ^ 31 - 1))

-- the number of an answer of the model
abbrev pub code_of_answer : Answer → ℤ
code_of_answer (model.Refuse why) = code_of_refusal why
code_of_answer model.Done = pos 0
code_of_answer (model.Handle n) = code_of_count n
code_of_answer (model.Count n) = code_of_count n
code_of_answer (model.Data bytes) = code_of_count (length bytes)
code_of_answer (model.Text bytes) = code_of_count (length bytes)
code_of_answer (model.Status status) = pos 0
code_of_answer (model.Entries entries) = code_of_count (length entries)
code_of_answer (model.Room blocks others need limit) = pos 0
code_of_answer (model.FormatVersion n) = code_of_count n
code_of_answer (model.Rows rows) = code_of_count (length rows)

-- the number of a kind of object
abbrev pub code_of_kind : Kind → ℕ
code_of_kind kind.File = 1
code_of_kind kind.Directory = 2
code_of_kind kind.Link = 3
