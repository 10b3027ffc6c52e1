-- What is said of a block of a table that is lent.
-- All of it is an own choice.
use Rattle.std.specs.Prelude.{◌≡◌, ◌≤◌, ℕ, List, Some, Result, OnOk, IfOk, IfErr}
use denote.Ref.{Bor}
use Rattle.lfs_model.specs.Device.{DeviceState, cell_at}
use Rattle.lfs_verify.specs.declared.fault.MountFault.{MountFault}
use Rattle.lfs_verify.specs.Faults.{IsBlockFault}
use Rattle.lfs_verify.specs.Take.{Looks}

-- A block of a table of a volume of N segments is lent as the device holds it, or why not.
pub record LendsTable (d d' : DeviceState) (N at : ℕ) (result : Result (Bor (List ℕ)) MountFault) : Type 0 where
  pub value : IfOk result (λ bytes. d'.keeps_model → cell_at d.content at ≡ Some bytes.now)
  pub above : OnOk result (2 ≤ at)
  pub cause : IfErr result (IsBlockFault d d' N at)
  pub no_failure : OnOk result (d'.failures ≡ d.failures)
  pub looks : Looks d d'
