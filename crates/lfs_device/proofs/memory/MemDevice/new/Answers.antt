use Rattle.std.proofs.Common.{◌≡◌, ℕ, ◌∙◌, sym, subst}
use Rattle.std.proofs.lemmas.Result.{IfOk-weaker}
use Rattle.lfs_model.specs.Device.{AreSectors}
use Rattle.lfs_device.specs.Units.{unit_from, unit_of}
use Rattle.lfs_device.specs.declared.memory.MemDevice.{MemDevice}
use Rattle.lfs_device.proofs.UnitBounds.{are_sectors, one_is}
use Rattle.lfs_device.proofs.memory.MemDevice.new.Goals as goal

abbrev Begins : MemDevice → Type 0
Begins d = unit_of d.units ≡ unit_from 1 0

pub returns-clause-units : goal.returns-clause-units
returns-clause-units c =
    IfOk-weaker c.with_unit.result Begins (λ (d : MemDevice). AreSectors (unit_of d.units))
    (λ d is. subst AreSectors (sym is) (are_sectors 0)) c.with_unit.ensures.unit

pub returns-clause-unit : goal.returns-clause-unit
returns-clause-unit c =
    IfOk-weaker c.with_unit.result Begins (λ (d : MemDevice). unit_of d.units ≡ (λ (k : ℕ). k))
    (λ d is. is ∙ (λ i k. one_is 0 k i)) c.with_unit.ensures.unit
