-- How a command ends that ran a script on a device, by the end of the script or of the mount. The command line is an own choice.
use Rattle.std.specs.Prelude.{◌≡◌, ◌⊎◌, ℕ, suc, List, Option, Result, Ok, Err, alloc_error}
use Rattle.lfs_fs.specs.log.verify.declared.fault.MountFault.{MountFault}
use Rattle.lfs_host.specs.Refusals.{refusal_of_mount}
use Rattle.lfs_host.specs.declared.fault.Ending.{Ending}
use Rattle.lfs_host.specs.declared.fault.Ending.TheVariants as ending
use Rattle.lfs_host.specs.declared.fault.Fault.{Fault}
use Rattle.lfs_host.specs.declared.fault.Fault.TheVariants as fault
use Rattle.lfs_host.specs.declared.fault.Outcome.{Outcome}
use Rattle.lfs_host.specs.declared.fault.Outcome.TheVariants as outcome
use Rattle.lfs_script.specs.Strict.{ReadsTo}
use Rattle.lfs_script.specs.declared.script.ScriptEnd.{ScriptEnd}
use Rattle.lfs_script.specs.declared.script.ScriptEnd.TheVariants as script
use Rattle.lfs_script.specs.declared.script.StrictEnd.{StrictEnd}
use Rattle.lfs_script.specs.declared.script.StrictEnd.TheVariants as strict

-- the same ending, of a command whose script may be strict
abbrev pub outcome_of : Result Ending Fault → Result Outcome Fault
outcome_of (Ok told) = Ok (outcome.Ended told)
outcome_of (Err told) = Err told

-- by the end of a script: the command ends so too, or its last replies couldn't go out
abbrev pub IsTold : ScriptEnd → Result Ending Fault → Type 0
IsTold script.Done told = (told ≡ Ok ending.Done) ⊎ (told ≡ Err fault.Output)
IsTold (script.BadLine line) told = (told ≡ Ok (ending.BadLine line)) ⊎ (told ≡ Err fault.Output)
IsTold script.Read told = told ≡ Err fault.Input
IsTold script.Write told = told ≡ Err fault.Output
IsTold script.Memory told = told ≡ Err (fault.Memory alloc_error)

-- the same of a script that isn't strict
abbrev pub IsToldPlainly : StrictEnd → Result Ending Fault → Type 0
IsToldPlainly (strict.Script end) told = IsTold end told
IsToldPlainly strict.Refused told = ⊥

-- and of one that is
abbrev pub IsToldStrictly : StrictEnd → Result Outcome Fault → Type 0
IsToldStrictly (strict.Script end) told = (ended : Result Ending Fault) × IsTold end ended × (told ≡ outcome_of ended)
IsToldStrictly strict.Refused told = (told ≡ Ok outcome.CallRefused) ⊎ (told ≡ Err fault.Output)

-- by the fault of a mount: the command ends with its refusal, or that couldn't be printed
abbrev pub IsToldUnmounted : MountFault → Result Ending Fault → Type 0
IsToldUnmounted refused told = (told ≡ Ok (ending.Refused (refusal_of_mount refused))) ⊎ (told ≡ Err fault.Output)

-- where people are told that the input can't be read, the run couldn't read on
abbrev pub TellsInput : {X : Type 0} → Result X Fault → ℕ → ℕ → Option (List ℕ) → Option (List ℕ) → Type 0
TellsInput told failures failures' r r' = told ≡ Err fault.Input → ReadsTo (strict.Script script.Read) failures failures' r r'

-- From so many writes of replies that failed, or took nothing, to so many: none more did. Or one did, and people are told that the output
-- can't be written.
abbrev pub TellsOutput : {X : Type 0} → Result X Fault → ℕ → ℕ → Type 0
TellsOutput told failures failures' = (failures' ≡ failures) ⊎ ((failures' ≡ suc failures) × (told ≡ Err fault.Output))
