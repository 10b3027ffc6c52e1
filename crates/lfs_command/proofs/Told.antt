-- How the end of a script and the refusal of a mount are told.
use Rattle.std.proofs.Common.{◌≡◌, ◌⊎◌, ◌∙◌, ℕ, List, Option, Result, Ok, Err, ap, inl, inr, subst}
use Rattle.std.specs.Prelude.{alloc_error}
use Rattle.lfs_fs.specs.log.verify.declared.fault.MountFault.{MountFault}
use Rattle.lfs_host.specs.Refusals.{refusal_of_mount}
use Rattle.lfs_host.specs.declared.fault.Ending.{Ending}
use Rattle.lfs_host.specs.declared.fault.Ending.TheVariants as ending
use Rattle.lfs_host.specs.declared.fault.Fault.{Fault}
use Rattle.lfs_host.specs.declared.fault.Fault.TheVariants as fault
use Rattle.lfs_host.specs.declared.fault.Outcome.{Outcome}
use Rattle.lfs_host.specs.declared.fault.Outcome.TheVariants as outcome
use Rattle.lfs_host.specs.declared.fault.Refusal.{Refusal}
use Rattle.lfs_script.specs.Strict.{ReadsTo, WritesTo}
use Rattle.lfs_script.specs.declared.script.ScriptEnd.TheVariants as script
use Rattle.lfs_script.specs.declared.script.StrictEnd.{StrictEnd}
use Rattle.lfs_script.specs.declared.script.StrictEnd.TheVariants as strict
use Rattle.lfs_command.specs.Telling.{IsToldPlainly, IsToldStrictly, IsToldUnmounted, TellsInput, TellsOutput, outcome_of}

pub told_unmounted : (refused : MountFault) {refusal : Refusal} (told : Result Ending Fault) → refusal ≡ refusal_of_mount refused
    → ((told ≡ Ok (ending.Refused refusal)) ⊎ (told ≡ Err fault.Output)) → IsToldUnmounted refused told
told_unmounted refused told is =
    subst (λ (r : Refusal). (told ≡ Ok (ending.Refused r)) ⊎ (told ≡ Err fault.Output)) is

-- ---- that the input can't be read

done_reads : {X : Type 0} (x : X) (told : Result X Fault) → told ≡ Ok x → told ≡ Err fault.Input → ⊥
done_reads x told is same = cc

output_reads : {X : Type 0} (told : Result X Fault) → told ≡ Err fault.Output → told ≡ Err fault.Input → ⊥
output_reads told is same = cc

memory_reads : {X : Type 0} (told : Result X Fault) → told ≡ Err (fault.Memory alloc_error) → told ≡ Err fault.Input → ⊥
memory_reads told is same = cc

module _ (f f' : ℕ) (r r' : Option (List ℕ)) where
  pub input_told : (end : StrictEnd) (told : Result Ending Fault) → IsToldPlainly end told → ReadsTo end f f' r r'
      → TellsInput told f f' r r'
  input_told (strict.Script script.Read) told is reads = λ same. reads
  input_told (strict.Script script.Done) told (inl is) reads = λ same. absurd (done_reads ending.Done told is same)
  input_told (strict.Script script.Done) told (inr is) reads = λ same. absurd (output_reads told is same)
  input_told (strict.Script (script.BadLine n)) told (inl is) reads = λ same. absurd (done_reads (ending.BadLine n) told is same)
  input_told (strict.Script (script.BadLine n)) told (inr is) reads = λ same. absurd (output_reads told is same)
  input_told (strict.Script script.Write) told is reads = λ same. absurd (output_reads told is same)
  input_told (strict.Script script.Memory) told is reads = λ same. absurd (memory_reads told is same)
  input_told strict.Refused told none reads = absurd none

  pub unmounted_told : (refused : MountFault) (told : Result Ending Fault) → IsToldUnmounted refused told → TellsInput told f f' r r'
  unmounted_told refused told (inl is) = λ same. absurd (done_reads (ending.Refused (refusal_of_mount refused)) told is same)
  unmounted_told refused told (inr is) = λ same. absurd (output_reads told is same)

  -- the same as an outcome
  pub outcome_told : (ended : Result Ending Fault) (told : Result Outcome Fault) → told ≡ outcome_of ended → TellsInput ended f f' r r'
      → TellsInput told f f' r r'
  outcome_told (Ok ended) told is tells = λ same. absurd (done_reads (outcome.Ended ended) told is same)
  outcome_told (Err ended) told is tells = λ same. tells (let e : ended ≡ fault.Input = cc in ap (λ (x : Fault). Err x) e)

  pub strict_told : (end : StrictEnd) (told : Result Outcome Fault) → IsToldStrictly end told → ReadsTo end f f' r r'
      → TellsInput told f f' r r'
  strict_told (strict.Script end) told (ended, is, same) reads =
      outcome_told ended told same (input_told (strict.Script end) ended is reads)
  strict_told strict.Refused told (inl is) reads = λ same. absurd (done_reads outcome.CallRefused told is same)
  strict_told strict.Refused told (inr is) reads = λ same. absurd (output_reads told is same)

-- ---- that the output can't be written

module _ (f f' : ℕ) where
  pub output_told : (end : StrictEnd) (told : Result Ending Fault) → IsToldPlainly end told → WritesTo end f f' → TellsOutput told f f'
  output_told (strict.Script script.Write) told is writes = inr (writes, is)
  output_told (strict.Script script.Done) told is writes = inl writes
  output_told (strict.Script (script.BadLine n)) told is writes = inl writes
  output_told (strict.Script script.Read) told is writes = inl writes
  output_told (strict.Script script.Memory) told is writes = inl writes
  output_told strict.Refused told none writes = absurd none

  -- the same as an outcome
  outcome_written : (ended : Result Ending Fault) (told : Result Outcome Fault) → told ≡ outcome_of ended → TellsOutput ended f f'
      → TellsOutput told f f'
  outcome_written ended told is (inl none) = inl none
  outcome_written ended told is (inr (more, failed)) = inr (more, is ∙ ap outcome_of failed)

  pub strict_output_told : (end : StrictEnd) (told : Result Outcome Fault) → IsToldStrictly end told → WritesTo end f f'
      → TellsOutput told f f'
  strict_output_told (strict.Script end) told (ended, is, same) writes =
      outcome_written ended told same (output_told (strict.Script end) ended is writes)
  strict_output_told strict.Refused told is writes = inl writes
