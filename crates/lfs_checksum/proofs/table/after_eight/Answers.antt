use Rattle.std.proofs.Common.{T}
use Rattle.lfs_checksum.specs.Division.{step_bit, steps}
use Rattle.lfs_checksum.specs.declared.table.TheConstants.{TABLE}
use Rattle.lfs_checksum.proofs.Entries.{are_steps, entry_is}
use Rattle.lfs_checksum.proofs.table.after_eight.Goals as goal

entries_are_steps : T (are_steps 0 TABLE)
unfolding are_steps step_bit steps
entries_are_steps = tt

pub returns : goal.returns
returns c = entry_is TABLE entries_are_steps c.args.index c.requires
