use Rattle.lfs_dirs.proofs.Searches.{block_broken, block_failed}
use Rattle.lfs_dirs.proofs.Widenings.{block_widened}
use Rattle.lfs_dirs.proofs.widening.widen_block.Goals as goal

pub returns-in-Err-clause-failed : goal.returns-in-Err-clause-failed
returns-in-Err-clause-failed g c other =
    block_failed (g.F.Files.state c.args.files.now) (g.F.Files.state c.block.new.self) _ _ c.in-Err.ensures.failed

pub returns-in-Ok-put_wide_slots-clause-done : goal.returns-in-Ok-put_wide_slots-clause-done
returns-in-Ok-put_wide_slots-clause-done g c =
    block_widened (g.F.Files.state c.args.files.now) (g.F.Files.state c.block.new.self) c.requires.few c.in-Ok.ensures.answer
    c.in-Ok-put_wide_slots.ensures.done

pub returns-in-Err-NoSlot-clause-failed : goal.returns-in-Err-NoSlot-clause-failed
returns-in-Err-NoSlot-clause-failed g c other =
    block_broken (g.F.Files.state c.args.files.now) (g.F.Files.state c.block.new.self) c.requires.few c.in-Ok.ensures.answer
    (c.in-Err-NoSlot.ensures.broken c.in-Err-NoSlot.field-0-is)
