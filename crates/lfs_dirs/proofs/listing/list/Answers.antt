use Rattle.lfs_dirs.proofs.Lists.{only_names}
use Rattle.lfs_dirs.proofs.listing.list.Goals as goal

pub returns-in-Ok-clause-answer : goal.returns-in-Ok-clause-answer
returns-in-Ok-clause-answer g c =
    only_names (g.F.Files.state c.args.files.now) (g.F.Files.state c.inspect.new.files) c.args.directory.value c.args.header
    c.in-Ok.entries.items c.in-Ok.ensures.answer

pub returns-in-Err-NoSlot-clause-failed : goal.returns-in-Err-NoSlot-clause-failed
returns-in-Err-NoSlot-clause-failed g c other = let is = c.in-Err-NoSlot.field-0-is in c.in-Err-NoSlot.ensures.failed (λ e. cc)

pub returns-in-Err-Log-clause-failed : goal.returns-in-Err-Log-clause-failed
returns-in-Err-Log-clause-failed g c other = let is = c.in-Err-Log.field-0-is in c.in-Err-Log.ensures.failed (λ e. cc)
