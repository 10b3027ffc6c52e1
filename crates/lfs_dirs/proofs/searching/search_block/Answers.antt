use Rattle.lfs_dirs.proofs.Searches.{block_found, block_broken, block_failed}
use Rattle.lfs_dirs.proofs.searching.search_block.Goals as goal

pub returns-in-Err-clause-failed : goal.returns-in-Err-clause-failed
returns-in-Err-clause-failed g c =
    block_failed (g.F.Files.state c.args.files.now) (g.F.Files.state c.block.new.self) _ _ c.in-Err.ensures.failed

pub returns-in-Ok-search_slots-clause-answer : goal.returns-in-Ok-search_slots-clause-answer
returns-in-Ok-search_slots-clause-answer g c =
    block_found (g.F.Files.state c.args.files.now) (g.F.Files.state c.block.new.self) c.requires.few c.in-Ok.ensures.answer c.args.name.now
    c.in-Ok-search_slots.found c.in-Ok-search_slots.ensures.found

pub returns-in-Err-search_slots-clause-failed : goal.returns-in-Err-search_slots-clause-failed
returns-in-Err-search_slots-clause-failed g c =
    block_broken (g.F.Files.state c.args.files.now) (g.F.Files.state c.block.new.self) c.requires.few c.in-Ok.ensures.answer
    c.in-Err-search_slots.ensures.broken
