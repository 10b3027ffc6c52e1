use Rattle.lfs_model.specs.Entry as entry
use Rattle.lfs_log.proofs.Collected.{listed_last}
use Rattle.lfs_log.proofs.collecting.list_block.Goals as goal

pub returns-clause-lists : goal.returns-clause-lists
returns-clause-lists c =
    listed_last c.args.keys.now.keys c.push.new.self.keys c.key_of.result (entry.entry_of c.args.name) c.push.ensures.keys c.key_of.ensures
