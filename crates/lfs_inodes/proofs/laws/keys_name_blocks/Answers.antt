use Rattle.lfs_inodes.proofs.Codes.{code_entry, entry_code, code_is}
use Rattle.lfs_inodes.proofs.laws.keys_name_blocks.Goals as goal

pub returns-clause-back : goal.returns-clause-back
returns-clause-back c = code_entry

pub returns-clause-there : goal.returns-clause-there
returns-clause-there c = entry_code

pub returns-clause-keys : goal.returns-clause-keys
returns-clause-keys c = code_is
