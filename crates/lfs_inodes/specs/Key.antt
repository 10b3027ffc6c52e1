-- What a key names.
use Rattle.lfs_model.specs.Entry.{Entry}
use Rattle.lfs_inodes.specs.declared.key.BlockKey.{BlockKey}
use Rattle.lfs_inodes.specs.Code.{entry_at}

abbrev pub entry_of : BlockKey → Entry
entry_of key = entry_at key.code
