use Rattle.std.proofs.Common.{sym, ◌∙◌}
use Rattle.lfs_record.specs.Files.{is_file}
use Rattle.lfs_record.specs.Names.{is_name}
use Rattle.lfs_record.proofs.Oldest.{both}
use Rattle.lfs_record.proofs.files.is_older.Goals as goal

pub number_of-requires : goal.number_of-requires
number_of-requires c =
    rw c.as_slice.ensures.value
    ((both (is_file c.args.entry.now.kind) (is_name c.args.entry.now.name.items) (sym c.is_recorded.ensures ∙ c.if-is_recorded.true)).1)
