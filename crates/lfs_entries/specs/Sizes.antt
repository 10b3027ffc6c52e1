-- How large directories are.
use Rattle.std.specs.Prelude.{◌≤◌, ◌-◌, ◌*◌}
use Rattle.lfs_model.specs.declared.limits.TheConstants.{MOST_ENTRIES}
use Rattle.lfs_model.specs.Tree.{slot_len}
use Rattle.lfs_files.specs.declared.header.Header.{Header}

-- a directory of this header has as many entries at most as one of a volume
abbrev pub IsSmall : Header → Type 0
IsSmall head = head.size ≤ MOST_ENTRIES * slot_len head.form

-- and it takes one more
abbrev pub TakesOneMore : Header → Type 0
TakesOneMore head = head.size ≤ (MOST_ENTRIES - 1) * slot_len head.form
