-- The run in memory.
use Rattle.std.specs.Prelude.{◌*◌, drop}
use Rattle.lfs_model.specs.declared.limits.TheConstants.{SECTOR_LEN}
use Rattle.lfs_device.specs.Runs.{Run, sectors_in}
use Rattle.lfs_device.specs.declared.unsent.Unsent.{Unsent}

abbrev pub run_in : Unsent → Run
run_in unsent = record {
  first = unsent.first;
  sectors = sectors_in SECTOR_LEN unsent.count (drop (SECTOR_LEN * unsent.ahead) unsent.bytes.items);
  ahead = unsent.ahead;
}
