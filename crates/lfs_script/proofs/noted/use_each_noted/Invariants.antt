use Rattle.std.proofs.Common.{◌≡◌, List, take}
use Rattle.lfs_model.specs.Call.{Answer, Call}
use Rattle.lfs_model.specs.Run.{Point}
use Rattle.lfs_model.specs.Volume.{LeavesPrefix}
use Rattle.lfs_device.specs.MemoryDevice.{device_state}
use Rattle.lfs_script.specs.Series.{texts_of}
use Rattle.lfs_script.specs.SeriesNoted.{UsesInTurnNoted}
use Rattle.lfs_volume.specs.FindingLaws.{StandsAsOn}
use Rattle.lfs_volume.specs.Standing.{in_volume}
use Rattle.lfs_script.proofs.noted.use_each_noted.Given as goal

-- where the device keeps its model, it still does, its volume has the units that it had, and the scripts so far were used in turn
abbrev pub invariant-loop-script : goal.invariant-loop-script
invariant-loop-script g l = (in_volume device_state l.fn.device l.fn.device).keeps_model
    → ((in_volume device_state l.fn.device l.current).keeps_model
    × StandsAsOn (device_state l.current) (device_state l.fn.device)
    × ((before : List Point) (calls : List Call) (given : List Answer)
    → LeavesPrefix (in_volume device_state l.fn.device l.fn.device) before calls given
    → UsesInTurnNoted (in_volume device_state l.fn.device) l.fn.strict (texts_of (take l.script-index l.scripts))
    (record { written = g.W.Write.contents l.initial.writer; device = l.fn.device; points = before; calls = calls; given = given })
    (g.W.Write.contents l.writer) l.current (g.S.Witness.glances l.initial.witness) (g.S.Witness.glances l.witness)))
