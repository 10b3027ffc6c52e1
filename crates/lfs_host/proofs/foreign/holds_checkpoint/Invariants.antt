use Rattle.std.proofs.Common.{◌≡◌}
use Rattle.lfs_host.proofs.foreign.holds_checkpoint.Given as goal

abbrev pub invariant-loop-sector : goal.invariant-loop-sector
invariant-loop-sector g l =
    (g.D.SectorDevice.state l.device).told ≡ (g.D.SectorDevice.state l.initial.device).told
