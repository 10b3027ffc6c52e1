use Rattle.std.proofs.Common.{rules}
use Rattle.lfs_model.proofs.Numbers.{IsBytes}
use Rattle.lfs_model.proofs.PointerPlaces.{pointers_fit, pointers_spelled}
use Rattle.lfs_layout.proofs.pointers.PointerView.new.Goals as goal

pub returns-clause-fits : goal.returns-clause-fits
returns-clause-fits c = let bytes : IsBytes c.args.sector.now = search rules in pointers_fit c.args.sector.now bytes c.told-sector

pub returns-clause-spelled : goal.returns-clause-spelled
returns-clause-spelled c = let bytes : IsBytes c.args.sector.now = search rules in pointers_spelled c.args.sector.now bytes c.told-sector
