use Rattle.std.proofs.Common.{◌∙◌, ◌+◌}
use Rattle.lfs_put.proofs.Costs.{compares}
use Rattle.lfs_put.specs.Largest.{cost_of_entries}
use Rattle.lfs_put.proofs.largest.fits.Goals as goal

pub returns : goal.returns
returns c =
    compares (cost_of_entries c.args.slot (c.args.entries + 1)) c.from-3.ensures c.from-4.ensures c.cost_of.ensures.cost
    c.directory_cost.ensures.cost c.from.ensures
    (c.from-2.ensures ∙ c.directory_cost-2.ensures.cost)
