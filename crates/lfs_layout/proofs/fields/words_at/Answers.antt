use Rattle.std.proofs.Common.{rules, ◌+◌, ◌-◌, ◌*◌}
use Rattle.lfs_layout.proofs.Bytes.{words_at, words_fit, numbers_read}
use Rattle.lfs_layout.proofs.fields.words_at.Goals as goal

pub returns-clause-read : goal.returns-clause-read
returns-clause-read g c = numbers_read c.args.at g.row.N c.args.sector.now c.told-sector c.fits-sector c.requires
    (search rules) c.read_u32_into.ensures

pub returns-clause-spelled : goal.returns-clause-spelled
returns-clause-spelled g c = words_at c.args.at g.row.N c.args.sector.now c.read_u32_into.new.dst c.told-sector c.fits-sector c.requires
    (search rules) c.read_u32_into.ensures

pub returns-clause-fits : goal.returns-clause-fits
returns-clause-fits g c =
    words_fit (c.args.at + 4 * g.row.N - c.args.at) c.args.at c.args.sector.now _ c.fits-sector c.read_u32_into.ensures
