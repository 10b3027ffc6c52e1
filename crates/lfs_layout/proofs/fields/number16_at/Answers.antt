use Rattle.std.proofs.Common.{ap, ◌∙◌, arith}
use Rattle.lfs_model.specs.Fields.{le16, read16}
use Rattle.lfs_model.proofs.Parts.{le16_of_read}
use Rattle.lfs_layout.proofs.Bytes.{little_at}
use Rattle.lfs_layout.proofs.fields.number16_at.Goals as goal

pub returns-clause-read : goal.returns-clause-read
unfolding read16
returns-clause-read c = c.read_u16.ensures ∙ little_at 2 c.args.at c.args.sector.now

pub returns-clause-spelled : goal.returns-clause-spelled
unfolding read16
returns-clause-spelled c = ap le16 (c.read_u16.ensures ∙ little_at 2 c.args.at c.args.sector.now)
    ∙ le16_of_read c.args.at c.args.sector.now c.fits-sector (omega (arith, c.requires, c.told-sector))
