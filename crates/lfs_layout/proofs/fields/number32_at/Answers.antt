use Rattle.std.proofs.Common.{ap, ◌∙◌, arith}
use Rattle.lfs_model.specs.Fields.{le32, read32}
use Rattle.lfs_model.proofs.Parts.{le32_of_read}
use Rattle.lfs_layout.proofs.Bytes.{little_at}
use Rattle.lfs_layout.proofs.fields.number32_at.Goals as goal

pub returns-clause-read : goal.returns-clause-read
unfolding read32
returns-clause-read c = c.read_u32.ensures ∙ little_at 4 c.args.at c.args.sector.now

pub returns-clause-spelled : goal.returns-clause-spelled
unfolding read32
returns-clause-spelled c = ap le32 (c.read_u32.ensures ∙ little_at 4 c.args.at c.args.sector.now)
    ∙ le32_of_read c.args.at c.args.sector.now c.fits-sector (omega (arith, c.requires, c.told-sector))
