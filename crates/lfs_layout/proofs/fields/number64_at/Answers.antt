use Rattle.std.proofs.Common.{ap, ◌∙◌, arith}
use Rattle.lfs_model.specs.Fields.{le64, read64}
use Rattle.lfs_model.proofs.Parts.{le64_of_read}
use Rattle.lfs_layout.proofs.Bytes.{little_at}
use Rattle.lfs_layout.proofs.fields.number64_at.Goals as goal

pub returns-clause-read : goal.returns-clause-read
unfolding read64
returns-clause-read c = c.read_u64.ensures ∙ little_at 8 c.args.at c.args.sector.now

pub returns-clause-spelled : goal.returns-clause-spelled
unfolding read64
returns-clause-spelled c = ap le64 (c.read_u64.ensures ∙ little_at 8 c.args.at c.args.sector.now)
    ∙ le64_of_read c.args.at c.args.sector.now c.fits-sector (omega (arith, c.requires, c.told-sector))
