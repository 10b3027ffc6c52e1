use Rattle.std.proofs.Common.{rules}
use Rattle.lfs_script.specs.declared.source.ReadError.{ReadError}
use Rattle.lfs_script.proofs.HeardBytes.{hears_next}
use Rattle.lfs_script.proofs.source.Source.next.Goals as goal

pub returns-clause-hears : goal.returns-clause-hears
returns-clause-hears g c =
    hears_next ReadError _ c.args.self.now.chunk.items c.args.self.now.start c.args.self.now.end (search rules) (search rules)
    c.index-byte.ensures
