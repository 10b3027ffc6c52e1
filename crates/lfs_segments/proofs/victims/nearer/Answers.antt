use Rattle.lfs_segments.proofs.Choosing.{leads_on}
use Rattle.lfs_segments.proofs.victims.nearer.Goals as goal

pub returns-then-is_behind : goal.returns-then-is_behind
returns-then-is_behind c t known there leads =
    leads_on t c.args.preference c.args.last c.args.next leads there (c.is_behind.ensures.yes c.if-is_behind.true t known there)
    (c.is_ahead.ensures.yes c.if-is_ahead.true t leads.known there)
