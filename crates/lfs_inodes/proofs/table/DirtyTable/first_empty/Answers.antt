use Rattle.std.proofs.Common.{arith}
use Rattle.lfs_inodes.proofs.Empties.{leads_at, more_lead, all_lead}
use Rattle.lfs_inodes.proofs.table.DirtyTable.first_empty.Goals as goal

pub loop-at-preserved : goal.loop-at-preserved
loop-at-preserved c j lt =
    more_lead c.args.self.now c.loop-at.at c.loop-at.invariant (leads_at c.args.self.now c.key_at-key.result.formed c.key_at-key.ensures
    (c.is_empty.ensures.no (λ on. absurd cc))) j (omega arith)

pub returns-clause-none : goal.returns-clause-none
returns-clause-none c = all_lead c.args.self.now (λ j lt.
    c.loop-at.invariant j (omega arith))
