use Rattle.std.proofs.Common.{sym, subst, ◌∙◌}
use Rattle.lfs_entries.proofs.ChainWalks.{RisesTo, rises_more}
use Rattle.lfs_entries.proofs.renaming.stands_in.Goals as goal

pub loop-directory-preserved : goal.loop-directory-preserved
loop-directory-preserved c = record {
  rises = subst (RisesTo c.args.chain c.args.number.value) (sym c.ascend.ensures) (rises_more c.loop-directory.invariant.rises
      (λ at. c.loop-directory-test.true (c.loop-directory.invariant.here ∙ at)));
  here = c.directory-above.ensures.value;
}
