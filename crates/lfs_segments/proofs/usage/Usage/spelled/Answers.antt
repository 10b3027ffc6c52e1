use Rattle.std.proofs.Common.{sym, subst}
use Rattle.lfs_segments.specs.Steps.{SpellsBlock}
use Rattle.lfs_segments.specs.Spelling.{AreSpelled}
use Rattle.lfs_segments.proofs.Saving.{spells_block}
use Rattle.lfs_segments.proofs.usage.Usage.spelled.Goals as goal

pub returns : goal.returns
returns c =
    let blocks = c.self.inside.spelled.blocks.items in
    let so = subst (λ t. AreSpelled blocks t.segments) c.self.view_is c.self.invariant.3 in
    subst (λ bytes. SpellsBlock c.args.self.now c.args.index bytes) (sym c.get.ensures)
    (spells_block c.args.self.now c.args.index so c.requires)
