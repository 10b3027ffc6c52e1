use Rattle.std.proofs.Common.{sym, ◌∙◌, ap}
use Rattle.lfs_model.specs.Content.{block}
use Rattle.lfs_salvage.specs.Blocks.{goal_address, row_address}
use Rattle.lfs_salvage.proofs.Pointed.{follows_root, follows_row, pointers_given}
use Rattle.lfs_salvage.proofs.blocks.Blocks.take.Goals as goal

pub returns-in-Row-clause-follows : goal.returns-in-Row-clause-follows
returns-in-Row-clause-follows c content way is follows =
    follows_row content c.args.self.now.inode c.args.self.now.row c.row_place-place.result
    (ap (λ q. block content (row_address content c.args.self.now.inode q)) c.row_place-place.ensures
    ∙ sym (ap (block content) (way ∙ ap (goal_address content c.args.self.now) c.in-Row.is)) ∙ is)
    (c.to_array-addresses.ensures ∙ pointers_given c.new.ensures.fits c.new.ensures.spelled) follows

pub returns-in-Root-clause-follows : goal.returns-in-Root-clause-follows
returns-in-Root-clause-follows c content way is follows =
    follows_root content c.args.self.now.inode c.args.self.now.root
    (sym (ap (block content) (way ∙ ap (goal_address content c.args.self.now) c.in-Root.is)) ∙ is)
    (c.to_array-addresses.ensures ∙ pointers_given c.new.ensures.fits c.new.ensures.spelled) follows
