use Rattle.std.proofs.Common.{subst, rules}
use Rattle.lfs_model.specs.Fields.{Are32}
use Rattle.lfs_model.specs.Inode.{FitsInode}
use Rattle.lfs_layout.specs.contracts.inode.Inode.{the_view}
use Rattle.lfs_layout.proofs.inode.Inode.is_fit.Goals as goal

pub returns-then-is_form : goal.returns-then-is_form
unfolding Are32
returns-then-is_form c =
    let k = c.self.inside in
    let back : FitsInode c.args.self.now → FitsInode (the_view k) = λ f. rw c.self.view_is f in (
      (λ yes. subst FitsInode c.self.view_is record {
        number = search rules;
        links = search rules;
        form = search rules;
        size = c.is_size.ensures.0 yes;
        direct_length = search rules;
        direct_fits = search rules;
        single_fits = c.fits_32-2.ensures 0;
        double_fits = c.fits_32-2.ensures 1;
      }),
      (λ f. c.is_size.ensures.1 (back f).size),
    )
