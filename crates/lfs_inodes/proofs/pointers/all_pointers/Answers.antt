use Rattle.std.proofs.Common.{sym, get_or, ◌∙◌, ap}
use Rattle.lfs_model.proofs.Words.{pointers_are}
use Rattle.lfs_inodes.proofs.pointers.all_pointers.Goals as goal

pub returns : goal.returns
returns c j low = ap (λ ns. get_or ns j 0) c.to_array.ensures
    ∙ sym (pointers_are c.args.block.now c.new.result c.new.ensures.fits c.new.ensures.spelled j low)
