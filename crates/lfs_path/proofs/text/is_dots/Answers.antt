use Rattle.std.proofs.Common.{◌≡◌, false}
use Rattle.lfs_model.specs.Tree.{same_name}
use Rattle.lfs_model.specs.Walk.{dot, dot_dot}
use Rattle.lfs_path.proofs.Texts.{same_is}
use Rattle.lfs_path.proofs.text.is_dots.Goals as goal

pub returns-else-eq : goal.returns-else-eq
returns-else-eq c =
    let no : same_name c.args.piece.now dot ≡ false = cc (same_is c.args.piece.now dot) in
    cc (same_is c.args.piece.now dot_dot)
