-- What the rows of the calls say of a path's last piece.
use Rattle.std.proofs.Common.{Some, None}
use Rattle.lfs_path.specs.Laws.{LastSays}

pub last_says : LastSays
last_says path None none = cc
last_says path (Some l) is =
    (cc, cc, cc)
