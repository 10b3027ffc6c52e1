use Rattle.std.proofs.Common.{rules}
use Rattle.lfs_store.proofs.PiecesLaid.{copied_overlays}
use Rattle.lfs_store.proofs.pieces.overlay.Goals as goal

pub returns-then-start-stop : goal.returns-then-start-stop
returns-then-start-stop c =
    copied_overlays c.copy_from_slice.new.self c.saturating_sub-skip.result c.place_in_block-start.result c.place_in_block-stop.result
    (search rules) (search rules) (search rules) (search rules) (search rules) (search rules)
