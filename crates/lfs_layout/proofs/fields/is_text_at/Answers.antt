use Rattle.std.proofs.Common.{length}
use Rattle.std.proofs.lemmas.Slice.Eq.{slice_eq-Decides}
use Rattle.std.proofs.lemmas.Bool.Decides.{Decides-eqb}
use Rattle.lfs_layout.proofs.Bytes.{part_cut}
use Rattle.lfs_layout.proofs.fields.is_text_at.Goals as goal

pub returns : goal.returns
returns c =
    let e = part_cut c.args.at (length c.args.text.now) c.args.sector.now in
    rw (← e) (slice_eq-Decides Decides-eqb _ _ _ c.eq.ensures)
