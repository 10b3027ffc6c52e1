use Rattle.std.proofs.Common.{Bool, false, ◌||◌, ap, refl, ◌==◌}
use Rattle.std.specs.List.{list_any}
use Rattle.std.proofs.lemmas.List.{get_or-replicate}
use Rattle.lfs_put.proofs.telling.mark_taken.Goals as goal

pub loop-row-init : goal.loop-row-init
loop-row-init c =
    (refl, λ n less. ap (λ (b : Bool). b || list_any (λ row. row.number == n) c.args.rows.now) (get_or-replicate 4096 n false false less))
