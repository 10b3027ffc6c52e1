-- A table of used sectors that was read from usage blocks that are well formed.
use Rattle.std.proofs.Common.{◌≡◌, ◌<◌, ℕ, List, length, get_or}
use Rattle.lfs_model.specs.Reach.{View}
use Rattle.lfs_model.specs.Stands.{Usages, used_in}
use Rattle.lfs_verify.specs.Tables.{IsUsedTable}

pub used_table : (v : View) {used : List ℕ} → Usages v → length used ≡ v.checkpoint.segments
    → ((s : ℕ) → s < v.checkpoint.segments → get_or used s 0 ≡ used_in v s) → IsUsedTable v used
used_table v usages size each = record {
  size = size;
  each = each;
  fit = usages.fit;
  past = λ s le. (usages.past s le).0;
}
