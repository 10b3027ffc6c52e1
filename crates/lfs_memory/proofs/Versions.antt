-- The version of the layout after a batch.
use Rattle.std.proofs.Common.{◌≡◌, refl, ◌∙◌, List, [], ◌∷◌}
use Rattle.lfs_model.specs.Stands.{LogMap}
use Rattle.lfs_memory.specs.declared.batch.BlockEdit.{BlockEdit}
use Rattle.lfs_memory.specs.declared.batch.HeaderEdit.{HeaderEdit}
use Rattle.lfs_memory.specs.declared.batch.Loss.{Loss}
use Rattle.lfs_memory.specs.declared.batch.Loss.TheVariants.{Nothing, Blocks, Link, File, FirstVersion}
use Rattle.lfs_memory.specs.declared.changes.Changes.{Changes}
use Rattle.lfs_memory.specs.Applying.{after_block, after_blocks, after_header, after_headers}
use Rattle.lfs_memory.specs.Batch.{lost, staged, version_after}

headers_version : (edits : List HeaderEdit) (m : LogMap) → (after_headers edits m).version ≡ m.version
headers_version [] m = refl
headers_version (e ∷ edits) m = headers_version edits (after_header e m)

blocks_version : (edits : List BlockEdit) (m : LogMap) → (after_blocks edits m).version ≡ m.version
blocks_version [] m = refl
blocks_version (e ∷ edits) m = blocks_version edits (after_block e m)

lost_version : (loss : Loss) (m : LogMap) → (lost loss m).version ≡ version_after loss m.version
lost_version Nothing m = refl
lost_version (Blocks c) m = refl
lost_version (Link l) m = refl
lost_version (File r) m = refl
lost_version FirstVersion m = refl

pub staged_version : (c : Changes) (m : LogMap) → (staged c m).version ≡ version_after c.loss m.version
staged_version c m =
    blocks_version c.blocks.items (after_headers c.headers.items (lost c.loss m)) ∙ headers_version c.headers.items (lost c.loss m)
    ∙ lost_version c.loss m
