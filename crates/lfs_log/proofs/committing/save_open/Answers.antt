use Rattle.std.proofs.Common.{◌∙◌, ap}
use Rattle.lfs_memory.specs.segments.Chunk.{Chunk}
use Rattle.lfs_memory.specs.inodes.Blocks.{TableValue}
use Rattle.lfs_log.proofs.committing.save_open.Goals as goal
use Rattle.lfs_memory.proofs.Going.{on_err}
use Rattle.lfs_log.proofs.Saves.{out_stops, publish_fails, commits}

-- src/committing.rt:101:5
pub returns-in_err-write_out-clause-stopped : goal.returns-in_err-write_out-clause-stopped
returns-in_err-write_out-clause-stopped g c =
    on_err _ _ (out_stops _ _ c.write_out.ensures.told c.in_err-write_out.ensures.stopped)

-- src/committing.rt:102:5
pub returns-in_err-publish-clause-stopped : goal.returns-in_err-publish-clause-stopped
returns-in_err-publish-clause-stopped g c =
    on_err _ _ (publish_fails _
    _ _ c.in_ok-write_out.ensures.done c.write_out.ensures.told c.publish.ensures.told c.in_err-publish.ensures.stopped)

-- src/committing.rt:86:1
pub returns-clause-done : goal.returns-clause-done
returns-clause-done g c =
    let out = c.in_ok-write_out.ensures.out in
    let dirty = c.in_ok-publish.ensures.only.dirty in
    commits _ c.in_ok-write_out.ensures.done c.in_ok-publish.ensures.done c.in_ok-write_out.ensures.taken c.requires.spare
    (ap (λ (x : Chunk). x.names) c.in_ok-publish.ensures.only.chunk ∙ out.chunk) (ap (λ (t : TableValue). t.blocks) dirty ∙ out.dirty)
    (ap (λ (t : TableValue). t.capacity) dirty ∙ c.in_ok-write_out.ensures.capacity)
    c.write_out.ensures.told c.publish.ensures.told
