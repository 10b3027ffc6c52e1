use Rattle.std.proofs.Common.{◌+◌, ◌∙◌, length, ap, arith}
use Rattle.lfs_memory.specs.segments.Chunk.{Chunk}
use Rattle.lfs_memory.specs.segments.Table.{clean_in}
use Rattle.lfs_memory.specs.inodes.Blocks.{TableValue}
use Rattle.lfs_log.proofs.Saves.{segments_taken, many_spare}
use Rattle.lfs_log.specs.Saving.{segments_open}
use Rattle.lfs_log.proofs.Padding.{anew_still}
use Rattle.lfs_log.proofs.committing.write_out.Goals as goal
use Rattle.lfs_memory.proofs.Going.{on_err, goes_then, goes_at_most, stops_then}

-- src/committing.rt:75:5
pub returns-in_err-seal_rest-clause-stopped : goal.returns-in_err-seal_rest-clause-stopped
returns-in_err-seal_rest-clause-stopped g c =
    on_err _ _ (stops_then c.in_ok-place_all.ensures.saves.done.goes c.in_err-seal_rest.ensures.stopped)

-- src/committing.rt:76:5
pub returns-in_err-fill_usage-clause-stopped : goal.returns-in_err-fill_usage-clause-stopped
returns-in_err-fill_usage-clause-stopped g c =
    on_err _ _ (stops_then c.in_ok-place_all.ensures.saves.done.goes
    (stops_then c.in_ok-seal_rest.ensures.done c.in_err-fill_usage.ensures.stopped))

-- src/committing.rt:58:1
pub returns-clause-done : goal.returns-clause-done
returns-clause-done g c =
    let n = length c.args.memory.now.dirty.blocks + 48 + 62 in
    goes_at_most _ _ _ _ _ n (omega arith) (goes_then (goes_then c.in_ok-place_all.ensures.saves.done.goes c.in_ok-seal_rest.ensures.done)
    c.in_ok-fill_usage.ensures.done)

pub fill_usage-requires-clause-anew : goal.fill_usage-requires-clause-anew
fill_usage-requires-clause-anew g c = anew_still c.in_ok-seal_rest.ensures.only c.in_ok-place_all.ensures.anew

pub returns-clause-taken : goal.returns-clause-taken
returns-clause-taken g c =
    let taken = segments_taken c.args.memory.now c.place_all.new.memory (length c.args.memory.now.dirty.blocks)
    c.in_ok-place_all.ensures.saves.done.goes.room in
    let same =
    ap clean_in c.in_ok-fill_usage.ensures.only.segments ∙ c.seal_rest.ensures.only.clean in
    omega (arith, taken, same)

pub returns-in_err-place_all-clause-taken : goal.returns-in_err-place_all-clause-taken
returns-in_err-place_all-clause-taken g c =
    segments_taken c.args.memory.now c.place_all.new.memory (length c.args.memory.now.dirty.blocks)
    c.in_err-place_all.ensures.saves.stopped.room

pub returns-in_err-seal_rest-clause-taken : goal.returns-in_err-seal_rest-clause-taken
returns-in_err-seal_rest-clause-taken g c =
    let taken = segments_taken c.args.memory.now c.place_all.new.memory (length c.args.memory.now.dirty.blocks)
    c.in_ok-place_all.ensures.saves.done.goes.room in
    let same = c.seal_rest.ensures.only.clean in
    omega (arith, taken, same)

pub returns-in_err-fill_usage-clause-taken : goal.returns-in_err-fill_usage-clause-taken
returns-in_err-fill_usage-clause-taken g c =
    let taken = segments_taken c.args.memory.now c.place_all.new.memory (length c.args.memory.now.dirty.blocks)
    c.in_ok-place_all.ensures.saves.done.goes.room in
    let same = ap clean_in c.fill_usage.ensures.only.segments ∙ c.seal_rest.ensures.only.clean in
    omega (arith, taken, same)

pub returns-clause-out : goal.returns-clause-out
returns-clause-out g c =
    let goes = returns-clause-done g c in
    record {
      chunk = ap (λ (x : Chunk). x.names) c.fill_usage.ensures.only.chunk ∙ c.in_ok-seal_rest.ensures.ended;
      dirty = ap (λ (t : TableValue). t.blocks) (c.fill_usage.ensures.only.dirty ∙ c.seal_rest.ensures.only.dirty)
          ∙ c.in_ok-place_all.ensures.dirty;
      maps = rw (c.fill_usage.ensures.only.map ∙ c.seal_rest.ensures.only.map) c.in_ok-place_all.ensures.maps;
      fresh = c.in_ok-fill_usage.ensures.fresh;
      many = many_spare c.args.memory.now c.fill_usage.new.memory (segments_open c.args.memory.now) goes.segments goes.emptied
          c.requires.spare (returns-clause-taken g c);
    }
