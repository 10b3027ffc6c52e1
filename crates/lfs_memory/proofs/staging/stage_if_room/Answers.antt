use Rattle.std.proofs.Common.{List, subst, rules}
use Rattle.lfs_memory.specs.declared.batch.BlockEdit.{BlockEdit}
use Rattle.lfs_memory.specs.Staging.{IsBatchExcused}
use Rattle.lfs_memory.proofs.staging.stage_if_room.Goals as goal

pub returns-in-Err-clause-ends : goal.returns-in-Err-clause-ends
returns-in-Err-clause-ends g c =
    let d = g.D.SectorDevice.state c.args.device.now in
    let d' = g.D.SectorDevice.state c.stage_with_room.new.device in
    record {
      full = search rules;
      failed = λ is. subst
          (λ (bs : List BlockEdit). IsBatchExcused d d' c.args.memory.now c.args.changes.now.loss c.args.changes.now.headers.items bs)
          c.as_slice-blocks.ensures.value
          (rw c.as_slice-headers.ensures.value at c.in-Err.ensures.failed);
      other = search rules;
      no_failure = search rules;
    }
