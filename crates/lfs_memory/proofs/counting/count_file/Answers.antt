use Rattle.std.proofs.Common.{rules}
use Rattle.lfs_memory.proofs.CountedFiles.{file_over, file_counted}
use Rattle.lfs_memory.proofs.counting.count_file.Goals as goal

pub returns-then-not-add-clause-looks : goal.returns-then-not-add-clause-looks
returns-then-not-add-clause-looks g c = record {
  failed =
      file_over (g.D.SectorDevice.state c.args.device.now) (g.D.SectorDevice.state c.count_past.new.device) c.args.memory.now c.args.number
      c.count_past.new.counts c.in_ok-count_past.ensures.counted c.address.ensures (c.if-not-add.ensures.over (search rules));
  no_failure = search rules;
  looks = search rules;
}

pub returns-clause-counted : goal.returns-clause-counted
returns-clause-counted g c =
    file_counted (g.D.SectorDevice.state c.args.device.now) (g.D.SectorDevice.state c.count_past.new.device) c.args.memory.now c.args.number
    c.count_past.new.counts c.in_ok-count_past.ensures.counted c.address.ensures (c.if-not-add.ensures.done (search rules))
