use Rattle.lfs_memory.proofs.PointerRuns.{inode_lacks, inode_run, inode_run_failed}
use Rattle.std.proofs.Common.{ap}
use Rattle.std.specs.Prelude.{Err}
use Rattle.lfs_memory.proofs.Presents.{looks_none}
use Rattle.lfs_memory.proofs.pointers.read_inode_run.Goals as goal

pub returns-in-Ok-clause-read : goal.returns-in-Ok-clause-read
returns-in-Ok-clause-read g c =
    inode_run (g.D.SectorDevice.state c.args.device.now) (g.D.SectorDevice.state c.present_pointers.new.device) c.args.memory.now _
    (assumption c.present_pointers.ensures.follows.looks)
    c.requires.inode.number.some c.requires.inode.is c.requires.inode.there c.inode-inode.ensures c.in-Ok.pointers c.in-Ok.ensures.value

pub returns-in-Err-clause-looks : goal.returns-in-Err-clause-looks
returns-in-Err-clause-looks g c =
    record {
      failed =
          inode_run_failed (g.D.SectorDevice.state c.args.device.now) (g.D.SectorDevice.state c.present_pointers.new.device)
          c.args.memory.now _ (assumption c.present_pointers.ensures.follows.looks)
          c.requires.inode.number.some c.requires.inode.is c.requires.inode.there c.inode-inode.ensures c.in-Err.field-0
          (λ is. c.in-Err.ensures.unreadable (ap Err is)) (λ is. c.in-Err.ensures.follows.failed (ap Err is));
      no_failure = tt;
      looks = assumption c.present_pointers.ensures.follows.looks;
    }

pub returns-then-is_lacking-clause-looks : goal.returns-then-is_lacking-clause-looks
returns-then-is_lacking-clause-looks g c =
    let d = g.D.SectorDevice.state _ in
    record {
      failed =
          inode_lacks d d _ _ (looks_none d) c.requires.inode.number.some c.requires.inode.is c.requires.inode.there c.inode-inode.ensures
          (c.is_lacking.ensures.inside c.if-is_lacking.true) (c.is_lacking.ensures.none c.if-is_lacking.true);
      no_failure = tt;
      looks = looks_none d;
    }
