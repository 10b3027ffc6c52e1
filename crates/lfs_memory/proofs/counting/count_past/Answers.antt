use Rattle.std.proofs.Common.{rules}
use Rattle.lfs_memory.proofs.Going.{ok_then}
use Rattle.lfs_memory.proofs.CountedFiles.{past_absent, past_counted, past_fails, on_err_then}
use Rattle.lfs_memory.proofs.counting.count_past.Goals as goal

pub returns-then-not-branch-clause-counted : goal.returns-then-not-branch-clause-counted
returns-then-not-branch-clause-counted g c =
    past_absent (g.D.SectorDevice.state c.args.device.now) (g.D.SectorDevice.state c.read_inode.new.device) c.args.memory.now c.args.number
    c.args.first c.clear.new.self c.clear.ensures
    (c.in_ok-read_inode.ensures.none (search rules))

pub returns-clause-counted : goal.returns-clause-counted
returns-clause-counted g c =
    ok_then c.count_inode.result _ _ (past_counted _ _ _
    _ _ _ c.clear.ensures c.in_ok-read_inode.ensures.looks.looks c.count_inode.ensures.looks
    (c.in_ok-read_inode.ensures.some c.if-not-branch.false).1
    (c.in_ok-read_inode.ensures.bytes c.if-not-branch.false) _) c.count_inode.ensures.done

pub returns-clause-looks : goal.returns-clause-looks
returns-clause-looks g c = record {
  failed = on_err_then c.count_inode.result _ _ (past_fails _ _ _ _
      _ _ c.clear.ensures c.in_ok-read_inode.ensures.looks.looks c.count_inode.ensures.looks
      (c.in_ok-read_inode.ensures.some c.if-not-branch.false).1
      (c.in_ok-read_inode.ensures.bytes c.if-not-branch.false)) c.count_inode.ensures.failed;
  no_failure = search rules;
  looks = search rules;
}
