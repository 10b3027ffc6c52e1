use Rattle.lfs_memory.proofs.Presents.{header_absent, inode_answered, inode_failed, looks_failed}
use Rattle.lfs_memory.proofs.present.read_inode.Goals as goal

pub returns-then-address-eq0-clause-answer : goal.returns-then-address-eq0-clause-answer
returns-then-address-eq0-clause-answer g c =
    header_absent _ _ (c.inode_pointer-address.ensures.none c.if-address-eq0.true)

pub returns-clause-answer : goal.returns-clause-answer
returns-clause-answer g c =
    inode_answered (g.D.SectorDevice.state c.args.device.now) (g.D.SectorDevice.state c.read_present.new.device) c.args.memory.now
    (c.inode_pointer-address.ensures.some c.if-address-eq0.false).1 c.inode.ensures c.if-address-eq0.false
    c.in_ok-read_present.ensures.read

pub returns-in_err-read_present-clause-looks : goal.returns-in_err-read_present-clause-looks
returns-in_err-read_present-clause-looks g c =
    looks_failed c.from_residual.ensures.0 c.read_present.ensures.ends.looks
    (inode_failed (g.D.SectorDevice.state c.args.device.now) (g.D.SectorDevice.state c.read_present.new.device) c.args.memory.now
    (c.inode_pointer-address.ensures.some c.if-address-eq0.false).1 c.inode.ensures c.if-address-eq0.false
    c.in_err-read_present.ensures.ends.unread)
