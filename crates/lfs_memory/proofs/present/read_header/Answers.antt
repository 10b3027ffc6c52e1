use Rattle.std.proofs.Common.{refl, true}
use Rattle.lfs_memory.proofs.Presents.{header_absent, header_read, inode_answered, inode_failed, looks_failed}
use Rattle.lfs_memory.proofs.present.read_header.Goals as goal

pub returns-then-address-eq0-clause-answer : goal.returns-then-address-eq0-clause-answer
returns-then-address-eq0-clause-answer g c =
    header_absent _ _ (c.inode_pointer-address.ensures.none c.if-address-eq0.true)

pub returns-clause-answer : goal.returns-clause-answer
returns-clause-answer g c =
    let old = g.D.SectorDevice.state _ in
    let new = g.D.SectorDevice.state _ in
    let read = c.in_ok-header.ensures.read in
    header_read old new _ _ read.shown true c.in_ok-header.header (inode_answered old new _
    (c.inode_pointer-address.ensures.some c.if-address-eq0.false).1 c.inode.ensures c.if-address-eq0.false read.value) refl read.is

pub returns-in_err-header-clause-looks : goal.returns-in_err-header-clause-looks
returns-in_err-header-clause-looks g c =
    looks_failed c.from_residual.ensures.0 c.present_header.ensures.ends.looks
    (inode_failed (g.D.SectorDevice.state c.args.device.now) (g.D.SectorDevice.state c.present_header.new.device) c.args.memory.now
    (c.inode_pointer-address.ensures.some c.if-address-eq0.false).1 c.inode.ensures c.if-address-eq0.false
    c.in_err-header.ensures.ends.unread)
