use Rattle.std.proofs.Common.{◌*◌, ◌+◌, ◌≤◌, length, subst, sym}
use Rattle.lfs_places.specs.Places.{volume_size}
use Rattle.lfs_format.specs.Making.{places_by}
use Rattle.lfs_format.proofs.FirstMoments.{writes_then}
use Rattle.lfs_format.proofs.FirstWrites.{first_blocks}
use Rattle.lfs_format.proofs.making.write_first_blocks.Goals as goal

pub returns-in_err-write_sector-2-clause-writes : goal.returns-in_err-write_sector-2-clause-writes
returns-in_err-write_sector-2-clause-writes g c =
    let lawful = g.met.D.SectorDevice.lawful in
    writes_then (lawful _) c.write_sector.ensures.writes c.write_sector-2.ensures.writes

pub returns-in_err-write_sector-3-clause-writes : goal.returns-in_err-write_sector-3-clause-writes
returns-in_err-write_sector-3-clause-writes g c =
    let lawful = g.met.D.SectorDevice.lawful in
    let two = writes_then (lawful _) c.write_sector.ensures.writes c.write_sector-2.ensures.writes in
    writes_then (lawful _) two c.write_sector-3.ensures.writes

pub returns-in_err-write_sector-4-clause-writes : goal.returns-in_err-write_sector-4-clause-writes
returns-in_err-write_sector-4-clause-writes g c =
    let lawful = g.met.D.SectorDevice.lawful in
    let two = writes_then (lawful _) c.write_sector.ensures.writes c.write_sector-2.ensures.writes in
    let three = writes_then (lawful _) two c.write_sector-3.ensures.writes in
    writes_then (lawful _) three c.write_sector-4.ensures.writes

pub returns-clause-writes : goal.returns-clause-writes
returns-clause-writes g c =
    let lawful = g.met.D.SectorDevice.lawful in
    let two = writes_then (lawful _) c.write_sector.ensures.writes c.write_sector-2.ensures.writes in
    let three = writes_then (lawful _) two c.write_sector-3.ensures.writes in
    writes_then (lawful _) three c.write_sector-4.ensures.writes

pub returns-clause-chunk : goal.returns-clause-chunk
returns-clause-chunk g c keeps =
    let kept_3 = c.write_sector-4.ensures.writes.carries.kept_before keeps in
    let kept_2 = c.write_sector-3.ensures.writes.carries.kept_before kept_3 in
    let kept_1 = c.write_sector-2.ensures.writes.carries.kept_before kept_2 in
    let N = c.args.shape.segments in
    let room : 2 + 64 * N ≤ volume_size (places_by c.args.shape.version) (length (g.D.SectorDevice.state c.args.device.now).content) =
    subst (λ n. 2 + 64 * N ≤ volume_size (places_by c.args.shape.version) n)
    (sym (g.met.D.SectorDevice.lawful c.args.device.now).size) c.requires.size in
    first_blocks c.args.shape.version N c.args.shape.unit_power c.args.shape.count.least c.args.shape.count.most _ _ _ _ _ room
    (rw c.summary_block.ensures at c.in_ok-write_sector.ensures.written kept_1)
    (rw c.root_block.ensures at c.in_ok-write_sector-2.ensures.written kept_2)
    (rw c.map_block.ensures at c.in_ok-write_sector-3.ensures.written kept_3)
    (rw c.usage_block.ensures at c.in_ok-write_sector-4.ensures.written keeps)
