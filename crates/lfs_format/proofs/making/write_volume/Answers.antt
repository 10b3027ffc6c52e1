use Rattle.std.proofs.Common.{◌∙◌}
use Rattle.lfs_format.proofs.FirstMoments.{making_cleared, making_chunked, making_synced, making_written, volume_made}
use Rattle.lfs_format.proofs.making.write_volume.Goals as goal

pub returns-in_err-clear_slots-clause-making : goal.returns-in_err-clear_slots-clause-making
returns-in_err-clear_slots-clause-making g c =
    let cleared = c.clear_slots.ensures in
    making_cleared cleared.any_moment cleared.touched cleared.carries

pub returns-in_err-write_chunk-clause-making : goal.returns-in_err-write_chunk-clause-making
returns-in_err-write_chunk-clause-making g c =
    let cleared = c.in_ok-clear_slots.ensures in
    making_chunked (g.met.D.SectorDevice.lawful _) cleared.any_moment cleared.touched
    cleared.carries cleared.clear cleared.durable c.write_chunk.ensures.writes

pub returns-in_err-sync-clause-making : goal.returns-in_err-sync-clause-making
returns-in_err-sync-clause-making g c =
    let cleared = c.in_ok-clear_slots.ensures in
    let lawful = g.met.D.SectorDevice.lawful in
    let sync = c.sync.ensures in
    making_synced (lawful _) cleared.any_moment cleared.touched cleared.carries cleared.clear
    cleared.durable c.write_chunk.ensures.writes (lawful _) sync.untouched sync.carries sync.time

pub returns-in_err-write_checkpoint-clause-making : goal.returns-in_err-write_checkpoint-clause-making
returns-in_err-write_checkpoint-clause-making g c =
    let cleared = c.in_ok-clear_slots.ensures in
    let lawful = g.met.D.SectorDevice.lawful in
    let chunk = c.in_ok-write_chunk.ensures in
    let sync = c.in_ok-sync.ensures in
    let written = c.write_checkpoint.ensures in
    making_written (lawful _) cleared.any_moment cleared.touched cleared.carries cleared.clear
    cleared.durable chunk.writes (lawful _) sync.untouched sync.carries sync.time (lawful _)
    c.args.shape.known c.args.shape.unit c.args.shape.count c.requires.size chunk.chunk
    sync.durable written.any_moment written.carries

pub returns-clause-making : goal.returns-clause-making
returns-clause-making g c =
    let cleared = c.in_ok-clear_slots.ensures in
    let lawful = g.met.D.SectorDevice.lawful in
    let chunk = c.in_ok-write_chunk.ensures in
    let sync = c.in_ok-sync.ensures in
    let written = c.write_checkpoint.ensures in
    making_written (lawful _) cleared.any_moment cleared.touched cleared.carries cleared.clear
    cleared.durable chunk.writes (lawful _) sync.untouched sync.carries sync.time (lawful _)
    c.args.shape.known c.args.shape.unit c.args.shape.count c.requires.size chunk.chunk
    sync.durable written.any_moment written.carries

pub returns-clause-made : goal.returns-clause-made
returns-clause-made g c =
    let cleared = c.in_ok-clear_slots.ensures in
    let lawful = g.met.D.SectorDevice.lawful in
    let chunk = c.in_ok-write_chunk.ensures in
    let sync = c.in_ok-sync.ensures in
    let written = c.in_ok-write_checkpoint.ensures in
    volume_made (lawful _) cleared.any_moment cleared.touched cleared.carries cleared.clear
    cleared.durable chunk.writes (lawful _) sync.untouched sync.carries sync.time
    c.args.shape.known c.args.shape.unit c.args.shape.count c.requires.size cleared.others
    chunk.chunk written.carries written.content written.durable
    (written.ends.no_failure ∙ sync.no_failure ∙ chunk.ends.no_failure ∙ cleared.ends.no_failure)
