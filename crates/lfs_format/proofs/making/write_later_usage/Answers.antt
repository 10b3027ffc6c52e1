use Rattle.std.proofs.Common.{◌+◌, ◌*◌, ◌≤◌, length, refl, sym, subst, ◌∙◌, arith}
use Rattle.lfs_places.specs.Places.{volume_size}
use Rattle.lfs_format.specs.Making.{places_by}
use Rattle.lfs_format.proofs.FirstMoments.{writes_none, writes_then}
use Rattle.lfs_format.proofs.FirstWrites.{chunk_more}
use Rattle.lfs_format.proofs.making.write_later_usage.Goals as goal

pub loop-index-init : goal.loop-index-init
loop-index-init g c = record {
  writes = writes_none c.args.shape.version c.args.shape.segments (g.met.D.SectorDevice.lawful c.args.device.now);
  chunk = λ keeps before first. first;
  failures = refl;
}

pub returns-in_err-write_sector-clause-writes : goal.returns-in_err-write_sector-clause-writes
returns-in_err-write_sector-clause-writes g c =
    writes_then (g.met.D.SectorDevice.lawful _) c.loop-index.invariant.writes c.write_sector.ensures.writes

pub loop-index-preserved : goal.loop-index-preserved
loop-index-preserved g c =
    let so_far = c.loop-index.invariant in
    record {
      writes = writes_then (g.met.D.SectorDevice.lawful _) so_far.writes c.write_sector.ensures.writes;
      chunk = λ keeps before first.
          let was = so_far.chunk (c.write_sector.ensures.writes.carries.kept_before keeps) before first in
          let size = sym (g.met.D.SectorDevice.lawful c.args.device.now).size ∙ first.others.size in
          let room : 2 + 64 * c.args.shape.segments ≤ volume_size (places_by c.args.shape.version) (length before) =
          subst (λ n. 2 + 64 * c.args.shape.segments ≤ volume_size (places_by c.args.shape.version) n) size c.requires.size in
          chunk_more c.args.shape.version c.args.shape.segments c.args.shape.unit_power c.args.shape.count.least c.args.shape.count.most
          _ _ (omega arith) (omega arith) room was (c.in_ok-write_sector.ensures.written keeps);
      failures = c.in_ok-write_sector.ensures.ends.no_failure ∙ so_far.failures;
    }
