-- The shape of a mounted volume.
use Rattle.std.specs.Prelude.{◌≡◌, ◌^◌}
use Rattle.lfs_model.specs.Checkpoint.{IsSegmentCount, IsVersion}
use Rattle.lfs_model.specs.declared.limits.TheConstants.{SEGMENT_SECTORS}
use Rattle.lfs_format.specs.declared.shape.Shape.{Shape}
use Rattle.lfs_fs.specs.Volume.{Mounted, segments_of}

-- A shape is that of a volume: it has as many segments, this version, and the units by which its log goes.
pub record IsShapeOf {D : Type 0} (v : Mounted D) (s : Shape) : Type 0 where
  pub segments : s.segments ≡ segments_of v
  pub count : IsSegmentCount s.segments
  pub version : s.version ≡ v.log.version
  pub known : IsVersion s.version
  pub segment : s.segment_sectors ≡ SEGMENT_SECTORS
  pub unit : s.unit ≡ 2 ^ v.log.usage.unit
