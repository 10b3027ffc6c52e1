-- What a stop leaves of the lines that a recorder wrote to a mounted volume.
use Rattle.std.proofs.Common.{map}
use Rattle.lfs_model.specs.Device.{DeviceState}
use Rattle.lfs_fs.specs.InARow.{CallsAreKept}
use Rattle.lfs_fs.specs.Volume.{segments_of}
use Rattle.lfs_record.specs.Saving.{LinesAreSaved}
use Rattle.lfs_record.proofs.Stopping.{lines_are_kept}

module _ {D : Type 0} (state : D → DeviceState) where
  pub lines_are_saved : CallsAreKept state → LinesAreSaved state
  lines_are_saved kept old new calls clocks first r r' records i t at c left =
      let row = kept old new (map (λ x. x.0) calls) (map (λ x. x.1) calls) clocks records.served records.keeps first records.saved in
      let runs = records.saved.at.running records.running in
      let lines = lines_are_kept state new.log.device (segments_of old) first r r' calls row.points (record {
        moves = records.moves;
        run = row.run;
        sound = runs.is.log.sound;
        goes_by = records.goes_by;
      }) in
      lines.since i t (row.since i t at) c left
