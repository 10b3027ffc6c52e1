-- Where a volume is in a state there is room that can be made: what the tree needs is within the volume, and what was saved is at rest.
use Rattle.lfs_fs.proofs.Prelude.{◌<◌, ◌^◌, arith, CheckpointValue, DeviceState, IsLawful, LogMap, State, dropped_log, totals_of_tree}
use Rattle.lfs_fs.proofs.Prelude.{segment_count, few_checkpoints, IsIn, Mounted, segments_of}
use Rattle.lfs_store.specs.cleaner.Making.{MayMakeClean}
use Rattle.lfs_steps.proofs.volume.Nodes.{need_counted}
use Rattle.lfs_fs.proofs.volume.Map.{headers_of_volume, map_of_volume}

module _ {D : Type 0} {state : D → DeviceState} {v : Mounted D} (lawful : IsLawful (state v.log.device))
    (low : v.log.number < 2 ^ 62) (k : CheckpointValue) (m0 m : LogMap) {s : State} (is : IsIn state v k m0 m s) where
  pub has_room : MayMakeClean state v.log k m0 m
  has_room =
      let needs = (need_counted totals_of_tree (segments_of v) m s (map_of_volume is) (headers_of_volume is) is.counted).0 in
      let room = is.log.sound.room in
      let most = (segment_count state lawful is.holds).most in
      let few = few_checkpoints v.log in
      record {
        holds = is.holds;
        map = is.map;
        shown = dropped_log (segments_of v) m s is.log is.map;
        counted = is.counted;
        need = omega (arith, needs, room);
        enough = λ e. (is.ready e).0;
        number = omega (arith, low, most, few);
      }
