-- The state that a mount finds.
use Rattle.lfs_fs.proofs.Prelude.{◌≡◌, true, false, [], refl, sym, ◌∙◌, DeviceState, Only, IsLogMap, StandsLog, State}
use Rattle.lfs_fs.proofs.Prelude.{Stands, Holds, Mounts, AreTotals, IsAt, IsIn, Mounted, segments_of}
use Rattle.std.specs.List.{AllByRecursion}
use Rattle.lfs_model.specs.Device.{IsSector}
use Rattle.lfs_model.proofs.Committed.{mounted_log}
use Rattle.lfs_model.proofs.Decodes.{are_sized, decoding}
use Rattle.lfs_fs.proofs.calls.Exits.{point_of}

-- ---- a mount

module _ {D : Type 0} (state : D → DeviceState) (d : D) (v : Mounted D) (mounts : Mounts state d v.log)
    (keeps : (state v.log.device).keeps_model) (s : State)
    (is : Stands (state d).content s) (all : AllByRecursion IsSector (state d).content) where
  -- the log map that the device stands for
  abbrev found_log : StandsLog (state d).content is.log
  found_log = record { checkpoint = is.checkpoint; newest = is.found; stands = is.stands }

  found_holds : Holds state v.log is.checkpoint is.log is.log
  found_holds = mounts is.log keeps found_log

  -- it isn't halted
  pub found_running : v.log.halted ≡ false
  found_running = found_holds.running

  pub found_map : IsLogMap is.log
  found_map = (decoding (state d).content is.checkpoint is.log (are_sized (state d).content all) is.stands).0

  same_segments : segments_of v ≡ is.checkpoint.segments
  same_segments = sym found_holds.segments

  pub found_in : v.table ≡ [] → AreTotals is.log v.log.totals → v.log.saved ≡ true → IsIn state v is.checkpoint is.log is.log s
  found_in closed counted saved = record {
    holds = found_holds;
    map = found_map;
    log = rw same_segments (mounted_log (state d).content all s is);
    handles = is.closed ∙ sym closed;
    counted = counted;
    acknowledged = rw same_segments is.tree.tree;
    ready = λ e. absurd (let s = saved in cc);
  }

  -- where a stop leaves what was there
  pub found_at : v.table ≡ [] → AreTotals is.log v.log.totals → v.log.saved ≡ true → Only (state d).content (state v.log.device)
      → IsAt state v (point_of state v s)
  found_at closed counted saved only = record {
    halted = refl;
    number = refl;
    failures = refl;
    failed_orders = refl;
    running = λ e. record { checkpoint = is.checkpoint; saved = is.log; present = is.log; is = found_in closed counted saved };
    leaves = λ c left. (s, rw (only c left) is);
  }
