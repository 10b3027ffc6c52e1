-- What a mounted volume's log map is, how a volume that runs on is put together again after a call, and what an open leaves.
use Rattle.lfs_fs.proofs.Prelude.{shape_of}
use Rattle.lfs_fs.proofs.Prelude.{◌≡◌, ◌⊎◌, ◌≤◌, ◌<◌, ◌+◌, ◌/◌, ◌^◌, ℕ, true, false, List, Some, sym, ◌∙◌, subst, ⊎_elim}
use Rattle.lfs_fs.proofs.Prelude.{CheckpointValue, DeviceState, IsHeaderOf, LogMap, State, is_dir, least_handle, node, IsTree, dropped, At}
use Rattle.lfs_fs.proofs.Prelude.{Resolve, HasClean, HoldsNext, AreTotals, IsIn, Mounted, Runs, segments_of, IsMapOf, IsShaped, shaped_map}
use Rattle.lfs_model.specs.Entry.{Header}
use Rattle.lfs_model.proofs.Committed.{dropped_tree}
use Rattle.lfs_model.proofs.Keeps.{open_keeps}
use Rattle.lfs_store.proofs.of_log.LogReads.{map_headers, map_long}
use Rattle.lfs_fs.proofs.paths.Steps.{open_file, with_handle}

-- ---- the log map of a volume

module _ {D : Type 0} {state : D → DeviceState} {v : Mounted D} {k : CheckpointValue} {m0 m : LogMap} {s : State}
    (is : IsIn state v k m0 m s) where
  pub map_of_volume : IsMapOf (segments_of v) m s
  map_of_volume = record { map = is.map; long = map_long state v.log k m is.holds; log = is.log }

  -- the version that the log has
  pub version_of_volume : s.version ≡ v.log.version
  version_of_volume = is.log.version ∙ is.holds.version

  -- its headers are those of inodes
  pub headers_of_volume : (n : ℕ) (h : Header) → m.header n ≡ Some h → IsHeaderOf n h
  headers_of_volume = map_headers state v.log k m is.holds

  pub shape_of_volume : IsShaped m
  shape_of_volume = shaped_map (segments_of v) map_of_volume headers_of_volume

-- ---- the volume after a call

module _ {D : Type 0} {state : D → DeviceState} {old : Mounted D} (new : Mounted D) (k : CheckpointValue) {m0 : LogMap} (m : LogMap)
    {s : State}
    (is : IsIn state old k m0 m s) where
  -- the acknowledged map is a tree's still
  saved_tree : (next : LogMap) → (next ≡ m0) ⊎ (next ≡ dropped m) → IsTree (segments_of old) next
  saved_tree next either = ⊎_elim
      (λ (e : next ≡ m0). subst (IsTree (segments_of old)) (sym e) is.acknowledged)
      (λ (e : next ≡ dropped m). subst (IsTree (segments_of old)) (sym e) (dropped_tree (segments_of old) m s is.log).tree)
      either

  pub runs_over : {m' : LogMap} (next : State) → HoldsNext state (shape_of k) m0 m new.log m' → segments_of new ≡ segments_of old
      → IsMapOf (segments_of old) m' next
      → next.handles ≡ new.table → AreTotals m' new.log.totals
      → (new.log.saved ≡ false → HasClean new.log × (new.log.number ≤ 2 ^ 62 + segments_of new / 8)) → Runs state new next
  runs_over {m'} next over same map handles counted ready = record {
    checkpoint = over.checkpoint;
    saved = over.acknowledged;
    present = m';
    is = record {
      holds = over.holds;
      map = map.map;
      log = (rw (← same) at map).log;
      handles = handles;
      counted = counted;
      acknowledged = rw same (saved_tree over.acknowledged over.either);
      ready = ready;
    };
  }

-- ---- open

-- a handle more leaves the log map
pub opened_map : (N : ℕ) (m : LogMap) {s : State} → IsMapOf N m s → (p : List ℕ) (n : ℕ) (walk : Resolve s.tree p true (At n))
    → is_dir (node s.tree n) ≡ false → least_handle s.handles < 64
    → IsMapOf N m (with_handle N s p n walk)
opened_map N m {s} is p n walk file some = record {
  map = is.map;
  long = is.long;
  log = record {
    sound = open_keeps N s (with_handle N s p n walk) p is.log.sound (open_file N s p n walk file some);
    is = is.log.is;
    version = is.log.version;
    formed = is.log.formed;
    links = is.log.links;
  };
}
