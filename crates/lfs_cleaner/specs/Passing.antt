-- A pass of the cleaner, and where one may be made.
use Rattle.std.specs.Prelude.{◌≡◌, ◌⊎◌, ◌<◌, ◌≤◌, ◌+◌, ◌-◌, ◌*◌, ◌^◌, ℕ, List}
use Rattle.lfs_model.specs.Checkpoint.{CheckpointValue}
use Rattle.lfs_model.specs.declared.limits.TheConstants.{LEAST_NEED, NEED_OF_META, NEED_OF_SEGMENT}
use Rattle.lfs_model.specs.Device.{DeviceState}
use Rattle.lfs_model.specs.Encodes.{IsLogMap}
use Rattle.lfs_model.specs.Stands.{LogMap}
use Rattle.lfs_model.specs.Totals.{data_in, meta_in}
use Rattle.lfs_log.specs.segments.Victims.{AreVictims, IsChosen, pass_limit, wanted_gain}
use Rattle.lfs_log.specs.Cleaning.{Cleans}
use Rattle.lfs_log.specs.Thresholds.{IsEighthClean}
use Rattle.lfs_log.specs.LogState.{LogState, Holds, HoldsStill, IsReadFault, AreAllSaved}
use Rattle.lfs_log.specs.segments.Early.{AreUntaken}

module _ {D : Type 0} (state : D → DeviceState) where
  -- A pass over victims that were chosen, where so many segments are wanted: an eighth of the
  -- segments and one at most, by which a segment is gained at least. They are clean then.
  pub record PassesFor (wanted : ℕ) (h h' : LogState D) : Type 0 where
    pub victims : List ℕ
    pub gain : AreVictims h.usage h.totals.meta_blocks (pass_limit h.usage) victims
    pub choice : IsChosen h.usage h.totals.meta_blocks (pass_limit h.usage)
        wanted h.number victims
    pub cleans : Cleans state h h' victims

  -- as many are wanted as are missing to a quarter, and four at least
  abbrev pub Passes : LogState D → LogState D → Type 0
  Passes h h' = PassesFor (wanted_gain h.usage) h h'

  -- The log holds a log map for which a pass may be made. All is saved. An eighth of the segments
  -- is clean at least, but fewer than a quarter. The blocks of the files are within the volume. No
  -- sector was taken since, as is so after a mount and a commit.
  pub record CanPass (h : LogState D) (k : CheckpointValue) (m0 m : LogMap) : Type 0 where
    pub holds : Holds state h k m0 m
    pub map : IsLogMap m
    pub nothing : AreAllSaved h
    pub untaken : AreUntaken h.usage
    pub few : 4 * h.clean < h.segments
    pub many : IsEighthClean h.segments h.clean
    pub counted : h.totals.meta_blocks ≡ meta_in m
    pub need : data_in m + NEED_OF_META * meta_in m + LEAST_NEED ≤ NEED_OF_SEGMENT * h.segments
    pub number : h.number < 2 ^ 64 - 1

  -- there is no such log map, where the device keeps the model
  abbrev pub IsUnfit : LogState D → LogState D → Type 0
  IsUnfit h h' = (k : CheckpointValue) (m0 m : LogMap) → (state h'.device).keeps_model
      → CanPass h k m0 m → ⊥

  -- It isn't made: the log holds what it held, and has no such map.
  pub record RefusesPass (h h' : LogState D) : Type 0 where
    pub still : HoldsStill state h h'
    pub unfit : IsUnfit h h'

  -- A call of the device failed: the log holds what it held.
  pub record FailsPass (h h' : LogState D) : Type 0 where
    pub still : HoldsStill state h h'
    pub fault : IsReadFault state h h'

  -- one that wants a segment, or why it isn't made
  abbrev pub TriesPass : LogState D → LogState D → Type 0
  TriesPass h h' = PassesFor 1 h h' ⊎ (RefusesPass h h' ⊎ FailsPass h h')
