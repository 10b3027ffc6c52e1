-- What the steps of a commit leave as it was.
use Rattle.std.specs.Prelude.{◌≡◌}
use Rattle.lfs_memory.specs.declared.memory.LogMemory.{LogMemory}

-- all but the chunk that has begun
pub record OnlyChunk (v v' : LogMemory) : Type 0 where
  pub map : v'.map ≡ v.map
  pub dirty : v'.dirty ≡ v.dirty
  pub usage : v'.usage ≡ v.usage

-- all but the usage table and the chunk
pub record OnlyUsage (v v' : LogMemory) : Type 0 where
  pub map : v'.map ≡ v.map
  pub dirty : v'.dirty ≡ v.dirty

-- all but the usage table
pub record OnlyTable (v v' : LogMemory) : Type 0 where
  pub map : v'.map ≡ v.map
  pub dirty : v'.dirty ≡ v.dirty
  pub chunk : v'.chunk ≡ v.chunk

-- all but which usage blocks are stale, and where they stand
pub record OnlyPlaces (v v' : LogMemory) : Type 0 where
  pub map : v'.map ≡ v.map
  pub dirty : v'.dirty ≡ v.dirty
  pub chunk : v'.chunk ≡ v.chunk
  pub segments : v'.usage.segments ≡ v.usage.segments
