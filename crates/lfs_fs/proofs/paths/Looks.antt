-- A volume of which nothing was read.
use Rattle.lfs_fs.proofs.Prelude.{refl, DeviceState, reads_none, Fs, OnlyReads, seen}

pub only_none : {D : Type 0} (state : D → DeviceState) (f : Fs D) → OnlyReads state f f
only_none state f = record {
  still = record { reads = reads_none state (seen f).log; table = refl };
  draft = refl;
  drafted = refl;
}
