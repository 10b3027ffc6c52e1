-- Totals where a draft comes behind what was read.
use Rattle.std.proofs.Common.{sym, subst}
use Rattle.lfs_files.specs.Files.{AreCounted, Counts, FilesState, Reads}

pub counts_then : {S D : Type 0} {s a : FilesState S D} (s' : FilesState S D) → Reads s a → Counts a s' → Counts s s'
counts_then s' one counts m x y keeps has has' log log' counted =
    counts m x y keeps (one.has m x has) has' log log' (subst (AreCounted x) (sym one.drafted) counted)
