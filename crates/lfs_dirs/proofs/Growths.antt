-- A slot that is written lies in two blocks at most.
use Rattle.std.proofs.Common.{◌≡◌, ℕ, List, length, arith}
use Rattle.lfs_files.specs.declared.header.Header.{Header}
use Rattle.lfs_files.specs.Files.{FilesState, Reads, Writes}
use Rattle.lfs_model.specs.Tree.{slot_len}
use Rattle.lfs_dirs.specs.Growing.{GrowsDirectory}
use Rattle.lfs_dirs.proofs.Widths.{slot_some}

module _ {S D : Type 0} where
  pub slot_grows : {s s' : FilesState S D} {d : ℕ} {head : Header} {at : ℕ} {slot : List ℕ} → length slot ≡ slot_len head.form
      → Writes s s' d head at slot → GrowsDirectory s s' 1 2
  slot_grows {head} long writes = record {
    headers = writes.headers;
    blocks = omega (arith, (slot_some head.form).1);
  }

  -- a draft that is only read before
  pub grows_behind : {s a s' : FilesState S D} (h k : ℕ) → Reads s a → GrowsDirectory a s' h k → GrowsDirectory s s' h k
  grows_behind h k reads grows = record {
    headers = omega arith;
    blocks = omega arith;
  }
