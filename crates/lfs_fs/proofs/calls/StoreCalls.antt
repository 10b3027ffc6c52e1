-- Calls on files are calls on a store.
use Rattle.lfs_fs.proofs.Prelude.{◌≡◌, ℕ, List, refl, sym, ap, subst, DeviceState, Tree, tree_in, At, End, Store, BlockTotals, LogState}
use Rattle.lfs_fs.proofs.Prelude.{Reads, draft_of, drafted_of, volume_of, with_draft, files_of, reads_none, WalkFault, EndsParent, IsParent}
use Rattle.lfs_fs.proofs.Prelude.{TellsRefusal, Tells, here, Fs, seen, IsStill, EndsRefused, WalksTo}
use Rattle.lfs_files.specs.Files as files
use Rattle.lfs_files.specs.Files.{Counted}
use Rattle.lfs_store.proofs.Known.{reads_staged}
use Rattle.lfs_path.specs.declared.walk_fault.WalkFault.TheVariants as walk
use Rattle.lfs_path.specs.Trees.{HasTree}

-- two numbers as totals
abbrev totals_of : Counted → BlockTotals
totals_of t = record { data_blocks = t.data_blocks; meta_blocks = t.meta_blocks }

module _ {D : Type 0} (state : D → DeviceState) (a b : Store D) where
  -- ---- calls that only read
  module _ (reads : files.Reads (files_of state a) (files_of state b)) where
    pub log_reads : Reads state (volume_of a) (volume_of b)
    log_reads = reads_staged reads.looks reads.staged

    pub same_drafted : drafted_of b ≡ drafted_of a
    same_drafted = ap totals_of reads.drafted

  -- ---- walks of a path
  pub ends_refused : (W : Tree → End → Type 0) (fault : WalkFault) → TellsRefusal (files_of state a) (files_of state b) HasTree W fault
      → EndsRefused state (volume_of a) (volume_of b) (draft_of a) W fault
  ends_refused W walk.NoMemory ends = tt
  ends_refused W fault ends = λ k m0 m keeps holds.
      ends m (with_draft (draft_of a) m) keeps record { checkpoint = k; acknowledged = m0; holds = holds; draft = refl }

  pub ends_parent : (path chain : List ℕ) {d : ℕ} → d ≡ here chain → Tells (files_of state a) (files_of state b) HasTree
      (IsParent path chain) → WalksTo state (volume_of a) (volume_of b) (draft_of a) (EndsParent path) (At d)
  ends_parent path chain same tells k m0 m keeps holds tree =
      subst (λ (n : ℕ). EndsParent path (tree_in (with_draft (draft_of a) m)) (At n)) (sym same)
      (tells m (with_draft (draft_of a) m) keeps record { checkpoint = k; acknowledged = m0; holds = holds; draft = refl } tree).ends

-- a volume whose log is as it was
pub still_logged : {D : Type 0} (state : D → DeviceState) (old new : Fs D) → (seen new).log ≡ (seen old).log
    → new.handles ≡ old.handles → IsStill state (seen old) (seen new)
still_logged {D} state old new log handles = record {
  reads = subst (λ (h : LogState D). Reads state (seen old).log h) (sym log) (reads_none state (seen old).log);
  table = handles;
}
