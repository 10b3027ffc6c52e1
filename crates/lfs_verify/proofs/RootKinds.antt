-- The root is a directory.
use Rattle.std.proofs.Common.{◌≡◌, ℕ, List, [], get_or, sym, ◌∙◌, ap, subst, arith}
use Rattle.lfs_model.specs.declared.Kind.TheVariants.{Directory}
use Rattle.lfs_model.specs.Checkpoint.{CheckpointValue}
use Rattle.lfs_model.specs.Content.{Content, block}
use Rattle.lfs_model.specs.Entry.{Inode, IsInode, Header, header}
use Rattle.lfs_model.specs.Reach.{address, view}
use Rattle.lfs_model.specs.Stands.{Inodes, Reached}
use Rattle.lfs_model.proofs.Words.{inode_words}
use Rattle.lfs_verify.specs.Directories.{IsDirectoryInode}
use Rattle.lfs_verify.specs.Take.{Lists}

pub no_directory : {bytes : List ℕ} → bytes ≡ [] → (header bytes).kind ≡ Directory → ⊥
unfolding header
no_directory none is = let e = ap (λ (b : List ℕ). (header b).kind) none in absurd (cc)

pub kind_from : {bytes : List ℕ} → IsDirectoryInode bytes → (header bytes).kind ≡ Directory
kind_from {bytes} is = ap (λ (h : Header). h.kind) (inode_words bytes is.value is.spelt).header ∙ is.kind

pub directory_from : {version : ℕ} (n : ℕ) {bytes : List ℕ} → IsInode version n bytes → (header bytes).kind ≡ Directory
    → IsDirectoryInode bytes
directory_from n {bytes} is kind = record {
  value = is.value;
  spelt = is.spelt;
  kind = sym (ap (λ (h : Header). h.kind) (inode_words bytes is.value is.spelt).header) ∙ kind;
}

module _ (c : Content) (k : CheckpointValue) (map : List ℕ) (lists : Lists (view c k) map) where
  pub root_at : {p : ℕ} → p ≡ get_or map 1 0 → p ≡ address c k (Inode 1)
  root_at is = is ∙ lists 1 (omega arith)

  -- a root that isn't there, or can't be read
  pub rootless : (p : ℕ) → p ≡ get_or map 1 0 → block c p ≡ [] → Inodes (view c k) → ⊥
  rootless p is none inodes = no_directory (ap (block c) (sym (root_at is)) ∙ none) inodes.root

  pub other_kind : (p : ℕ) → p ≡ get_or map 1 0 → (p ≡ 0 → ⊥) → (out : List ℕ) → block c p ≡ out → (IsDirectoryInode out → ⊥)
      → Inodes (view c k) → ⊥
  other_kind p is some out read not inodes =
      let here : block c (address c k (Inode 1)) ≡ out = ap (block c) (sym (root_at is)) ∙ read in
      let reached : Reached (view c k) (Inode 1) = omega arith in
      not (subst IsDirectoryInode here (directory_from 1 (inodes.formed 1 reached) inodes.root))

  pub root_kind : (p : ℕ) → p ≡ get_or map 1 0 → {out : List ℕ} → block c p ≡ out → IsDirectoryInode out
      → (header (block c (address c k (Inode 1)))).kind ≡ Directory
  root_kind p is read directory =
      kind_from (subst IsDirectoryInode (sym read ∙ ap (block c) (root_at is)) directory)
