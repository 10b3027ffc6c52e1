-- The inode of a file.
use Rattle.std.proofs.Common.{◌≡◌, ◌<◌, ◌⊎◌, ⊎_elim, inl, inr, length, ◌+◌, ℕ, Bool, List, sym, refl, subst, arith}
use Rattle.lfs_model.specs.Entry.{Inode, IsInode}
use Rattle.lfs_model.specs.Checkpoint.{CheckpointValue, layout_version}
use Rattle.lfs_model.specs.Content.{Content, block}
use Rattle.lfs_model.specs.Reach.{address, view}
use Rattle.lfs_model.specs.Stands.{Inodes}
use Rattle.lfs_verify.specs.Take.{Advances, TakesAddress}
use Rattle.lfs_verify.proofs.Takes.{step_goes}

pub inode_goes : (c : Content) (k : CheckpointValue) (n : ℕ) → n < 4096 → (m m1 : List ℕ) {p : ℕ} → p ≡ address c k (Inode n) → (x : Bool)
    {version : ℕ} → layout_version k ≡ version → TakesAddress (IsInode version n) c m m1 p (48 + n) x
    → Advances (view c k) m m1 (48 + n) (48 + (n + 1)) (Inodes (view c k)) x
inode_goes c k n low m m1 at x {version} same =
    let is_inode = λ (v : ℕ). IsInode v n (block c (address c k (Inode n))) in
    step_goes (view c k) m m1 (Inode n) refl (omega arith) low at c (IsInode version n) (subst is_inode (sym same), subst is_inode same)
    (Inodes (view c k)) (λ inodes. inodes.fresh) (λ inodes. inodes.formed n) x

pub in_marks : (at : ℕ) (old new : List ℕ) → length new ≡ length old → (at ≡ 0) ⊎ (at < length new) → (at ≡ 0) ⊎ (at < length old)
in_marks at old new same h = ⊎_elim (λ (x : at ≡ 0). inl x) (λ (x : at < length new). inr (omega arith)) h
