-- Files and kinds of keys.
use Rattle.std.proofs.Common.{◌≡◌, ◌≤◌, ◌/◌, ◌%◌, ℕ, zero, suc, Some, refl, sym, ◌∙◌, ap, arith}
use Rattle.lfs_model.specs.declared.BlockKind.{BlockKind}
use Rattle.lfs_model.specs.declared.BlockKind.TheVariants as kind
use Rattle.lfs_model.specs.Entry.{Leaf, Inode, entry_by}
use Rattle.lfs_model.specs.Memory.{file_of}
use Rattle.lfs_inodes.specs.Code.{IsCode, kind_by, entry_at}

by_rank : (r f i : ℕ) → file_of (entry_by (kind_by r) f i) ≡ Some f
by_rank zero f i = refl
by_rank (suc zero) f i = refl
by_rank (suc (suc zero)) f i = refl
by_rank (suc (suc (suc r))) f i = refl

pub file_is : (code : ℕ) {f : ℕ} → f ≡ code / 32768 % 4096 → file_of (entry_at code) ≡ Some f
file_is code e = by_rank (code / 134217728) (code / 32768 % 4096) (code % 32768) ∙ ap Some (sym e)

pub inode_is : (code : ℕ) {k : BlockKind} → k ≡ kind_by (code / 134217728) → k ≡ kind.Inode → entry_at code ≡ Inode (code / 32768 % 4096)
inode_is code is e = rw (sym is ∙ e)

leaf_rank : (r f i : ℕ) {n q : ℕ} → entry_by (kind_by r) f i ≡ Leaf n q → (r ≡ 1) × (i ≡ q)
leaf_rank zero f i e = cc
leaf_rank (suc zero) f i e = (refl, cc)
leaf_rank (suc (suc zero)) f i e = cc
leaf_rank (suc (suc (suc r))) f i e = cc

pub leaf_low : {code : ℕ} → IsCode code → (n q : ℕ) → entry_at code ≡ Leaf n q → q ≤ 128
leaf_low {code} formed n q e =
    let w = leaf_rank (code / 134217728) (code / 32768 % 4096) (code % 32768) e in
    omega (arith, formed.leaf_index (omega arith) (omega arith))
