-- What keys of blocks name, and how many blocks there are with one more.
use Rattle.std.proofs.Common.{◌≡◌, ◌≤◌, ◌+◌, ◌/◌, ◌%◌, cond, ℕ, zero, suc, Bool, true, false, arith}
use Rattle.lfs_model.specs.Entry.{Leaf, entry_by}
use Rattle.lfs_inodes.specs.Code.{IsCode, kind_by, entry_at}

pub at_most_one : (b : Bool) (n : ℕ) → cond b n (n + 1) ≤ n + 1
at_most_one true n = omega arith
at_most_one false n = omega arith

low_by : (r f i : ℕ) {n q : ℕ} → (r ≡ 1 → i ≤ 128) → entry_by (kind_by r) f i ≡ Leaf n q → q ≤ 128
low_by zero f i low is = cc
low_by (suc zero) f i {q} low is = let same : i ≡ q = cc in omega arith
low_by (suc (suc zero)) f i low is = cc
low_by (suc (suc (suc r))) f i low is = cc

-- leaves are few
pub leaf_low : {c : ℕ} → IsCode c → (n q : ℕ) → entry_at c ≡ Leaf n q → q ≤ 128
leaf_low {c} is n q leaf =
    low_by (c / 134217728) (c / 32768 % 4096) (c % 32768) (λ one. is.leaf_index (omega arith) (omega arith)) leaf
