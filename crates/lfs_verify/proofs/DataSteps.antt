-- The data blocks of a file.
use Rattle.std.proofs.Common.{◌≡◌, ◌<◌, ◌+◌, ◌*◌, ℕ, Bool, List, [], sym, ap, subst, slice_index, arith}
use Rattle.lfs_model.specs.Entry.{Data, Inode, header}
use Rattle.lfs_model.specs.Checkpoint.{CheckpointValue}
use Rattle.lfs_model.specs.Content.{Content, block}
use Rattle.lfs_model.specs.Reach.{address, view}
use Rattle.lfs_model.specs.Stands.{Blocks}
use Rattle.lfs_verify.specs.Walk.{IsDataBytes}
use Rattle.lfs_verify.specs.Take.{Advances, TakesAddress}
use Rattle.lfs_verify.proofs.Takes.{step_goes}

-- no bytes, no data
pub no_data : (i size : ℕ) (bytes : List ℕ) → bytes ≡ [] → IsDataBytes i size bytes → ⊥
no_data i size bytes none d = let z = ap (λ (b : List ℕ). slice_index b d.nonzero.0) none in omega (arith, d.nonzero.1)

-- the block at a place of a row
pub data_goes : (c : Content) (k : CheckpointValue) (n i j : ℕ) → n < 4096 → i + j < 16624 → {size : ℕ}
    → size ≡ (header (block c (address c k (Inode n)))).size → (m m1 : List ℕ) {p : ℕ} → p ≡ address c k (Data n (i + j)) → (x : Bool)
    → TakesAddress (IsDataBytes (i + j) size) c m m1 p (536624 + 16624 * n + i + j) x
    → Advances (view c k) m m1 (536624 + 16624 * n + i + j) (536624 + 16624 * n + i + (j + 1)) (Blocks (view c k)) x
data_goes c k n i j low few {size} sized m m1 at =
    let is_data = λ (s : ℕ). IsDataBytes (i + j) s (block c (address c k (Data n (i + j)))) in
    step_goes (view c k) m m1 (Data n (i + j)) (omega arith) (omega arith) (low, few) at c (IsDataBytes (i + j) size)
    (subst is_data sized, subst is_data (sym sized)) (Blocks (view c k)) (λ blocks. blocks.fresh) (λ blocks reached. record {
      nonzero = blocks.nonzero n (i + j) reached;
      within = blocks.within n (i + j) reached;
      past = blocks.past n (i + j) reached;
    })
