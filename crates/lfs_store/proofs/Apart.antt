-- What is lost by files, and what is apart from it; and drafts of nothing.
use Rattle.std.proofs.Common.{◌≡◌, ◌≢◌, ◌==◌, ◌+◌, ◌-◌, ◌*◌, ◌/◌, nat_lt, nat_le, ℕ, false, List, [], refl}
use Rattle.std.proofs.lemmas.Bool.{and_left, cond_both, ne_eqb}
use Rattle.lfs_model.specs.Entry.{Entry, Data, Inode, Leaf}
use Rattle.lfs_model.specs.Memory.{parent}
use Rattle.lfs_model.specs.Stands.{LogMap}
use Rattle.lfs_cleaner.specs.log.memory.declared.batch.BlockEdit.{BlockEdit}
use Rattle.lfs_cleaner.specs.log.memory.declared.batch.Cut.{Cut}
use Rattle.lfs_cleaner.specs.log.memory.declared.batch.HeaderEdit.{HeaderEdit}
use Rattle.lfs_cleaner.specs.log.memory.declared.batch.LastLink.{LastLink}
use Rattle.lfs_cleaner.specs.log.memory.declared.batch.Removal.{Removal}
use Rattle.lfs_cleaner.specs.log.memory.declared.batch.Loss.{Loss}
use Rattle.lfs_cleaner.specs.log.memory.declared.batch.Loss.TheVariants.{Nothing, Blocks, Link, File}
use Rattle.lfs_cleaner.specs.log.memory.declared.changes.Changes.{Changes}
use Rattle.lfs_cleaner.specs.log.memory.Batch.{IsNoChange, after_edits, is_lost, staged, FitsLoss, FitEdits, FitsBatch}
use Rattle.lfs_store.specs.Drafting.{IsApart}

-- ---- what is lost

pub nothing_apart : (n : ℕ) → IsApart Nothing n
nothing_apart n = record { inode = refl; above = λ i. refl }

pub link_apart : (l : LastLink) (n : ℕ) → IsApart (Link l) n
link_apart l n = record { inode = refl; above = λ i. refl }

-- an entry above a data block is an inode or a leaf
above_by : (P : Entry → Type 0) (n : ℕ) → P (Inode n) → ((q : ℕ) → P (Leaf n q)) → (i : ℕ) → P (parent (Data n i))
above_by P n inode leaf i = cond_both (nat_lt i 112) (Inode n) (Leaf n ((i - 112) / 128)) P (λ on. inode) (λ off. leaf ((i - 112) / 128))

pub blocks_apart : (x : Cut) (n : ℕ) → n ≢ x.number → IsApart (Blocks x) n
blocks_apart x n ne = record {
  inode = refl;
  above = above_by (λ (y : Entry). is_lost (Blocks x) y ≡ false) _ refl
      (λ q. and_left (n == x.number) (nat_le x.first (112 + 128 * q)) (ne_eqb n x.number ne));
}

pub file_apart : (x : Removal) (n : ℕ) → n ≢ x.number → IsApart (File x) n
file_apart x n ne = record {
  inode = ne_eqb n x.number ne;
  above = above_by (λ (y : Entry). is_lost (File x) y ≡ false) _ (ne_eqb n x.number ne) (λ q. ne_eqb n x.number ne);
}

-- ---- drafts without a header or a block

pub edits_are : {x y : Loss} {hs : List HeaderEdit} {hs' : List HeaderEdit} {bs bs' : List BlockEdit} (m : LogMap) → x ≡ y → hs ≡ hs'
    → bs ≡ bs'
    → after_edits x hs bs m ≡ after_edits y hs' bs' m
edits_are {y} {hs} {bs} m loss headers blocks =
    cc

pub no_change : {c : Changes} {m : LogMap} → IsNoChange c → staged c m ≡ m
no_change none = edits_are _ none.loss none.headers none.blocks

-- what is lost alone
fits_loss : (x : Loss) (m : LogMap) → FitsLoss m x → FitEdits m x [] []
fits_loss x m fits = record { fits_loss = fits; headers_apart = tt; blocks_apart = tt; fit_headers = tt; fit_blocks = tt; within = tt }

pub fits_lost : (c : Changes) {x : Loss} (m : LogMap) → c.loss ≡ x → c.headers.items ≡ [] → c.blocks.items ≡ [] → FitsLoss m x
    → FitsBatch m c
fits_lost c {x} m loss headers blocks fits =
    rw (loss, headers, blocks) (fits_loss x m fits)

pub draft_empty : (c : Changes) (m : LogMap) → IsNoChange c → (staged c m ≡ m) × FitsBatch m c
draft_empty c m none = (no_change none, fits_lost c _ none.loss none.headers none.blocks tt)
