-- A draft that raises the version of the layout, and the totals behind it.
use Rattle.std.proofs.Common.{◌≡◌, ◌+◌, ℕ, true, List, length, Some, None, refl, sym, ap, subst}
use Rattle.std.proofs.Math.Path.{fun_ext}
use Rattle.lfs_model.specs.Need.{pointers}
use Rattle.lfs_model.specs.Objects.{stored_below}
use Rattle.lfs_model.specs.Raising.{raised}
use Rattle.lfs_model.specs.Stands.{LogMap}
use Rattle.lfs_model.specs.Totals.{data_in, meta_in, sum_upto}
use Rattle.lfs_cleaner.specs.log.memory.declared.changes.Changes.{Changes}
use Rattle.lfs_cleaner.specs.log.memory.declared.batch.Loss.TheVariants.{FirstVersion}
use Rattle.lfs_cleaner.specs.log.memory.Batch.{IsNoChange}
use Rattle.lfs_store.specs.declared.draft.Draft.{Draft}
use Rattle.lfs_store.specs.Drafting.{LosesOnly}
use Rattle.lfs_store.specs.Making.{DraftsUpgrade}
use Rattle.lfs_store.specs.Recounting.{AreTotals, CountsUpgraded}

pub upgrades : {c : Changes} {d : Draft} → IsNoChange c → d.changes.headers ≡ c.headers → d.changes.blocks ≡ c.blocks
    → LosesOnly d.changes FirstVersion → DraftsUpgrade d
upgrades none headers blocks only = record {
  map = only.map;
  fits = λ m first. only.fits m first;
  headers = cc;
  blocks = cc;
}

-- ---- the totals
raised_list : (m : LogMap) (n end : ℕ) → stored_below (raised true m) n end ≡ stored_below m n end
unfolding stored_below
raised_list m n end = refl

data_raised : (m : LogMap) → data_in (raised true m) ≡ data_in m
data_raised m = ap (λ (f : ℕ → ℕ). sum_upto f 4095) (fun_ext (λ n. ap length (raised_list _ _ _)))

meta_raised : (m : LogMap) → meta_in (raised true m) ≡ meta_in m
meta_raised m = ap (λ (f : ℕ → ℕ). sum_upto f 4095)
    (fun_ext (λ n. ap (λ (is : List ℕ). elim (m.header n) [ None ↦ 0 | Some h ↦ 1 + pointers is ]) (raised_list _ _ _)))

pub counts_upgraded : {d : Draft} → DraftsUpgrade d → CountsUpgraded d
counts_upgraded is m t are = subst (λ (x : LogMap). AreTotals x t)
    (sym (is.map m)) record { stored = cc (data_raised _); above = cc (meta_raised _) }
