-- What a pass of the cleaner brings into memory fits: its blocks of data stood in the
-- victims, and of inodes and blocks of pointers there are no more than the log map has.
use Rattle.std.proofs.Common.{◌≡◌, ◌<◌, ◌≤◌, ◌⊎◌, ⊎_elim, ◌+◌, ℕ, List, [], ◌∷◌, length, Some, None, refl, sym, ◌∙◌, ap}
use Rattle.std.proofs.Common.{arith, inl, inr}
use Rattle.std.specs.Prelude.{sum_by}
use Rattle.lfs_model.specs.Checkpoint.{CheckpointValue}
use Rattle.lfs_model.specs.Device.{DeviceState}
use Rattle.lfs_model.specs.Encodes.{IsLogMap}
use Rattle.lfs_model.specs.Entry.{Entry, Data, Leaf, Double, Inode, Map, Usage}
use Rattle.lfs_model.specs.Members.{IsIn, AreApart}
use Rattle.lfs_model.specs.Memory.{Memory, IsOfFile, IsPointers}
use Rattle.lfs_model.specs.Stands.{LogMap}
use Rattle.lfs_model.specs.Totals.{meta_in}
use Rattle.lfs_model.proofs.MetasCounted.{IsMeta, metas_counted}
use Rattle.lfs_memory.specs.inodes.Blocks.{Blocks, blocks_of, blocks_in}
use Rattle.lfs_memory.specs.segments.Victims.{load_of}
use Rattle.lfs_memory.specs.declared.memory.LogMemory.{LogMemory}
use Rattle.lfs_memory.specs.Lifting.{IsInMemory}
use Rattle.lfs_memory.specs.Memory.{IsLog, IsLoose}
use Rattle.lfs_log.specs.Brought.{OutNumber}
use Rattle.lfs_log.specs.Relocating.{IsAmong, IsDataBlock, StandsWhere}
use Rattle.lfs_log.proofs.Movings.{loose_of}
use Rattle.lfs_log.proofs.StoodBlocks.{segments_counted}

-- ---- blocks of data, and the others
data_or_meta : (x : Entry) → IsOfFile x → IsDataBlock x ⊎ IsMeta x
data_or_meta (Data n i) file = inl tt
data_or_meta (Leaf n q) file = inr tt
data_or_meta (Double n) file = inr tt
data_or_meta (Inode n) file = inr tt
data_or_meta (Map j) file = absurd (let none : None ≡ Some file.0 = file.1 in cc)
data_or_meta (Usage j) file = absurd (let none : None ≡ Some file.0 = file.1 in cc)

pointers_of_file : (x : Entry) → IsPointers x → IsOfFile x
pointers_of_file (Data n i) is = absurd is
pointers_of_file (Leaf n q) is = (n, refl)
pointers_of_file (Double n) is = (n, refl)
pointers_of_file (Inode n) is = absurd is
pointers_of_file (Map j) is = absurd is
pointers_of_file (Usage j) is = absurd is

-- a list of blocks of files, those of data apart
record Sorts (xs : List Entry) : Type 0 where
  datas : List Entry
  metas : List Entry
  count : length xs ≡ length datas + length metas
  data_apart : AreApart datas
  meta_apart : AreApart metas
  data_each : (x : Entry) → IsIn datas x → IsIn xs x × IsDataBlock x
  meta_each : (x : Entry) → IsIn metas x → IsIn xs x × IsMeta x

sorts : (xs : List Entry) → AreApart xs → ((x : Entry) → IsIn xs x → IsOfFile x) → Sorts xs
sorts [] apart files = record {
  datas = [];
  metas = [];
  count = refl;
  data_apart = tt;
  meta_apart = tt;
  data_each = λ x is. absurd is;
  meta_each = λ x is. absurd is;
}
sorts (x ∷ xs) apart files =
    let rest = sorts xs apart.1 (λ y is. files y (inr is)) in
    let sum = rest.count in
    ⊎_elim
    (λ (own : IsDataBlock x). record {
      datas = x ∷ rest.datas;
      metas = rest.metas;
      count = omega (arith, sum);
      data_apart = (λ is. apart.0 (rest.data_each x is).0, rest.data_apart);
      meta_apart = rest.meta_apart;
      data_each = λ y is. ⊎_elim
          (λ (here : y ≡ x). (inl here, rw here own))
          (λ (later : IsIn rest.datas y). (inr (rest.data_each y later).0, (rest.data_each y later).1))
          is;
      meta_each = λ y is. (inr (rest.meta_each y is).0, (rest.meta_each y is).1);
    })
    (λ (own : IsMeta x). record {
      datas = rest.datas;
      metas = x ∷ rest.metas;
      count = omega (arith, sum);
      data_apart = rest.data_apart;
      meta_apart = (λ is. apart.0 (rest.meta_each x is).0, rest.meta_apart);
      data_each = λ y is. (inr (rest.data_each y is).0, (rest.data_each y is).1);
      meta_each = λ y is. ⊎_elim
          (λ (here : y ≡ x). (inl here, rw here own))
          (λ (later : IsIn rest.metas y). (inr (rest.meta_each y later).0, (rest.meta_each y later).1))
          is;
    })
    (data_or_meta x (files x (inl refl)))

-- ---- what came into memory that was empty
module _ (d : DeviceState) (v : LogMemory) (k : CheckpointValue) (m0 m : LogMap) (is : IsLoose d v k m0 m) (map : IsLogMap m)
    (nothing : v.dirty.blocks ≡ []) where
  abbrev M : Memory
  M = is.running.memory

  none_there : (x : Entry) → blocks_of v.dirty x ≡ None
  none_there x = ap (λ (bs : Blocks). blocks_in bs x) nothing

  none_inside : (x : Entry) → IsInMemory v x → ⊥
  none_inside x there = let bad : None ≡ Some there.0 = sym (none_there x) ∙ there.1 in absurd (cc)

  not_one : (x : Entry) → IsOfFile x → M.at x ≡ 1 → ⊥
  not_one x file one = none_inside x (is.running.cached.found x file one)

  -- distinct blocks that stand on the device, those of data in some segments
  blocks_fit : (vs : List ℕ) (xs : List Entry) → AreApart xs → ((x : Entry) → IsIn xs x → IsOfFile x)
      → ((x : Entry) → IsIn xs x → StandsWhere (IsAmong vs) M x)
      → length xs ≤ sum_by (load_of v.usage) vs + meta_in m
  blocks_fit vs xs apart files stand =
      let parts = sorts xs apart files in
      let metas = metas_counted _ m _ _ is.running.laid map
      (λ x pointers one. absurd (not_one x (pointers_of_file x pointers) one)) _ parts.meta_apart
      (λ x there. (let own = parts.meta_each x there in (own.1, let up = (stand x own.0).0 in omega (arith, up)))) in
      let datas = segments_counted m is.running.laid (load_of v.usage)
      (λ s. let l = is.running.tables.live s in let h = is.running.tables.held s in omega (arith, l, h))
      vs parts.datas parts.data_apart
      (λ x there. (let own = parts.data_each x there in let here = stand x own.0 in (here.0, here.1 own.1))) in
      let sum = parts.count in
      omega (arith, metas, datas, sum)

-- more blocks than so many stood there
pub out_numbered : (d : DeviceState) (v : LogMemory) (k : CheckpointValue) (m0 m : LogMap) (is : IsLog d v k m0 m) → IsLogMap m
    → v.dirty.blocks ≡ [] → (vs : List ℕ) (most : ℕ) → OutNumber vs most is.running.memory
    → most < sum_by (load_of v.usage) vs + meta_in m
unfolding loose_of
out_numbered d v k m0 m is map nothing vs most over =
    let fit = blocks_fit d v k m0 m (loose_of is) map nothing vs over.blocks over.apart over.files over.stood in
    let count = over.counted in
    omega (arith, fit, count)
