-- Headers of files change in memory, and files are made there: what that leaves of the log.
use Rattle.std.proofs.Common.{◌≡◌, ◌<◌, ◌≤◌, ◌/◌, ◌==◌, ℕ, false, List, Some, refl, sym, ◌∙◌, ap, arith}
use Rattle.std.proofs.Common.{inl, inr}
use Rattle.std.proofs.lemmas.Bool.{cases_eq}
use Rattle.lfs_model.specs.declared.Kind.{Kind}
use Rattle.lfs_model.specs.Checkpoint.{CheckpointValue}
use Rattle.lfs_model.specs.Device.{DeviceState}
use Rattle.lfs_model.specs.Entry.{Entry, Data, Leaf, Double, Inode, Map, Usage, Header, header}
use Rattle.lfs_model.specs.Fields.{zeros}
use Rattle.lfs_model.specs.Laid.{HoldsInode}
use Rattle.lfs_model.specs.Memory.{is_unlinked, is_nameless}
use Rattle.lfs_model.specs.Running.{IsReaddressed}
use Rattle.lfs_model.specs.Stands.{LogMap}
use Rattle.lfs_model.proofs.Headers.{header_changing, file_creating}
use Rattle.lfs_segments.specs.Table.{UsageTable}
use Rattle.lfs_inodes.specs.Blocks.{blocks_of}
use Rattle.lfs_inodes.specs.MapValue.{MapValue, address_in, block_in, is_hidden_in}
use Rattle.lfs_memory.specs.declared.memory.LogMemory.{LogMemory}
use Rattle.lfs_memory.specs.Memory.{IsLoose, AreHidden, table_at, tables_of, segment_in}
use Rattle.lfs_memory.specs.Changing.{FitsHeader, ChangesHeader, Creates, headed, header_with, with_header}
use Rattle.lfs_memory.proofs.Heads.{holds_headed, headed_words, header_headed, holds_new, header_new, new_words}
use Rattle.lfs_memory.proofs.LogMaps.{is_with_header}
use Rattle.lfs_memory.proofs.Looses.{as_memory, tables_same}

-- an inode in memory is one
pub inode_held : {d : DeviceState} {v : LogMemory} {k : CheckpointValue} {m0 m : LogMap} → IsLoose d v k m0 m → (n : ℕ) {old : List ℕ}
    → blocks_of v.dirty (Inode n) ≡ Some old → HoldsInode n old
inode_held is n {old} there =
    let w = is.running in
    let c = w.cached.cached (Inode n) old there in
    rw c.2 at (w.laid.spells (Inode n) (omega arith)).formed

-- the files that are hidden stay so where the one that changes is as nameless as it is hidden
pub hidden_with : (map map' : MapValue) (m : LogMap) (n : ℕ) (h : Header) → AreHidden map m → (h.links == 0) ≡ is_hidden_in map' n
    → ((l : ℕ) → (l ≡ n → ⊥) → is_hidden_in map' l ≡ is_hidden_in map l)
    → AreHidden map' (with_header m n (Some h))
hidden_with map map' m n h hidden own others l lt = elim (cases_eq l n) [
  | inl here ↦ ap (is_nameless (with_header m n (Some h))) here ∙ ap is_unlinked (is_with_header m n {h = Some h}).own ∙ own
      ∙ ap (is_hidden_in map') (sym here)
  | inr ne ↦ ap is_unlinked ((is_with_header m n {h = Some h}).others l ne) ∙ hidden l lt ∙ sym (others l ne)
]

pub nameless_with : (m : LogMap) (n : ℕ) (h : Header) → is_nameless (with_header m n (Some h)) n ≡ (h.links == 0)
nameless_with m n h = ap is_unlinked (is_with_header m n {h = Some h}).own

-- An inode in memory has another header; the file has a name after it where it had one, and its inode map block is to be written then.
pub header_changed : (d : DeviceState) (v v' : LogMemory) (k : CheckpointValue) (m0 m : LogMap) → IsLoose d v k m0 m → {n : ℕ} → n < 4096
    → {kind : Kind} {form links size : ℕ} → FitsHeader kind form links size
    → (links == 0) ≡ is_hidden_in v.map n → ((links == 0) ≡ false → block_in v.map (n / 128) ≡ 1)
    → ChangesHeader v v' n kind form links size → IsLoose d v' k m0 (with_header m n (Some (header_with kind form links size)))
header_changed d v v' k m0 m is {n} few {kind} {form} {links} {size} fits same mapped go =
    let h = header_with kind form links size in
    let m' = with_header m n (Some h) in
    let holds = inode_held is n go.there in
    let says : header (headed kind form n links size go.old) ≡ h = header_headed n holds fits in
    record {
      running = as_memory v v' go.stays.chunk (tables_same v v' go.map go.usage)
          (header_changing d _ _ _ k m0 m m' (segment_in v.chunk)
          _ n go.old (headed kind form n links size go.old) is.running go.there (holds_headed n holds fits)
          (λ w high low. headed_words kind form n links size go.old w (omega arith))
          (rw says (is_with_header m n {h = Some h}))
          (nameless_with m n h ∙ same ∙ sym (is.hidden n few))
          (λ named. mapped (sym (nameless_with m n h) ∙ named))
          go.changes);
      hidden = hidden_with v.map v'.map m n h is.hidden (same ∙ ap (λ (a : MapValue). is_hidden_in a n) (sym go.map))
          (λ l ne. rw go.map);
      segments = go.stays.segments ∙ is.segments;
      unit = ap (λ (u : UsageTable). u.unit) go.usage ∙ is.unit;
    }

-- ---- a new file
module _ (v v' : LogMemory) (n : ℕ) (kind : Kind) (form links size : ℕ) (go : Creates v v' n kind form links size) where
  other_tops : (y : Entry) → (y ≡ Inode n → ⊥) → table_at v'.map v'.usage y ≡ table_at v.map v.usage y
  other_tops (Data l i) ne = refl
  other_tops (Leaf l q) ne = refl
  other_tops (Double l) ne = refl
  other_tops (Inode l) ne = go.address.others l (λ here. ne (ap Inode here))
  other_tops (Map j) ne = rw go.blocks
  other_tops (Usage j) ne = rw go.usage

  readdressed : IsReaddressed (tables_of v) (tables_of v') (Inode n) 1
  readdressed = record {
    at = record { own = λ top. go.address.own; others = λ y top ne. other_tops y ne };
    used = λ i. rw go.usage;
    live = λ i. rw go.usage;
    held = λ i. rw go.usage;
    age = λ i. rw go.usage;
    kept = λ i. rw go.usage;
    stale = λ i. rw go.usage;
  }

-- A file is made under a number that had none; its inode map block is to be written, if it has a name.
pub file_created : (d : DeviceState) (v v' : LogMemory) (k : CheckpointValue) (m0 m : LogMap) → IsLoose d v k m0 m → {n : ℕ} → 1 ≤ n
    → n < 4096 → address_in v.map n ≡ 0
    → {kind : Kind} {form links size : ℕ} → FitsHeader kind form links size → ((links == 0) ≡ false → block_in v.map (n / 128) ≡ 1)
    → Creates v v' n kind form links size → IsLoose d v' k m0 (with_header m n (Some (header_with kind form links size)))
file_created d v v' k m0 m is {n} some few none {kind} {form} {links} {size} fits mapped go =
    let h = header_with kind form links size in
    let m' = with_header m n (Some h) in
    let bytes = headed kind form n links size (zeros 512) in
    let high : n ≤ 4095 = omega arith in
    let says : header bytes ≡ h = header_new n some high kind form links size fits in
    record {
      running = as_memory v v' go.stays.chunk refl
          (file_creating d _ _ _ _ k m0 m m' (segment_in v.chunk) _ n bytes is.running none
          (holds_new n some high fits) (λ w low up. new_words kind form n links size w (omega arith))
          (rw says (is_with_header m n {h = Some h}))
          (λ named. mapped (sym (nameless_with m n h) ∙ named))
          go.changes (readdressed v v' n kind form links size go));
      hidden = hidden_with v.map v'.map m n h is.hidden (sym go.hidden.own) go.hidden.others;
      segments = cc;
      unit = ap (λ (u : UsageTable). u.unit) go.usage ∙ is.unit;
    }
