-- Data blocks on the device are replaced or go without being read.
use Rattle.std.proofs.Common.{◌≡◌, ◌<◌, ◌≤◌, ⊎_elim, ◌+◌, ◌*◌, ◌-◌, ℕ, List, [], length, get_or, Option, Some, refl, sym, ◌∙◌, ap}
use Rattle.std.proofs.Common.{arith}
use Rattle.std.proofs.lemmas.Bool.{cases_lt}
use Rattle.std.proofs.lemmas.List.{same_lists, get_or_default}
use Rattle.std.specs.Prelude.{option_map}
use Rattle.lfs_model.specs.Changing.{IsWithBlock}
use Rattle.lfs_model.specs.Checkpoint.{CheckpointValue}
use Rattle.lfs_model.specs.Content.{block}
use Rattle.lfs_model.specs.Counting.{segment_of}
use Rattle.lfs_model.specs.Device.{DeviceState}
use Rattle.lfs_model.specs.Entry.{Entry, Data, Inode, word}
use Rattle.lfs_model.specs.Memory.{parent, pointer, patched, IsOfFile}
use Rattle.lfs_model.specs.Replacing.{BlockReplacing, BlockLeaving}
use Rattle.lfs_model.specs.Running.{Dirty, Tables, Running, Moves, IsLifted}
use Rattle.lfs_model.specs.Staging.{IsAtAddress, Fetches}
use Rattle.lfs_model.specs.Stands.{LogMap}
use Rattle.lfs_model.proofs.Changed.{block_rewriting, block_removing}
use Rattle.lfs_model.proofs.Entries.{same_entry, file_of_parent, pointer_low, data_below}
use Rattle.lfs_model.proofs.Patching.{byte_before, byte_at, byte_past, length-patched}
use Rattle.lfs_model.proofs.Reading.{reading}
use Rattle.lfs_model.proofs.Running.{pick, pick_yes, pick_no}
use Rattle.lfs_model.proofs.Staging.{fetching}

-- ---- a word that is written twice
pub patched_twice : (w u v : ℕ) (b : List ℕ) → 4 * w + 4 ≤ length b → patched w u (patched w v b) ≡ patched w u b
patched_twice w u v b room =
    let once = length-patched w v b room in
    let more : 4 * w + 4 ≤ length (patched w v b) = omega (arith, length-patched w v b room) in
    same_lists (patched w u (patched w v b)) (patched w u b)
    (length-patched w u (patched w v b) more ∙ once ∙ sym (length-patched w u b room)) (λ o d lt.
    let l = length-patched w u (patched w v b) more in
    get_or_default (patched w u (patched w v b)) o d 0 lt ∙ each o more
    ∙ sym (get_or_default (patched w u b) o d 0 (omega (arith, lt, l, once, length-patched w u b room))))
  where
    each : (o : ℕ) → 4 * w + 4 ≤ length (patched w v b) → get_or (patched w u (patched w v b)) o 0 ≡ get_or (patched w u b) o 0
    each o more = ⊎_elim
        (λ (before : o < 4 * w). byte_before w u (patched w v b) more o before ∙ byte_before w v b room o before
        ∙ sym (byte_before w u b room o before))
        (λ (from : 4 * w ≤ o). ⊎_elim
        (λ (inside : o < 4 * w + 4).
        let e : 4 * w + (o - 4 * w) ≡ o = omega arith in
        ap (λ (k : ℕ). get_or (patched w u (patched w v b)) k 0) (sym e) ∙ byte_at w u (patched w v b) more (o - 4 * w) (omega arith)
        ∙ sym (byte_at w u b room (o - 4 * w) (omega arith)) ∙ ap (λ (k : ℕ). get_or (patched w u b) k 0) e)
        (λ (past : 4 * w + 4 ≤ o). byte_past w u (patched w v b) more o past ∙ byte_past w v b room o past
        ∙ sym (byte_past w u b room o past))
        (cases_lt o (4 * w + 4)))
        (cases_lt o (4 * w))

-- ---- a block above another in memory is whole
module _ (d : DeviceState) (dirty : Dirty) (t : Tables) (k : CheckpointValue) (m0 m : LogMap) (seg : ℕ) (chunk : Option (List Entry))
    (x : Entry) (address : ℕ)
    (w : Running d dirty t k m0 m seg chunk) (file : IsOfFile x) (at : IsAtAddress dirty t x address) (ne : parent x ≡ x → ⊥) where
  pub above_whole : length (at.pointed ne).0 ≡ 512
  above_whole =
      let p = at.pointed ne in
      let c = w.cached.cached (parent x) p.0 p.1 in
      let one = c.1 in
      ap length (sym c.2) ∙ w.laid.long (parent x) (file.0, file_of_parent x ∙ file.1) (omega arith)

-- ---- a data block is replaced or goes: as if it were read, and then changed
module _ (d : DeviceState) (dirty dirty' : Dirty) (t t' : Tables) (k : CheckpointValue) (m0 m m' : LogMap) (seg : ℕ)
    (chunk : Option (List Entry)) (n i address : ℕ)
    (w : Running d dirty t k m0 m seg chunk) (at : IsAtAddress dirty t (Data n i) address) (above : 2 ≤ address)
    (go : IsLifted m t t' (Data n i) 1 (segment_of address)) where
  abbrev old : List ℕ
  old = block d.content address

  below : parent (Data n i) ≡ Data n i → ⊥
  below = data_below n i

  -- the block as it is on the device, in memory
  unfoldable read : Dirty
  read y = pick (same_entry y (Data n i)) (Some old)
      (pick (same_entry y (parent (Data n i))) (option_map (patched (pointer (Data n i)) 1) (dirty y)) (dirty y))

  read_own : read (Data n i) ≡ Some old
  unfolding read
  read_own = pick_yes (same_entry (Data n i) (Data n i)) (Some old) _ refl

  read_above : read (parent (Data n i)) ≡ option_map (patched (pointer (Data n i)) 1) (dirty (parent (Data n i)))
  unfolding read
  read_above = pick_no (same_entry (parent (Data n i)) (Data n i)) (Some old) _ below
      ∙ pick_yes (same_entry (parent (Data n i)) (parent (Data n i))) _ (dirty (parent (Data n i))) refl

  read_kept : (y : Entry) → (y ≡ Data n i → ⊥) → (y ≡ parent (Data n i) → ⊥) → read y ≡ dirty y
  unfolding read
  read_kept y ne np = pick_no (same_entry y (Data n i)) (Some old) _ ne ∙ pick_no (same_entry y (parent (Data n i))) _ (dirty y) np

  was_read : Running d read t' k m0 m seg chunk
  was_read = fetching d dirty read t t' k m0 m seg chunk (Data n i) address old w (n, refl) at above refl
      (λ k h on. let bad : Data n i ≡ Inode k = h in absurd (cc))
      (record { own = read_own; patched = λ ne. read_above; kept = read_kept }) go

  replaced : (bytes : List ℕ) → length bytes ≡ 512 → IsWithBlock m n i bytes m' → Fetches dirty dirty' (Data n i) bytes
      → Running d dirty' t' k m0 m' seg chunk
  replaced bytes long map fetch = block_rewriting d read dirty' t' k m0 m m' seg chunk n i old bytes was_read read_own long map
      (record {
        own = fetch.own;
        others = λ y ne. ⊎_elim
            (λ (up : y ≡ parent (Data n i)). ap dirty' up ∙ fetch.patched below ∙ sym read_above ∙ ap read (sym up))
            (λ (np : y ≡ parent (Data n i) → ⊥). fetch.kept y ne np ∙ sym (read_kept y ne np))
            (same_entry y (parent (Data n i)));
      })

  -- the pointer is written once
  patched_once : option_map (patched (pointer (Data n i)) 0) (dirty (parent (Data n i)))
      ≡ option_map (patched (pointer (Data n i)) 0) (read (parent (Data n i)))
  patched_once =
      let p = at.pointed below in
      let long = above_whole d dirty t k m0 m seg chunk (Data n i) address w (n, refl) at below in
      let small = pointer_low (Data n i) at.low in
      ap (option_map (patched (pointer (Data n i)) 0)) p.1
      ∙ ap Some (sym (patched_twice (pointer (Data n i)) 0 1 p.0 (omega (arith, long, small))))
      ∙ sym (ap (option_map (patched (pointer (Data n i)) 0)) (read_above ∙ ap (option_map (patched (pointer (Data n i)) 1)) p.1))

  left : IsWithBlock m n i [] m' → Moves dirty dirty' (Data n i) 0 → Running d dirty' t' k m0 m' seg chunk
  left map moves = block_removing d read dirty' t' k m0 m m' seg chunk n i old was_read read_own map
      (record {
        gone = moves.gone;
        patched = λ ne. moves.patched ne ∙ patched_once;
        kept = λ y ne np. moves.kept y ne np ∙ sym (read_kept y ne np);
      })

pub block_replacing : BlockReplacing
block_replacing d dirty dirty' t t' k m0 m m' seg chunk n i address bytes w at above long map fetch go =
    replaced d dirty dirty' t t' k m0 m m' seg chunk n i address w at above go bytes long map fetch

pub block_leaving : BlockLeaving
block_leaving d dirty dirty' t t' k m0 m m' seg chunk n i address w at above map moves go =
    left d dirty dirty' t t' k m0 m m' seg chunk n i address w at above go map moves

-- where x stands, by memory
pub address_at : (d : DeviceState) {dirty : Dirty} {t : Tables} (k : CheckpointValue) (m0 m : LogMap) {seg : ℕ}
    {chunk : Option (List Entry)} (x : Entry) (address : ℕ)
    (w : Running d dirty t k m0 m seg chunk) → IsAtAddress dirty t x address → w.memory.at x ≡ address
address_at d k m0 m {seg} x address w at = ⊎_elim
    (λ (top : parent x ≡ x). w.tables.at x top ∙ at.top top)
    (λ (ne : parent x ≡ x → ⊥).
    let p = at.pointed ne in
    let c = w.cached.cached (parent x) p.0 p.1 in
    let one = c.1 in
    sym ((reading d.content m w.memory seg w.laid).pointer x ne at.low (omega arith)) ∙ ap (λ (b : List ℕ). word b (pointer x)) c.2 ∙ p.2)
    (same_entry (parent x) x)
