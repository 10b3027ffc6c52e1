-- A batch of changes in memory: where all is ready it doesn't fail, and the log map after it is the one that was asked for.
use Rattle.std.proofs.Common.{◌≡◌, ◌<◌, ◌⊎◌, inl, inr, ◌+◌, ◌/◌, ◌==◌, ℕ, zero, suc, false, List, [], ◌∷◌, length, get_or, drop}
use Rattle.std.proofs.Common.{None, refl, sym, ◌∙◌, ap, arith}
use Rattle.std.proofs.lemmas.Bool.{cases_eq}
use Rattle.std.proofs.lemmas.List.{drop_more}
use Rattle.lfs_model.specs.Checkpoint.{CheckpointValue}
use Rattle.lfs_model.specs.Device.{DeviceState}
use Rattle.lfs_model.specs.Encodes.{HasInode}
use Rattle.lfs_model.specs.Entry.{Entry, Data, Inode}
use Rattle.lfs_model.specs.Memory.{parent}
use Rattle.lfs_model.specs.Stands.{LogMap}
use Rattle.lfs_model.proofs.Entries.{data_parent_low}
use Rattle.lfs_inodes.specs.Blocks.{blocks_of}
use Rattle.lfs_inodes.specs.MapValue.{MapValue, address_in, block_in}
use Rattle.lfs_memory.specs.declared.batch.BlockEdit.{BlockEdit}
use Rattle.lfs_memory.specs.declared.batch.HeaderEdit.{HeaderEdit}
use Rattle.lfs_memory.specs.declared.memory.LogMemory.{LogMemory}
use Rattle.lfs_memory.specs.Memory.{IsLoose}
use Rattle.lfs_memory.specs.Changing.{ChangesBlock, HasAbove, Stays}
use Rattle.lfs_memory.specs.Lifting.{IsInMemory}
use Rattle.lfs_memory.specs.Preparing.{HasParent, IsHeaderReady, AreBlocksReady, AreHeadersReady}
use Rattle.lfs_memory.specs.Applying.{Applies, FailsToApply, after_batch, AppliesHeader, AppliesHeaders, AppliesBlocks, FailsHeaders}
use Rattle.lfs_memory.specs.Applying.{FailsBlocks, FitsFile, AreHeadersFit, AreBlocksFit, IsInodeAway, IsBlockAway, after_block}
use Rattle.lfs_memory.specs.Applying.{after_blocks, after_header, after_headers}
use Rattle.lfs_memory.proofs.Aboves.{above_changed, created_memory, headed_memory, stays_then}
use Rattle.lfs_memory.proofs.BlockSteps.{block_changed, block_counted, block_stays}
use Rattle.lfs_memory.proofs.HeaderSteps.{file_created, header_changed}
use Rattle.lfs_memory.proofs.Looses.{stays_more}

zero_or : (a : ℕ) (P : Type 0) → (a ≡ 0 → P) → (0 < a → P) → P
zero_or zero P none some = none refl
zero_or (suc a) P none some = some (omega arith)

some_link : (n : ℕ) → (n == 0) ≡ false → 0 < n
some_link zero off = cc
some_link (suc n) off = omega arith

nothing_in_none : (v : LogMemory) (x : Entry) → IsInMemory v x → blocks_of v.dirty x ≡ None → ⊥
nothing_in_none v x has none = cc

-- ---- the inodes that are there
module _ {d : DeviceState} {v : LogMemory} (k : CheckpointValue) {m0 : LogMap} (m : LogMap) (is : IsLoose d v k m0 m) (n : ℕ) where
  inode_at : is.running.memory.at (Inode n) ≡ address_in v.map n
  inode_at = is.running.tables.at (Inode n) refl

  pub has_inode : 0 < address_in v.map n → HasInode m n
  has_inode some = (is.running.laid.inodes n).1 (omega (arith, inode_at))

  inode_some : HasInode m n → address_in v.map n ≡ 0 → ⊥
  inode_some has none = omega (arith, (is.running.laid.inodes n).0 has, inode_at)

-- ---- a header
-- what stays as a file gets one
record KeepsFiles (v v' : LogMemory) (n : ℕ) : Type 0 where
  stay : (z : Entry) → IsInMemory v z → IsInMemory v' z
  own : address_in v.map n ≡ 0 → IsInMemory v' (Inode n)
  others : (l : ℕ) → (l ≡ n → ⊥) → address_in v'.map l ≡ address_in v.map l
  same : 0 < address_in v.map n → address_in v'.map n ≡ address_in v.map n
  blocks : (j : ℕ) → block_in v'.map j ≡ block_in v.map j

keeps_files : (v : LogMemory) {v' : LogMemory} (e : HeaderEdit) → AppliesHeader v v' e → KeepsFiles v v' e.number
keeps_files v {v'} e go = zero_or (address_in v.map e.number) (KeepsFiles v v' e.number)
    (λ none.
    let c = go.creates none in
    record {
      stay = created_memory v v' c;
      own = λ at. (_, c.changes.own);
      others = c.address.others;
      same = λ some. omega arith;
      blocks = λ j. rw c.blocks;
    })
    (λ some.
    let c = go.changes some in
    record {
      stay = headed_memory v v' c;
      own = λ at. absurd (omega arith);
      others = λ l ne. rw c.map;
      same = λ at. rw c.map;
      blocks = λ j. rw c.map;
    })

-- so what is ready stays so
inside_then : (v v' : LogMemory) (n l : ℕ) → KeepsFiles v v' n → IsInMemory v (Inode l) ⊎ (address_in v.map l ≡ 0)
    → IsInMemory v' (Inode l) ⊎ (address_in v'.map l ≡ 0)
inside_then v v' n l keeps was = elim was [
  | inl has ↦ inl (keeps.stay (Inode l) has)
  | inr none ↦ elim (cases_eq l n) [
    | inl here ↦ inl (rw here (keeps.own (ap (address_in v.map) (sym here) ∙ none)))
    | inr ne ↦ inr (keeps.others l ne ∙ none)
  ]
]

header_ready_then : (v v' : LogMemory) (n : ℕ) {l links : ℕ} → KeepsFiles v v' n → IsHeaderReady v l links → IsHeaderReady v' l links
header_ready_then v v' n {l} keeps was = record {
  inside = inside_then v v' n l keeps was.inside;
  mapped = λ some. keeps.blocks (l / 128) ∙ was.mapped some;
}

headers_ready_then : {v v' : LogMemory} {n : ℕ} → KeepsFiles v v' n → (edits : List HeaderEdit) → AreHeadersReady v edits
    → AreHeadersReady v' edits
headers_ready_then keeps [] was = was
headers_ready_then {v} {v'} {n} keeps (e ∷ edits) was =
    (header_ready_then v v' n keeps was.0, headers_ready_then keeps edits was.1)

ready_then : (v v' : LogMemory) (n l i : ℕ) → KeepsFiles v v' n → HasParent v l i → HasParent v' l i
ready_then v v' n l i keeps was = elim was [
  | inl has ↦ inl (keeps.stay (parent (Data l i)) has)
  | inr made ↦ elim (inside_then v v' n l keeps (inr made.0)) [
    | inl has ↦ inl (rw (data_parent_low l i made.1) has)
    | inr none ↦ inr (none, made.1)
  ]
]

blocks_ready_then : (v : LogMemory) {v' : LogMemory} {n : ℕ} → KeepsFiles v v' n → (edits : List BlockEdit) → AreBlocksReady v edits
    → AreBlocksReady v' edits
blocks_ready_then v keeps [] was = was
blocks_ready_then v {v'} {n} keeps (e ∷ edits) was =
    (ready_then v v' n e.number e.index keeps was.0, blocks_ready_then v keeps edits was.1)

module _ (d : DeviceState) (v v' : LogMemory) (k : CheckpointValue) (m0 m : LogMap) (is : IsLoose d v k m0 m) (e : HeaderEdit) where
  in_range : e.number < 4096
  in_range = omega arith

  header_applied : IsHeaderReady v e.number e.header.links → FitsFile m e → AppliesHeader v v' e → IsLoose d v' k m0 (after_header e m)
  header_applied ready fits go = zero_or (address_in v.map e.number) (IsLoose d v' k m0 (after_header e m))
      (λ none. file_created d v v' k m0 m is e.some in_range none
      fits.header (λ named. ready.mapped (some_link e.header.links named)) (go.creates none))
      (λ some. header_changed d v v' k m0 m is in_range fits.header
      (fits.name (has_inode k m is e.number some) ∙ is.hidden e.number in_range)
      (λ named. ready.mapped (some_link e.header.links named)) (go.changes some))

not_away : (v : LogMemory) {n links : ℕ} → IsHeaderReady v n links → IsInodeAway v n → ⊥
not_away v {n} ready away = elim ready.inside [
  | inl has ↦ nothing_in_none v (Inode n) has away.1
  | inr none ↦ omega arith
]

-- ---- headers, one after the other
pub headers_applied : (d : DeviceState) (k : CheckpointValue) {m0 : LogMap} (edits : List HeaderEdit) {v : LogMemory} (w : LogMemory)
    {m : LogMap}
    → IsLoose d v k m0 m → AreHeadersReady v edits → AreHeadersFit m edits
    → AppliesHeaders v edits w → IsLoose d w k m0 (after_headers edits m)
headers_applied d k [] w is ready fit same = rw same is
headers_applied d k {m0} (e ∷ edits) {v} w {m} is ready fit go =
    headers_applied d k edits w (header_applied d v go.0 k m0 m is e ready.0 fit.0 go.1)
    (headers_ready_then (keeps_files v e go.1) edits ready.1) fit.1 go.2

pub headers_never_fail : (edits : List HeaderEdit) (v : LogMemory) → AreHeadersReady v edits → FailsHeaders v edits → ⊥
headers_never_fail [] v ready bad = bad
headers_never_fail (e ∷ edits) v ready bad = elim bad [
  | inl away ↦ not_away v ready.0 away
  | inr later ↦
      headers_never_fail edits later.0 (headers_ready_then (keeps_files v e later.1) edits ready.1) later.2
]

pub blocks_ready_after : (edits : List HeaderEdit) (v w : LogMemory) → AppliesHeaders v edits w → (bs : List BlockEdit)
    → AreBlocksReady v bs → AreBlocksReady w bs
blocks_ready_after [] v w same bs ready = rw same ready
blocks_ready_after (e ∷ edits) v w go bs ready =
    blocks_ready_after edits go.0 w go.2 bs (blocks_ready_then v (keeps_files v e go.1) bs ready)

-- ---- blocks
block_ready_then : (v v' : LogMemory) (e : BlockEdit) → ChangesBlock v v' e.number e.index e.bytes → (l i : ℕ) → HasParent v l i
    → HasParent v' l i
block_ready_then v v' e go l i was = elim was [
  | inl has ↦ inl (above_changed v v' e.long go (Data l i) has)
  | inr made ↦
      inr (ap (λ (a : MapValue). address_in a l) (block_stays v e.long go).1 ∙ made.0, made.1)
]

still_ready : (v : LogMemory) {v' : LogMemory} (e : BlockEdit) → ChangesBlock v v' e.number e.index e.bytes → (edits : List BlockEdit)
    → AreBlocksReady v edits → AreBlocksReady v' edits
still_ready v e go [] was = was
still_ready v {v'} e go (f ∷ edits) was = (block_ready_then v v' e go f.number f.index was.0, still_ready v e go edits was.1)

module _ (d : DeviceState) (v : LogMemory) (k : CheckpointValue) {m0 : LogMap} (m : LogMap) (is : IsLoose d v k m0 m) (e : BlockEdit) where
  below_all : e.number < 4096
  below_all = omega arith

  block_applied : {v' : LogMemory} → ChangesBlock v v' e.number e.index e.bytes → IsLoose d v' k m0 (after_block e m)
  block_applied {v'} go = block_changed d v v' k m0 m is below_all e.long go

  -- the block above one of a file that is there
  has_above : HasParent v e.number e.index → HasInode m e.number → HasAbove (blocks_of v.dirty) (Data e.number e.index)
  has_above ready there = elim ready [
    | inl has ↦ has
    | inr made ↦ absurd (inode_some k m is e.number there made.0)
  ]

  block_not_away : HasParent v e.number e.index → HasInode m e.number → IsBlockAway v e.number e.index → ⊥
  block_not_away ready there away = elim away [
    | inl none ↦ nothing_in_none v (parent (Data e.number e.index)) (has_above ready there) none
    | inr bad ↦ block_counted d v k m0 m is below_all bad
  ]

-- ---- blocks, one after the other
pub blocks_applied : (d : DeviceState) (k : CheckpointValue) (m0 : LogMap) (edits : List BlockEdit) {v : LogMemory} (w : LogMemory)
    {m : LogMap}
    → IsLoose d v k m0 m → AppliesBlocks v edits w
    → IsLoose d w k m0 (after_blocks edits m)
blocks_applied d k m0 [] w is same = rw same is
blocks_applied d k m0 (e ∷ edits) {v} w {m} is go =
    blocks_applied d k m0 edits w (block_applied d v k m is e go.1) go.2

pub blocks_never_fail : (d : DeviceState) (k : CheckpointValue) {m0 : LogMap} (edits : List BlockEdit) {v : LogMemory} {m : LogMap}
    → IsLoose d v k m0 m → AreBlocksReady v edits → AreBlocksFit m edits
    → FailsBlocks v edits → ⊥
blocks_never_fail d k [] is ready fit bad = bad
blocks_never_fail d k (e ∷ edits) {v} {m} is ready fit bad = elim bad [
  | inl away ↦ block_not_away d v k m is e ready.0 fit.0 away
  | inr later ↦
      blocks_never_fail d k edits (block_applied d v k m is e later.1) (still_ready v e later.1 edits ready.1) fit.1 later.2
]

-- ---- the whole batch
module _ (d : DeviceState) (k : CheckpointValue) (m0 : LogMap) {m : LogMap} (headers : List HeaderEdit) (blocks : List BlockEdit)
    (v : LogMemory)
    (is : IsLoose d v k m0 m)
    (headers_ready : AreHeadersReady v headers) (headers_fit : AreHeadersFit m headers) where
  pub batch_applied : (w : LogMemory) → Applies v headers blocks w → IsLoose d w k m0 (after_batch headers blocks m)
  batch_applied w go = blocks_applied d k m0 blocks w (headers_applied d k headers go.0 is headers_ready headers_fit go.1) go.2

  pub batch_never_fails : AreBlocksReady v blocks → AreBlocksFit (after_headers headers m) blocks → FailsToApply v headers blocks → ⊥
  batch_never_fails blocks_ready blocks_fit bad = elim bad [
    | inl first ↦ headers_never_fail headers v headers_ready first
    | inr then ↦
        blocks_never_fail d k blocks (headers_applied d k headers then.0 is headers_ready headers_fit then.1)
        (blocks_ready_after headers v then.0 then.1 blocks blocks_ready) blocks_fit then.2
  ]

-- ---- loops
-- the headers up to here are done, and the rest is still to come
pub record HeadersSoFar (old now : LogMemory) (edits rest : List HeaderEdit) (most : ℕ) : Type 0 where
  pub done : (w : LogMemory) → AppliesHeaders now rest w → AppliesHeaders old edits w
  pub failed : FailsHeaders now rest → FailsHeaders old edits
  pub stays : Stays most old now

pub record BlocksSoFar (old now : LogMemory) (edits rest : List BlockEdit) (most : ℕ) : Type 0 where
  pub done : (w : LogMemory) → AppliesBlocks now rest w → AppliesBlocks old edits w
  pub failed : FailsBlocks now rest → FailsBlocks old edits
  pub stays : Stays most old now

header_stays : (v v' : LogMemory) (e : HeaderEdit) → AppliesHeader v v' e → Stays 1 v v'
header_stays v v' e go =
    zero_or (address_in v.map e.number) (Stays 1 v v') (λ none. (go.creates none).stays) (λ some. stays_more (go.changes some).stays)

module _ {old now : LogMemory} {edits : List HeaderEdit} {i : ℕ} {e : HeaderEdit} (within : i < length edits) (own : get_or edits i e ≡ e)
    (was : HeadersSoFar old now edits (drop i edits) i) where
  first_header : drop i edits ≡ e ∷ drop (i + 1) edits
  first_header = drop_more edits i e within ∙ ap (λ (f : HeaderEdit). f ∷ drop (i + 1) edits) own

  pub headers_then : (next : LogMemory) → AppliesHeader now next e → HeadersSoFar old next edits (drop (i + 1) edits) (i + 1)
  headers_then next go = record {
    done = λ w rest. was.done w (rw first_header (next, go, rest));
    failed = λ bad. was.failed (rw first_header (inr (next, go, bad)));
    stays = stays_then was.stays (header_stays now next e go);
  }

module _ {old now : LogMemory} {edits : List BlockEdit} {i : ℕ} (e : BlockEdit) (within : i < length edits) (own : get_or edits i e ≡ e)
    (was : BlocksSoFar old now edits (drop i edits) i) where
  first_block : drop i edits ≡ e ∷ drop (i + 1) edits
  first_block = drop_more edits i e within ∙ ap (λ (f : BlockEdit). f ∷ drop (i + 1) edits) own

  pub blocks_then : (next : LogMemory) → ChangesBlock now next e.number e.index e.bytes
      → BlocksSoFar old next edits (drop (i + 1) edits) (i + 1)
  blocks_then next go = record {
    done = λ w rest. was.done w (rw first_block (next, go, rest));
    failed = λ bad. was.failed (rw first_block (inr (next, go, bad)));
    stays = stays_then was.stays (block_stays now e.long go).0;
  }
