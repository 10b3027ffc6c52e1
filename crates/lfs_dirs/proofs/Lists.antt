-- The names of a directory, listed from its last block on.
use Rattle.std.specs.Prelude.{min, Err, IsErrOf}
use Rattle.std.proofs.Common.{◌≡◌, ◌≢◌, ◌<◌, ◌≤◌, ◌+◌, ◌*◌, ◌-◌, ℕ, None, List, [], ◌∷◌, ◌++◌, take, drop, refl, sym, ◌∙◌, ap, arith}
use Rattle.std.proofs.lemmas.List.{drop_all}
use Rattle.lfs_model.specs.Device.{IsLawful}
use Rattle.lfs_model.specs.Fields.{part}
use Rattle.lfs_model.specs.Slot.{slot_in}
use Rattle.lfs_model.specs.Stands.{LogMap}
use Rattle.lfs_model.specs.Tree.{slot_len}
use Rattle.lfs_model.specs.TreeOf.{with_slot}
use Rattle.lfs_files.specs.declared.header.Header.{Header}
use Rattle.lfs_files.specs.Files.{FilesState, Reads, TellsBlock}
use Rattle.lfs_files.proofs.FilesCompose.{reads_more, reads_none}
use Rattle.lfs_dirs.specs.declared.entry.Entry.{Entry}
use Rattle.lfs_dirs.specs.Directory.{first_slots, per_block, slot_count, slots_at, slots_in}
use Rattle.lfs_dirs.specs.Finding.{HasNoSlot, IsDirectoryFault, IsBlockFault}
use Rattle.lfs_dirs.specs.Listing.{Inspects, IsGatheredOf, LacksBlockSlot, LacksSlot, Lists, ListsBlock, PutsSlots, gathered, pairs}
use Rattle.lfs_dirs.proofs.Scans.{next_slot, no_slots}
use Rattle.lfs_dirs.proofs.Searches.{block_and_rest, each_is_slot, first_slots_are}
use Rattle.lfs_dirs.proofs.SlotPlaces.{slots_many}
use Rattle.lfs_dirs.proofs.Widths.{block_before}

-- ---- faults
-- a fault is the same one whatever an answer would be
pub other_result : {T U E : Type 0} (e x : E) → IsErrOf {T = T} (Err e) x → IsErrOf {T = U} (Err e) x
other_result e x is = ap Err cc

-- ---- slots of a block
pub puts_none : (form : ℕ) (block : List ℕ) (count : ℕ) (es : List Entry) → PutsSlots form (slots_in form block count (count - count)) es es
puts_none form block count es behind is =
    rw (no_slots form block count count (omega arith)) is

-- a slot before those that are there
pub puts_more : (form : ℕ) (block : List ℕ) (count place next : ℕ) {slot : List ℕ} (old mid new : List Entry) → 0 < place → place ≤ count
    → next ≡ place - 1 → slot ≡ part (slot_len form * next) (slot_len form) block
    → PutsSlots form (slots_in form block place (count - place)) old mid → gathered new ≡ with_slot (slot_in form slot) (gathered mid)
    → slot_in form slot ≢ None → PutsSlots form (slots_in form block next (count - next)) old new
puts_more form block count place next {slot} old mid new some le before own was more formed behind is =
    let split : slots_in form block next (count - next) ≡ slot ∷ slots_in form block place (count - place) =
    next_slot form block next count (omega arith)
    ∙ ap (λ (k : ℕ). part (slot_len form * next) (slot_len form) block ∷ slots_in form block k (count - k)) (omega arith)
    ∙ ap (λ (s : List ℕ). s ∷ slots_in form block place (count - place)) (sym own)
    in
    let tail = was behind is in
    let all : IsGatheredOf form (slot ∷ (slots_in form block place (count - place) ++ behind)) new =
    record { names = cc; formed = (formed, tail.formed) } in
    rw split all

module _ {S D : Type 0} (s s' : FilesState S D) {form d index count : ℕ} (few : count ≤ per_block form) {block : List ℕ}
    (told : TellsBlock s s' d index block) where
  pub block_listed : (old new : List Entry) → PutsSlots form (first_slots form block count) old new
      → ListsBlock s s' form d index count old new
  block_listed old new puts m m' keeps has head same room = rw (first_slots_are m' d head (told m m' keeps has) few room same) puts

  pub block_malformed : HasNoSlot form block count → LacksBlockSlot s s' form d index count
  block_malformed bad m m' keeps has head same room formed = each_is_slot m' d head (told m m' keeps has) few room same formed bad

-- the names alone
pub only_names : {S D : Type 0} (s s' : FilesState S D) (d : ℕ) (head : Header) (es : List Entry) → Inspects s s' d head es
    → Lists s s' d head es
only_names s s' d head es all m m' keeps has = (all m m' keeps has).names

-- ---- the blocks from one of this index on
module _ {S D : Type 0} (d : ℕ) (head : Header) where
  pub record ListedFrom (s s' : FilesState S D) (index : ℕ) (es : List Entry) : Type 0 where
    pub reads : Reads s s'
    pub names : (m m' : LogMap) → s'.device.keeps_model → s.has m m'
        → IsGatheredOf head.form (drop (per_block head.form * index) (slots_at m' d head)) es

  pub list_begins : (s : FilesState S D) (index : ℕ) {es : List Entry} → es ≡ [] → slot_count head ≤ per_block head.form * index
      → ListedFrom s s index es
  list_begins s index {es} none past = record {
    reads = reads_none s;
    names = λ m m' keeps has. rw (drop_all (per_block head.form * index) (slots_at m' d head)
        (omega (arith, slots_many m' d head))) (record { names = cc; formed = tt });
  }

  pub list_ends : {s a : FilesState S D} {index : ℕ} {es : List Entry} (ordered : List Entry) → index ≡ 0 → ListedFrom s a index es
      → pairs ordered ≡ gathered es → Inspects s a d head ordered
  list_ends {index} {es} ordered all was is m m' keeps has =
      let first : per_block head.form * index ≡ 0 = ap (λ (i : ℕ). per_block head.form * i) all ∙ omega arith in
      let from : IsGatheredOf head.form (slots_at m' d head) es =
      rw first at (was.names m m' keeps has) in
      record { names = cc; formed = from.formed }

  -- the block before this index is taken: `slots` are there in all, `whole` in a block, and `count` in this one
  module _ {s a : FilesState S D} (b : FilesState S D) {index count slots whole : ℕ} {old : List Entry} (many : slots ≡ slot_count head)
      (each : whole ≡ per_block head.form) (is_least : count ≡ min (slots - whole * (index - 1)) whole) (some : 0 < index)
      (within : per_block head.form * index < slot_count head + per_block head.form) (was : ListedFrom s a index old) where
    low : per_block head.form * (index - 1) < slot_count head
    low = omega (arith, block_before head.form index some)

    is : count ≡ min (slot_count head - per_block head.form * (index - 1)) (per_block head.form)
    is = omega (arith, ap (λ (w : ℕ). w * (index - 1)) each)

    pub list_goes_on : (new : List Entry) → IsLawful s.device → Reads a b
        → ListsBlock a b head.form d (index - 1) count old new → ListedFrom s b (index - 1) new
    list_goes_on new lawful reads lists = record {
      reads = reads_more lawful was.reads reads;
      names = λ m m' keeps has.
          let listed = slots_at m' d head in
          let here : index ≡ index - 1 + 1 = omega arith in
          let more = lists m m' keeps (was.reads.has m m' has) head refl (omega (arith, is, low))
          (drop (per_block head.form * index) listed) (was.names m m' (reads.looks.carries.kept_before keeps) has) in
          rw (← ap (λ (j : ℕ). take count (drop (per_block head.form * (index - 1)) listed) ++ drop (per_block head.form * j) listed) here
          ∙ sym (block_and_rest head.form listed (index - 1) (slots_many m' d head) is)) more;
    }

    pub list_fails : IsBlockFault a b head.form d (index - 1) count → IsDirectoryFault s b d head
    list_fails failed m m' keeps has dir =
        omega (arith, failed m m' keeps (was.reads.has m m' has) head refl (omega (arith, is, low)) dir)

    pub slot_lacks : LacksBlockSlot a b head.form d (index - 1) count → LacksSlot s b d head
    slot_lacks lacks m m' keeps has = lacks m m' keeps (was.reads.has m m' has) head refl (omega (arith, is, low))
