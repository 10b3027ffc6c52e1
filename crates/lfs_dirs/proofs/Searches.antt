-- A name looked up in a directory, block by block.
use Rattle.std.specs.Prelude.{min}
use Rattle.std.proofs.Common.{◌≡◌, ◌≢◌, ◌<◌, ◌≤◌, ⊎_elim, ◌+◌, ◌*◌, ◌-◌, ℕ, zero, suc, List, [], ◌∷◌, ◌++◌, length, take, drop, get_or}
use Rattle.std.proofs.Common.{Option, Some, None, refl, sym, ◌∙◌, ap, arith}
use Rattle.std.proofs.lemmas.Bool.{cases_lt}
use Rattle.std.proofs.lemmas.List.{take-append-drop, drop-drop, drop_all}
use Rattle.std.specs.FinMap.{find}
use Rattle.std.specs.List.{AllByRecursion}
use Rattle.lfs_model.specs.Device.{IsLawful}
use Rattle.lfs_model.specs.Slot.{slot_in}
use Rattle.lfs_model.specs.Stands.{LogMap}
use Rattle.lfs_model.specs.Tree.{byte_cmp}
use Rattle.lfs_model.specs.TreeOf.{map_of}
use Rattle.lfs_files.specs.declared.header.Header.{Header}
use Rattle.lfs_files.specs.Files.{FilesState, HoldsBlock, IsFault, Reads, TellsBlock}
use Rattle.lfs_files.proofs.FilesCompose.{reads_more}
use Rattle.lfs_dirs.specs.Directory.{first_slots, names_at, per_block, slot_count, slots_at}
use Rattle.lfs_dirs.specs.declared.searching.Found.{Found}
use Rattle.lfs_dirs.specs.Finding.{Finds, HasNoSlot, IsDirectoryFault, IsBlockFault}
use Rattle.lfs_dirs.specs.Listing.{AreSlots}
use Rattle.lfs_dirs.specs.Searching.{FindsIn, FindsInBlock, FindsInNth, FindsName, FindsSlot, count_in_nth, slots_in_nth}
use Rattle.lfs_dirs.proofs.SlotNames.{gives_some, gives_none}
use Rattle.lfs_dirs.proofs.SlotsGive.{slot_gives}
use Rattle.lfs_dirs.proofs.Widths.{next_block}
use Rattle.lfs_dirs.proofs.SlotPlaces.{slot_of_block, slots_many, slots_of_block}

-- ---- lists
all_at : {X : Type 0} (P : X → Type 0) (xs : List X) (j : ℕ) (d : X) → AllByRecursion P xs → j < length xs → P (get_or xs j d)
all_at P [] j d all low = absurd (omega arith)
all_at P (x ∷ xs) zero d all low = all.0
all_at P (x ∷ xs) (suc j) d all low = all_at P xs j d all.1 (omega arith)

-- the slots from a block on are those of the block, of which the last may have fewer than the others, and those behind
pub block_and_rest : (form : ℕ) (a : List (List ℕ)) (index : ℕ) {count all : ℕ} → length a ≡ all
    → count ≡ min (all - per_block form * index) (per_block form)
    → drop (per_block form * index) a ≡ take count (drop (per_block form * index) a) ++ drop (per_block form * (index + 1)) a
block_and_rest form a index {count} {all} long is =
    cc (take-append-drop count (drop (per_block form * index) a), drop-drop count (per_block form * index) a, rest)
  where
    next : per_block form * (index + 1) ≡ per_block form * index + per_block form
    next = next_block form index

    rest : drop (per_block form * index + count) a ≡ drop (per_block form * (index + 1)) a
    rest = ⊎_elim
        (λ (less : all < per_block form * index + per_block form). drop_all (per_block form * index + count) a
        (omega arith) ∙ sym (drop_all (per_block form * (index + 1)) a (omega (arith, next))))
        (λ (full : per_block form * index + per_block form ≤ all). ap (λ (n : ℕ). drop n a) (omega (arith, next)))
        (cases_lt all (per_block form * index + per_block form))

-- ---- one block
-- where an object's slots are, each slot of its block is one
-- the same where the form is known by another name
module _ (m : LogMap) (d : ℕ) (head : Header) {form index count : ℕ} {block : List ℕ} (is : HoldsBlock m d index block)
    (few : count ≤ per_block form) (room : per_block form * index + count ≤ slot_count head) (same : head.form ≡ form) where
  pub first_slots_are : take count (drop (per_block form * index) (slots_at m d head)) ≡ first_slots form block count
  first_slots_are = rw (← same) (slots_of_block m d head index count block is (rw same few) (rw (← same) at room))

  pub each_is_slot : AreSlots head.form (slots_at m d head) → HasNoSlot form block count → ⊥
  each_is_slot formed bad =
      let inside = rw (← same) at room in
      let low : bad.place < per_block head.form = rw same (omega (arith, few, bad.inside)) in
      all_at (λ b. slot_in head.form b ≢ None) (slots_at m d head) (per_block head.form * index + bad.place) [] formed
      (omega (arith, slots_many m d head, bad.inside))
      (cc (slot_of_block m d head bad.place is low (omega (arith, bad.inside)), bad.none))

module _ {S D : Type 0} (s s' : FilesState S D) {form d index count : ℕ} (few : count ≤ per_block form) {block : List ℕ}
    (told : TellsBlock s s' d index block) where
  pub block_found : (name : List ℕ) (found : Option Found) → FindsIn form (first_slots form block count) name found
      → FindsInBlock s s' form d index count name found
  block_found name found is m m' keeps has head same room = rw (first_slots_are m' d head (told m m' keeps has) few room same) is

  pub block_broken : HasNoSlot form block count → IsBlockFault s s' form d index count
  block_broken bad m m' keeps has head same room dir = absurd (each_is_slot m' d head (told m m' keeps has) few room same dir.formed bad)

pub block_failed : {S D : Type 0} (s s' : FilesState S D) {form d : ℕ} (index count : ℕ) → IsFault s s'
    → IsBlockFault s s' form d index count
block_failed s s' index count failed m m' keeps has head same room dir = failed m m' keeps has

-- ---- a search behind another
module _ {S D : Type 0} (s a b : FilesState S D) (d : ℕ) (head : Header) (reads : Reads s a) where
  pub faults_behind : IsDirectoryFault a b d head → IsDirectoryFault s b d head
  faults_behind failed m m' keeps has dir =
      omega (arith, failed m m' keeps (reads.has m m' has) dir, reads.looks.carries.failures)

-- where no two slots have one name, the slot of a block is that of the directory
pub names_near : {S D : Type 0} (s s' : FilesState S D) (d : ℕ) (head : Header) (index : ℕ) (name : List ℕ) (found : Found)
    → FindsInNth s s' d head index name (Some found) → FindsName s s' d head name found
names_near s s' d head index name found hit m m' keeps has dir =
    let slot = hit m m' keeps has in
    record {
      gives = (slot_gives head.form (slots_at m' d head) name found.number.value).1 dir.apart found.place
          record { inside = slot.inside; slot = slot.slot };
      inside = slot.inside;
      slot = slot.slot;
    }

-- ---- the blocks before one of this index don't have the name
module _ {S D : Type 0} (d : ℕ) (head : Header) (name : List ℕ) where
  pub record SearchedTo (s s' : FilesState S D) (index : ℕ) : Type 0 where
    pub reads : Reads s s'
    pub behind : (m m' : LogMap) → s'.device.keeps_model → s.has m m'
        → find byte_cmp name (map_of head.form (drop (per_block head.form * index) (slots_at m' d head)))
        ≡ find byte_cmp name (names_at m' d head)

  pub search_ends : {s a : FilesState S D} {index : ℕ} → slot_count head ≤ per_block head.form * index → SearchedTo s a index
      → FindsSlot s a d head name None
  search_ends {s} {index} past was m m' keeps has =
      cc (was.behind m m' keeps has, drop_all (per_block head.form * index) (slots_at m' d head) (omega (arith, slots_many m' d head)))

  -- ---- a block more
  module _ {s a : FilesState S D} (b : FilesState S D) {index : ℕ} (was : SearchedTo s a index) where
    pub search_goes_on : IsLawful s.device → Reads a b → FindsInNth a b d head index name None → SearchedTo s b (index + 1)
    search_goes_on lawful reads none = record {
      reads = reads_more lawful was.reads reads;
      behind = λ m m' keeps has.
          let slots = slots_at m' d head in
          cc (
            block_and_rest head.form slots index {count = count_in_nth head index} (slots_many m' d head) refl,
            gives_none head.form
                (slots_in_nth m' d head index) (drop (per_block head.form * (index + 1)) slots) name
                (none m m' keeps (was.reads.has m m' has)),
            was.behind m m' (reads.looks.carries.kept_before keeps) has,
          );
    }

    pub search_hits : (found : Found) → Reads a b → FindsInNth a b d head index name (Some found) → FindsSlot s b d head name (Some found)
    search_hits found reads hit m m' keeps has =
        let slots = slots_at m' d head in
        let slot = hit m m' keeps (was.reads.has m m' has) in
        record {
          gives =
              cc (
                was.behind m m' (reads.looks.carries.kept_before keeps) has,
                block_and_rest head.form slots index
                    {count = count_in_nth head index} (slots_many m' d head) refl,
                gives_some head.form (slots_in_nth m' d head index)
                    (drop (per_block head.form * (index + 1)) slots) name found.number.value slot.gives,
              );
          inside = slot.inside;
          slot = slot.slot;
        }

    pub search_fails : IsDirectoryFault a b d head → IsDirectoryFault s b d head
    search_fails = faults_behind s a b d head was.reads

-- what a name gives by its slot
pub finds : {S D : Type 0} (s s' : FilesState S D) (d : ℕ) (head : Header) (name : List ℕ) (found : Option Found)
    → FindsSlot s s' d head name found → Finds s s' d head name found
finds s s' d head name None none m m' keeps has = sym (none m m' keeps has)
finds s s' d head name (Some found) some m m' keeps has = sym (some m m' keeps has).gives
