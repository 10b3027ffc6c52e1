-- Where the slots of a directory stand in its blocks.
use Rattle.std.specs.Prelude.{slice_index}
use Rattle.std.proofs.Common.{◌≡◌, ◌<◌, ◌+◌, ◌*◌, ◌%◌, ℕ, List, [], length, take, drop, get_or, refl, sym, ◌∙◌, ap, arith}
use Rattle.std.proofs.lemmas.Grind.{same_number_lists}
use Rattle.std.proofs.lemmas.List.{length-take, length-drop, get_or-take, get_or-drop, ext_get_or}
use Rattle.std.proofs.lemmas.List.FromFn.{length-map-range_with_len, get_or-map-range_with_len}
use Rattle.lfs_model.specs.Fields.{part}
use Rattle.lfs_model.specs.Objects.{byte_in}
use Rattle.lfs_model.specs.Stands.{LogMap}
use Rattle.lfs_model.specs.TreeOf.{object, slots}
use Rattle.lfs_model.proofs.ObjectBytes.{object_byte}
use Rattle.lfs_model.proofs.Standing.{object_length, slots_length}
use Rattle.lfs_files.specs.declared.header.Header.{Header}
use Rattle.lfs_files.specs.Headers.{as_header}
use Rattle.lfs_files.specs.Files.{HoldsBlock}
use Rattle.lfs_model.specs.Tree.{slot_len}
use Rattle.lfs_dirs.specs.Directory.{NamesMany, SlotInBlock, SlotsOfBlock, first_slots, per_block, slot_count, slots_at, slots_in}
use Rattle.lfs_dirs.proofs.Widths.{byte_block, byte_place, byte_within, place_low, slot_inside, slot_split, slot_within}

-- ---- one slot
pub slot_at : (m : LogMap) (d : ℕ) (head : Header) (j : ℕ) → j < slot_count head
    → get_or (slots_at m d head) j [] ≡ take (slot_len head.form) (drop (slot_len head.form * j) (object m d (as_header head)))
unfolding slots
slot_at m d head j low = get_or-map-range_with_len (λ j.
    take (slot_len head.form) (drop (slot_len head.form * j) (object m d (as_header head)))) 0 (slot_count head) j j [] low (omega arith)

pub slot_long : (m : LogMap) (d : ℕ) (head : Header) (j : ℕ) → j < slot_count head
    → length (get_or (slots_at m d head) j []) ≡ slot_len head.form
slot_long m d head j low =
    let o = object_length m d (as_header head) in
    let w = slot_within head.form j head.size low in
    ap length (slot_at m d head j low) ∙ omega (
      arith,
      length-take (slot_len head.form)
          (drop (slot_len head.form * j) (object m d (as_header head))),
      length-drop (slot_len head.form * j) (object m d (as_header head)),
    )

pub slot_byte : (m : LogMap) (d : ℕ) (head : Header) (j b : ℕ) → j < slot_count head → b < slot_len head.form
    → get_or (get_or (slots_at m d head) j []) b 0 ≡ byte_in m d (slot_len head.form * j + b)
slot_byte m d head j b low inside =
    cc (
      slot_at m d head j low,
      get_or-take (slot_len head.form) (drop (slot_len head.form * j) (object m d (as_header head))) b 0 inside,
      get_or-drop (slot_len head.form * j) (object m d (as_header head)) b 0,
      object_byte m d (as_header head) (slot_len head.form * j + b)
          (byte_within head.form j b head.size low inside),
    )

-- a list of as many bytes that are those of the file is the slot
pub slot_is : (m : LogMap) (d : ℕ) (head : Header) (j : ℕ) {s : List ℕ} → j < slot_count head → length s ≡ slot_len head.form
    → ((b : ℕ) → b < slot_len head.form → get_or s b 0 ≡ byte_in m d (slot_len head.form * j + b)) → get_or (slots_at m d head) j [] ≡ s
slot_is m d head j {s} low long each =
    let l = slot_long m d head j low in
    same_number_lists (get_or (slots_at m d head) j []) s (cc)
    (λ b inside. slot_byte m d head j b low (omega arith) ∙ sym (each b (omega arith)))

pub slots_many : (m : LogMap) (d : ℕ) (head : Header) → length (slots_at m d head) ≡ slot_count head
slots_many m d head = slots_length m d (as_header head)

-- ---- a slot of a block
pub block_slot : (form : ℕ) (block : List ℕ) (at count k : ℕ) → k < count
    → get_or (slots_in form block at count) k [] ≡ part (slot_len form * (at + k)) (slot_len form) block
unfolding slots_in
block_slot form block at count k low =
    get_or-map-range_with_len (λ i. part (slot_len form * i) (slot_len form) block) at count k (at + k) [] low refl

pub block_slots_many : (form : ℕ) (block : List ℕ) (at count : ℕ) → length (slots_in form block at count) ≡ count
unfolding slots_in
block_slots_many form block at count = length-map-range_with_len (λ i. part (slot_len form * i) (slot_len form) block) at count

pub part_long : (form : ℕ) (block : List ℕ) (k : ℕ) → length block ≡ 512 → k < per_block form
    → length (part (slot_len form * k) (slot_len form) block) ≡ slot_len form
unfolding part
part_long form block k long low =
    let w = slot_inside form k low in
    omega (arith, length-take (slot_len form) (drop (slot_len form * k) block), length-drop (slot_len form * k) block)

pub part_byte : (form : ℕ) (block : List ℕ) (k b : ℕ) → b < slot_len form
    → get_or (part (slot_len form * k) (slot_len form) block) b 0 ≡ get_or block (slot_len form * k + b) 0
unfolding part
part_byte form block k b inside = get_or-take (slot_len form) (drop (slot_len form * k) block) b 0 inside
    ∙ get_or-drop (slot_len form * k) block b 0

-- ---- the slots of a block are the directory's
in_block : (m : LogMap) (d form i k b : ℕ) → k < per_block form → b < slot_len form
    → slice_index (m.block d i) (slot_len form * k + b) ≡ byte_in m d (slot_len form * (per_block form * i + k) + b)
in_block m d form i k b low inside =
    cc (byte_block form i k b low inside, byte_place form i k b low inside)

pub slot_of_block : (m : LogMap) (d : ℕ) (head : Header) {i : ℕ} (k : ℕ) {block : List ℕ} → HoldsBlock m d i block → k < per_block head.form
    → per_block head.form * i + k < slot_count head
    → get_or (slots_at m d head) (per_block head.form * i + k) [] ≡ part (slot_len head.form * k) (slot_len head.form) block
slot_of_block m d head {i} k {block} is low inside =
    slot_is m d head (per_block head.form * i + k) inside (part_long head.form block k is.long low)
    (λ b small. part_byte head.form block k b small ∙ is.bytes (slot_len head.form * k + b) ∙ in_block m d head.form i k b low small)

pub slots_of_block : SlotsOfBlock
slots_of_block m d head i count block is few room =
    let taken = length-take count (drop (per_block head.form * i) (slots_at m d head)) in
    let long : length (take count (drop (per_block head.form * i) (slots_at m d head)))
    ≡ count = omega (arith, slots_many m d head, length-drop (per_block head.form * i) (slots_at m d head)) in
    ext_get_or [] (take count (drop (per_block head.form * i) (slots_at m d head))) (first_slots head.form block count)
    (long ∙ sym (block_slots_many head.form block 0 count))
    (λ k low.
    let inside : k < count = omega arith in
    get_or-take count (drop (per_block head.form * i) (slots_at m d head)) k [] inside
    ∙ get_or-drop (per_block head.form * i) (slots_at m d head) k []
    ∙ slot_of_block m d head k is (omega arith) (omega arith)
    ∙ ap (λ (j : ℕ). part (slot_len head.form * j) (slot_len head.form) block) (omega arith)
    ∙ sym (block_slot head.form block 0 count k inside))

pub slot_in_block : SlotInBlock
slot_in_block m d head place block is inside =
    let here = slot_split head.form place in
    cc (slot_of_block m d head (place % per_block head.form) is (place_low head.form place) (rw here inside))

pub names_many : NamesMany
names_many m d head dir = dir.apart ∙ slots_many m d head
