-- The slots of a directory, one by one and by the blocks that they stand in, and the names that they give.
use Rattle.std.specs.Prelude.{◌≡◌, ◌<◌, ◌≤◌, ◌+◌, ◌*◌, ◌/◌, ◌%◌, ℕ, zero, suc, List, [], ◌∷◌, ◌++◌, length, map, take, drop, get_or, Some}
use Rattle.std.specs.Prelude.{None}
use Rattle.std.specs.FinMap.{find, put}
use Rattle.std.specs.List.{range_with_len}
use Rattle.lfs_model.specs.Fields.{part}
use Rattle.lfs_model.specs.Objects.{IsDirectory}
use Rattle.lfs_model.specs.Slot.{SlotValue, FitsSlot, slot_bytes, slot_in}
use Rattle.lfs_model.specs.Stands.{LogMap}
use Rattle.lfs_model.specs.Tree.{Names, byte_cmp, slot_len, without}
use Rattle.lfs_model.specs.TreeOf.{map_of, slots}
use Rattle.lfs_files.specs.declared.header.Header.{Header}
use Rattle.lfs_files.specs.Headers.{as_header}
use Rattle.lfs_files.specs.Files.{HoldsBlock}

-- how many slots of this form a block has
abbrev pub per_block : ℕ → ℕ
per_block zero = 8
per_block (suc form) = 4

-- how many slots a directory of this header has
abbrev pub slot_count : Header → ℕ
slot_count head = head.size / slot_len head.form

-- the slots of directory d
abbrev pub slots_at : LogMap → ℕ → Header → List (List ℕ)
slots_at m d head = slots m d (as_header head)

-- its names with the numbers that they give
abbrev pub names_at : LogMap → ℕ → Header → Names
names_at m d head = map_of head.form (slots_at m d head)

-- slots of a block, from one on
unfoldable pub slots_in : ℕ → List ℕ → ℕ → ℕ → List (List ℕ)
slots_in form block at count = map (λ i. part (slot_len form * i) (slot_len form) block) (range_with_len at count)

-- its first slots
abbrev pub first_slots : ℕ → List ℕ → ℕ → List (List ℕ)
first_slots form block count = slots_in form block 0 count

-- ---- laws

-- So many of a directory's slots, from the first in block i on, are those of the block.
abbrev pub SlotsOfBlock : Type 0
SlotsOfBlock = (m : LogMap) (d : ℕ) (head : Header) (i count : ℕ) (block : List ℕ) → HoldsBlock m d i block → count ≤ per_block head.form
    → per_block head.form * i + count ≤ slot_count head
    → take count (drop (per_block head.form * i) (slots_at m d head)) ≡ first_slots head.form block count

-- A slot lies in a block.
abbrev pub SlotInBlock : Type 0
SlotInBlock = (m : LogMap) (d : ℕ) (head : Header) (place : ℕ) (block : List ℕ) → HoldsBlock m d (place / per_block head.form) block
    → place < slot_count head
    → get_or (slots_at m d head) place [] ≡ part (slot_len head.form * (place % per_block head.form)) (slot_len head.form) block

-- A directory has as many names as slots.
abbrev pub NamesMany : Type 0
NamesMany = (m : LogMap) (d : ℕ) (head : Header) → IsDirectory m d (as_header head) → length (names_at m d head) ≡ slot_count head

-- this slot gives number n under a name
pub record IsSlotAt (form : ℕ) (slots : List (List ℕ)) (place n : ℕ) (name : List ℕ) : Type 0 where
  pub inside : place < length slots
  pub slot : slot_in form (get_or slots place []) ≡ Some record { number = n; name = name }

-- What is found under a name one of the slots gives; and where no two slots have one name, what a slot gives is found.
abbrev pub SlotGives : Type 0
SlotGives = (form : ℕ) (a : List (List ℕ)) (name : List ℕ) (n : ℕ)
    → (find byte_cmp name (map_of form a) ≡ Some n → (place : ℕ) × IsSlotAt form a place n name)
    × (length (map_of form a) ≡ length a → (place : ℕ) → IsSlotAt form a place n name → find byte_cmp name (map_of form a) ≡ Some n)

-- A name that slots give is what the first of them gives.
abbrev pub FirstGives : Type 0
FirstGives = (form : ℕ) (a b : List (List ℕ)) (name : List ℕ)
    → ((n : ℕ) → find byte_cmp name (map_of form a) ≡ Some n → find byte_cmp name (map_of form (a ++ b)) ≡ Some n)
    × (find byte_cmp name (map_of form a) ≡ None → find byte_cmp name (map_of form (a ++ b)) ≡ find byte_cmp name (map_of form b))

-- With a slot of a new name behind the others there is one name more.
abbrev pub SlotAppended : Type 0
SlotAppended = (form : ℕ) (a : List (List ℕ)) (s : SlotValue) → FitsSlot form s → find byte_cmp s.name (map_of form a) ≡ None
    → map_of form (a ++ slot_bytes form s ∷ []) ≡ put byte_cmp s.name s.number (map_of form a)

-- Where no two slots have one name, another slot of a name in place of its own gives it another number.
abbrev pub SlotReplaced : Type 0
SlotReplaced = (form : ℕ) (a b : List (List ℕ)) (x y : List ℕ) (s t : SlotValue) → slot_in form x ≡ Some s → slot_in form y ≡ Some t
    → t.name ≡ s.name → length (map_of form (a ++ x ∷ b)) ≡ length (a ++ x ∷ b)
    → map_of form (a ++ y ∷ b) ≡ put byte_cmp s.name t.number (map_of form (a ++ x ∷ b))

-- Without the last slot its name is gone;
abbrev pub LastSlotTaken : Type 0
LastSlotTaken = (form : ℕ) (a : List (List ℕ)) (x : List ℕ) (s : SlotValue) → slot_in form x ≡ Some s
    → length (map_of form (a ++ x ∷ [])) ≡ length (a ++ x ∷ []) → map_of form a ≡ without byte_cmp s.name (map_of form (a ++ x ∷ []))

-- with the last slot in the place of another that one's name is.
abbrev pub SlotTaken : Type 0
SlotTaken = (form : ℕ) (a b : List (List ℕ)) (x y : List ℕ) (s : SlotValue) → slot_in form x ≡ Some s
    → length (map_of form (a ++ x ∷ (b ++ y ∷ []))) ≡ length (a ++ x ∷ (b ++ y ∷ []))
    → map_of form (a ++ y ∷ b) ≡ without byte_cmp s.name (map_of form (a ++ x ∷ (b ++ y ∷ [])))
