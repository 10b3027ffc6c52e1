-- How slots of either width stand in blocks of 512 bytes: none crosses a block.
use Rattle.std.proofs.Common.{◌≡◌, ◌<◌, ◌≤◌, ◌+◌, ◌*◌, ◌-◌, ◌/◌, ◌%◌, ℕ, zero, suc, arith}
use Rattle.std.specs.Prelude.{min}
use Rattle.lfs_model.specs.Tree.{slot_len}
use Rattle.lfs_dirs.specs.Directory.{per_block}

abbrev pub div_ceil : ℕ → ℕ → ℕ
div_ceil a b = a / b + min 1 (a % b)

-- byte b of slot k of block i
pub byte_block : (form i k b : ℕ) → k < per_block form → b < slot_len form → i ≡ (slot_len form * (per_block form * i + k) + b) / 512
byte_block zero i k b low inside = omega arith
byte_block (suc form) i k b low inside = omega arith

pub byte_place : (form i k b : ℕ) → k < per_block form → b < slot_len form
    → slot_len form * k + b ≡ (slot_len form * (per_block form * i + k) + b) % 512
byte_place zero i k b low inside = omega arith
byte_place (suc form) i k b low inside = omega arith

-- a slot of a block lies in it
pub slot_inside : (form k : ℕ) → k < per_block form → slot_len form * k + slot_len form ≤ 512
slot_inside zero k low = omega arith
slot_inside (suc form) k low = omega arith

-- a slot of a directory lies in it
pub slot_within : (form j size : ℕ) → j < size / slot_len form → slot_len form * j + slot_len form ≤ size
slot_within zero j size low = omega arith
slot_within (suc form) j size low = omega arith

pub byte_within : (form j b size : ℕ) → j < size / slot_len form → b < slot_len form → slot_len form * j + b < size
byte_within form j b size low inside = omega (arith, slot_within form j size low)

-- the slots of a directory, block by block
pub slot_split : (form place : ℕ) → per_block form * (place / per_block form) + place % per_block form ≡ place
slot_split zero place = omega arith
slot_split (suc form) place = omega arith

pub place_low : (form place : ℕ) → place % per_block form < per_block form
place_low zero place = omega arith
place_low (suc form) place = omega arith

pub next_block : (form index : ℕ) → per_block form * (index + 1) ≡ per_block form * index + per_block form
next_block zero index = omega arith
next_block (suc form) index = omega arith

pub slot_some : (form : ℕ) → (64 ≤ slot_len form) × (slot_len form ≤ 128)
slot_some zero = (omega arith, omega arith)
slot_some (suc form) = (omega arith, omega arith)

-- a directory of one slot more, or one less
pub count_more : (form size : ℕ) → (size + slot_len form) / slot_len form ≡ size / slot_len form + 1
count_more zero size = omega arith
count_more (suc form) size = omega arith

pub count_less : (form size : ℕ) → (size - slot_len form) / slot_len form ≡ size / slot_len form - 1
count_less zero size = omega arith
count_less (suc form) size = omega arith

pub whole_more : (form size : ℕ) → size % slot_len form ≡ 0 → (size + slot_len form) % slot_len form ≡ 0
whole_more zero size whole = omega arith
whole_more (suc form) size whole = omega arith

pub whole_less : (form size : ℕ) → size % slot_len form ≡ 0 → (size - slot_len form) % slot_len form ≡ 0
whole_less zero size whole = omega arith
whole_less (suc form) size whole = omega arith

pub whole_size : (form size : ℕ) → size % slot_len form ≡ 0 → slot_len form * (size / slot_len form) ≡ size
whole_size zero size whole = omega arith
whole_size (suc form) size whole = omega arith

-- slots at other places lie apart
pub before_slot : (form j place b : ℕ) → j < place → b < slot_len form → slot_len form * j + b < slot_len form * place
before_slot zero j place b before low = omega arith
before_slot (suc form) j place b before low = omega arith

pub behind_slot : (form j place : ℕ) → place < j → slot_len form * place + slot_len form ≤ slot_len form * j
behind_slot zero j place behind = omega arith
behind_slot (suc form) j place behind = omega arith

-- the last slot lies in the last block
pub last_block : (form size : ℕ) → size % slot_len form ≡ 0 → slot_len form ≤ size → size ≤ 512 * ((size - slot_len form) / 512) + 512
last_block zero size whole some = omega arith
last_block (suc form) size whole some = omega arith

pub one_slot : (form place size : ℕ) → place < size / slot_len form → slot_len form ≤ size
one_slot zero place size low = omega arith
one_slot (suc form) place size low = omega arith

pub slot_next : (form place : ℕ) → slot_len form * (place + 1) ≡ slot_len form * place + slot_len form
slot_next zero place = omega arith
slot_next (suc form) place = omega arith

-- the slots of the blocks before one
pub blocks_low : (form index slots : ℕ) {whole : ℕ} → whole ≡ per_block form → index < div_ceil slots whole → per_block form * index < slots
blocks_low zero index slots is low = omega (arith, rw is at low)
blocks_low (suc form) index slots is low = omega (arith, rw is at low)

pub blocks_past : (form index slots : ℕ) {whole : ℕ} → whole ≡ per_block form → div_ceil slots whole ≤ index
    → slots ≤ per_block form * index
blocks_past zero index slots is past = omega (arith, rw is at past)
blocks_past (suc form) index slots is past = omega (arith, rw is at past)

-- a slot that is written is in one block
pub one_block : (form place : ℕ) → (slot_len form * place + slot_len form) / 512 + min 1 ((slot_len form * place + slot_len form) % 512)
    ≤ slot_len form * place / 512 + 1
one_block zero place = omega arith
one_block (suc form) place = omega arith

pub blocks_up : (form slots : ℕ) {whole : ℕ} → whole ≡ per_block form → per_block form * div_ceil slots whole < slots + per_block form
blocks_up zero slots is = rw is (omega arith)
blocks_up (suc form) slots is = rw is (omega arith)

pub block_before : (form index : ℕ) → 0 < index → per_block form * (index - 1) + per_block form ≡ per_block form * index
block_before zero index some = omega arith
block_before (suc form) index some = omega arith
