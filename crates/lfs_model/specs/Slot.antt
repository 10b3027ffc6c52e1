-- The slot of a directory, which names an object. How wide it is, the directory's form says: 64 bytes in form 0.
-- A directory entry and a filename are those of POSIX.1-2017 (Definitions:
-- Directory Entry, Filename); the bytes and limits are an own choice.
use Rattle.std.specs.Prelude.{◌<◌, ◌≤◌, ◌-◌, ◌≢◌, ◌&&◌, ◌==◌, Bool, not, nat_le, ℕ, Option, List, [], ◌∷◌, length, get_or}
use Rattle.std.specs.List.{list_all}
use Rattle.std.specs.Str.{bytes_eq}
use Rattle.lfs_model.specs.Fields.{le32, zeros, join, part, read32, value_in}
use Rattle.lfs_model.specs.Tree.{name_len}
use Rattle.lfs_model.specs.declared.limits.TheConstants.{LAST_NUMBER}

pub record SlotValue : Type 0 where
  pub number : ℕ
  pub name : List ℕ

-- its bytes in a directory of this form
unfoldable pub slot_bytes : ℕ → SlotValue → List ℕ
slot_bytes form s = join (
    le32 s.number ∷
    (length s.name ∷ []) ∷
    s.name ∷
    zeros (name_len form - length s.name) ∷ []
    )

-- what stands at the places of a slot
abbrev pub slot_of : List ℕ → SlotValue
slot_of b = record { number = read32 0 b; name = part 5 (get_or b 4 0) b }

-- a name of at most this many bytes: no zero and no slash in it (47), and neither dot nor dot-dot (46)
pub record IsName (limit : ℕ) (name : List ℕ) : Type 0 where
  pub long : 1 ≤ length name
  pub short : length name ≤ limit
  pub bytes : (i : ℕ) → i < length name → (get_or name i 0 ≢ 0) × (get_or name i 0 ≢ 47)
  pub dot : name ≢ 46 ∷ []
  pub dotdot : name ≢ 46 ∷ 46 ∷ []

pub record FitsSlot (form : ℕ) (s : SlotValue) : Type 0 where
  pub number : (1 ≤ s.number) × (s.number ≤ LAST_NUMBER)
  pub name : IsName (name_len form) s.name

-- the same, as tests
abbrev pub is_name : ℕ → List ℕ → Bool
is_name limit name =
    nat_le 1 (length name) && (nat_le (length name) limit
    && (list_all (λ b. not (b == 0) && not (b == 47)) name
    && (not (bytes_eq name (46 ∷ [])) && not (bytes_eq name (46 ∷ 46 ∷ [])))))

abbrev pub may_be_slot : ℕ → SlotValue → Bool
may_be_slot form s = (nat_le 1 s.number && nat_le s.number LAST_NUMBER) && is_name (name_len form) s.name

-- the slot that bytes spell in a directory of this form, if they spell one
unfoldable pub slot_in : ℕ → List ℕ → Option SlotValue
slot_in form b = value_in slot_of (may_be_slot form) (slot_bytes form) b
