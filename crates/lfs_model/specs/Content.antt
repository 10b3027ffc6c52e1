-- What a volume's content holds at its addresses, and its newest checkpoint.
-- Two slots that take turns, and the newer of them: after the checkpoint regions of the Sprite LFS paper (1992, section 4.1).
use Rattle.std.specs.Prelude.{◌≡◌, ◌==◌, ◌↔◌, ◌%◌, ◌<◌, ℕ, zero, suc, nat_lt, true, cond, List, [], Option, Some, None}
use Rattle.std.specs.List.{AllByRecursion}
use Rattle.lfs_model.specs.Checkpoint.{CheckpointValue, checkpoint_in, is_last, layout_version, rank}
use Rattle.lfs_model.specs.Device.{Cell, cell_at, IsSector}
use Rattle.lfs_model.specs.Slots.{IsNewest, HasNoCheckpoint}

abbrev pub Content : Type 0
Content = List Cell

-- an unreadable sector counts as empty, which no grammar takes
abbrev pub bytes_of : Cell → List ℕ
bytes_of None = []
bytes_of (Some bytes) = bytes

-- the block at an address; address 0 means none
abbrev pub block : Content → ℕ → List ℕ
block content zero = []
block content (suc at) = bytes_of (cell_at content (suc at))

abbrev pub with_parity : ℕ → Option CheckpointValue → Option CheckpointValue
with_parity p None = None
with_parity p (Some c) = cond (c.number % 2 == p) (Some c) None

-- the checkpoint that a slot holds: only one whose number has the slot's parity
abbrev pub slot : Content → ℕ → Option CheckpointValue
slot content p = with_parity p (checkpoint_in (bytes_of (cell_at content p)))

abbrev pub newer : Option CheckpointValue → Option CheckpointValue → Option CheckpointValue
newer None y = y
newer (Some x) None = Some x
newer (Some x) (Some y) = cond (nat_lt (rank x) (rank y)) (Some y) (Some x)

-- the newest checkpoint of the two slots
abbrev pub newest : Content → Option CheckpointValue
newest content = newer (slot content 0) (slot content 1)

-- It is the one that the slots' contents determine.
abbrev pub NewestFits : Type 0
NewestFits = (c : Content) → AllByRecursion IsSector c → ((k : CheckpointValue) → newest c ≡ Some k ↔ IsNewest c k)
    × (newest c ≡ None ↔ HasNoCheckpoint c)

-- Where it is of the last version, so is what each slot holds.
abbrev pub LastStandsAlone : Type 0
LastStandsAlone = (c : Content) → AllByRecursion IsSector c → (k : CheckpointValue) → newest c ≡ Some k
    → is_last (layout_version k) ≡ true → (p : ℕ) (d : CheckpointValue) → p < 2 → slot c p ≡ Some d → is_last (layout_version d) ≡ true
