-- The sectors are cleared at which a slot may stand.
use Rattle.std.proofs.Common.{◌≡◌, ℕ, ◌<◌, ◌≤◌, length, Some, None, refl, sym, ◌∙◌, subst, arith, get_or-set_same}
use Rattle.lfs_model.specs.Device.{AllLeft, AreSectors, Carries, ComesFrom, CrashWritesUnit, DeviceState, Elapses, IsLawful, IsUntouched}
use Rattle.lfs_model.specs.Device.{LeavesOnly, MayWriteUnit, Only, put}
use Rattle.lfs_model.specs.Image.{blank}
use Rattle.lfs_model.proofs.Moments.{Run, all_left_write, carries_then, run_call, run_untouched}
use Rattle.lfs_model.proofs.UnitWrites.{crash_of_sectors}
use Rattle.lfs_format.specs.Making.{IsCleared, MayClearSlots, SameBut, left_clear}
use Rattle.lfs_format.proofs.FirstMoments.{touches_slot, touches_still, touches_write}
use Rattle.lfs_format.proofs.FirstPlaces.{apart_cleared}
use Rattle.lfs_format.proofs.FirstWrites.{Begun, apart_leaves, apart_set, by_sectors, sectors_after, slots_written}

-- the calls that clear: at any moment, and now, when the second slot by the new places is clear
pub record Slots (old new : DeviceState) : Type 0 where
  pub run : Run old new (ComesFrom old MayClearSlots)
  pub begun : AllLeft new (ComesFrom old Begun)

pub slots_begin : {old new : DeviceState} → IsLawful old → 128 < old.size → AreSectors old.unit
    → LeavesOnly old new (ComesFrom old (MayWriteUnit old.unit 128 (blank 512))) → Carries old new → new.keeps_model
    → new.content ≡ put old.content 128 (blank 512) → Only new.content new → Slots old new
slots_begin {old} {new} lawful room sectors leaves carries keeps is only = record {
  run = record {
    carries = carries;
    leaves = apart_leaves lawful room sectors leaves;
    now = λ c left. let from = begun c left in (from.0, from.1, from.2.may);
  };
  begun = begun;
}
  where
    long : 128 < length old.content
    long = let size = lawful.size in omega (arith, room, size)

    written : Begun old.content (put old.content 128 (blank 512))
    written = record {
      may = apart_set old.content (Some (blank 512)) long (λ x. left_clear refl);
      clear = get_or-set_same old.content 128 (Some (blank 512)) None long;
    }

    begun : AllLeft new (ComesFrom old Begun)
    begun c left =
        (old.content, lawful.present (carries.kept_before keeps), subst (Begun old.content) (sym (only c left ∙ is)) written)

pub slots_write : {old mid new : DeviceState} (s : ℕ) → IsCleared s → s < 2 → IsLawful old → AreSectors old.unit → 128 < old.size
    → Slots old mid → CrashWritesUnit s (blank 512) mid new → Carries mid new → Elapses mid new → Slots old new
slots_write {old} {mid} {new} s is low lawful sectors room slots crash carries time = record {
  run = run_call old mid new (ComesFrom old MayClearSlots) slots.run carries time
      (λ c left. let from = begun c left in (from.0, from.1, from.2.may));
  begun = begun;
}
  where
    begun : AllLeft new (ComesFrom old Begun)
    begun = all_left_write mid new (ComesFrom old Begun) (ComesFrom old Begun) s (blank 512) slots.begun
        (crash_of_sectors mid new s (blank 512) (sectors_after sectors slots.run.carries) crash)
        (λ c e from write.
        let long : 2 ≤ length from.0 = let size = lawful.sizes from.0 from.1 in omega (arith, room, size) in
        (from.0, from.1, slots_written s is low from.0 c e long from.2 write))

pub slots_still : {old mid new : DeviceState} → Slots old mid → IsUntouched mid new → Carries mid new → Elapses mid new → Slots old new
slots_still {old} {mid} {new} slots same carries time = record {
  run = run_untouched old mid new _ slots.run same carries time;
  begun = λ c left. slots.begun c (same.crash c left);
}

-- and what they touch, whatever the device keeps
pub record Clears (old new : DeviceState) : Type 0 where
  pub slots : AreSectors old.unit → new.keeps_model → Slots old new
  pub touched : AreSectors old.unit → LeavesOnly old new (ComesFrom old (SameBut IsCleared))
  pub carries : Carries old new

-- a write of one of them alone
pub touches_one : {old new : DeviceState} (s : ℕ) → IsCleared s → AreSectors old.unit
    → LeavesOnly old new (ComesFrom old (MayWriteUnit old.unit s (blank 512))) → LeavesOnly old new (ComesFrom old (SameBut IsCleared))
touches_one s is sectors leaves = touches_slot IsCleared s (blank 512) is (by_sectors sectors leaves)

pub clears_begin : {old new : DeviceState} → IsLawful old → 128 < old.size
    → LeavesOnly old new (ComesFrom old (MayWriteUnit old.unit 128 (blank 512))) → Carries old new
    → (new.keeps_model → new.content ≡ put old.content 128 (blank 512)) → (new.keeps_model → Only new.content new) → Clears old new
clears_begin lawful room leaves carries is only = record {
  slots = λ sectors keeps. slots_begin lawful room sectors leaves carries keeps (is keeps) (only keeps);
  touched = λ sectors. touches_one 128 apart_cleared sectors leaves;
  carries = carries;
}

pub clears_write : {old mid new : DeviceState} (s : ℕ) → IsCleared s → s < 2 → IsLawful old → IsLawful mid → 128 < old.size
    → Clears old mid → CrashWritesUnit s (blank 512) mid new → Carries mid new → Elapses mid new → Clears old new
clears_write {old} {mid} {new} s is low lawful lawful_mid room clears crash carries time = record {
  slots = λ sectors keeps.
      slots_write s is low lawful sectors room (clears.slots sectors (carries.kept_before keeps)) crash carries time;
  touched = λ sectors. touches_write IsCleared s (blank 512) is lawful_mid (clears.touched sectors)
      (crash_of_sectors mid new s (blank 512) (sectors_after sectors clears.carries) crash) carries time;
  carries = carries_then clears.carries carries;
}

pub clears_still : {old mid new : DeviceState} → IsLawful mid → Clears old mid → IsUntouched mid new → Carries mid new → Elapses mid new
    → Clears old new
clears_still {old} {mid} {new} lawful_mid clears same carries time = record {
  slots = λ sectors keeps. slots_still (clears.slots sectors (carries.kept_before keeps)) same carries time;
  touched = λ sectors. touches_still IsCleared lawful_mid (clears.touched sectors) same carries time;
  carries = carries_then clears.carries carries;
}
