-- The device calls of a commit: what each leaves of what the acknowledged checkpoint needs.
use Rattle.std.proofs.Common.{◌≡◌, ◌⊎◌, ◌<◌, ◌%◌, ◌^◌, ℕ, List, Some, refl, sym, ◌∙◌, ap, subst, arith}
use Rattle.lfs_model.specs.Checkpoint.{CheckpointValue, Shape, unit_sectors, shape_of}
use Rattle.lfs_model.specs.Content.{Content, newest}
use Rattle.lfs_model.specs.Reach.{View, view}
use Rattle.lfs_model.specs.Stands.{LogMap, StandsAt, StandsLog, Protected, used_in}
use Rattle.lfs_model.specs.Crash.{Keeps, IsFreeSector, StandsOn}
use Rattle.lfs_model.specs.Device.{DeviceState, LieWithin, MayWrite, MayWriteUnit, CrashWritesUnit, put}
use Rattle.lfs_model.specs.UnitLaws.{unit_by}
use Rattle.lfs_model.specs.Settled.{IsSettled, SettledStands, SettledWrite, SettledStill, SlotTorn, Acknowledged}
use Rattle.lfs_model.proofs.Crash.{locality_on, slot_write, stands_at_same}
use Rattle.lfs_model.proofs.UnitSizes.{slot_alone, unit_free}
use Rattle.lfs_model.proofs.UnitWrites.{free_unit_writes, to_sector}
use Rattle.lfs_model.proofs.Reach.{view_same}

pub keeps_itself : (c : Content) (k : CheckpointValue) → newest c ≡ Some k → Keeps c k c
keeps_itself c k is = record { size = refl; newest = is; same = λ at p. refl }

-- what c and d share of what k needs, seen from d
module _ (c : Content) (k : CheckpointValue) (m : LogMap) (st : StandsAt c k m) (d : Content) (keeps : Keeps c k d) where
  pub view_kept : view d k ≡ view c k
  view_kept = view_same c d k keeps.size keeps.same st.holds.stages.rows

  pub stands_kept : StandsAt d k m
  stands_kept = stands_at_same c d k m st keeps.size keeps.same

  -- another content that keeps it for c keeps it for d
  pub kept_from : (x : Content) → Keeps c k x → Keeps d k x
  kept_from x other = record {
    size = other.size ∙ sym keeps.size;
    newest = other.newest;
    same = λ at p. let q = subst (λ (v : View). Protected v at) view_kept p in other.same at q ∙ sym (keeps.same at q);
  }

module _ (k : CheckpointValue) (m : LogMap) where
  abbrev log_at : (old : DeviceState) → IsSettled old k m → StandsLog old.content m
  log_at old settled = record { checkpoint = k; newest = settled.newest; stands = settled.stands }

  moved : (old new : DeviceState) → IsSettled old k m → new.unit ≡ old.unit → Keeps old.content k new.content
      → ((d : Content) → new.may_leave d → Keeps old.content k d) → IsSettled new k m
  moved old new settled same now each = record {
    units = subst (λ (u : ℕ → ℕ). LieWithin u (unit_by (unit_sectors k))) (sym same) settled.units;
    newest = now.newest;
    stands = stands_kept old.content k m settled.stands new.content now;
    each = λ d left. kept_from old.content k m settled.stands new.content now d (each d left);
  }

  module _ (old new : DeviceState) (settled : IsSettled old k m) (at : ℕ) (bytes : List ℕ) (free : IsFreeSector old.content k at)
      (may : MayWriteUnit old.unit at bytes old.content new.content) (crash : CrashWritesUnit at bytes old new)
      (same : new.unit ≡ old.unit) where
    all_free : (j : ℕ) → old.unit j ≡ old.unit at → IsFreeSector old.content k j
    all_free j is = unit_free old.content k settled.newest settled.stands.holds.stages.usages at free j (settled.units j at is)

    write_keeps : Keeps old.content k new.content
    write_keeps = free_unit_writes old.unit old.content m (log_at old settled) at bytes all_free old.content new.content
        (keeps_itself old.content k settled.newest) may

    written : IsSettled new k m
    written =
        moved old new settled same write_keeps
        (λ d left. let from = crash d left in
        free_unit_writes old.unit old.content m (log_at old settled) at bytes all_free from.0 d (settled.each from.0 from.1) from.2)

    same_use : (s : ℕ) → used_in (view new.content k) s ≡ used_in (view old.content k) s
    same_use s = ap (λ (v : View). used_in v s) (view_kept old.content k m settled.stands new.content write_keeps)

pub settled_stands : SettledStands
settled_stands d k m settled c left = locality_on d.content c m (log_at k m d settled) (settled.each c left)

pub settled_write : SettledWrite
settled_write d d' k m at bytes settled free may crash same =
    (written k m d d' settled at bytes free may crash same, same_use k m d d' settled at bytes free may crash same)

pub settled_still : SettledStill
settled_still d d' k m settled same unit =
    moved k m d d' settled unit (subst (Keeps d.content k) (sym same.content) (keeps_itself d.content k settled.newest))
    (λ c left. settled.each c (same.crash c left))

pub slot_torn : SlotTorn
slot_torn d d' k next m m' slot bytes settled planned same only crash c left =
    let from = crash c left in
    let low : slot < 2 = omega (arith, planned.place) in
    let alone = λ (j : ℕ) (is : d.unit j ≡ d.unit slot). slot_alone (unit_sectors k) slot j low (settled.units j slot is) in
    let may : MayWrite slot bytes d.content c =
    to_sector d.unit slot alone bytes d.content c
    (subst (λ (f : Content). MayWriteUnit d.unit slot bytes f c) (only from.0 from.1) from.2) in
    let either =
    (slot_write d.content m (log_at k m d settled) d.content (keeps_itself d.content k settled.newest) next bytes m' planned.ready).0 c
    (subst (λ (n : ℕ). MayWrite n bytes d.content c) planned.place may) in
    subst (λ (x : Shape). StandsOn (shape_of k) c m ⊎ StandsOn x c m') same either

pub acknowledged : Acknowledged
acknowledged d d' k next m m' slot bytes settled planned power is only unit =
    let slots =
    slot_write d.content m (log_at k m d settled) d.content (keeps_itself d.content k settled.newest) next bytes m' planned.ready in
    let there : d'.content ≡ put d.content (next.number % 2) bytes =
    subst (λ (n : ℕ). d'.content ≡ put d.content n bytes) planned.place is in
    let newest_is : newest d'.content ≡ Some next = ap newest there ∙ slots.1 in
    record {
      units = subst (λ (u : ℕ → ℕ). LieWithin u (unit_by (unit_sectors next))) (sym unit)
          (subst (λ (p : ℕ). LieWithin d.unit (unit_by (2 ^ p))) (sym power) settled.units);
      newest = newest_is;
      stands = subst (λ (e : Content). StandsAt e next m') (sym there) slots.2;
      each = λ c left. subst (Keeps d'.content next) (sym (only c left)) (keeps_itself d'.content next newest_is);
    }
