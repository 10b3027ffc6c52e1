-- A device that is verified: its newest checkpoint, and what the walk from it says.
use Rattle.std.proofs.Common.{subst, ⊎_elim, ◌≡◌, ◌<◌, ◌≤◌, ◌↔◌, ◌+◌, ◌*◌, ℕ, Bool, true, false, length, Some, None, inl, inr, refl, sym}
use Rattle.std.proofs.Common.{◌∙◌, ap, arith}
use Rattle.lfs_model.specs.Checkpoint.{CheckpointValue, FitsCheckpoint}
use Rattle.lfs_model.specs.Content.{Content, newest}
use Rattle.lfs_model.specs.Damage.{stage, IsDamaged}
use Rattle.lfs_model.specs.Device.{DeviceState, IsLawful, Only}
use Rattle.lfs_model.specs.Reach.{View, view}
use Rattle.lfs_model.specs.Slots.{IsNewest, HasNoCheckpoint}
use Rattle.lfs_model.specs.Stands.{LogMap, HoldsAt, StandsLog, EnoughClean, Stages, log_in}
use Rattle.lfs_model.specs.Volume.{IsTooSmall, IsWithoutCheckpoint}
use Rattle.lfs_model.proofs.Newest.{newest_fits}
use Rattle.lfs_verify.specs.Codes.{HoldsBelow}
use Rattle.lfs_verify.specs.Take.{Looks, ReadsContent, SyncsOnce}
use Rattle.lfs_verify.specs.declared.fault.MountFault.{MountFault}
use Rattle.lfs_verify.specs.declared.fault.MountFault.TheVariants as fault
use Rattle.lfs_verify.specs.declared.tables.Tables.{Tables}
use Rattle.lfs_verify.specs.declared.totals.BlockTotals.{BlockTotals}
use Rattle.lfs_verify.specs.declared.verify.FoundLog.{FoundLog}
use Rattle.lfs_verify.specs.Faults.{IsOpenFault, IsTableFault}
use Rattle.lfs_verify.specs.Loading.{HasTables, HoldsTables, SaysTables}
use Rattle.lfs_verify.specs.Totals.{CountsLog}
use Rattle.lfs_verify.specs.Verified.{HoldsCounted, IsVerified, IsDamagedIn, IsFound, IsLogDamage, IsRefusedLog, IsRefusedWalk}
use Rattle.lfs_verify.specs.Verified.{IsWalkDamage, LacksLogMap, StandsWhereEnough, lacks_clean, stage_fails}
use Rattle.lfs_verify.proofs.CodeSteps.{below_1, below_next}
use Rattle.lfs_verify.proofs.Takes.{once}

some_is : {a b : CheckpointValue} → Some a ≡ Some b → a ≡ b
some_is e = cc

-- ---- the newest checkpoint
module _ {d : DeviceState} (lawful : IsLawful d) where
  pub newest_is : {k : CheckpointValue} → IsNewest d.content k → newest d.content ≡ Some k
  newest_is {k} is = ((newest_fits d.content lawful.now).0 k).1 is

  no_newest : HasNoCheckpoint d.content → newest d.content ≡ None
  no_newest none = (newest_fits d.content lawful.now).1.1 none

  pub below_all : d.size < 4098 → IsTooSmall d.content
  below_all low = inl (omega (arith, low, lawful.size))

  pub too_few : {k : CheckpointValue} → IsNewest d.content k → d.size < 2 + 64 * k.segments → IsTooSmall d.content
  too_few {k} is small = inr (k, newest_is is, omega (arith, small, lawful.size))

  pub without_checkpoint : 4098 ≤ d.size → HasNoCheckpoint d.content → IsWithoutCheckpoint d.content
  without_checkpoint least none = (omega (arith, least, lawful.size), no_newest none)

-- ---- the walk
-- where all of its stages hold, the content holds the log map that is read from it
holds_by : (c : Content) {k : CheckpointValue} → 2 + 64 * k.segments ≤ length c → Stages (view c k) → HoldsAt c k (log_in (view c k))
holds_by c size stages = record { size = size; stages = stages; header = λ n. refl; block = λ n i. refl; version = refl }

-- what is missing to a log map
pub stands_where_enough : StandsWhereEnough
stands_where_enough c enough is holds = record {
  checkpoint = is.checkpoint;
  newest = is.newest;
  stands = record { holds = holds_by c is.size is.stages; clean = is.clean.0 holds };
}

module _ {old : DeviceState} (new : DeviceState) (lawful : IsLawful old) (k : CheckpointValue) (inside : 2 + 64 * k.segments ≤ old.size)
    (keeps : new.keeps_model) where
  -- the content that the walk read
  pub read_content : ReadsContent old new old.content
  read_content = record { content = refl; keeps = keeps }

  long_enough : 2 + 64 * k.segments ≤ length old.content
  long_enough = omega (arith, inside, lawful.size)

  module _ {enough : Bool}
      (says : Stages (view old.content k) × HoldsBelow (view old.content k) 10 × ((enough ≡ true) ↔ EnoughClean (view old.content k))) where
    pub holds_counted : {totals : BlockTotals} → CountsLog old.content k totals.data_blocks totals.meta_blocks
        → HoldsCounted old.content k enough totals
    holds_counted counts =
        let held = holds_by old.content {k = k} long_enough says.0 in
        record { holds = held; counted = counts (log_in (view old.content k)) held; clean = says.2 }

  pub first_damage : newest old.content ≡ Some k → (code : ℕ) → code < 10 → IsDamaged (view old.content k) code
      → IsWalkDamage old.content code
  first_damage found code low damaged = (low, record { checkpoint = k; newest = found; size = long_enough; damaged = damaged })

-- ---- a content that stands for a log map
module _ {c : Content} (m : LogMap) (is : StandsLog c m) where
  -- all stages hold for the newest checkpoint
  stages_of : {k : CheckpointValue} → newest c ≡ Some k → Stages (view c k)
  stages_of {k} found =
      subst (λ (x : CheckpointValue). Stages (view c x)) (some_is (sym is.newest ∙ found)) is.stands.holds.stages

  -- none of the first nine fails
  pub none_fails : (code : ℕ) → code < 10 → IsDamagedIn c code → ⊥
  unfolding stage
  none_fails code low fails = fails.damaged.1 (nine (view c fails.checkpoint) (stages_of fails.newest) code low)
    where
      nine : (v : View) → Stages v → HoldsBelow v 10
      nine v s = below_next v 9 (below_next v 8
          (below_next v 7 (below_next v 6 (below_next v 5 (below_next v 4 (below_next v 3 (below_next v 2 (below_next v 1 (below_1 v)
          s.usages) s.rows) s.maps) s.inodes) s.roots)
          s.leaves) s.blocks) s.named) s.counted

pub stands_for_none : LacksLogMap
stands_for_none c few m is =
    let same = some_is (sym is.newest ∙ few.newest) in
    let clean : false ≡ true = few.clean.1 (subst (λ (k : CheckpointValue). EnoughClean (view c k)) same is.stands.clean) in
    absurd (cc)

-- ---- refusals
refused_behind : {a b : DeviceState} (c : DeviceState) → SyncsOnce a b → (f : MountFault) → IsRefusedWalk b c f → IsRefusedWalk a c f
refused_behind c looks fault.NoMemory is = tt
refused_behind c looks fault.Device is = omega (arith, is, looks.carries.failures)
refused_behind c looks fault.TooSmall is = λ keeps. subst IsTooSmall looks.untouched.content (is keeps)
refused_behind c looks fault.NoCheckpoint is = λ keeps. subst IsWithoutCheckpoint looks.untouched.content (is keeps)
refused_behind c looks (fault.Damaged code) is =
    λ keeps. subst (λ (x : Content). IsWalkDamage x code) looks.untouched.content (is keeps)

-- a table that can't be read is a call that failed, where the content holds a log map
table_refused : (b c : DeviceState) {k : CheckpointValue} {m : LogMap} → (c.keeps_model → HoldsAt b.content k m) → (f : MountFault)
    → ((f ≡ fault.NoMemory → ⊥) → IsTableFault b c k f) → IsRefusedWalk b c f
table_refused b c stands fault.NoMemory told = tt
table_refused b c stands fault.Device told = told (λ e. cc)
table_refused b c {m} stands f told = λ keeps. absurd (told (λ e. cc) m keeps (stands keeps))

module _ (d : DeviceState) (lawful : IsLawful d) (m : LogMap) (is : StandsLog d.content m) where
  large : IsTooSmall d.content → ⊥
  large small = ⊎_elim
      (λ (low : length d.content < 4098).
      let held = ((newest_fits d.content lawful.now).0 is.checkpoint).0 is.newest in
      omega (arith, held.held.fits.segments.least, is.stands.holds.size, low))
      (λ (few : (k : CheckpointValue) × (newest d.content ≡ Some k) × (length d.content < 2 + 64 * k.segments)).
      let same = ap (λ (x : CheckpointValue). x.segments) (some_is (sym is.newest ∙ few.1)) in
      omega (arith, same, is.stands.holds.size, few.2))
      small

  undamaged : {code : ℕ} → IsLogDamage d.content code → ⊥
  undamaged {code} (stage_fails damage) = none_fails m is code damage.0 damage.1
  undamaged (lacks_clean at few) = stands_for_none d.content few m is

-- why a device isn't opened
pub open_fault : {old : DeviceState} (new : DeviceState) → IsLawful old → (f : MountFault) → IsRefusedLog old new f
    → (f ≡ fault.NoMemory → ⊥)
    → IsOpenFault old new f
open_fault new lawful fault.NoMemory is other = absurd (other refl)
open_fault new lawful fault.Device is other = is
open_fault {old} new lawful fault.TooSmall is other = λ m keeps stands. large old lawful m stands (is keeps)
open_fault new lawful fault.NoCheckpoint is other =
    λ m keeps stands. (let some = stands.newest in absurd (cc ((is keeps).1)))
open_fault {old} new lawful (fault.Damaged code) is other = λ m keeps stands. undamaged old lawful m stands (is keeps)

-- ---- the checkpoint, the walk and the tables, one after the other
module _ {a b c d : DeviceState} (one : SyncsOnce a b) (two : Looks b c) (three : Looks c d) {k : CheckpointValue}
    (newest_at : b.keeps_model → newest a.content ≡ Some k) where
  newest_later : c.keeps_model → newest b.content ≡ Some k
  newest_later keeps = ap newest one.untouched.content ∙ newest_at (two.carries.kept_before keeps)

  pub check_refused : (f : MountFault) → ((c.keeps_model → newest b.content ≡ Some k) → IsRefusedWalk b c f) → IsRefusedWalk a c f
  check_refused f told = refused_behind c one f (told newest_later)

  module _ {enough : Bool} {totals : BlockTotals} (holds : c.keeps_model → HoldsCounted b.content k enough totals) where
    content_same : c.content ≡ a.content
    content_same = two.untouched.content ∙ one.untouched.content

    holds_then : d.keeps_model → HoldsAt c.content k (log_in (view b.content k))
    holds_then keeps = subst (λ (x : Content). HoldsAt x k (log_in (view b.content k))) (sym two.untouched.content)
        (holds (three.carries.kept_before keeps)).holds

    pub load_refused : {f : MountFault} → ((f ≡ fault.NoMemory → ⊥) → IsTableFault c d k f) → IsRefusedWalk a d f
    load_refused {f} told =
        refused_behind d one f (refused_behind d (once two) f (table_refused c d holds_then f told))

    tables_held : FitsCheckpoint k → (t : Tables) → (d.keeps_model → SaysTables c.content k t)
        → (t.data_blocks ≡ totals.data_blocks) × (t.meta_blocks ≡ totals.meta_blocks)
        → d.keeps_model → HoldsTables a.content t
    tables_held fits t says same keeps =
        let was = three.carries.kept_before keeps in
        let counted = (holds was).counted in
        record {
          log = log_in (view b.content k);
          checkpoint = k;
          newest = newest_at (two.carries.kept_before was);
          fits = fits;
          holds = subst (λ (x : Content). HoldsAt x k (log_in (view b.content k))) content_same (holds_then keeps);
          says = subst (λ (x : Content). SaysTables x k t) content_same (says keeps);
          counted = record { stored = same.0 ∙ counted.stored; above = same.1 ∙ counted.above };
        }

    pub log_found : FitsCheckpoint k → {t : Tables} → (d.keeps_model → SaysTables c.content k t)
        → (t.data_blocks ≡ totals.data_blocks) × (t.meta_blocks ≡ totals.meta_blocks)
        → d.keeps_model → IsFound a.content (record { tables = t; enough_clean = enough })
    unfolding tables_held
    log_found fits {t} says same keeps = record {
      tables = tables_held fits t says same keeps;
      clean = subst (λ (x : Content). (enough ≡ true) ↔ EnoughClean (view x k)) one.untouched.content
          (holds (three.carries.kept_before keeps)).clean;
    }

    pub only_then : (b.keeps_model → Only a.content b) → d.keeps_model → Only a.content d
    only_then durable keeps x left =
        durable (two.carries.kept_before (three.carries.kept_before keeps)) x (two.untouched.crash x (three.untouched.crash x left))

-- ---- the log that was found
module _ (old new : DeviceState) {found : FoundLog} (holds : new.keeps_model → IsFound old.content found) where
  pub few_clean : found.enough_clean ≡ false → IsRefusedLog old new (fault.Damaged 15)
  few_clean off keeps =
      let log = holds keeps in
      lacks_clean refl (subst (IsVerified old.content) off
      (record {
        checkpoint = log.tables.checkpoint;
        newest = log.tables.newest;
        size = log.tables.holds.size;
        stages = log.tables.holds.stages;
        clean = log.clean;
      }))

  pub has_tables : found.enough_clean ≡ true → new.keeps_model → HasTables old.content found.tables
  has_tables on keeps = let log = holds keeps in
      record { held = log.tables; stands = record { holds = log.tables.holds; clean = log.clean.0 on } }

-- what refuses the walk refuses the log
pub refused_log : (old new : DeviceState) (f : MountFault) → IsRefusedWalk old new f → IsRefusedLog old new f
refused_log old new (fault.Damaged code) is = λ keeps. stage_fails (is keeps)
refused_log old new f is = is
