-- The walk over a log, the stages of its tree and the count of its clean segments, one after the other.
use Rattle.std.proofs.Common.{◌≡◌, ℕ, true, false, refl, subst, arith}
use Rattle.lfs_model.specs.Content.{Content}
use Rattle.lfs_model.specs.Device.{DeviceState, IsLawful, Only}
use Rattle.lfs_model.specs.Reach.{view}
use Rattle.lfs_model.specs.Stands.{StandsLog}
use Rattle.lfs_model.specs.Tree.{State}
use Rattle.lfs_model.specs.TreeOf.{Stands, TreeOf, tree_in}
use Rattle.lfs_model.proofs.Damage.{not_damaged}
use Rattle.lfs_verify.specs.declared.fault.MountFault.{MountFault}
use Rattle.lfs_verify.specs.declared.fault.MountFault.TheVariants as fault
use Rattle.lfs_verify.specs.declared.verify.FoundLog.{FoundLog}
use Rattle.lfs_verify.specs.Loading.{HoldsTables}
use Rattle.lfs_verify.specs.Take.{Looks, SyncsOnce}
use Rattle.lfs_verify.specs.Verified.{IsDamagedIn, IsFound, IsRefusedWalk}
use Rattle.lfs_verify.proofs.VerifySteps.{open_fault}
use Rattle.lfs_tree.specs.Checking.{HasTree, IsRefusedTree, IsRefusedVolume, IsTreeFault}
use Rattle.lfs_tree.proofs.TreeStages.{same_log, too_few_clean}

-- a refusal of the log is one of the volume
pub refused_log : (old new : DeviceState) (f : MountFault) → IsRefusedWalk old new f → IsRefusedVolume old new f
refused_log old new fault.NoMemory is = is
refused_log old new fault.Device is = λ keeps. is
refused_log old new fault.TooSmall is = is
refused_log old new fault.NoCheckpoint is = is
refused_log old new (fault.Damaged code) is = λ keeps. (is keeps).1

-- ---- the tree behind the log
module _ {a b d : DeviceState} (one : SyncsOnce a b) (two : Looks b d) {found : FoundLog}
    (holds : b.keeps_model → IsFound a.content found) where
  found_then : d.keeps_model → IsFound b.content found
  found_then keeps = rw one.untouched.content (holds (two.carries.kept_before keeps))

  has_then : d.keeps_model → HoldsTables b.content found.tables
  has_then keeps = (found_then keeps).tables

  module _ (tree : d.keeps_model → (has : HoldsTables b.content found.tables)
      → TreeOf has.checkpoint.segments has.log (tree_in has.log)) where
    pub tree_found : found.enough_clean ≡ true → d.keeps_model → HasTree a.content found.tables
    tree_found on keeps =
        let log = found_then keeps in
        rw (← one.untouched.content) (record {
          tables = record { held = log.tables; stands = record { holds = log.tables.holds; clean = log.clean.0 on } };
          tree = tree keeps log.tables;
        })

    -- the last stage
    pub few_clean : found.enough_clean ≡ false → IsRefusedVolume a d (fault.Damaged 15)
    few_clean off keeps =
        let log = found_then keeps in
        let has = log.tables in
        subst (λ (x : Content). IsDamagedIn x 15) one.untouched.content (record {
          checkpoint = has.checkpoint;
          newest = has.newest;
          size = has.holds.size;
          damaged = too_few_clean has.holds.stages (rw (same_log has.holds) at (tree keeps has).tree)
              (λ clean. cc (log.clean.1 clean));
        })

  refused_by : (f : MountFault) → d.keeps_model → IsRefusedTree b d f → IsRefusedVolume a d f
  refused_by fault.NoMemory keeps is = tt
  refused_by fault.Device keeps is = λ again. (omega arith)
  refused_by fault.TooSmall keeps is = absurd is
  refused_by fault.NoCheckpoint keeps is = absurd is
  refused_by (fault.Damaged code) keeps is = λ again. rw (← one.untouched.content) is.2

  pub refused_behind : (f : MountFault) → (d.keeps_model → HoldsTables b.content found.tables → IsRefusedTree b d f) → IsRefusedVolume a d f
  refused_behind fault.NoMemory told = tt
  refused_behind fault.Device told = λ keeps. refused_by fault.Device keeps (told keeps (has_then keeps)) keeps
  refused_behind fault.TooSmall told = λ keeps. refused_by fault.TooSmall keeps (told keeps (has_then keeps)) keeps
  refused_behind fault.NoCheckpoint told = λ keeps. refused_by fault.NoCheckpoint keeps (told keeps (has_then keeps)) keeps
  refused_behind (fault.Damaged code) told = λ keeps. refused_by (fault.Damaged code) keeps (told keeps (has_then keeps)) keeps

  pub only_behind : (b.keeps_model → Only a.content b) → d.keeps_model → Only a.content d
  only_behind durable keeps x left = durable (two.carries.kept_before keeps) x (two.untouched.crash x left)

-- ---- where a tree stands
abbrev log_of : (c : Content) (s : State) (is : Stands c s) → StandsLog c is.log
log_of c s is = record { checkpoint = is.checkpoint; newest = is.found; stands = is.stands }

undamaged : {c : Content} (code : ℕ) → IsDamagedIn c code → (s : State) → Stands c s → ⊥
undamaged {c} code damage s is =
    let same : damage.checkpoint ≡ is.checkpoint = cc in
    let here = rw same at damage.damaged in
    not_damaged (view c is.checkpoint) is.stands.holds.stages
    (rw (← same_log is.stands.holds) is.tree.tree) is.stands.clean code here

pub fault_of_volume : {old : DeviceState} (new : DeviceState) → IsLawful old → (f : MountFault) → IsRefusedVolume old new f
    → (f ≡ fault.NoMemory → ⊥)
    → IsTreeFault old new f
fault_of_volume new lawful fault.NoMemory is other = absurd (other refl)
fault_of_volume new lawful fault.Device is other = λ s keeps stands. is keeps
fault_of_volume {old} new lawful fault.TooSmall is other = λ s keeps stands.
    open_fault new lawful fault.TooSmall is other stands.log keeps (log_of old.content s stands)
fault_of_volume {old} new lawful fault.NoCheckpoint is other = λ s keeps stands.
    open_fault new lawful fault.NoCheckpoint is other stands.log keeps (log_of old.content s stands)
fault_of_volume {old} new lawful (fault.Damaged code) is other = λ s keeps stands. undamaged code (is keeps) s stands
