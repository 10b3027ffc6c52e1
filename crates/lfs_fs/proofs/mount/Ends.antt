-- What a mount finds with the tables that a walk over the whole volume took in: the state that the device stands for.
use Rattle.lfs_fs.proofs.Prelude.{◌≡◌, ◌≤◌, ◌+◌, length, true, [], refl, sym, subst, Content, DeviceState, IsLawful, Only, State, Stands}
use Rattle.lfs_fs.proofs.Prelude.{tree_in, Mounts, Fs, FindsState, IsMountFault, MountsFs, seen}
use Rattle.lfs_model.specs.Checkpoint.{layout_version}
use Rattle.lfs_store.specs.log.verify.declared.fault.MountFault.{MountFault}
use Rattle.lfs_store.specs.log.verify.declared.fault.MountFault.TheVariants.{NoMemory}
use Rattle.lfs_store.specs.log.verify.declared.tables.Tables.{Tables}
use Rattle.lfs_store.specs.log.verify.Loading.{HasTables}
use Rattle.lfs_store.specs.log.verify.Take.{SyncsOnce}
use Rattle.lfs_store.specs.Recounting.{MountsTotals}
use Rattle.lfs_tree.specs.Checking.{HasTree}
use Rattle.lfs_fs.specs.Mounting.{IsRefused}
use Rattle.lfs_fs.proofs.mount.State.{found_at, found_running}
use Rattle.lfs_fs.proofs.calls.Exits.{point_of}

-- ---- the walk, which only read
module _ {old new : DeviceState} (looks : SyncsOnce old new) where
  -- the tables lead to what is still there
  pub tables_there : {t : Tables} → (new.keeps_model → HasTree old.content t) → new.keeps_model → HasTables new.content t
  tables_there {t} has keeps = rw looks.untouched.content (has keeps).tables

  -- and all of it is durable
  pub only_there : (new.keeps_model → Only old.content new) → new.keeps_model → Only new.content new
  only_there durable keeps = rw looks.untouched.content (durable keeps)

-- a content stands for the tree of its log map
state_found : {c : Content} (t : Tables) → HasTree c t → (s : State) × Stands c s
state_found t has =
    let m = has.tables.held.log in
    let k = has.tables.held.checkpoint in (
      record { tree = tree_in m; handles = []; version = layout_version k },
      record {
        checkpoint = k;
        log = m;
        found = has.tables.held.newest;
        stands = has.tables.stands;
        tree = has.tree;
        version = refl;
        closed = refl;
      },
    )

-- ---- what the device was told
pub told_volume : {D : Type 0} (state : D → DeviceState) (d : D) {d' : D} (v : Fs D) → SyncsOnce (state d) (state d')
    → (seen v).log.device ≡ d' → length (state (seen v).log.device).told ≤ length (state d).told + 1
told_volume state d v looks same = rw same looks.told

-- ---- the volume behind it
module _ {D : Type 0} (state : D → DeviceState) (d : D) {d' : D} (lawful : IsLawful (state d)) (looks : SyncsOnce (state d) (state d'))
    (v : Fs D)
    (same : (seen v).log.device ≡ d')
    (mounts : Mounts state d' (seen v).log) (counts : MountsTotals state d' (seen v).log (seen v).log.totals)
    (durable : (state d').keeps_model → Only (state d).content (state d')) where
  mounts_first : Mounts state d (seen v).log
  mounts_first = rw looks.untouched.content at mounts

  counts_first : MountsTotals state d (seen v).log (seen v).log.totals
  counts_first = rw looks.untouched.content at counts

  -- all that was there is durable
  pub durable_now : (state (seen v).log.device).keeps_model → Only (state d).content (state (seen v).log.device)
  durable_now = rw same durable

  module _ (saved : (seen v).log.saved ≡ true) (closed : v.handles ≡ []) where
    -- the volume is in the state that the content stands for
    pub mounts_fs : MountsFs state d v
    mounts_fs s keeps is = record {
      point = point_of state (seen v) s;
      same = refl;
      running = found_running state d (seen v) mounts_first keeps s is lawful.now;
      at = found_at state d (seen v) mounts_first keeps s is lawful.now closed
          (counts_first is.log keeps (record { checkpoint = is.checkpoint; newest = is.found; stands = is.stands })) saved
          (durable_now keeps);
    }

    -- and it stands for one
    pub finds_state : {t : Tables} → ((state d').keeps_model → HasTree (state d).content t) → FindsState state d v
    finds_state {t} has keeps =
        let found = state_found t (has (rw same at keeps)) in
        (found.0, found.1, mounts_fs found.0 keeps found.1)

-- ---- where memory is refused behind the walk
pub memory_fault : (old new : DeviceState) {f : MountFault} → f ≡ NoMemory → (f ≡ NoMemory → ⊥) → IsMountFault old new f
memory_fault old new is other = absurd (other is)

pub memory_reason : (old new : DeviceState) {f : MountFault} → f ≡ NoMemory → IsRefused old new f
memory_reason old new is = subst (IsRefused old new) (sym is) tt
