-- What holds of a call over any device, by how it ends.
use Rattle.lfs_fs.proofs.Prelude.{◌≡◌, ◌≤◌, ◌+◌, ℕ, Bool, true, false, ◌||◌, List, length, refl, sym, ◌∙◌, ap, subst, inl, inr, arith}
use Rattle.lfs_fs.proofs.Prelude.{IsTrue, Order, Answer, Call, Create, Pwrite, Truncate, Mkdir, LinkTo, Symlink, Unlink, Rmdir, Rename}
use Rattle.lfs_fs.proofs.Prelude.{Fsync, Sync, Clean, Upgrade, Widen, Refuse, changes, cleans, commits, is_ok, may_write, takes_no_memory}
use Rattle.lfs_fs.proofs.Prelude.{never_for_device, DeviceState, Refusal, Halted, Stuck, LogState, commit_orders, clean_orders, TellsFew}
use Rattle.lfs_fs.proofs.Prelude.{Behaves, CommitsFew, IsStill, Mounted, TellsAtMost, changes_handles, most_orders, segments_of, reads_none}
use Rattle.lfs_fs.proofs.Prelude.{◌⊎◌, HasClean}
use Rattle.lfs_model.specs.declared.limits.TheConstants.{MOST_UNSAVED}
use Rattle.lfs_model.specs.Refusal.{NoMemory}
use Rattle.lfs_store.specs.Accepting.{HasCleanForTwo}
use Rattle.lfs_store.specs.cleaner.Making.{HasThreeSixteenths, once_orders}
use Rattle.lfs_store.specs.memory.Present.{Looks}
use Rattle.lfs_fs.specs.Asking.{most_asked}
use Rattle.lfs_fs.specs.Volume.{TellsNothing}

-- ---- answers and calls

-- the answer isn't Halted, whose cause is in the log, nor Stuck, which never comes, nor NoMemory, which some calls never answer
abbrev pub IsOrdinary : Answer → Type 0
IsOrdinary (Refuse Halted) = ⊥
IsOrdinary (Refuse Stuck) = ⊥
IsOrdinary (Refuse NoMemory) = ⊥
IsOrdinary _ = Unit {0}

pub not_halted : (a : Answer) → IsOrdinary a → a ≡ Refuse Halted → ⊥
not_halted a ordinary e = subst IsOrdinary e ordinary

pub not_stuck : {a : Answer} → IsOrdinary a → a ≡ Refuse Stuck → ⊥
not_stuck ordinary e = subst IsOrdinary e ordinary

pub not_memory : {a : Answer} → IsOrdinary a → a ≡ Refuse NoMemory → ⊥
not_memory ordinary e = subst IsOrdinary e ordinary

-- an answer that isn't a refusal is none
pub ok_refuses_none : {a : Answer} {r : Refusal} → is_ok a ≡ true → a ≡ Refuse r → ⊥
ok_refuses_none ok e = absurd (let both : false ≡ true = sym (ap (λ (x : Answer). is_ok x) e) ∙ ok in cc)

pub not_both : {b : Bool} → b ≡ true → b ≡ false → ⊥
not_both on off = absurd (let both : true ≡ false = sym on ∙ off in cc)

-- a call that changes something may write
pub change_writes : (call : Call) → changes call ≡ true → IsTrue (may_write call)
change_writes call change = ap (λ (b : Bool). b || commits call || cleans call) change

-- a call that changes something gives as many orders as where room is made
pub change_orders : (call : Call) (segments : ℕ) → changes call ≡ true → most_orders call segments ≡ clean_orders segments
change_orders (Create p) segments change = refl
change_orders (Pwrite h off w) segments change = refl
change_orders (Truncate h n) segments change = refl
change_orders (Mkdir p) segments change = refl
change_orders (LinkTo p q) segments change = refl
change_orders (Symlink text p) segments change = refl
change_orders (Unlink p) segments change = refl
change_orders (Rmdir p) segments change = refl
change_orders (Rename p q) segments change = refl
change_orders Upgrade segments change = refl
change_orders (Widen p) segments change = refl
change_orders other segments change = absurd (cc)

-- a call that changes something doesn't save
pub change_saves_none : (call : Call) → changes call ≡ true → commits call ≡ false
change_saves_none (Fsync h) change = absurd (cc)
change_saves_none Sync change = absurd (cc)
change_saves_none other change = refl

-- a call that may be refused because a call of the device failed commits nothing
pub commits_none : (call : Call) → never_for_device call ≡ false → commits call ≡ false
commits_none (Fsync h) free = absurd (cc)
commits_none Sync free = absurd (cc)
commits_none other free = refl

-- ---- calls

module _ {D : Type 0} (state : D → DeviceState) where
  -- where nothing is told, it is no more than this
  pub tells_none : (h h' : LogState D) (most : ℕ) → (state h'.device).told ≡ (state h.device).told → TellsAtMost state h h' most
  tells_none h h' most same = subst (λ (told : List Order). length told ≤ length (state h.device).told + most) (sym same) (omega arith)

  -- A call writes few checkpoints, and gives the device few orders.
  pub record IsBounded (old new : Mounted D) (call : Call) : Type 0 where
    pub few : CommitsFew old new
    pub told : TellsAtMost state old.log new.log (most_orders call (segments_of old))
    pub one_pass : cleans call ≡ false → HasCleanForTwo old.log → TellsAtMost state old.log new.log (once_orders (segments_of old))
    pub one_commit : cleans call ≡ false → HasCleanForTwo old.log → HasThreeSixteenths old.log
        → TellsAtMost state old.log new.log commit_orders
    pub all_saved : commits call ≡ true → old.log.saved ≡ true → TellsNothing state old.log new.log
    pub idle : commits call ≡ false → cleans call ≡ false → HasClean old.log → HasThreeSixteenths old.log
        → old.log.waiting + most_asked call ≤ MOST_UNSAVED → TellsNothing state old.log new.log

  -- one that changes the tree, or was to, by a draft that asks for so many blocks of memory
  pub change_bounded : (old new : Mounted D) (call : Call) {asked : ℕ} → changes call ≡ true → CommitsFew old new → asked ≤ most_asked call
      → TellsFew state old.log new.log asked → IsBounded old new call
  change_bounded old new call change few small tells = record {
    few = few;
    told = subst (λ (most : ℕ). TellsAtMost state old.log new.log most) (sym (change_orders call (segments_of old) change)) tells.room;
    one_pass = λ unclean. tells.one_pass;
    one_commit = λ unclean. tells.one_commit;
    all_saved = λ saves all. absurd (not_both saves (change_saves_none call change));
    idle = λ later unclean clean ample room. tells.idle clean ample (omega (arith, small, room));
  }

  -- one that saves
  pub sync_bounded : (old new : Mounted D) → CommitsFew old new → TellsAtMost state old.log new.log commit_orders
      → (old.log.saved ≡ true → TellsNothing state old.log new.log) → IsBounded old new Sync
  sync_bounded old new few told none = record {
    few = few;
    told = told;
    one_pass = λ unclean clean. omega (arith, told);
    one_commit = λ unclean clean ample. told;
    all_saved = λ saves all. none all;
    idle = λ later. absurd (cc);
  }

  -- one that cleans
  pub clean_bounded : (old new : Mounted D) → CommitsFew old new → TellsAtMost state old.log new.log (clean_orders (segments_of old))
      → IsBounded old new Clean
  clean_bounded old new few told = record {
    few = few;
    told = told;
    one_pass = λ unclean. absurd (cc);
    one_commit = λ unclean. absurd (cc);
    all_saved = λ saves all. absurd (cc);
    idle = λ later unclean. absurd (cc);
  }

  module _ {old new : Mounted D} (call : Call) (a : Answer) where
    -- nothing is written
    module _ (looks : Looks (state old.log.device) (state new.log.device)) (number : new.log.number ≡ old.log.number) where
      unwritten : ((r : Refusal) → a ≡ Refuse r → new.table ≡ old.table) → (changes_handles call ≡ false → new.table ≡ old.table)
          → (a ≡ Refuse Halted → (old.log.halted ≡ true) ⊎ IsTrue (may_write call))
          → (takes_no_memory call ≡ true → a ≡ Refuse NoMemory → ⊥) → (a ≡ Refuse Stuck → ⊥) → Behaves state old new call a
      unwritten refused handles first_halted memory stuck = record {
        refused = refused;
        handles = handles;
        first_halted = first_halted;
        quiet = λ e. looks.untouched;
        number = λ e. number;
        few = omega arith;
        memory = memory;
        stuck = stuck;
        told = tells_none old.log new.log (most_orders call (segments_of old)) looks.told;
        one_pass = λ unclean clean. tells_none old.log new.log (once_orders (segments_of old)) looks.told;
        one_commit = λ unclean clean ample. tells_none old.log new.log commit_orders looks.told;
        all_saved = λ saves all. looks.told;
        idle = λ later unclean clean ample room. looks.told;
      }

      -- the open files stay
      pub kept_behaves : new.table ≡ old.table → IsOrdinary a → Behaves state old new call a
      kept_behaves table ordinary = unwritten (λ r e. table) (λ e. table) (λ e. absurd (not_halted a ordinary e))
          (λ takes. not_memory ordinary) (not_stuck ordinary)

      -- a file is opened or closed
      pub opens_behaves : changes_handles call ≡ true → is_ok a ≡ true → Behaves state old new call a
      opens_behaves moves ok = unwritten (λ r e. absurd (ok_refuses_none ok e)) (λ e. absurd (not_both moves e))
          (λ e. absurd (ok_refuses_none ok e)) (λ takes. ok_refuses_none ok) (ok_refuses_none ok)

    -- a call that may write, and leaves the open files
    pub write_behaves : IsTrue (may_write call) → new.table ≡ old.table → (a ≡ Refuse Stuck → ⊥)
        → (takes_no_memory call ≡ true → a ≡ Refuse NoMemory → ⊥) → IsBounded old new call → Behaves state old new call a
    write_behaves may table none memory bounded = record {
      refused = λ r e. table;
      handles = λ e. table;
      first_halted = λ e. inr may;
      quiet = λ e. absurd (not_both may e);
      number = λ e. absurd (not_both may e);
      few = bounded.few;
      memory = memory;
      stuck = none;
      told = bounded.told;
      one_pass = bounded.one_pass;
      one_commit = bounded.one_commit;
      all_saved = bounded.all_saved;
      idle = bounded.idle;
    }

    -- one that opens a file
    pub makes_behaves : changes_handles call ≡ true → is_ok a ≡ true → IsTrue (may_write call) → IsBounded old new call
        → Behaves state old new call a
    makes_behaves moves ok may bounded = record {
      refused = λ r e. absurd (ok_refuses_none ok e);
      handles = λ e. absurd (not_both moves e);
      first_halted = λ e. inr may;
      quiet = λ e. absurd (not_both may e);
      number = λ e. absurd (not_both may e);
      few = bounded.few;
      memory = λ takes. ok_refuses_none ok;
      stuck = ok_refuses_none ok;
      told = bounded.told;
      one_pass = bounded.one_pass;
      one_commit = bounded.one_commit;
      all_saved = bounded.all_saved;
      idle = bounded.idle;
    }

  -- a volume that was halted
  pub halted_behaves : (v : Mounted D) (call : Call) → v.log.halted ≡ true → Behaves state v v call (Refuse Halted)
  halted_behaves v call was = unwritten call (Refuse Halted) (reads_none state v.log).looks refl (λ r e. refl) (λ e. refl) (λ e. inl was)
      (λ takes e. cc) (λ e. cc)

  -- nothing but reads, and memory was refused
  pub memory_behaves : (old new : Mounted D) (call : Call) → IsStill state old new → takes_no_memory call ≡ false
      → Behaves state old new call (Refuse NoMemory)
  memory_behaves old new call still free = unwritten call (Refuse NoMemory) still.reads.looks still.reads.number (λ r e. still.table)
      (λ e. still.table) (λ e. absurd (cc)) (λ takes e. not_both takes free) (λ e. cc)
