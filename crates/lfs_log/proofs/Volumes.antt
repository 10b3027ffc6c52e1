-- The log over its device: what its calls do, from what is done to device and memory.
use Rattle.std.specs.Prelude.{Result, Err}
use Rattle.std.proofs.lemmas.Bool.{and_parts}
use Rattle.std.proofs.Common.{◌≡◌, ◌<◌, ◌≤◌, ◌+◌, ◌*◌, ◌&&◌, ◌||◌, cond, ℕ, Bool}
use Rattle.std.proofs.Common.{true, false, length, refl, sym, ◌∙◌, ap, subst}
use Rattle.std.proofs.Common.{arith}
use Rattle.lfs_model.specs.Checkpoint.{CheckpointValue, MayHave, Shape, most_unit_power, shape_of}
use Rattle.lfs_model.specs.declared.limits.TheConstants.{FILE_NUMBERS}
use Rattle.lfs_model.specs.Crash.{StandsOn}
use Rattle.lfs_model.specs.Device.{AllLeft, DeviceState, IsLawful}
use Rattle.lfs_model.specs.Encodes.{IsLogMap}
use Rattle.lfs_model.specs.Stands.{LogMap, StandsLog}
use Rattle.lfs_model.proofs.Crash.{single_log}
use Rattle.lfs_model.specs.TreeOf.{dropped}
use Rattle.lfs_model.proofs.Settled.{settled_stands}
use Rattle.lfs_log.specs.Opening.{Opens}
use Rattle.lfs_model.proofs.Decodes.{are_sized}
use Rattle.lfs_memory.specs.files.declared.fault.LogFault.{LogFault}
use Rattle.lfs_memory.specs.files.declared.fault.LogFault.TheVariants.{Device}
use Rattle.lfs_memory.specs.Present.{OnlyLooks, Looks}
use Rattle.lfs_log.specs.Publishing.{IsAcknowledged}
use Rattle.lfs_log.specs.Saving.{CommitsAll, CommitFailsIn}
use Rattle.lfs_log.proofs.LogReads.{loose_in, reads_looked}
use Rattle.lfs_memory.specs.declared.changes.Changes.{Changes}
use Rattle.lfs_memory.specs.declared.memory.LogMemory.{LogMemory}
use Rattle.lfs_memory.specs.inodes.MapValue.{IsUnusedNumber, address_in, is_hidden_in}
use Rattle.lfs_memory.specs.segments.Early.{AreUntaken}
use Rattle.lfs_memory.specs.segments.Table.{UsageTable, used_of, kept_of, clean_in}
use Rattle.lfs_model.specs.Encodes.{HasInode}
use Rattle.lfs_memory.specs.Memory.{IsLog, IsLoose}
use Rattle.lfs_memory.specs.Lifting.{Prepares}
use Rattle.lfs_memory.specs.Changing.{Tightens}
use Rattle.lfs_memory.specs.Removing.{RemovesFile}
use Rattle.lfs_memory.specs.Batch.{FitsLoss, raises, room_for, version_after}
use Rattle.lfs_memory.specs.declared.batch.Loss.{Loss}
use Rattle.lfs_memory.specs.declared.batch.Loss.TheVariants as loss
use Rattle.lfs_memory.specs.Staging.{StandsWithBatch, TakesBatch, RefusesBatch, IsBatchExcused}
use Rattle.lfs_memory.proofs.Applied.{has_inode}
use Rattle.lfs_memory.proofs.BlockSteps.{tightened_log}
use Rattle.lfs_memory.proofs.Presents.{no_inode, same_map}
use Rattle.lfs_memory.proofs.Versions.{staged_version}
use Rattle.lfs_log.specs.LogState.{LogState, Holds, Mounts, Saves, Halts}
use Rattle.lfs_log.specs.LogState.{Alters, IsStaged, IsRefused}
use Rattle.lfs_log.specs.LogState.{IsStageFault, IsRemoved, IsKept, IsVacant, HasAll, HoldsOne, AreAllSaved, IsAtRest, ReadsLog}
use Rattle.lfs_log.specs.Held.{Held, seen}
use Rattle.lfs_log.proofs.Linked.{all_linked, same_dropped}
use Rattle.lfs_log.proofs.Unsaved.{rest_altered}

abbrev pub device_fails : (T : Type 0) → Result T LogFault
device_fails T = Err Device

and_true : (b : Bool) → (b && true) ≡ b
and_true true = refl
and_true false = refl

still_untaken : (before : UsageTable) {between after : UsageTable} → after ≡ between
    → ((segment : ℕ) → used_of between segment ≡ used_of before segment)
    → ((segment : ℕ) → kept_of between segment ≡ kept_of before segment) → AreUntaken before → AreUntaken after
still_untaken before same used kept untaken = rw same (λ segment. kept segment ∙ untaken segment ∙ sym (used segment))

-- a volume of the same shape may have the same versions
pub still_fits : (k next : CheckpointValue) (version : ℕ) → shape_of next ≡ shape_of k → MayHave k version → MayHave next version
still_fits k next version same is = record {
  unit = subst (λ (x : Shape). x.unit_power ≤ most_unit_power version) (sym same) is.unit;
  last = ap (λ (x : Shape). x.last) same ∙ is.last;
}

-- a version that is raised is the first, which has what the second has
fits_raised : {k : CheckpointValue} {version : ℕ} (raised : Bool) → MayHave k version → (raised ≡ true → version ≡ 1)
    → MayHave k (cond raised 2 version)
fits_raised {k} {version} true is first =
    let one = subst (MayHave k) (first refl) is in record { unit = one.unit; last = one.last }
fits_raised false is first = is

raises_first : (m : LogMap) (l : Loss) → FitsLoss m l → raises l ≡ true → m.version ≡ 1
raises_first m loss.Nothing fits on = absurd (cc)
raises_first m (loss.Blocks c) fits on = absurd (cc)
raises_first m (loss.Link l) fits on = absurd (cc)
raises_first m (loss.File r) fits on = absurd (cc)
raises_first m loss.FirstVersion fits on = fits

module _ {D : Type 0} {state : D → DeviceState} where
  -- what is to be saved, where the log holds a log map and memory stands for it
  pub acknowledged : (h : Held D) {v : LogMemory} {k : CheckpointValue} {m0 m : LogMap} → Holds state (seen h) k m0 m
      → IsLog (state h.device) v k m0 m → IsLogMap (dropped m) → IsAcknowledged (state h.device) v h.version h.number k m0 m
  acknowledged h is log map = record { log = log; map = map; same = is.number; same_version = is.version; fits = is.fits }

  pub saves : {h h' : Held D} → length h.memory.dirty.blocks ≤ 456 → CommitsAll (state h.device) (state h'.device) h.memory h'.memory
      h.version h.number → h'.number ≡ h.number + 1 → h'.version ≡ h.version → h'.upgraded ≡ false → h'.saved ≡ true → h'.halted ≡ false
      → Saves state (seen h) (seen h')
  saves {h} {h'} few c number version upgraded saved running = record {
    carries = c.carries;
    running = running;
    number = number;
    segments = c.segments;
    gains = let more = c.gains in omega (arith, more, few);
    taken = c.gains;
    clean = let more = c.gains in omega (arith, more, few);
    many = c.many;
    saved = saved;
    empty = nothing;
    untaken = c.untaken;
    no_failure = c.no_failure;
    holds = holds;
    left = λ k m0 m keeps is map. (
        let n = holds k m0 m keeps is map in
        subst (λ (shape : Shape). AllLeft (state h'.device) (λ c. StandsOn shape c (dropped m))) n.1
        (settled_stands (state h'.device) n.0 (dropped m) n.2.log.running.settled));
    moment = λ k m0 m keeps is map. c.moment k m0 m keeps (acknowledged h is is.log map);
  }
    where
      nothing : AreAllSaved (seen h')
      nothing = record { blocks = ap length c.dirty; version = upgraded; sectors = c.untaken }

      holds : (k : CheckpointValue) (m0 m : LogMap) → (state h'.device).keeps_model → Holds state (seen h) k m0 m → IsLogMap (dropped m)
          → (next : CheckpointValue) × (shape_of next ≡ shape_of k) × Holds state (seen h') next (dropped m) m
      holds k m0 m keeps is map =
          let n = c.log k m0 m keeps (acknowledged h is is.log map) in (
            n.0,
            n.3,
            record {
              log = n.2;
              segments = sym n.2.segments;
              number = n.1 ∙ sym number;
              version = is.version ∙ sym version;
              fits = rw version (still_fits k n.0 h.version n.3 is.fits);
              running = running;
              nothing_new = λ all. refl;
              rest = λ all. record { nothing = nothing; untaken = c.untaken; many = c.many };
            },
          )

  pub halts : {h h' : Held D} {orders : ℕ} → CommitFailsIn orders (state h.device) (state h'.device) h.memory h.version h.number
      → h'.halted ≡ true → h'.saved ≡ false → h'.number ≡ h.number → Halts state (seen h) (seen h')
  halts {h} c halted unsaved number = record {
    carries = c.carries;
    halted = halted;
    unsaved = unsaved;
    number = number;
    cause = λ k m0 m keeps is. c.cause k m0 m keeps is.log;
    left = λ k m0 m keeps is map. c.left k m0 m keeps (acknowledged h is is.log map);
    moment = λ k m0 m keeps is map. c.moment k m0 m keeps (acknowledged h is is.log map);
  }

  -- a mounted log map has no file of no links
  pub mounts : (d : D) {h : Held D} → IsLawful (state d) → Opens (state d) (state h.device) h.memory h.version h.number → h.halted ≡ false
      → AreAllSaved (seen h) → ((state h.device).keeps_model → AreUntaken h.memory.usage)
      → ((state h.device).keeps_model → length h.memory.usage.segments ≤ 8 * clean_in h.memory.usage.segments) → Mounts state d (seen h)
  mounts d lawful opens running nothing untaken many m keeps is =
      let o = opens m keeps is in
      record {
        log = o.0;
        segments = sym o.0.segments;
        number = o.1;
        version = o.2;
        fits = o.3;
        running = running;
        nothing_new = λ all. all_linked m (are_sized (state d).content lawful.now) is.stands;
        rest = λ all. record { nothing = nothing; untaken = untaken keeps; many = many keeps };
      }

  -- ---- a call that only looks
  -- what is told where memory stands for the log map is told of the log
  pub answers_log : {h : LogState D} (d : D) {Answer : CheckpointValue → LogMap → LogMap → Type 0}
      → ((k : CheckpointValue) (m0 m : LogMap) → (state d).keeps_model → IsLoose (state h.device) h.inner k m0 m → Answer k m0 m)
      → (k : CheckpointValue) (m0 m : LogMap) → (state d).keeps_model → Holds state h k m0 m → Answer k m0 m
  answers_log d answers k m0 m keeps is = answers k m0 m keeps (loose_in is)

  pub looked_fails : {h : LogState D} {d : D} {T A E : Type 0} {e : E} → OnlyLooks {T = A} (state h.device) (state d) h.inner (Err e)
      → ReadsLog state h (record h { device = d }) (device_fails T)
  looked_fails {d} only = record {
    reads = reads_looked only.looks;
    halted = λ e. absurd (cc);
    other = λ e. absurd (cc);
    failed = answers_log d only.failed;
  }

  -- ---- memory changes, and then blocks of pointers that lead nowhere leave it
  held_tight : {h h' : Held D} {v : LogMemory} {k : CheckpointValue} {m0 m w : LogMap} → Holds state (seen h) k m0 m
      → h'.number ≡ h.number → (raised : Bool) → (raised ≡ true → m.version ≡ 1) → h'.version ≡ cond raised 2 h.version
      → w.version ≡ cond raised 2 m.version
      → h'.halted ≡ h.halted → Tightens v h'.memory → IsLoose (state h'.device) v k m0 w → (h'.saved ≡ true → m0 ≡ dropped w)
      → (h'.saved ≡ true → IsAtRest (seen h')) → Holds state (seen h') k m0 w
  held_tight {h} {k = k} {w = w} is number raised first version same halted tight loose nothing_new rest =
      let log = tightened_log k w tight loose in
      record {
        log = log;
        segments = sym log.segments;
        number = is.number ∙ sym number;
        version = same ∙ ap (λ (n : ℕ). cond raised 2 n) is.version ∙ sym version;
        fits = rw version (fits_raised raised is.fits (λ on. sym is.version ∙ first on));
        running = halted ∙ is.running;
        nothing_new = nothing_new;
        rest = rest;
      }

  module _ {h h' : Held D} {v : LogMemory} (number : h'.number ≡ h.number) (halted : h'.halted ≡ h.halted)
      (tight : Tightens v h'.memory) where
    altered : {more : ℕ} {raised : Bool} → h'.version ≡ cond raised 2 h.version → h'.upgraded ≡ (raised || h.upgraded)
        → Looks (state h.device) (state h'.device) → length v.usage.segments ≡ length h.memory.usage.segments
        → clean_in v.usage.segments ≡ clean_in h.memory.usage.segments → length v.dirty.blocks ≤ length h.memory.dirty.blocks + more
        → Alters state (seen h) (seen h') more raised
    altered version upgraded looks segments clean few = record {
      looks = looks;
      number = number;
      version = version;
      upgraded = upgraded;
      halted = halted;
      segments = tight.stays.segments ∙ segments;
      clean = tight.stays.clean ∙ clean;
      few = let fewer = tight.stays.blocks in omega (arith, few, fewer);
    }

    module _ (c : Changes) where
      stood : {raised : Bool} → h'.version ≡ cond raised 2 h.version → h'.upgraded ≡ (raised || h.upgraded)
          → StandsWithBatch (state h.device) (state h'.device) h.memory v c.headers.items c.blocks.items
          → Alters state (seen h) (seen h') (room_for c) raised
      stood version upgraded s = altered version upgraded s.looks s.segments s.clean s.few

    module _ {c : Changes} where
      pub is_staged : h'.version ≡ version_after c.loss h.version → h'.upgraded ≡ (raises c.loss || h.upgraded) → h'.saved ≡ false
          → TakesBatch (state h.device) (state h'.device) h.memory v c.loss c.headers.items c.blocks.items
          → IsStaged state (seen h) (seen h') c
      is_staged version upgraded unsaved s = record {
        alters = stood c version upgraded s.stands;
        unsaved = unsaved;
        holds = λ k m0 m keeps is fits. held_tight is number _ (raises_first m c.loss fits.fits_loss) version (staged_version c m) halted
            tight
            (s.log k m0 m keeps (loose_in is) fits) (λ all. absurd (cc)) (λ all. absurd (cc));
      }

      pub is_refused : h'.version ≡ h.version → h'.upgraded ≡ h.upgraded → h'.saved ≡ false
          → RefusesBatch (state h.device) (state h'.device) h.memory v c.loss c.headers.items c.blocks.items
          → IsRefused state (seen h) (seen h') c
      is_refused version upgraded unsaved s = record {
        alters = stood c version upgraded s.stands;
        unsaved = λ on. unsaved;
        holds = λ k m0 m keeps is fits. held_tight is number false (λ on. absurd (cc)) version refl halted tight
            (s.log k m0 m keeps (loose_in is) fits)
            (λ all. absurd (cc)) (λ all. absurd (cc));
      }

    -- where it had a name, the log isn't saved any more
    pub is_removed : h'.version ≡ h.version → h'.upgraded ≡ h.upgraded → {n : ℕ} → n < FILE_NUMBERS
        → h'.saved ≡ (h.saved && is_hidden_in h.memory.map n)
        → RemovesFile (state h.device) (state h'.device) h.memory v n → IsRemoved state (seen h) (seen h') n
    is_removed version upgraded {n} low saved s =
        let alters : Alters state (seen h) (seen h') 0 false =
        altered version upgraded s.looks s.segments s.clean (let few = s.few in omega (arith, few)) in
        let untaken = still_untaken h.memory.usage tight.usage s.used s.kept in
        record {
          alters = alters;
          unsaved = λ off. saved ∙ ap (λ (all : Bool). all && is_hidden_in h.memory.map n) off;
          nameless = λ k m0 m keeps is off.
              saved ∙ ap (λ (hidden : Bool). h.saved && hidden) (sym (is.log.hidden n low) ∙ off) ∙ and_true h.saved;
          untaken = untaken;
          holds = λ k m0 m keeps is.
              let both = λ (all : h'.saved ≡ true). and_parts h.saved (is_hidden_in h.memory.map n) (sym saved ∙ all) in
              held_tight is number false (λ on. absurd (cc)) version refl halted tight (s.log k m0 m keeps (loose_in is))
              (λ all. is.nothing_new (both all).0 ∙ sym (same_dropped m n (is.log.hidden n low ∙ (both all).1)))
              (λ all. rest_altered alters untaken (is.rest (both all).0));
        }

    pub is_kept : h'.version ≡ h.version → h'.upgraded ≡ h.upgraded → h'.saved ≡ h.saved
        → Prepares (state h.device) (state h'.device) h.memory v 0 → IsKept state (seen h) (seen h')
    is_kept version upgraded saved s =
        let alters : Alters state (seen h) (seen h') 0 false = altered version upgraded s.looks s.segments s.clean s.few in
        let untaken = still_untaken h.memory.usage tight.usage s.used s.kept in
        record {
          alters = alters;
          saved = saved;
          untaken = untaken;
          holds = λ k m0 m keeps is. held_tight is number false (λ on. absurd (cc)) version refl halted tight
              (s.log k m0 m keeps (loose_in is))
              (λ all. is.nothing_new (sym saved ∙ all))
              (λ all. rest_altered alters untaken (is.rest (sym saved ∙ all)));
        }

  pub is_stage_fault : {h : Held D} (d : D) (c : Changes)
      → IsBatchExcused (state h.device) (state d) h.memory c.loss c.headers.items c.blocks.items
      → IsStageFault state (seen h) (seen (record h { device = d })) c
  is_stage_fault d c failed k m0 m keeps is fits = failed k m0 m keeps (loose_in is) fits

  -- ---- numbers that no file has
  has_there : {h : Held D} {k : CheckpointValue} {m0 m : LogMap} → Holds state (seen h) k m0 m → (l : ℕ) → 0 < address_in h.memory.map l
      → HasInode m l
  has_there {k} {m} is l some = has_inode k m (loose_in is) l some

  pub is_vacant : {h : Held D} {n : ℕ} → IsUnusedNumber h.memory.map n → IsVacant state (seen h) n
  is_vacant {h} {n} f = record {
    some = f.some;
    few = f.few;
    free = λ k m0 m is. no_inode (state h.device) h.memory k m0 m (loose_in is) n f.free;
    least = λ k m0 m is l low below. has_there is l (f.least l low below);
  }

  pub has_all : {h : Held D} → ((l : ℕ) → 1 ≤ l → l < 4096 → 0 < address_in h.memory.map l) → HasAll state (seen h)
  has_all all k m0 m is l low few = has_there is l (all l low few)

  -- ---- the log holds one log map
  pub holds_one : {h : LogState D} → HoldsOne state h
  holds_one {h} = record {
    present = λ k k' m0 m m0' m' is is'.
        same_map h.inner k k' m0 m m0' m' (loose_in is) (loose_in is') (is.version ∙ sym is'.version);
    acknowledged = λ k k' m0 m m0' m' is is'. single_log (state h.device).content m0 m0' (stands_for is) (stands_for is');
  }
    where
      stands_for : {k : CheckpointValue} {m0 m : LogMap} → Holds state h k m0 m → StandsLog (state h.device).content m0
      stands_for {k} is = let s = is.log.running.settled in record { checkpoint = k; newest = s.newest; stands = s.stands }
