-- A usage block is written where it stands: what that leaves of the log.
use Rattle.std.proofs.Common.{◌≡◌, ◌<◌, ◌≤◌, ⊎_elim, ◌+◌, true, false, ℕ, List, [], length, get_or, refl, sym, ◌∙◌, ap}
use Rattle.std.proofs.Common.{subst, arith}
use Rattle.std.proofs.lemmas.Bool.{cases_eq}
use Rattle.lfs_model.specs.Entry.{Entry, Data, Leaf, Double, Inode, Map, Usage}
use Rattle.lfs_model.specs.Checkpoint.{CheckpointValue}
use Rattle.lfs_model.specs.Crash.{IsFreeSector}
use Rattle.lfs_model.specs.Device.{DeviceState, IsLawful, MayWriteUnit, CrashWritesUnit, Carries, Elapses, put, left_new}
use Rattle.lfs_model.specs.Stands.{LogMap}
use Rattle.lfs_model.specs.Counting.{segment_of}
use Rattle.lfs_model.specs.Running.{SpellsUsage, IsFresh}
use Rattle.lfs_model.proofs.Leaving.{usage_filling}
use Rattle.lfs_model.proofs.UnitWrites.{to_unit}
use Rattle.lfs_memory.specs.segments.Table.{SegmentNumbers, UsageTable, no_segment, address_of, stale_of, clean_in}
use Rattle.lfs_memory.specs.segments.Chunk.{IsUnkeptBy}
use Rattle.lfs_memory.specs.segments.Steps.{PutsPlace, SpellsBlock}
use Rattle.lfs_memory.proofs.of_segments.StaysEmptied.{stays_emptied}
use Rattle.lfs_memory.specs.inodes.Blocks.{blocks_of}
use Rattle.lfs_memory.specs.inodes.MapValue.{MapValue}
use Rattle.lfs_memory.specs.declared.memory.LogMemory.{LogMemory}
use Rattle.lfs_memory.specs.Memory.{table_at, tables_of, segment_in, chunk_in, IsMemory, IsLog, Goes, Stops}
use Rattle.lfs_memory.proofs.Opened.{stays_settled, stays_quiet, taken_free}
use Rattle.lfs_log.specs.Settling.{IsAnew, AreAnew, IsFilled}

-- a sector that the acknowledged checkpoint doesn't need is free
place_free : (d : DeviceState) (v : LogMemory) (k : CheckpointValue) {m0 : LogMap} (m : LogMap) (at : ℕ) → IsLog d v k m0 m → 2 ≤ at
    → segment_of at < length v.usage.segments → IsUnkeptBy v.usage at → IsFreeSector d.content k at
place_free d v k {m0} m at log above inside on =
    subst (λ (a : ℕ). IsFreeSector d.content k a) (omega arith) (taken_free log.running _
    _ (let e = log.segments in omega arith) on (omega arith))

pub table_same : (map : MapValue) (u u' : UsageTable) → ((i : ℕ) → address_of u' i ≡ address_of u i) → (y : Entry)
    → table_at map u' y ≡ table_at map u y
table_same map u u' same (Data n i) = refl
table_same map u u' same (Leaf n q) = refl
table_same map u u' same (Double n) = refl
table_same map u u' same (Inode n) = refl
table_same map u u' same (Map i) = refl
table_same map u u' same (Usage i) = same i

module _ (v : LogMemory) (j : ℕ) (u : UsageTable) (good : IsMemory v) (is : IsAnew v.usage j)
    (closed : v.chunk.names ≡ []) (puts : PutsPlace v.usage u j (address_of v.usage j) false) where
  abbrev after : LogMemory
  after = record v { usage = u }

  pub put_address : (i : ℕ) → address_of u i ≡ address_of v.usage i
  put_address i = ⊎_elim
      (λ (here : i ≡ j). ap (address_of u) here ∙ puts.address.own ∙ ap (address_of v.usage) (sym here))
      (λ (ne : i ≡ j → ⊥). puts.address.others i ne)
      (cases_eq i j)

  same_numbers : {X : Type 0} (f : SegmentNumbers → X) (i : ℕ)
      → f (get_or u.segments i no_segment) ≡ f (get_or v.usage.segments i no_segment)
  same_numbers f i = ap (λ (x : List SegmentNumbers). f (get_or x i no_segment)) puts.segments

  fresh_now : IsFresh (tables_of v) (tables_of (record v { usage = u })) j
  fresh_now = record {
    at = table_same v.map v.usage u put_address;
    used = same_numbers (λ n. n.used);
    live = same_numbers (λ n. n.live);
    held = same_numbers (λ n. n.held);
    age = same_numbers (λ n. n.age);
    kept = same_numbers (λ n. n.kept);
    stale = puts.stale;
  }

  memory_now : IsMemory (record v { usage = u })
  memory_now = record {
    count = rw puts.segments good.count;
    opened = λ some. let none = ap length closed in absurd (omega (arith, some, none));
    short = good.short;
    usages = λ i one. ⊎_elim
        (λ (here : i ≡ j). let own = is.0 in let there = put_address i ∙ ap (address_of v.usage) here in
        absurd (omega (arith, own, there, one)))
        (λ (ne : i ≡ j → ⊥). puts.stale.others i ne ∙ good.usages i (sym (put_address i) ∙ one))
        (cases_eq i j);
    few = rw puts.segments good.few;
    unit = omega (arith, good.unit, puts.unit);
  }

  module _ (d d' : DeviceState) (bytes : List ℕ) (spells : SpellsBlock v.usage j bytes) (lawful : IsLawful d)
      (written : d'.keeps_model → d'.content ≡ put d.content (address_of v.usage j) bytes)
      (crash : CrashWritesUnit (address_of v.usage j) bytes d d') (same : d'.failures ≡ d.failures)
      (carries : Carries d d') (time : Elapses d d') where
    spells_now : SpellsUsage (tables_of v) j bytes
    spells_now = record { long = spells.long; used = spells.used; live = spells.live; age = spells.age }

    log_now : (k : CheckpointValue) (m0 m : LogMap) → d'.keeps_model → IsLog d v k m0 m → IsLog d' (record v { usage = u }) k m0 m
    log_now k m0 m keeps log = record {
      running = usage_filling d d' (blocks_of v.dirty) (tables_of v) (tables_of (record v { usage = u })) k m0 m (segment_in v.chunk)
          (chunk_in v.chunk) j bytes log.running is.0 is.2 spells_now
          (record { content = written keeps; crash = crash; unit = carries.unit }) fresh_now;
      hidden = log.hidden;
      segments = ap length puts.segments ∙ log.segments;
      unit = puts.unit ∙ log.unit;
      tight = log.tight;
    }

    pub fill_goes : Goes d d' v (record v { usage = u }) 0
    fill_goes = record {
      carries = carries;
      memory = memory_now;
      segments = ap length puts.segments;
      room = let e = ap clean_in puts.segments in omega arith;
      no_failure = same;
      emptied = λ s was. (stays_emptied u was).3 j (address_of v.usage j) false puts;
      log = log_now;
      quiet = λ k m0 m keeps log. stays_quiet m0 (address_of v.usage j) bytes log.running.settled
          (place_free d v k m (address_of v.usage j) log is.0 is.1 is.2)
          (to_unit d.unit (address_of v.usage j) bytes d.content d'.content (left_new (written keeps))) crash carries.unit
          lawful carries time;
    }

pub write_stops : (d d' : DeviceState) (v : LogMemory) (at : ℕ) (bytes : List ℕ) → IsLawful d → 2 ≤ at
    → segment_of at < length v.usage.segments → IsUnkeptBy v.usage at
    → (d'.keeps_model → MayWriteUnit d.unit at bytes d.content d'.content) → CrashWritesUnit at bytes d d'
    → d.failed_orders < d'.failed_orders → Carries d d'
    → Elapses d d' → Stops d d' v
write_stops d d' v at bytes lawful above inside on may crash failed carries time = record {
  carries = carries;
  cause = λ k m0 m keeps log. failed;
  settled = λ k m0 m keeps log.
      stays_settled {d' = d'} m0 at bytes log.running.settled (place_free d v k m at log above inside on) (may keeps) crash carries.unit;
  quiet = λ k m0 m keeps log. stays_quiet m0 at bytes log.running.settled (place_free d v k m at log above inside on)
      (may keeps) crash carries.unit lawful carries time;
}

-- the same with the address by another name
pub fill_goes_at : (v : LogMemory) {j at : ℕ} {u : UsageTable} → IsMemory v → IsAnew v.usage j → v.chunk.names ≡ []
    → address_of v.usage j ≡ at
    → PutsPlace v.usage u j at false
    → (d d' : DeviceState) (bytes : List ℕ) → SpellsBlock v.usage j bytes → IsLawful d
    → (d'.keeps_model → d'.content ≡ put d.content at bytes) → CrashWritesUnit at bytes d d' → d'.failures ≡ d.failures → Carries d d'
    → Elapses d d' → Goes d d' v (record v { usage = u }) 0
fill_goes_at v {j} {at} {u} good is closed e =
    rw (← e)
    (λ puts d d' bytes spells lawful written crash same carries time.
    fill_goes v j u good is closed puts d d' bytes spells lawful written crash same carries time)

pub write_stops_at : {d d' : DeviceState} (v : LogMemory) (j : ℕ) {at : ℕ} {bytes : List ℕ} → IsLawful d → IsAnew v.usage j
    → address_of v.usage j ≡ at
    → (d'.keeps_model → MayWriteUnit d.unit at bytes d.content d'.content) → CrashWritesUnit at bytes d d'
    → d.failed_orders < d'.failed_orders → Carries d d'
    → Elapses d d' → Stops d d' v
write_stops_at {d} {d'} v j {at} {bytes} lawful is e may crash failed carries time =
    write_stops d d' v at bytes lawful (rw (← e) is.0) (rw (← e) is.1) (rw (← e) is.2) may crash failed carries time

-- block j isn't stale any more
module _ {old new : UsageTable} {j : ℕ} (is : IsFilled old new j) where
  pub filled_fresh : ((i : ℕ) → i < j → stale_of old i ≡ false) → (i : ℕ) → i < j + 1 → stale_of new i ≡ false
  filled_fresh fresh i lt = ⊎_elim
      (λ (here : i ≡ j). ap (stale_of new) here ∙ is.stale.own)
      (λ (ne : i ≡ j → ⊥). is.stale.others i ne ∙ fresh i (omega arith))
      (cases_eq i j)

  pub filled_anew : AreAnew old → AreAnew new
  filled_anew anew i low stale = ⊎_elim
      (λ (here : i ≡ j). let bad : false ≡ true = sym is.stale.own ∙ ap (stale_of new) (sym here) ∙ stale in absurd (cc))
      (λ (ne : i ≡ j → ⊥).
      let was =
      anew i (rw (← is.segments) low) (sym (is.stale.others i ne) ∙ stale) in
      let e = is.address i in
      let le = was.0 in
      let size = ap length is.segments in
      let inside = was.1 in (
        omega arith,
        omega arith,
        rw e (rw is.segments was.2),
      ))
      (cases_eq i j)
