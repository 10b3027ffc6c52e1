-- What the layers above know of a log that holds a log map, and of calls that only read it.
use Rattle.std.proofs.Common.{◌≡◌, inl, ℕ, false, List, length, Some, refl, sym, ◌∙◌, ap, subst, arith}
use Rattle.lfs_model.specs.Checkpoint.{CheckpointValue, IsSegmentCount, shape_of}
use Rattle.lfs_model.specs.Crash.{StandsOn}
use Rattle.lfs_model.specs.Device.{DeviceState, IsLawful, AllLeft, LeavesOnly}
use Rattle.lfs_model.specs.Entry.{Header}
use Rattle.lfs_model.specs.Objects.{AreLong, IsHeaderOf}
use Rattle.lfs_model.specs.Settled.{IsSettled}
use Rattle.lfs_model.specs.Stands.{LogMap}
use Rattle.lfs_model.proofs.Newest.{newest_fits}
use Rattle.lfs_model.proofs.ObjectMaps.{laid_headers}
use Rattle.lfs_model.proofs.ObjectNeeds.{laid_long}
use Rattle.lfs_model.proofs.Settled.{settled_stands}
use Rattle.lfs_memory.specs.declared.memory.LogMemory.{LogMemory}
use Rattle.lfs_memory.specs.segments.Early.{AreUntaken}
use Rattle.lfs_memory.specs.segments.Table.{SegmentNumbers, UsageTable, kept_of, used_of}
use Rattle.lfs_memory.specs.Memory.{IsLoose, IsLog}
use Rattle.lfs_memory.specs.Present.{Looks}
use Rattle.lfs_memory.proofs.Looses.{loose, tight_again}
use Rattle.lfs_memory.proofs.Presents.{looks_none, looks_quiet, looks_then, still_log}
use Rattle.lfs_log.specs.LogState.{LogState, Holds, HoldsStill, IsAtRest, IsReadFault, IsWhole, Reads}
use Rattle.lfs_log.proofs.Unsaved.{kept_saved}

-- the same numbers of segments say so
untaken_by : (t u : UsageTable) → u.segments ≡ t.segments → AreUntaken t → AreUntaken u
untaken_by t u same untaken s =
    ap (λ (ns : List SegmentNumbers). kept_of (record t { segments = ns }) s) same ∙ untaken s
    ∙ sym (ap (λ (ns : List SegmentNumbers). used_of (record t { segments = ns }) s) same)

module _ {D : Type 0} {state : D → DeviceState} where
  -- memory and device hold what the log does
  pub loose_in : {h : LogState D} {k : CheckpointValue} {m0 m : LogMap} → Holds state h k m0 m → IsLoose (state h.device) h.inner k m0 m
  loose_in {h} {k} {m0} {m} is = loose _ _ k m0 m is.log

  -- a call that only looks at the device
  pub reads_looked : {h : LogState D} {d : D} → Looks (state h.device) (state d) → Reads state h (record h { device = d })
  reads_looked looks = record {
    looks = looks;
    halted = refl;
    number = refl;
    version = refl;
    upgraded = refl;
    saved = refl;
    unsaved = refl;
    totals = refl;
    segments = refl;
    clean = refl;
    emptied = refl;
    waiting = refl;
    file_data = refl;
    usage = refl;
    inner = refl;
  }

module _ {D : Type 0} (state : D → DeviceState) where
  -- ---- what is acknowledged
  pub settled : {h : LogState D} {k : CheckpointValue} {m0 m : LogMap} → Holds state h k m0 m → IsSettled (state h.device) k m0
  settled is = is.log.running.settled

  pub acknowledged : {h : LogState D} {k : CheckpointValue} {m0 m : LogMap} → Holds state h k m0 m
      → AllLeft (state h.device) (λ c. StandsOn (shape_of k) c m0)
  acknowledged {h} {k} {m0} {m} is = settled_stands (state h.device) k m0 (settled is)

  -- the log map is one that blocks spell: its data blocks are as long as sectors, and its headers are those of inodes
  pub map_long : (h : LogState D) (k : CheckpointValue) {m0 : LogMap} (m : LogMap) → Holds state h k m0 m → (n : ℕ) → AreLong m n
  map_long h k m is = let running = is.log.running in laid_long (state h.device).content m running.memory _ running.laid

  pub map_headers : (h : LogState D) (k : CheckpointValue) {m0 : LogMap} (m : LogMap) → Holds state h k m0 m → (n : ℕ) (x : Header)
      → m.header n ≡ Some x → IsHeaderOf n x
  map_headers h k m is = let running = is.log.running in laid_headers (state h.device).content m running.memory _ running.laid

  -- a log that holds a map has as many segments as a volume may have, and so has each that isn't halted
  pub segment_count : {h : LogState D} {k : CheckpointValue} {m0 m : LogMap} → IsLawful (state h.device) → Holds state h k m0 m
      → IsSegmentCount h.segments
  segment_count {h} {k} {m0} {m} lawful is =
      let fits = ((newest_fits (state h.device).content lawful.now).0 k).0 (settled is).newest in
      rw (← is.segments) fits.held.fits.segments

  pub whole_count : (h : LogState D) → IsWhole h → h.halted ≡ false → IsSegmentCount h.segments
  whole_count h whole running =
      subst IsSegmentCount (sym (whole.segments ∙ ap (λ (t : UsageTable). length t.segments) whole.usage)) (whole.memory running).count

  -- a device that is looked at leaves what is acknowledged
  pub looks_leave : {h : LogState D} {d : DeviceState} {k : CheckpointValue} {m0 : LogMap} (m : LogMap) → IsLawful (state h.device)
      → Looks (state h.device) d → Holds state h k m0 m → LeavesOnly (state h.device) d (λ c. StandsOn (shape_of k) c m0)
  looks_leave {h} {d} {k} {m0} m lawful looks is =
      looks_quiet d k m0 m lawful looks (loose_in is)

  -- ---- calls that only read
  pub rest_reads : (a b : LogState D) → Reads state a b → IsAtRest a → IsAtRest b
  rest_reads a b reads rest =
      let waiting = reads.waiting in
      let untaken = subst AreUntaken (sym reads.usage) rest.untaken in
      let many = rest.many in
      let segments = reads.segments in
      let clean = reads.clean in
      record {
        nothing = kept_saved rest.nothing (omega (arith, waiting)) reads.upgraded untaken;
        untaken = untaken;
        many = omega (arith, many, segments, clean);
      }

  pub held_still : {a b : LogState D} {k : CheckpointValue} {m0 m : LogMap} → Reads state a b → Holds state a k m0 m → Holds state b k m0 m
  held_still {a} {b} {k} {m0} {m} reads is = record {
    log = subst (λ (v : LogMemory). IsLog (state b.device) v k m0 m) (sym reads.inner)
        (tight_again (still_log reads.looks (loose_in is)) is.log.tight);
    segments = is.segments ∙ sym reads.segments;
    number = is.number ∙ sym reads.number;
    version = is.version ∙ sym reads.version;
    fits = rw reads.version is.fits;
    running = reads.halted ∙ is.running;
    nothing_new = λ all. is.nothing_new (sym reads.saved ∙ all);
    rest = λ all. rest_reads a b reads (is.rest (sym reads.saved ∙ all));
  }

  -- ---- calls that were refused
  -- one that only read
  pub still_read : {a b : LogState D} → IsLawful (state a.device) → Reads state a b → HoldsStill state a b
  still_read lawful reads = record {
    carries = reads.looks.carries;
    halted = reads.halted;
    number = reads.number;
    version = reads.version;
    upgraded = reads.upgraded;
    saved = reads.saved;
    unsaved = reads.unsaved;
    totals = reads.totals;
    segments = reads.segments;
    clean = reads.clean;
    emptied = reads.emptied;
    waiting = reads.waiting;
    file_data = reads.file_data;
    usage = ap (λ (t : UsageTable). t.segments) reads.usage;
    last = inl (ap length reads.looks.told);
    holds = λ k m0 m keeps is. held_still reads is;
    moment = λ k m0 m keeps is. looks_leave m lawful reads.looks is;
  }

  pub rest_still : (a b : LogState D) → HoldsStill state a b → IsAtRest a → IsAtRest b
  rest_still a b still rest =
      let waiting = still.waiting in
      let untaken = untaken_by a.usage b.usage still.usage rest.untaken in
      let many = rest.many in
      let segments = still.segments in
      let clean = still.clean in
      record {
        nothing = kept_saved rest.nothing (omega (arith, waiting)) still.upgraded untaken;
        untaken = untaken;
        many = omega (arith, many, segments, clean);
      }

  pub reads_none : (a : LogState D) → Reads state a a
  reads_none a = reads_looked {h = a} (looks_none _)

  pub reads_more : {a b c : LogState D} → IsLawful (state a.device) → Reads state a b → Reads state b c → Reads state a c
  reads_more {a} {b} {c} lawful one two = record {
    looks = looks_then lawful one.looks two.looks;
    halted = two.halted ∙ one.halted;
    number = two.number ∙ one.number;
    version = two.version ∙ one.version;
    upgraded = two.upgraded ∙ one.upgraded;
    saved = two.saved ∙ one.saved;
    unsaved = two.unsaved ∙ one.unsaved;
    totals = two.totals ∙ one.totals;
    segments = two.segments ∙ one.segments;
    clean = two.clean ∙ one.clean;
    emptied = two.emptied ∙ one.emptied;
    waiting = two.waiting ∙ one.waiting;
    file_data = two.file_data ∙ one.file_data;
    usage = two.usage ∙ one.usage;
    inner = two.inner ∙ one.inner;
  }

  pub fault_more : {a b : LogState D} (c : LogState D) → Reads state a b → IsReadFault state b c → IsReadFault state a c
  fault_more {a} {b} c one failed k m0 m keeps is =
      let rose = failed k m0 m keeps (held_still one is) in
      let before = one.looks.carries.failures in
      omega (arith, rose, before)
