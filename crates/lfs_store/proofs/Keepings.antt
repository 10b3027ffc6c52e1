-- What calls keep of a store, one after the other.
use Rattle.std.specs.Prelude.{Result, Ok, Err}
use Rattle.std.proofs.Common.{◌≡◌, refl, sym, ◌∙◌}
use Rattle.lfs_model.specs.Device.{DeviceState, IsLawful}
use Rattle.lfs_files.specs.declared.fault.LogFault.{LogFault}
use Rattle.lfs_files.specs.declared.fault.LogFault.TheVariants.{Full, Halted}
use Rattle.lfs_cleaner.specs.log.LogState.{IsReadFault, LogState, Reads}
use Rattle.lfs_store.specs.declared.store.Store.{Store}
use Rattle.lfs_files.specs.Files as files
use Rattle.lfs_store.specs.Keeping.{DraftsUncounted, OnlyCounts, ReadsLog, RedraftsUncounted}
use Rattle.lfs_store.specs.Seen.{files_of}
use Rattle.lfs_store.proofs.StoreSeen.{seen_fault, seen_redraft}
use Rattle.lfs_store.specs.Reading.{ReadsStore}
use Rattle.lfs_cleaner.proofs.of_log.LogReads.{fault_more, reads_none, reads_more}

abbrev pub error_of : (T : Type 0) → LogFault → Result T LogFault
error_of T fault = Err fault

module _ {D : Type 0} {state : D → DeviceState} where
  uncounted_none : (a : Store D) → RedraftsUncounted state a a
  uncounted_none a = record { reads = reads_none _ _; drafted = refl }

  pub uncounted_reads : {a b : Store D} → ReadsStore state a b → RedraftsUncounted state a b
  uncounted_reads one = record { reads = one.log; drafted = one.drafted }

  pub uncounted_then : {a b c : Store D} → IsLawful (state a.log.device) → RedraftsUncounted state a b → RedraftsUncounted state b c
      → RedraftsUncounted state a c
  uncounted_then {a} {b} {c} lawful one two = record {
    reads = reads_more _ lawful one.reads two.reads;
    drafted = cc;
  }

  pub uncounted_drafts : {a b c : Store D} → RedraftsUncounted state a b → DraftsUncounted b c → RedraftsUncounted state a c
  uncounted_drafts {a} one two = record {
    reads = rw two.log one.reads;
    drafted = cc;
  }

  pub drafts_uncounted : {a b : Store D} → DraftsUncounted a b → RedraftsUncounted state a b
  drafts_uncounted {a} {b} one = uncounted_drafts (uncounted_none _) one

  -- the log stays
  pub same_redrafts : {a : Store D} {b : Store D} → b.log ≡ a.log → files.Redrafts (files_of state a) (files_of state b)
  same_redrafts same = seen_redraft _ _ _ (rw same (reads_none _ _))

  -- a file is measured, changed and measured again
  pub reads_redrafts : {a b : Store D} → ReadsStore state a b → files.Redrafts (files_of state a) (files_of state b)
  reads_redrafts {a} {b} one = seen_redraft _ _ _ one.log

  pub measured_redrafts : {a b c : Store D} → IsLawful (state a.log.device) → ReadsStore state a b → RedraftsUncounted state b c
      → files.Redrafts (files_of state a) (files_of state c)
  measured_redrafts {a} {b} {c} lawful one two = seen_redraft _ _ _ (reads_more _ lawful one.log two.reads)

  pub counted_redrafts : {a b c d : Store D} → IsLawful (state a.log.device) → ReadsStore state a b → RedraftsUncounted state b c
      → OnlyCounts state c d → files.Redrafts (files_of state a) (files_of state d)
  counted_redrafts {a} {b} {c} {d} lawful one two three = seen_redraft _ _ _
      (reads_more _ lawful (reads_more _ lawful one.log two.reads) three.reads)

  -- and an error comes from the device
  pub measured_fault : {a b : Store D} (c : Store D) → ReadsStore state a b → IsReadFault state b.log c.log
      → files.IsFault (files_of state a) (files_of state c)
  measured_fault {a} {b} c one failed = seen_fault _ a c (fault_more _ c.log one.log failed)

  pub counted_fault : {a b c : Store D} (d : Store D) → IsLawful (state a.log.device) → ReadsStore state a b → RedraftsUncounted state b c
      → IsReadFault state c.log d.log → files.IsFault (files_of state a) (files_of state d)
  counted_fault {a} {b} {c} d lawful one two failed = seen_fault _ a d (fault_more _ d.log (reads_more _ lawful one.log two.reads) failed)

  -- ---- a log that is only read
  pub looked_done : {T : Type 0} {h h' : LogState D} {x : T} → Reads state h h' → ReadsLog state h h' (Ok x)
  looked_done reads = record { reads = reads; failed = tt; halted = λ e. absurd (cc); other = λ e. absurd (cc) }

  -- behind other reads
  pub looked_more : {T : Type 0} (a b c : LogState D) (r : Result T LogFault) → IsLawful (state a.device) → Reads state a b
      → ReadsLog state b c r → ReadsLog state a c r
  looked_more a b c (Ok x) lawful one two = looked_done {x = x} (reads_more _ lawful one two.reads)
  looked_more a b c (Err fault) lawful one two = record {
    reads = reads_more _ lawful one two.reads;
    failed = fault_more _ c one two.failed;
    halted = λ e. cc (two.halted e);
    other = two.other;
  }

  -- an error is passed on
  pub looked_fails : (S T : Type 0) {a b c : LogState D} {fault : LogFault} → IsLawful (state a.device) → Reads state a b
      → ReadsLog state b c (error_of S fault) → ReadsLog state a c (error_of T fault)
  looked_fails S T {a} {b} {c} {fault} lawful one two = record {
    reads = reads_more _ lawful one two.reads;
    failed = fault_more _ c one two.failed;
    halted = λ e. (let same : fault ≡ Halted = cc in sym one.halted ∙ two.halted (cc));
    other = λ e. (let same : fault ≡ Full = cc in two.other (cc));
  }
