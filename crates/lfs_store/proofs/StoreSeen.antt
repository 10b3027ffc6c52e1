-- What calls of a store are to the layers above.
use Rattle.std.specs.Prelude.{IfOk, IsFalse, OnOk}
use Rattle.std.proofs.Common.{◌≡◌, ℕ, Bool, List, Option, Result, Ok, Err, length, refl, sym, subst}
use Rattle.lfs_model.specs.Device.{DeviceState}
use Rattle.lfs_model.specs.Fields.{zeros}
use Rattle.lfs_files.specs.declared.header.Header.{Header}
use Rattle.lfs_files.specs.Files as files
use Rattle.lfs_files.specs.Files.{FilesState, HoldsBlock}
use Rattle.lfs_cleaner.specs.log.memory.Batch.{FitsBatch, IsNoChange}
use Rattle.lfs_cleaner.specs.log.LogState as held
use Rattle.lfs_cleaner.specs.log.LogState.{IsReadFault}
use Rattle.lfs_store.specs.declared.draft.Draft.{Draft}
use Rattle.lfs_store.specs.declared.store.Store.{Store}
use Rattle.lfs_store.specs.Reading.{ReadsHeader, ReadsBlock, ReadsPart, ReadsStore}
use Rattle.lfs_store.specs.Seen.{StagedLog, files_of}
use Rattle.lfs_cleaner.proofs.of_log.LogReads.{held_still}
use Rattle.lfs_store.proofs.Writings.{block_read}

module _ {D : Type 0} (state : D → DeviceState) (a b : Store D) where
  abbrev S : FilesState StagedLog Draft
  S = files_of state a

  abbrev S' : FilesState StagedLog Draft
  S' = files_of state b

  same_staged : held.Reads state a.log b.log → S'.staged ≡ S.staged
  same_staged reads =
      rw (
        reads.halted,
        reads.number,
        reads.version,
        reads.upgraded,
        reads.saved,
        reads.unsaved,
        reads.totals,
        reads.segments,
        reads.clean,
        reads.emptied,
        reads.waiting,
        reads.file_data,
        reads.usage,
        reads.inner,
      ) refl

  -- ---- reading
  pub seen_read : ReadsStore state a b → files.Reads S S'
  seen_read is = let reads = is.log in let same = is.draft in record {
    looks = reads.looks;
    halted = reads.halted;
    saved = reads.saved;
    staged = same_staged reads;
    draft = same;
    totals = cc;
    drafted = cc;
    headers = cc;
    blocks = cc;
    asked = cc;
    empty = subst (λ (x : Draft). IsNoChange x.changes) (sym same);
    lost = λ y. cc;
    has = λ m m' has. record {
      checkpoint = has.checkpoint;
      acknowledged = has.acknowledged;
      holds = held_still _ reads has.holds;
      draft = cc;
    };
    fits = λ m. subst (λ (x : Draft). FitsBatch m x.changes) (sym same);
  }

  pub seen_fault : IsReadFault state a.log b.log → files.IsFault S S'
  seen_fault failed m m' keeps is = failed is.checkpoint is.acknowledged m keeps is.holds

  pub seen_header : (n : ℕ) (found : Option Header) → ReadsHeader state a.log b.log a.draft.changes n found → files.TellsHeader S S' n found
  seen_header n found answer m m' keeps is =
      rw is.draft (answer is.checkpoint is.acknowledged m keeps is.holds)

  seen_block : (n i : ℕ) {out : List ℕ} {stored : Bool} → length out ≡ 512 → (IsFalse stored → out ≡ zeros 512)
      → ReadsBlock state a.log b.log a.draft.changes n i out stored → files.TellsBlock S S' n i out
  seen_block n i long blank answer m m' keeps is =
      rw is.draft (block_read _ _ _ _ long blank (answer is.checkpoint is.acknowledged m keeps is.holds))

  pub seen_block_then : {E : Type 0} (n i : ℕ) (out : List ℕ) (r : Result Bool E) → length out ≡ 512
      → IfOk r (λ stored. IsFalse stored → out ≡ zeros 512)
      → IfOk r (ReadsBlock state a.log b.log a.draft.changes n i out) → OnOk r (files.TellsBlock S S' n i out)
  seen_block_then n i out (Ok stored) long blank answer = seen_block _ _ long blank answer
  seen_block_then n i out (Err e) long blank answer = record {}

  pub seen_part : (n from to : ℕ) (bytes : List ℕ) → ReadsPart state a.log b.log a.draft.changes n from to bytes
      → files.TellsPart S S' n from to bytes
  seen_part n from to bytes answer m m' keeps is head few =
      rw is.draft (answer is.checkpoint is.acknowledged m keeps is.holds head few)

  -- ---- changing the draft
  pub seen_redraft : held.Reads state a.log b.log → files.Redrafts S S'
  seen_redraft reads = record {
    looks = reads.looks;
    halted = reads.halted;
    saved = reads.saved;
    staged = same_staged reads;
    totals = cc;
  }
