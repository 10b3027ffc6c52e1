-- Bytes written to a file, block by block, in a draft over a log.
use Rattle.std.specs.Prelude.{slice_index, IsFalse, max}
use Rattle.std.specs.Int.{div_ceil}
use Rattle.std.proofs.Common.{◌≡◌, ◌⊎◌, ⊎_elim, inl, inr, ◌<◌, ◌≤◌, ◌+◌, ◌-◌, ◌/◌, ◌==◌, ℕ, Bool, true, false, List, length, Some, None}
use Rattle.std.proofs.Common.{refl, sym, ◌∙◌, ap, arith}
use Rattle.lfs_model.specs.Changing.{IsWithBlock, IsWithHeader}
use Rattle.lfs_model.specs.Checkpoint.{CheckpointValue}
use Rattle.lfs_model.specs.Device.{DeviceState, IsLawful}
use Rattle.lfs_model.specs.Encodes.{HasInode}
use Rattle.lfs_model.specs.Entry.{Inode}
use Rattle.lfs_model.specs.Fields.{zeros}
use Rattle.lfs_model.specs.Stands.{LogMap}
use Rattle.lfs_model.proofs.ObjectBytes.{get_or-zeros}
use Rattle.lfs_cleaner.specs.log.memory.declared.changes.Changes.{Changes}
use Rattle.lfs_cleaner.specs.log.memory.files.declared.header.Header.{Header}
use Rattle.lfs_cleaner.specs.log.memory.Batch.{staged, is_lost, FitsBatch}
use Rattle.lfs_cleaner.specs.log.memory.Changing.{FitsHeader, with_block, with_header}
use Rattle.lfs_cleaner.specs.log.memory.Preparing.{IsWithin}
use Rattle.lfs_cleaner.specs.log.memory.Present.{BlockAnswer, as_header}
use Rattle.lfs_cleaner.proofs.of_log.of_memory.LogMaps.{is_with_block, is_with_header}
use Rattle.lfs_cleaner.specs.log.LogState.{LogState, Holds, Reads}
use Rattle.lfs_files.specs.Files.{TakesWrite, Writes, WritesFile}
use Rattle.lfs_files.specs.Headers.{resized}
use Rattle.lfs_store.specs.declared.store.Store.{Store}
use Rattle.lfs_store.specs.Seen.{HasMap, files_of}
use Rattle.lfs_store.specs.Drafting.{PutsBlock, PutsHeader, TakesBlock, TakesHeader, IsApart}
use Rattle.lfs_store.specs.Keeping.{RedraftsUncounted}
use Rattle.lfs_store.specs.Pieces.{HoldsBlock, BlockOverlays, WriteSoFar}
use Rattle.lfs_store.specs.Reading.{ReadsBlock}
use Rattle.lfs_store.specs.Writing.{ReadsBeneath, WritesBlock}
use Rattle.lfs_cleaner.proofs.of_log.LogReads.{held_still, reads_more, reads_none}
use Rattle.lfs_store.proofs.PiecesRead.{last_block}
use Rattle.lfs_store.proofs.PiecesStored.{other_block}
use Rattle.lfs_store.proofs.PiecesWritten.{write_begins, write_goes_on, write_heads, write_is_done}

-- ---- what is read of a block, and what is put

zero_byte : (k : ℕ) → slice_index (zeros 512) k ≡ 0
unfolding zeros
zero_byte k = get_or-zeros 512 k

pub block_read : (m : LogMap) (n i : ℕ) {out : List ℕ} (found : Bool) → length out ≡ 512 → (IsFalse found → out ≡ zeros 512)
    → BlockAnswer m n i out found → HoldsBlock m n i out
block_read m n i true long blank is = record { long = long; bytes = λ k. cc }
block_read m n i false long blank is = record {
  long = long;
  bytes = λ k. ap (λ (b : List ℕ). slice_index b k) (blank refl) ∙ zero_byte _ ∙ ap (λ (b : List ℕ). slice_index b k) (sym is);
}

pub block_put : {a : LogMap} {b : LogMap} {n i : ℕ} {bytes : List ℕ} → b ≡ with_block a n i bytes → IsWithBlock a n i bytes b
block_put {a} {n} {i} {bytes} is = rw is (is_with_block a n i _)

pub header_put : (a : LogMap) {b : LogMap} (n : ℕ) (h : Header) → b ≡ with_header a n (Some (as_header h))
    → IsWithHeader a n (Some (as_header h)) b
header_put a n h is = rw is (is_with_header a n {h = Some (as_header h)})

-- ---- what is put fits

-- a draft with the same loss, and the same header of the file, takes a block
takes_block : (c : Changes) {c' : Changes} (m : LogMap) (n i : ℕ) → c'.loss ≡ c.loss → (staged c' m).header n ≡ (staged c m).header n
    → HasInode (staged c m) n → IsApart c.loss n → IsWithin m n i → TakesBlock c' m n i
takes_block c m n i loss same there apart within = record {
  there = (there.0, same ∙ there.1);
  apart = cc (apart.above i);
  within = within;
}

-- and a header that has a name exactly where the file had one
pub takes_header : {c : Changes} {m : LogMap} {n : ℕ} {head head' : Header} → (staged c m).header n ≡ Some (as_header head)
    → (head'.links == 0) ≡ (head.links == 0) → is_lost c.loss (Inode n) ≡ false
    → FitsHeader head'.kind head'.form head'.links head'.size → TakesHeader c m n head'
takes_header there name apart fits =
    record { header = fits; name = λ has. cc; apart = apart }

module _ {D : Type 0} {state : D → DeviceState} where
  -- the log map with another draft, where the log is only read
  pub still_has : (a b : Store D) {m m' : LogMap} → Reads state a.log b.log → HasMap state a.log a.draft.changes m m'
      → HasMap state b.log b.draft.changes m (staged b.draft.changes m)
  still_has a b {m} reads has = record {
    checkpoint = has.checkpoint;
    acknowledged = has.acknowledged;
    holds = held_still _ reads has.holds;
    draft = refl;
  }

  -- ---- one block
  pub block_written : {h h' : LogState D} {c c' : Changes} {n index at : ℕ} {w old new : List ℕ} → length new ≡ 512
      → ReadsBeneath state h h' c n index at w old → BlockOverlays at w index old new → PutsBlock c c' n index new
      → WritesBlock state h h' c c' n index at w
  block_written {c} {c'} {n} {index} {at} {w} {old} {new} stays beneath over puts = record {
    few = puts.few;
    headers = puts.headers;
    loss = puts.loss;
    header = λ m. cc (puts.map m);
    others = λ m i ne. other_block (block_put (puts.map m)) _ ne;
    fits = puts.fits;
    goes_on = λ k m0 m a keeps is far.
        write_goes_on a (staged c m) (staged c' m) n at index w old new far (beneath k m0 m keeps is) over stays (block_put (puts.map m));
  }

  -- a block that is read is what bytes are laid over
  pub read_beneath : (h h' : LogState D) (c : Changes) (n : ℕ) {index at : ℕ} (w : List ℕ) {old : List ℕ} {found : Bool} → length old ≡ 512
      → (IsFalse found → old ≡ zeros 512)
      → ReadsBlock state h h' c n index old found → ReadsBeneath state h h' c n index at w old
  read_beneath h h' c n w {old} long blank answer k m0 m keeps is =
      inl (block_read _ _ _ _ long blank (answer k m0 m keeps is))

-- ---- the blocks up to here
pub record WrittenUpTo {D : Type 0} (state : D → DeviceState) (a b : Store D) (n at : ℕ) (w : List ℕ) (index : ℕ) : Type 0 where
  pub redrafts : RedraftsUncounted state a b
  pub loss : b.draft.changes.loss ≡ a.draft.changes.loss
  pub headers : b.draft.changes.headers ≡ a.draft.changes.headers
  pub few : length b.draft.changes.blocks.items ≤ length a.draft.changes.blocks.items + (index - at / 512)
  pub header : (m : LogMap) → (staged b.draft.changes m).header n ≡ (staged a.draft.changes m).header n
  pub around : (m : LogMap) (i : ℕ) → (i < at / 512) ⊎ (index ≤ i)
      → (staged b.draft.changes m).block n i ≡ (staged a.draft.changes m).block n i
  pub fits : (m : LogMap) → FitsBatch m a.draft.changes → HasInode (staged a.draft.changes m) n → IsApart a.draft.changes.loss n
      → (m.header n ≡ None → index ≤ 112) → FitsBatch m b.draft.changes
  pub far : (k : CheckpointValue) (m0 m : LogMap) → (state b.log.device).keeps_model → Holds state a.log k m0 m
      → WriteSoFar (staged a.draft.changes m) (staged b.draft.changes m) n at w index

module _ {D : Type 0} (state : D → DeviceState) where
  pub written_none : (a : Store D) (n at : ℕ) (w : List ℕ) → WrittenUpTo state a a n at w (at / 512)
  written_none a n at w = record {
    redrafts = record { reads = reads_none _ _; drafted = refl };
    loss = refl;
    headers = refl;
    few = omega arith;
    header = λ m. refl;
    around = λ m i out. refl;
    fits = λ m fit there apart within. fit;
    far = λ k m0 m keeps is. write_begins (staged a.draft.changes m) n at w;
  }

  pub written_more : {a b c : Store D} {n at : ℕ} {w : List ℕ} {index : ℕ} → IsLawful (state a.log.device) → at / 512 ≤ index
      → WrittenUpTo state a b n at w index → RedraftsUncounted state b c
      → WritesBlock state b.log c.log b.draft.changes c.draft.changes n index at w → WrittenUpTo state a c n at w (index + 1)
  written_more {a} {b} {c} {n} {at} {index} lawful le was redrafts more = record {
    redrafts = record {
      reads = reads_more _ lawful was.redrafts.reads redrafts.reads;
      drafted = cc;
    };
    loss = cc;
    headers = cc;
    few = omega arith;
    header = λ m. more.header m ∙ was.header m;
    around = λ m i out. ⊎_elim
        (λ (before : i < at / 512). more.others m i (λ e. omega arith) ∙ was.around m i (inl before))
        (λ (behind : index + 1 ≤ i). more.others m i (λ e. omega arith) ∙ was.around m i (inr (omega arith))) out;
    fits = λ m fit there apart within.
        more.fits m (was.fits m fit there apart (λ none. omega (arith, within none)))
        (takes_block a.draft.changes _ _ _ was.loss (was.header m) there apart
        (λ none. omega (arith, within none)));
    far = λ k m0 m keeps is. more.goes_on k m0 m (staged a.draft.changes m) keeps (held_still _ was.redrafts.reads is)
        (was.far k m0 m (redrafts.reads.looks.carries.kept_before keeps) is);
  }

  -- ---- all of them, and the header
  pub written : {a b : Store D} (c : Store D) {n : ℕ} (head : Header) {at : ℕ} {w : List ℕ} {index : ℕ} → c.log ≡ b.log → 0 < length w
      → at / 512 ≤ index → index ≡ div_ceil (at + length w) 512
      → WrittenUpTo state a b n at w index
      → PutsHeader b.draft.changes c.draft.changes n (resized head (max head.size (at + length w)))
      → Writes (files_of state a) (files_of state c) n head at w
  written {a} {b} c {n} head {at} {w} {index} log some le end was puts = record {
    lost = λ y. cc;
    headers = omega (arith, ap length (ap (λ v. v.items) was.headers));
    blocks = omega (arith, ap length (ap (λ v. v.items) puts.blocks));
    fits = fits;
    file = λ m m' keeps has. record {
      map = staged c.draft.changes m;
      has = still_has a c (rw log was.redrafts.reads) has;
      file = file m m' (rw has.draft (was.far has.checkpoint has.acknowledged m (rw (← log) keeps) has.holds));
      around = λ i out. cc (puts.map m, was.around m i (rw end out));
    };
  }
    where
      head' : Header
      head' = resized head (max head.size (at + length w))

      fits : (m m' : LogMap) → HasMap state a.log a.draft.changes m m' → FitsBatch m a.draft.changes
          → TakesWrite (files_of state a) m m' n head at w → FitsBatch m c.draft.changes
      fits m m' has fit takes =
          let few : m.header n ≡ None → index ≤ 112 = λ none. omega (arith, takes.within none) in
          let there = ap (λ (x : LogMap). x.header n) (sym has.draft) ∙ takes.there in
          puts.fits m (was.fits m fit (as_header head, there) takes.apart few) (takes_header (was.header m ∙ there) refl (cc) takes.header)

      file : (m m' : LogMap) → WriteSoFar m' (staged b.draft.changes m) n at w index
          → WritesFile m' (staged c.draft.changes m) n head head' at w
      file m m' far =
          let with_it = header_put _ _ _ (puts.map m) in
          let done =
          write_heads m' (staged b.draft.changes m) (staged c.draft.changes m) n at index w (Some (as_header head')) far with_it in
          record {
            bytes = write_is_done m' (staged c.draft.changes m) n at index w (as_header head) (as_header head') done
                (last_block (omega arith)) some refl;
            only = done.only;
            whole = done.whole;
            header = with_it.own;
          }
