-- A file cut in its last block, in a draft over a log.
use Rattle.std.specs.Prelude.{IsFalse, slice_index}
use Rattle.std.proofs.Common.{◌≡◌, ◌<◌, ◌≤◌, ◌+◌, ◌*◌, ◌/◌, ◌%◌, ℕ, Bool, List, [], length, Some, refl, sym, ◌∙◌, ap, ⊎_elim, arith}
use Rattle.std.proofs.lemmas.Bool.{cases_eq, cases_lt}
use Rattle.std.proofs.lemmas.List.{nil_from_length}
use Rattle.lfs_model.specs.Changing.{IsWithBlock, IsWithHeader}
use Rattle.lfs_model.specs.Device.{DeviceState}
use Rattle.lfs_model.specs.Encodes.{IsLogMap}
use Rattle.lfs_model.specs.Fields.{zeros}
use Rattle.lfs_model.specs.Stands.{LogMap}
use Rattle.lfs_model.proofs.ObjectBytes.{lengthened}
use Rattle.lfs_model.proofs.ObjectMaps.{block_whole}
use Rattle.lfs_cleaner.specs.log.memory.declared.changes.Changes.{Changes}
use Rattle.lfs_cleaner.specs.log.memory.files.declared.header.Header.{Header}
use Rattle.lfs_cleaner.specs.log.memory.Batch.{staged}
use Rattle.lfs_cleaner.specs.log.memory.Changing.{stored}
use Rattle.lfs_cleaner.specs.log.memory.Present.{as_header}
use Rattle.lfs_cleaner.specs.log.LogState.{LogState, Reads}
use Rattle.lfs_store.specs.Drafting.{PutsBlock, PutsHeader}
use Rattle.lfs_store.specs.Pieces.{CutBlocks, CutSoFar, CutsTail, HoldsBlock}
use Rattle.lfs_store.specs.Reading.{ReadsBlock}
use Rattle.lfs_store.specs.declared.store.Store.{Store}
use Rattle.lfs_store.specs.Recounting.{ChangesOnly}
use Rattle.lfs_store.specs.Seen.{HasMap, files_of}
use Rattle.lfs_store.specs.Shrinking.{ClearsTail, HasNoneBehind}
use Rattle.lfs_files.specs.Files.{Shrinks}
use Rattle.lfs_files.specs.Headers.{resized}
use Rattle.lfs_store.proofs.Cuttings.{sized}
use Rattle.lfs_store.proofs.PiecesCut.{cut_between, cut_inside}
use Rattle.lfs_store.proofs.PiecesStored.{header_apart, block_apart, changed_none, changed_twice, other_block, stored_reads, stored_whole}
use Rattle.lfs_store.proofs.Writings.{block_put, block_read, header_put, still_has, takes_header}

-- ---- the last block ends at a length

-- a block of zeros isn't stored
none_stored : (new : List ℕ) → length new ≡ 512 → ((k : ℕ) → slice_index new k ≡ 0) → stored new ≡ []
none_stored new long each = ⊎_elim
    (λ (some : 0 < length (stored new)).
    let one = (stored_whole _ long some).1 in
    let none : slice_index (stored new) one.0 ≡ 0 = stored_reads _ _ ∙ each one.0 in
    absurd (omega arith))
    (λ (empty : length (stored new) ≤ 0). nil_from_length (stored new) (omega arith)) (cases_lt 0 (length (stored new)))

module _ {a b : LogMap} (n len : ℕ) (old new : List ℕ) (none : HasNoneBehind a n len) (holds : HoldsBlock a n (len / 512) old)
    (cuts : CutsTail (len % 512) old new) (long : length new ≡ 512)
    (with_it : IsWithBlock a n (len / 512) (stored new) b) where
  before : CutSoFar a a n (len / 512 + 1)
  before = record { below = λ i lt. refl; gone = λ i le. none i (omega arith); only = changed_none; whole = λ was. was }

  others : (i : ℕ) → (i ≡ len / 512 → ⊥) → b.block n i ≡ a.block n i
  others = other_block with_it

  whole_gone : len % 512 ≡ 0 → CutSoFar a b n (len / 512)
  whole_gone even = record {
    below = λ i lt. others _ (λ e. absurd (omega arith));
    gone = λ i le. ⊎_elim
        (λ (here : i ≡ len / 512). ap (b.block n) here ∙ with_it.own ∙ none_stored _ long (λ k. cuts.zeros k (omega arith)))
        (λ (ne : i ≡ len / 512 → ⊥). others _ ne ∙ none i (omega arith)) (cases_eq i (len / 512));
    only = block_apart with_it;
    whole = λ was. block_whole a b n (len / 512) (stored new) with_it was (stored_whole _ long);
  }

  tail_cut : CutBlocks a b n len
  tail_cut = ⊎_elim
      (λ (odd : 0 < len % 512). cut_inside a a b n len old new odd before holds cuts long with_it)
      (λ (even : len % 512 ≤ 0). let none_left : len % 512 ≡ 0 = omega arith in
      cut_between a b n len none_left (whole_gone none_left))
      (cases_lt 0 (len % 512))

-- no block is behind the end of a file
none_behind : (a : LogMap) (n : ℕ) (head : Header) (len : ℕ) → head.size ≤ 512 * (len / 512) + 512 → IsLogMap a
    → a.header n ≡ Some (as_header head) → HasNoneBehind a n len
none_behind a n head len last map there i lt =
    (lengthened a a n (as_header head) (as_header (resized head (512 * (len / 512) + 512))) map there (512 * (len / 512) + 512) last refl
    (λ j. refl)).gone i (omega arith)

module _ {D : Type 0} (state : D → DeviceState) where
  pub clears_tail : {h h' : LogState D} {c c' : Changes} {n len : ℕ} {old new : List ℕ} {found : Bool} → length old ≡ 512 → length new ≡ 512
      → (IsFalse found → old ≡ zeros 512)
      → ReadsBlock state h h' c n (len / 512) old found → CutsTail (len % 512) old new → PutsBlock c c' n (len / 512) new
      → ClearsTail state h h' c c' n len
  clears_tail {c} {c'} {n} {len} {old} {new} long stays blank answer cuts puts = record {
    loss = puts.loss;
    headers = puts.headers;
    blocks = puts.few;
    header = λ m. cc (puts.map m);
    only = λ m. block_apart (with_it m);
    others = λ m. other_block (with_it m);
    fits = puts.fits;
    file = λ k m0 m keeps holds none.
        tail_cut _ _ old new none (block_read _ _ _ _ long blank (answer k m0 m keeps holds)) cuts stays (with_it m);
  }
    where
      with_it : (m : LogMap) → IsWithBlock (staged c m) n (len / 512) (stored new) (staged c' m)
      with_it m = block_put (puts.map m)

  -- ---- and its header says so
  module _ (a b c : Store D) (n : ℕ) (head : Header) (len : ℕ) (log : c.log ≡ b.log) (reads : Reads state a.log b.log)
      (clears : ClearsTail state a.log b.log a.draft.changes b.draft.changes n len)
      (puts : PutsHeader b.draft.changes c.draft.changes n (resized head len)) where
    with_it : (m : LogMap) → IsWithHeader (staged b.draft.changes m) n (Some (as_header (resized head len))) (staged c.draft.changes m)
    with_it m = header_put (staged b.draft.changes m) n (resized head len) (puts.map m)

    has_now : (m m' : LogMap) → HasMap state a.log a.draft.changes m m' → HasMap state c.log c.draft.changes m (staged c.draft.changes m)
    has_now m m' has = still_has a c (rw log reads) has

    -- no more than the file changes, in that block
    pub shrinks_only : ChangesOnly (files_of state a) (files_of state c) n (len / 512) (len / 512 + 1)
    shrinks_only m m' has = record {
      map = staged c.draft.changes m;
      has = has_now m m' has;
      only = rw has.draft (changed_twice {m'' = staged c.draft.changes m} (clears.only m) (header_apart (with_it m)));
      around = λ i lt out. (with_it m).block n i ∙ clears.others m i (λ here. ⊎_elim
          (λ (low : i < len / 512). absurd (omega arith))
          (λ (high : len / 512 + 1 ≤ i). absurd (omega arith)) out) ∙ ap (λ (x : LogMap). x.block n i) (sym has.draft);
    }

    pub shrinks : len < head.size → head.size ≤ 512 * (len / 512) + 512
        → Shrinks (files_of state a) (files_of state c) n head len
    shrinks less last = record {
      lost = λ y. cc;
      headers = omega (arith, ap length (ap (λ v. v.items) clears.headers));
      blocks = omega (arith, ap length (ap (λ v. v.items) puts.blocks));
      fits = λ m m' has fit takes. (
          let there = ap (λ (x : LogMap). x.header n) (sym has.draft) ∙ takes.there in
          puts.fits m (clears.fits m fit record {
            there = (as_header head, there);
            apart = takes.apart.above (len / 512);
            within = λ none. omega (arith, takes.within none);
          }) (takes_header (clears.header m ∙ there) refl (cc) takes.header));
      has = λ m m' keeps has. record {
        map = staged c.draft.changes m;
        has = has_now _ _ has;
        header = (with_it m).own;
        file = λ there. sized _ _ _ less (rw has.draft
            (clears.file has.checkpoint has.acknowledged m (rw (← log) keeps) has.holds
            (rw (← has.draft) (none_behind _ _ _ _ last there.map there.there)))) (puts.map m);
      };
    }
