-- A file cut, or made longer, in a draft over a log.
use Rattle.std.specs.Prelude.{IsFalse}
use Rattle.std.specs.Int.{div_ceil}
use Rattle.std.proofs.Common.{◌≡◌, ◌<◌, ◌≤◌, ◌/◌, ◌%◌, ◌+◌, ◌-◌, ◌*◌, ◌==◌, nat_lt, nat_le, ℕ, Bool, List, length, Some, None, refl}
use Rattle.std.proofs.Common.{sym, ◌∙◌, ap, arith, false}
use Rattle.std.proofs.lemmas.Bool.{and_right, cond_both, lt-leb, ltb-false}
use Rattle.lfs_model.specs.Changing.{IsWithHeader}
use Rattle.lfs_model.specs.Cutting.{is_past}
use Rattle.lfs_model.specs.Device.{DeviceState}
use Rattle.lfs_model.specs.Encodes.{HasInode}
use Rattle.lfs_model.specs.Entry.{Entry, Data, Inode, Leaf}
use Rattle.lfs_model.specs.Fields.{zeros}
use Rattle.lfs_model.specs.Memory.{parent}
use Rattle.lfs_model.specs.Stands.{LogMap}
use Rattle.lfs_model.proofs.ObjectBytes.{lengthened}
use Rattle.lfs_cleaner.specs.log.memory.declared.batch.Cut.{Cut}
use Rattle.lfs_cleaner.specs.log.memory.declared.batch.Loss.{Loss}
use Rattle.lfs_cleaner.specs.log.memory.declared.batch.Loss.TheVariants.{Blocks}
use Rattle.lfs_cleaner.specs.log.memory.declared.changes.Changes.{Changes}
use Rattle.lfs_cleaner.specs.log.memory.files.declared.header.Header.{Header}
use Rattle.lfs_cleaner.specs.log.memory.Batch.{IsNoChange, is_lost, staged, FitsBatch}
use Rattle.lfs_cleaner.specs.log.memory.Changing.{with_header}
use Rattle.lfs_cleaner.specs.log.memory.Cutting.{cut_from}
use Rattle.lfs_cleaner.specs.log.memory.Present.{as_header}
use Rattle.lfs_cleaner.specs.log.LogState.{LogState, Reads}
use Rattle.lfs_store.specs.Drafting.{PutsBlock, PutsHeader, TakesBlock}
use Rattle.lfs_store.specs.Pieces.{CutsTail, CutSoFar, CutBlocks}
use Rattle.lfs_store.specs.Reading.{ReadsBlock}
use Rattle.lfs_files.specs.Files.{SetsLen, SizesFile}
use Rattle.lfs_files.specs.Headers.{resized}
use Rattle.lfs_store.specs.declared.store.Store.{Store}
use Rattle.lfs_store.specs.Seen.{HasMap, files_of}
use Rattle.lfs_store.specs.Writing.{DraftsCut, CutsDraft}
use Rattle.lfs_store.proofs.PiecesCut.{cut_begins, cut_between, cut_inside, cut_none, cut_blocks_heads, cut_is_done}
use Rattle.lfs_store.proofs.PiecesStored.{header_apart, same_whole}
use Rattle.lfs_store.proofs.Apart.{fits_lost, draft_empty}
use Rattle.lfs_store.proofs.Writings.{block_read, block_put, header_put, still_has, takes_header}

-- ---- what such drafts make of a log map

only_cut : (c : Changes) {n len : ℕ} (m : LogMap) → DraftsCut c n len → staged c m ≡ cut_from n (div_ceil len 512) m
only_cut c m is =
    cc

pub drafts_cut : {old new : Changes} {n len : ℕ} (cut : Cut) → IsNoChange old → new.headers ≡ old.headers → new.blocks ≡ old.blocks
    → new.loss ≡ Blocks cut → cut.number ≡ n → cut.first ≡ div_ceil len 512 → DraftsCut new n len
drafts_cut cut none headers blocks loss number first = record {
  lost = record { cut = cut; loss = loss; number = number; start = first };
  headers = cc;
  blocks = cc;
}

far_cut : (c : Changes) (n : ℕ) {len : ℕ} (first : ℕ) (m : LogMap) → DraftsCut c n len → div_ceil len 512 ≡ first
    → CutSoFar m (staged c m) n first
far_cut c n {len} first m is at =
    rw (← at) (rw (only_cut _ _ is) (cut_begins m n (div_ceil len 512)))

-- ---- they fit

cut_header : {c : Changes} {n len : ℕ} (m : LogMap) → DraftsCut c n len → (staged c m).header n ≡ m.header n
cut_header {c} {n} {len} m is = cc

cut_fits : (c : Changes) {n len : ℕ} (m : LogMap) → DraftsCut c n len → FitsBatch m c
cut_fits c m is = fits_lost c _ is.lost.loss is.headers is.blocks tt

-- the leaf above the last block, which stays in part, stays
leaf_stays : (x n len : ℕ) → 0 < len % 512 → is_past x (div_ceil len 512) (parent (Data n (len / 512))) ≡ false
leaf_stays x n len odd =
    cond_both (nat_lt (len / 512) 112) (Inode n) (Leaf n ((len / 512 - 112) / 128)) (λ (y : Entry). is_past x (div_ceil len 512) y ≡ false)
    (λ on. refl)
    (λ off. and_right (n == x) (nat_le (div_ceil len 512) (112 + 128 * ((len / 512 - 112) / 128)))
    (lt-leb _ _ (behind (ltb-false (len / 512) 112 off))))
  where
    behind : 112 ≤ len / 512 → 112 + 128 * ((len / 512 - 112) / 128) < div_ceil len 512
    behind le = omega arith

cut_takes : (c : Changes) (n len : ℕ) (m : LogMap) → 0 < len % 512 → DraftsCut c n len → HasInode m n → TakesBlock c m n (len / 512)
cut_takes c n len m odd is there = record {
  there = (there.0, cut_header _ is ∙ there.1);
  apart = ap (λ (x : Loss). is_lost x (parent (Data n (len / 512)))) is.lost.loss ∙ ap (λ (first : ℕ).
      is_past is.lost.cut.number first (parent (Data n (len / 512)))) is.lost.start ∙ leaf_stays _ _ _ odd;
  within = λ none. (let never : None ≡ Some there.0 = cc in absurd (cc));
}

-- ---- a header that says so

pub sized : (m : LogMap) {a b : LogMap} (n : ℕ) (head : Header) {len : ℕ} → len < head.size → CutBlocks m a n len
    → b ≡ with_header a n (Some (as_header (resized head len))) → SizesFile m b n head (resized head len) len
sized m {a} {b} n head {len} less cut is =
    let with_it = header_put _ _ _ is in
    let done = cut_blocks_heads m a b n len (Some (as_header (resized head len))) cut with_it in
    record {
      shorter = λ lt. cut_is_done m b n len (as_header head) (as_header (resized head len)) done refl;
      longer = λ le map there. absurd (omega arith);
      below = λ i lt. done.below i (omega arith);
      only = done.only;
      whole = done.whole;
      header = with_it.own;
    }

module _ {D : Type 0} {state : D → DeviceState} where
  -- ---- the blocks of a file end at a length

  pub cuts_even : {h h' : LogState D} {c : Changes} {n len : ℕ} → len % 512 ≡ 0 → DraftsCut c n len → CutsDraft state h h' c n len
  cuts_even {c} {n} {len} even is = record {
    loss = is.lost;
    headers = is.headers;
    blocks = omega (arith, ap length is.blocks);
    header = λ m. cut_header m is;
    fits = λ m there. cut_fits c m is;
    file = λ k m0 m keeps holds. cut_between m (staged c m) n len even (far_cut c n (len / 512) m is (omega arith));
  }

  pub cuts_none : (h : LogState D) {h' : LogState D} {c : Changes} {n len : ℕ} (out : List ℕ) {found : Bool} → found ≡ false → 0 < len % 512
      → DraftsCut c n len → ReadsBlock state h h' c n (len / 512) out found
      → CutsDraft state h h' c n len
  cuts_none h {c} {n} {len} out off odd is answer = record {
    loss = is.lost;
    headers = is.headers;
    blocks = omega (arith, ap length is.blocks);
    header = λ m. cut_header _ is;
    fits = λ m there. cut_fits _ _ is;
    file = λ k m0 m keeps holds. cut_none m (staged c m) n len odd (far_cut _ _ _ _ is (omega arith))
        (rw off at (answer k m0 m keeps holds));
  }

  pub cuts_inside : {h h' : LogState D} {c c' : Changes} {n len : ℕ} {old new : List ℕ} {found : Bool} → 0 < len % 512 → DraftsCut c n len
      → length old ≡ 512 → length new ≡ 512 → (IsFalse found → old ≡ zeros 512)
      → ReadsBlock state h h' c n (len / 512) old found → CutsTail (len % 512) old new → PutsBlock c c' n (len / 512) new
      → CutsDraft state h h' c' n len
  cuts_inside {c} {c'} {n} {len} {old} {new} odd is long stays blank answer cuts puts = record {
    loss = record { cut = is.lost.cut; loss = cc; number = is.lost.number; start = is.lost.start };
    headers = cc;
    blocks = omega (arith, ap length is.blocks);
    header = λ m. cc (puts.map m, cut_header _ is);
    fits = λ m there. puts.fits m (cut_fits _ _ is) (cut_takes _ _ _ _ odd is there);
    file = λ k m0 m keeps holds.
        cut_inside m (staged c m) (staged c' m) n len old new odd (far_cut _ _ _ _ is (omega arith))
        (block_read _ _ _ _ long blank (answer k m0 m keeps holds)) cuts stays (block_put (puts.map m));
  }

  -- ---- and its header says so
  module _ (a c : Store D) (n : ℕ) (head : Header) (len : ℕ) (none : IsNoChange a.draft.changes) where
    was : (m : LogMap) {m' : LogMap} → HasMap state a.log a.draft.changes m m' → m' ≡ m
    was m has = cc

    there_first : (m : LogMap) {m' : LogMap} → HasMap state a.log a.draft.changes m m' → m'.header n ≡ Some (as_header head)
        → m.header n ≡ Some (as_header head)
    there_first m has there = cc

    pub sets_shorter : (b : Store D) → c.log ≡ b.log → len < head.size → Reads state a.log b.log
        → CutsDraft state a.log b.log b.draft.changes n len → PutsHeader b.draft.changes c.draft.changes n (resized head len)
        → SetsLen (files_of state a) (files_of state c) n head len
    sets_shorter b log less reads is puts = record {
      cut = λ lt y. cc;
      kept = λ le. absurd (omega arith);
      headers = omega (arith, ap length is.headers);
      blocks = omega (arith, ap length (ap (λ v. v.items) puts.blocks));
      fits = λ m m' has there fits. (
          let first = there_first _ has there in
          puts.fits m (is.fits m (as_header head, first)) (takes_header (is.header m ∙ first) refl (cc) fits));
      file = λ m m' keeps has. record {
        map = staged c.draft.changes m;
        has = still_has a c (rw log reads) has;
        file = sized _ _ _ less (rw (was _ has) (is.file has.checkpoint has.acknowledged m (rw (← log) keeps) has.holds)) (puts.map m);
      };
    }

    pub sets_longer : head.size ≤ len → Reads state a.log c.log → PutsHeader a.draft.changes c.draft.changes n (resized head len)
        → SetsLen (files_of state a) (files_of state c) n head len
    sets_longer more reads puts = record {
      cut = λ lt. absurd (omega arith);
      kept = λ le y. cc;
      headers = omega (arith, ap length none.headers);
      blocks = omega (arith, ap length none.blocks, ap length (ap (λ v. v.items) puts.blocks));
      fits = λ m m' has there fits.
          puts.fits m (draft_empty _ _ none).1 (takes_header (ap (λ (x : LogMap). x.header n) (sym has.draft) ∙ there) refl (cc) fits);
      file = λ m m' keeps has. record {
        map = staged c.draft.changes m;
        has = still_has a c reads has;
        file =
            file m m'
            (rw has.draft (header_put _ _ _ (puts.map m)));
      };
    }
      where
        file : (m m' : LogMap) → IsWithHeader m' n (Some (as_header (resized head len))) (staged c.draft.changes m)
            → SizesFile m' (staged c.draft.changes m) n head (resized head len) len
        file m m' with_it = record {
          shorter = λ lt. absurd (omega arith);
          longer =
              λ le map there.
              lengthened m' (staged c.draft.changes m) n (as_header head) (as_header (resized head len)) map there len le refl
              (with_it.block n);
          below = λ i lt. with_it.block n i;
          only = header_apart with_it;
          whole = λ whole. same_whole (with_it.block n) whole;
          header = with_it.own;
        }
