-- Bytes of a file, read block by block.
use Rattle.std.specs.Prelude.{slice_index, IsFalse}
use Rattle.std.proofs.Common.{◌≡◌, ◌<◌, ◌≤◌, ⊎_elim, ◌+◌, ◌-◌, ◌/◌, ◌%◌, ℕ, Bool, true, false, List, ◌++◌, length, take, drop, refl}
use Rattle.std.proofs.Common.{sym, ◌∙◌, ap, ap₂, arith}
use Rattle.std.proofs.lemmas.Bool.{cases_lt}
use Rattle.std.proofs.lemmas.Grind.{same_number_lists}
use Rattle.std.proofs.lemmas.List.{length-append, length-take, length-drop, get_or-take, get_or-drop, get_or_append_left, get_or-append-add}
use Rattle.lfs_model.specs.Bytes.{part}
use Rattle.lfs_model.specs.Checkpoint.{CheckpointValue}
use Rattle.lfs_model.specs.Device.{DeviceState, IsLawful}
use Rattle.lfs_model.specs.Fields.{zeros}
use Rattle.lfs_model.specs.Objects.{byte_in}
use Rattle.lfs_model.specs.Stands.{LogMap}
use Rattle.lfs_model.specs.TreeOf.{object}
use Rattle.lfs_model.proofs.ObjectBytes.{get_or-zeros, object_part}
use Rattle.lfs_cleaner.specs.log.memory.declared.changes.Changes.{Changes}
use Rattle.lfs_cleaner.specs.log.memory.Batch.{staged}
use Rattle.lfs_cleaner.specs.log.memory.Present.{BlockAnswer}
use Rattle.lfs_cleaner.specs.log.LogState.{LogState, Holds, Reads}
use Rattle.lfs_cleaner.proofs.of_log.LogReads.{held_still, reads_more}
use Rattle.lfs_store.specs.Reading.{ReadsBlock, ReadsPart, Appends}

-- ---- a byte of a block
zero_byte : (i : ℕ) → slice_index (zeros 512) i ≡ 0
unfolding zeros
zero_byte i = get_or-zeros 512 i

sector_byte : (m : LogMap) (n i : ℕ) {out : List ℕ} (found : Bool) → BlockAnswer m n i out found → (IsFalse found → out ≡ zeros 512)
    → (o : ℕ) → slice_index out o ≡ slice_index (m.block n i) o
sector_byte m n i true is blank o = cc
sector_byte m n i false is blank o = ap (λ (b : List ℕ). slice_index b o) (blank refl) ∙ zero_byte _
    ∙ ap (λ (b : List ℕ). slice_index b o) (sym is)

at_place : (m : LogMap) (n at j : ℕ) → at % 512 + j < 512 → slice_index (m.block n (at / 512)) (at % 512 + j) ≡ byte_in m n (at + j)
at_place m n at j low =
    let i : at / 512 ≡ (at + j) / 512 = omega arith in
    let o : at % 512 + j ≡ (at + j) % 512 = omega arith in
    ap₂ (λ (x y : ℕ). slice_index (m.block n x) y) i o

-- ---- calls that only read, one after the other
module _ {D : Type 0} (state : D → DeviceState) where
  -- ---- one piece
  pub appends : {h h' : LogState D} {c : Changes} {n at len : ℕ} {old new sector : List ℕ} {found : Bool} → at % 512 + len ≤ 512
      → length sector ≡ 512 → new ≡ old ++ take (at % 512 + len - at % 512) (drop (at % 512) sector)
      → ReadsBlock state h h' c n (at / 512) sector found → (IsFalse found → sector ≡ zeros 512) → Appends state h h' c n at len old new
  appends {c} {n} {at} {len} {old} {new} {sector} inside long read answer blank = record {
    long = cc (is, length-append old piece, piece_long);
    kept = λ j low. cc (is, get_or_append_left old piece 0 j low);
    more = λ k m0 m keeps log j low.
        ap (λ (b : List ℕ). slice_index b (length old + j)) is
        ∙ get_or-append-add old piece j 0
        ∙ get_or-take len (drop (at % 512) sector) j 0 low
        ∙ get_or-drop (at % 512) sector j 0 ∙ sector_byte (staged c m) n (at / 512) _ (answer k m0 m keeps log) blank _
        ∙ at_place (staged c m) n at j (omega arith);
  }
    where
      piece : List ℕ
      piece = take len (drop (at % 512) sector)

      is : new ≡ old ++ piece
      is = let l : at % 512 + len - at % 512 ≡ len = omega arith in read ∙ ap (λ (k : ℕ). old ++ take k (drop (at % 512) sector)) l

      piece_long : length piece ≡ len
      piece_long = omega (arith, length-take len (drop (at % 512) sector), length-drop (at % 512) sector)

-- ---- the pieces up to here
pub record ReadUpTo {D : Type 0} (state : D → DeviceState) (h h' : LogState D) (c : Changes) (n from at : ℕ) (bytes : List ℕ) : Type 0 where
  pub reads : Reads state h h'
  pub long : from + length bytes ≡ at
  pub bytes_are : (k : CheckpointValue) (m0 m : LogMap) → (state h'.device).keeps_model → Holds state h k m0 m → (j : ℕ)
      → j < length bytes → slice_index bytes j ≡ byte_in (staged c m) n (from + j)

module _ {D : Type 0} (state : D → DeviceState) where
  pub read_more : {h a b : LogState D} {c : Changes} {n from at len : ℕ} {old new : List ℕ} → IsLawful (state h.device)
      → ReadUpTo state h a c n from at old → Reads state a b → Appends state a b c n at len old new
      → ReadUpTo state h b c n from (at + len) new
  read_more {h} {a} {b} {c} {n} {from} {at} {old} {new} lawful was reads more = record {
    reads = reads_more _ lawful was.reads reads;
    long = omega arith;
    bytes_are = each;
  }
    where
      each : (k : CheckpointValue) (m0 m : LogMap) → (state b.device).keeps_model → Holds state h k m0 m → (j : ℕ) → j < length new
          → slice_index new j ≡ byte_in (staged c m) n (from + j)
      each k m0 m keeps is j low = ⊎_elim
          (λ (before : j < length old). more.kept j before ∙ was.bytes_are k m0 m (reads.looks.carries.kept_before keeps) is j before)
          (λ (behind : length old ≤ j).
          let i : length old + (j - length old) ≡ j = omega arith in
          let p : at + (j - length old) ≡ from + j = omega arith in
          ap (slice_index new) (sym i) ∙ more.more k m0 m keeps (held_still _ was.reads is) (j - length old)
          (omega arith) ∙ ap (byte_in (staged c m) n) p) (cases_lt j (length old))

  -- all of them are a part of the object
  pub reads_part : {h h' : LogState D} {c : Changes} {n from to : ℕ} {bytes : List ℕ} → ReadUpTo state h h' c n from to bytes
      → ReadsPart state h h' c n from to bytes
  reads_part {c} {n} {from} {to} {bytes} was k m0 m keeps is head within =
      let o = object_part (staged c m) n head from (to - from) in
      let same : length bytes ≡ length (part (object (staged c m) n head) from (to - from)) = omega arith in
      same_number_lists bytes (part (object (staged c m) n head) from (to - from)) same
      (λ j low. was.bytes_are k m0 m keeps is j low ∙ sym (o.1 j (omega arith)))
