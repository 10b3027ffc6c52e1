-- The summary, place by place.
use Rattle.std.proofs.Common.{◌≡◌, ◌≤◌, ◌<◌, ◌+◌, ◌-◌, ◌*◌, ◌^◌, ℕ, List, [], ◌∷◌, ◌++◌, length, get_or, refl, sym, ap, subst, ◌∙◌, arith}
use Rattle.std.proofs.Common.{length-append}
use Rattle.std.specs.List.{flat_map}
use Rattle.lfs_model.specs.declared.BlockKind.{BlockKind}
use Rattle.lfs_model.specs.declared.BlockKind.TheVariants.{Data, Leaf, Double, Inode, Map, Usage}
use Rattle.lfs_model.specs.Fields.{le16, le32, zeros, part, read16, read32, run}
use Rattle.lfs_model.specs.Summary.{BlockNameValue, FitsSummary, IsEntryAt, IsPlaced, block_at, block_kind_byte, block_kind_of, blocks_of}
use Rattle.lfs_model.specs.Summary.{no_block, summary_entry, summary_sector}
use Rattle.lfs_model.proofs.Numbers.{IsBytes, fronts, length-le16, length-le32, length-zeros}
use Rattle.lfs_model.proofs.Parts.{length-part, get_or-part, part_add, le16_of_read, le32_of_read, read16_is, read32_is}
use Rattle.lfs_model.proofs.Laid.{Field, Sized, Laid, laid_from, laid_to, length-fields}
use Rattle.lfs_model.proofs.Runs.{length-run, get_or-run, run_spelled_each, run_is, length-flat, piece_at}

pub length-entry : (b : BlockNameValue) → length (summary_entry b) ≡ 8
unfolding summary_entry
length-entry b =
    omega (arith, length-append (le16 b.file) (block_kind_byte b.kind ∷ 0 ∷ le32 b.index), length-le16 b.file, length-le32 b.index)

abbrev Placed : BlockNameValue → Type 0
Placed b = IsPlaced b.kind b.file b.index

pub kind_of_byte : (k : BlockKind) → block_kind_of (block_kind_byte k) ≡ k
unfolding block_kind_of block_kind_byte
kind_of_byte Data = refl
kind_of_byte Leaf = refl
kind_of_byte Double = refl
kind_of_byte Inode = refl
kind_of_byte Map = refl
kind_of_byte Usage = refl

file_small : (k : BlockKind) (f i : ℕ) → IsPlaced k f i → f < 2 ^ 16
unfolding IsPlaced
file_small Data f i p = omega (arith, p.0.1)
file_small Leaf f i p = omega (arith, p.0.1)
file_small Double f i p = omega (arith, p.0.1)
file_small Inode f i p = omega (arith, p.0.1)
file_small Map f i p = omega (arith, p.0)
file_small Usage f i p = omega (arith, p.0)

index_small : (k : BlockKind) (f i : ℕ) → IsPlaced k f i → i < 2 ^ 32
unfolding IsPlaced
index_small Data f i p = omega (arith, p.1)
index_small Leaf f i p = omega (arith, p.1)
index_small Double f i p = omega (arith, p.1)
index_small Inode f i p = omega (arith, p.1)
index_small Map f i p = omega (arith, p.1)
index_small Usage f i p = omega (arith, p.1)

pair : (xs : List ℕ) → length xs ≡ 2 → xs ≡ get_or xs 0 0 ∷ get_or xs 1 0 ∷ []
pair [] long = cc
pair (x ∷ []) long = absurd (omega arith)
pair (x ∷ y ∷ []) long = refl
pair (x ∷ y ∷ z ∷ xs) long = absurd (omega arith)

-- the parts of an entry
cut : (at : ℕ) (s : List ℕ) → part at 2 s ++ (part (at + 2) 2 s ++ part (at + 4) 4 s) ≡ part at 8 s
cut at s =
    ap (λ (k : ℕ). part at 2 s ++ (part (at + 2) 2 s ++ part k 4 s)) (omega arith)
    ∙ ap (λ (b : List ℕ). part at 2 s ++ b) (part_add (at + 2) 2 4 s) ∙ part_add at 2 6 s

-- an entry that was tested is spelled
pub entry_read : (s : List ℕ) (at : ℕ) → IsBytes s → at + 8 ≤ length s → IsEntryAt at s → summary_entry (block_at at s) ≡ part at 8 s
unfolding summary_entry block_at
entry_read s at fits room is =
    let two : part (at + 2) 2 s ≡ get_or s (at + 2) 0 ∷ get_or s (at + 3) 0 ∷ [] =
    pair (part (at + 2) 2 s) (length-part (at + 2) 2 s (omega arith))
    ∙ ap (λ (x : ℕ). x ∷ get_or (part (at + 2) 2 s) 1 0 ∷ [])
    (get_or-part (at + 2) 2 s 0 (omega arith) ∙ ap (λ (k : ℕ). get_or s k 0) (omega arith))
    ∙ ap (λ (x : ℕ). get_or s (at + 2) 0 ∷ x ∷ [])
    (get_or-part (at + 2) 2 s 1 (omega arith) ∙ ap (λ (k : ℕ). get_or s k 0) (omega arith)) in
    let kind : block_kind_byte (block_kind_of (get_or s (at + 2) 0)) ∷ 0 ∷ [] ≡ part (at + 2) 2 s =
    ap (λ (x : ℕ). x ∷ 0 ∷ []) is.kind ∙ ap (λ (x : ℕ). get_or s (at + 2) 0 ∷ x ∷ []) (sym is.gap) ∙ sym two in
    ap (λ (b : List ℕ). b ++ ((block_kind_byte (block_kind_of (get_or s (at + 2) 0)) ∷ 0 ∷ []) ++ le32 (read32 (at + 4) s)))
    (le16_of_read at s fits (omega arith))
    ∙ ap (λ (b : List ℕ). part at 2 s ++ (b ++ le32 (read32 (at + 4) s))) kind
    ∙ ap (λ (b : List ℕ). part at 2 s ++ (part (at + 2) 2 s ++ b)) (le32_of_read (at + 4) s fits (omega arith))
    ∙ cut at s

-- what an entry's parts are where the entry is spelled
record Entry (s : List ℕ) (at : ℕ) (b : BlockNameValue) : Type 0 where
  byte : get_or s (at + 2) 0 ≡ block_kind_byte b.kind
  gap : get_or s (at + 3) 0 ≡ 0
  kind : block_kind_of (get_or s (at + 2) 0) ≡ b.kind
  file : read16 at s ≡ b.file
  index : read32 (at + 4) s ≡ b.index

entry_parts : (s : List ℕ) (at : ℕ) (b : BlockNameValue) → at + 8 ≤ length s → IsPlaced b.kind b.file b.index
    → part at 8 s ≡ summary_entry b → Entry s at b
unfolding summary_entry
entry_parts s at b room placed e =
    let x = fronts (part at 2 s) (part (at + 2) 2 s ++ part (at + 4) 4 s) (le16 b.file) ((block_kind_byte b.kind ∷ 0 ∷ []) ++ le32 b.index)
    (length-part at 2 s (omega arith) ∙ sym (length-le16 b.file)) (cut at s ∙ e) in
    let y = fronts (part (at + 2) 2 s) (part (at + 4) 4 s) (block_kind_byte b.kind ∷ 0 ∷ []) (le32 b.index)
    (length-part (at + 2) 2 s (omega arith)) x.1 in
    let byte : get_or s (at + 2) 0 ≡ block_kind_byte b.kind =
    ap (λ (k : ℕ). get_or s k 0) (omega arith) ∙ sym (get_or-part (at + 2) 2 s 0 (omega arith)) ∙ ap (λ (z : List ℕ). get_or z 0 0) y.0 in
    let gap : get_or s (at + 3) 0 ≡ 0 =
    ap (λ (k : ℕ). get_or s k 0) (omega arith) ∙ sym (get_or-part (at + 2) 2 s 1 (omega arith)) ∙ ap (λ (z : List ℕ). get_or z 1 0) y.0 in
    record {
      byte = byte;
      gap = gap;
      kind = ap block_kind_of byte ∙ kind_of_byte b.kind;
      file = read16_is at s b.file (file_small b.kind b.file b.index placed) x.0;
      index = read32_is (at + 4) s b.index (index_small b.kind b.file b.index placed) y.1;
    }

-- an entry that is spelled passes the test
pub block_is : (s : List ℕ) (at : ℕ) (b : BlockNameValue) → at + 8 ≤ length s → IsPlaced b.kind b.file b.index
    → part at 8 s ≡ summary_entry b → IsEntryAt at s
block_is s at b room placed e =
    let p = entry_parts s at b room placed e in
    record {
      kind = ap block_kind_byte p.kind ∙ sym p.byte;
      gap = p.gap;
      placed = rw (p.kind, p.file, p.index) placed;
    }

abbrev built : ℕ → BlockKind → ℕ → BlockNameValue
built f k i = record { file = f; kind = k; index = i }

pub block_read : (at : ℕ) (s : List ℕ) (f : ℕ) (k : BlockKind) (i : ℕ) → f ≡ read16 at s → k ≡ block_kind_of (get_or s (at + 2) 0)
    → i ≡ read32 (at + 4) s → built f k i ≡ block_at at s
unfolding block_at
block_read at s f k i p q r =
    ap (λ (n : ℕ). built n k i) p ∙ ap (λ (x : BlockKind). built (read16 at s) x i) q
    ∙ ap (λ (n : ℕ). built (read16 at s) (block_kind_of (get_or s (at + 2) 0)) n) r

-- and is read
entry_is : (s : List ℕ) (at : ℕ) (b : BlockNameValue) → at + 8 ≤ length s → Placed b → part at 8 s ≡ summary_entry b → block_at at s ≡ b
entry_is s at b room placed e =
    let p = entry_parts s at b room placed e in
    sym (block_read at s b.file b.kind b.index (sym p.file) (sym p.kind) (sym p.index))

unfoldable pub fields : List BlockNameValue → List Field
fields bs = (2, le16 (length bs)) ∷ (6, zeros 6) ∷ (8 * length bs, flat_map summary_entry bs)
    ∷ (8 * (63 - length bs), zeros (8 * (63 - length bs))) ∷ []

pub record ReadsAs (s : List ℕ) (bs : List BlockNameValue) : Type 0 where
  pub count : part 0 2 s ≡ le16 (length bs)
  pub gap : part 2 6 s ≡ zeros 6
  pub blocks : part 8 (8 * length bs) s ≡ flat_map summary_entry bs
  pub rest : part (8 + 8 * length bs) (8 * (63 - length bs)) s ≡ zeros (8 * (63 - length bs))

sized : (bs : List BlockNameValue) → Sized (fields bs)
unfolding fields
sized bs =
    (length-le16 (length bs), (length-zeros 6, (length-flat summary_entry 8 length-entry bs, (length-zeros (8 * (63 - length bs)), tt))))

pub length-summary : (bs : List BlockNameValue) → FitsSummary bs → length (summary_sector bs) ≡ 512
unfolding fields summary_sector
length-summary bs fits = let room = fits.room in length-fields (fields bs) (sized bs) ∙ omega arith

pub reads_from : {s : List ℕ} (bs : List BlockNameValue) → s ≡ summary_sector bs → ReadsAs s bs
unfolding fields summary_sector
reads_from {s} bs e =
    let laid : Laid s 0 (fields bs) = laid_from s 0 (fields bs) (sized bs) e in
    record { count = laid.0; gap = laid.1.0; blocks = laid.1.1.0; rest = laid.1.1.1.0 }

pub reads_to : (s : List ℕ) (bs : List BlockNameValue) → length s ≡ 512 → length bs ≤ 63 → ReadsAs s bs → s ≡ summary_sector bs
unfolding fields summary_sector
reads_to s bs long room r = laid_to s 0 (fields bs) (omega arith) (r.count, (r.gap, (r.blocks, (r.rest, tt))))

-- how many blocks there are
pub count_of : {s : List ℕ} (bs : List BlockNameValue) → FitsSummary bs → ReadsAs s bs → read16 0 s ≡ length bs
count_of {s} bs p r = let room = p.room in read16_is 0 s (length bs) (omega arith) r.count

pub block_in : (s : List ℕ) (bs : List BlockNameValue) → length s ≡ 512 → FitsSummary bs → ReadsAs s bs → (i : ℕ) → i < length bs
    → IsEntryAt (8 + 8 * i) s
block_in s bs long p r i lt =
    let room = p.room in
    block_is s (8 + 8 * i) (get_or bs i no_block) (omega arith) (p.each i lt)
    (piece_at summary_entry 8 length-entry s bs 8 (omega arith) r.blocks i no_block lt)

-- what is read of a sector that was tested
pub summary_reads : (s : List ℕ) (n : ℕ) → IsBytes s → length s ≡ 512 → n ≡ read16 0 s → n ≤ 63 → part 2 6 s ≡ zeros 6
    → ((i : ℕ) → i < n → IsEntryAt (8 + 8 * i) s) → part (8 + 8 * n) (8 * (63 - n)) s ≡ zeros (8 * (63 - n))
    → ReadsAs s (run block_at 8 n 8 s)
summary_reads s n fits long is room gap each rest =
    let e : length (run block_at 8 n 8 s) ≡ n = length-run block_at 8 n 8 s in
    let all : flat_map summary_entry (run block_at 8 n 8 s) ≡ part 8 (8 * n) s =
    run_spelled_each block_at summary_entry 8 s n 8 (λ i lt. entry_read s (8 + 8 * i) fits (omega arith) (each i lt)) in
    record {
      count = sym (le16_of_read 0 s fits (omega arith)) ∙ ap le16 (sym is ∙ sym e);
      gap = gap;
      blocks = ap (λ (m : ℕ). part 8 (8 * m) s) e ∙ sym all;
      rest = (let P : ℕ → Type 0 = λ m. part (8 + 8 * m) (8 * (63 - m)) s ≡ zeros (8 * (63 - m)) in subst P (sym e) rest);
    }

pub summary_fits : (s : List ℕ) (n : ℕ) → 1 ≤ n → n ≤ 63 → ((i : ℕ) → i < n → IsEntryAt (8 + 8 * i) s) → FitsSummary (run block_at 8 n 8 s)
unfolding block_at
summary_fits s n some room each =
    let e : length (run block_at 8 n 8 s) ≡ n = length-run block_at 8 n 8 s in
    record {
      some = omega arith;
      room = omega arith;
      each = λ i lt.
          let within : i < n = omega arith in
          let at = get_or-run block_at 8 n 8 s i no_block within in
          let P : BlockNameValue → Type 0 = λ b. IsPlaced b.kind b.file b.index in
          subst P (sym at) (each i within).placed;
    }

-- the places of a summary hold its entries
pub summary_back : (bs : List BlockNameValue) → FitsSummary bs → blocks_of (summary_sector bs) ≡ bs
summary_back bs p =
    let s = summary_sector bs in
    let r = reads_from {s = s} bs refl in
    let room = p.room in
    let long : length s ≡ 512 = length-summary bs p in
    ap (λ (m : ℕ). run block_at 8 m 8 s) (count_of bs p r)
    ∙ run_is block_at summary_entry Placed 8 s length-entry (λ at b room' placed e. entry_is s at b room' placed e) no_block bs 8
    (omega arith) p.each r.blocks

-- two summaries of one sector are one
pub one_summary : (a b : List BlockNameValue) → FitsSummary a → FitsSummary b → summary_sector a ≡ summary_sector b → a ≡ b
one_summary a b p q e = sym (summary_back a p) ∙ ap (λ (s : List ℕ). blocks_of s) e ∙ summary_back b q

-- a place below the count is that of an entry
pub place_below : (s : List ℕ) {bs : List BlockNameValue} (i : ℕ) → blocks_of s ≡ bs → i < length bs → i < read16 0 s
place_below s {bs} i e lt =
    let same : length (run block_at 8 (read16 0 s) 8 s) ≡ length bs = ap (λ (xs : List BlockNameValue). length xs) e in
    omega (arith, same, length-run block_at 8 (read16 0 s) 8 s)
