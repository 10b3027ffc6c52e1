-- A block with a number at one of its words, and an inode that is patched so.
use Rattle.std.proofs.Common.{◌≡◌, ◌<◌, ◌≤◌, ⊎_elim, ◌+◌, ◌*◌, ◌-◌, ◌^◌, ℕ, zero, suc, List, [], ◌∷◌, ◌++◌, length, get_or, set, take, drop}
use Rattle.std.proofs.Common.{refl, sym, ◌∙◌, ap, subst, arith, length-append, length-take, length-drop, length-set, get_or-take}
use Rattle.std.proofs.Common.{get_or-drop, get_or-set_other, get_or-set_same}
use Rattle.std.proofs.lemmas.List.{append_assoc, same_lists, get_or_append_left, get_or-append_right, get_or_past, get_or_default}
use Rattle.std.proofs.lemmas.Bool.{and_parts, cases_eq, cases_lt}
use Rattle.lfs_model.specs.declared.Kind.{Kind}
use Rattle.lfs_model.specs.declared.Kind.TheVariants.{File, Directory, Link}
use Rattle.lfs_model.specs.Fields.{le32, words, zeros, join, part, read32, number_of, Are32}
use Rattle.lfs_model.specs.Inode.{InodeValue, FitsInode, IsForm, inode_in, inode_of, inode_sector, may_be_inode, kind_byte, kind_of}
use Rattle.lfs_model.specs.Entry.{Header, IsInode, header, header_of, word}
use Rattle.lfs_model.specs.Memory.{patched}
use Rattle.lfs_model.specs.Laid.{HoldsInode}
use Rattle.lfs_model.proofs.Numbers.{IsBytes, length-le32, length-words, length-zeros}
use Rattle.lfs_model.proofs.Parts.{length-part, get_or-part, part_add, read32_is}
use Rattle.lfs_model.proofs.InodePlaces.{ReadsAs, fields, form_at, kind_at, reads_to, size_fits}
use Rattle.lfs_model.proofs.Runs.{length-run, piece_at}
use Rattle.lfs_model.proofs.Decoding.{value_found, form_from, form_small, inode_found, inode_some}
use Rattle.lfs_model.proofs.Laid.{Laid, Sized, laid_from, length-fields}

-- ---- the bytes of a patched block
module _ (w v : ℕ) (b : List ℕ) (room : 4 * w + 4 ≤ length b) where
  front : length (take (4 * w) b) ≡ 4 * w
  front = omega (arith, length-take (4 * w) b)

  split : patched w v b ≡ take (4 * w) b ++ (le32 v ++ drop (4 * w + 4) b)
  unfolding patched
  split = append_assoc (take (4 * w) b) (le32 v) (drop (4 * w + 4) b)

  pub length-patched : length (patched w v b) ≡ length b
  length-patched =
      let f = front in
      let s = ap length split in
      omega (
        arith,
        length-append (take (4 * w) b) (le32 v ++ drop (4 * w + 4) b),
        length-append (le32 v) (drop (4 * w + 4) b),
        length-le32 v,
        length-drop (4 * w + 4) b,
      )

  pub byte_before : (o : ℕ) → o < 4 * w → get_or (patched w v b) o 0 ≡ get_or b o 0
  byte_before o lt =
      ap (λ (x : List ℕ). get_or x o 0) split
      ∙ get_or_append_left (take (4 * w) b) (le32 v ++ drop (4 * w + 4) b) 0 o (let f = front in omega arith) ∙ get_or-take (4 * w) b o 0 lt

  pub byte_at : (o : ℕ) → o < 4 → get_or (patched w v b) (4 * w + o) 0 ≡ get_or (le32 v) o 0
  byte_at o lt =
      let e : 4 * w + o - 4 * w ≡ o = omega arith in
      ap (λ (x : List ℕ). get_or x (4 * w + o) 0) split
      ∙ get_or-append_right (take (4 * w) b) (le32 v ++ drop (4 * w + 4) b) (4 * w) (4 * w + o) 0 front (omega arith)
      ∙ ap (λ (i : ℕ). get_or (le32 v ++ drop (4 * w + 4) b) i 0) e
      ∙ get_or_append_left (le32 v) (drop (4 * w + 4) b) 0 o (let l = length-le32 v in omega arith)

  pub byte_past : (o : ℕ) → 4 * w + 4 ≤ o → get_or (patched w v b) o 0 ≡ get_or b o 0
  byte_past o le =
      let e : 4 * w + 4 + (o - 4 * w - 4) ≡ o = omega arith in
      ap (λ (x : List ℕ). get_or x o 0) split
      ∙ get_or-append_right (take (4 * w) b) (le32 v ++ drop (4 * w + 4) b) (4 * w) o 0 front (omega arith)
      ∙ get_or-append_right (le32 v) (drop (4 * w + 4) b) 4 (o - 4 * w) 0 (length-le32 v) (omega arith)
      ∙ get_or-drop (4 * w + 4) b (o - 4 * w - 4) 0
      ∙ ap (λ (i : ℕ). get_or b i 0) e

same_parts : (at n : ℕ) (s t : List ℕ) → at + n ≤ length s → at + n ≤ length t
    → ((i : ℕ) → i < n → get_or s (at + i) 0 ≡ get_or t (at + i) 0) → part at n s ≡ part at n t
same_parts at n s t fits fits' each =
    let ls = length-part at n s fits in
    let lt = length-part at n t fits' in
    same_lists (part at n s) (part at n t) (ls ∙ sym lt) (λ k d low.
    get_or_default (part at n s) k d 0 low ∙ get_or-part at n s k (omega arith) ∙ each k (omega arith)
    ∙ sym (get_or-part at n t k (omega arith)) ∙ sym (get_or_default (part at n t) k d 0 (omega arith)))

-- ---- its parts
module _ (w v : ℕ) (b : List ℕ) (long : length b ≡ 512) (low : w < 128) where
  pub long_patched : length (patched w v b) ≡ 512
  long_patched = length-patched w v b (omega arith) ∙ long

  part_before : (at n : ℕ) → at + n ≤ 4 * w → part at n (patched w v b) ≡ part at n b
  part_before at n le =
      let l = long_patched in
      same_parts at n (patched w v b) b (omega arith) (omega arith) (λ i lt. byte_before w v b (omega arith) (at + i) (omega arith))

  part_past : (at n : ℕ) → 4 * w + 4 ≤ at → at + n ≤ 512 → part at n (patched w v b) ≡ part at n b
  part_past at n le fits =
      let l = long_patched in
      same_parts at n (patched w v b) b (omega arith) (omega arith) (λ i lt. byte_past w v b (omega arith) (at + i) (omega arith))

  part_at : part (4 * w) 4 (patched w v b) ≡ le32 v
  part_at =
      let l = long_patched in
      let p = length-part (4 * w) 4 (patched w v b) (omega arith) in
      let n = length-le32 v in
      same_lists (part (4 * w) 4 (patched w v b)) (le32 v) (p ∙ sym n) (λ k d lt.
      get_or_default (part (4 * w) 4 (patched w v b)) k d 0 lt ∙ get_or-part (4 * w) 4 (patched w v b) k (omega arith)
      ∙ byte_at w v b (omega arith) k (omega arith) ∙ sym (get_or_default (le32 v) k d 0 (omega arith)))

  -- ---- its words
  pub word_at : v < 2 ^ 32 → word (patched w v b) w ≡ v
  unfolding word
  word_at small = read32_is (4 * w) (patched w v b) v small part_at

  pub word_other : (i : ℕ) → i < 128 → (i ≡ w → ⊥) → word (patched w v b) i ≡ word b i
  unfolding word read32
  word_other i fits ne = ap number_of (⊎_elim
      (λ (before : i < w). part_before (4 * i) 4 (omega arith))
      (λ (past : w ≤ i). part_past (4 * i) 4 (omega arith) (omega arith))
      (cases_lt i w))

-- ---- what an inode says besides its pointers
pub header_same : (b c : List ℕ) → get_or c 0 0 ≡ get_or b 0 0 → get_or c 1 0 ≡ get_or b 1 0 → word c 2 ≡ word b 2 → word c 3 ≡ word b 3
    → header c ≡ header b
unfolding header word
header_same b c first form links size = λ i. record { kind = kind_of (first i); form = form i; links = links i; size = size i }

pub header_patched : (w v : ℕ) (b : List ℕ) → length b ≡ 512 → 8 ≤ w → w < 122 → header (patched w v b) ≡ header b
header_patched w v b long above below =
    header_same b (patched w v b) (byte_before w v b (omega arith) 0 (omega arith)) (byte_before w v b (omega arith) 1 (omega arith))
    (word_other w v b long (omega arith) 2 (omega arith) (λ e. omega arith))
    (word_other w v b long (omega arith) 3 (omega arith) (λ e. omega arith))

-- ---- an inode that may have no link is read as its value
sized : (i : InodeValue) → length i.direct ≡ 112 → Sized (fields i)
unfolding fields
sized i count =
    let direct : length (words i.direct) ≡ 448 = length-words i.direct ∙ ap (λ (n : ℕ). 4 * n) count in (
      refl,
      (
        refl,
        (
          length-zeros 2,
          (
            length-le32 i.number,
            (
              length-le32 i.links,
              (
                length-le32 i.size,
                (
                  length-zeros 16,
                  (
                    direct,
                    (length-le32 i.single, (length-le32 i.double, (length-zeros 24, tt))),
                  ),
                ),
              ),
            ),
          ),
        ),
      ),
    )

long_value : (i : InodeValue) → length i.direct ≡ 112 → length (inode_sector i) ≡ 512
unfolding fields inode_sector
long_value i count = length-fields (fields i) (sized i count)

reads_value : (s : List ℕ) (i : InodeValue) → length i.direct ≡ 112 → s ≡ inode_sector i → ReadsAs s i
unfolding fields inode_sector
reads_value s i count e =
    let laid : Laid s 0 (fields i) = laid_from s 0 (fields i) (sized i count) e in record {
      kind = laid.0;
      form = laid.1.0;
      gap = laid.1.1.0;
      number = laid.1.1.1.0;
      links = laid.1.1.1.1.0;
      size = laid.1.1.1.1.1.0;
      gap2 = laid.1.1.1.1.1.1.0;
      direct = laid.1.1.1.1.1.1.1.0;
      single = laid.1.1.1.1.1.1.1.1.0;
      double = laid.1.1.1.1.1.1.1.1.1.0;
      rest = laid.1.1.1.1.1.1.1.1.1.1.0;
    }

module _ (n : ℕ) {b : List ℕ} (holds : HoldsInode n b) where
  pub long_inode : length b ≡ 512
  long_inode = ap length holds.spelt ∙ long_value holds.value holds.fits.direct_length

  pub reads_inode : ReadsAs b holds.value
  reads_inode = reads_value b holds.value holds.fits.direct_length holds.spelt

  pub number_low : (1 ≤ n) × (n ≤ 4095)
  number_low = let l = holds.fits.number.0 in let h = holds.fits.number.1 in let o = holds.own in (omega arith, omega arith)

  value_fits : (n < 2 ^ 32) × (holds.value.links < 2 ^ 32) × (holds.value.size < 2 ^ 32)
  value_fits =
      let low = number_low.1 in
      let few = holds.links in
      (omega arith, omega arith, size_fits (record holds.value { links = 1 }) holds.fits)

  -- its header is that of its value
  pub header_holds : header b ≡ header_of holds.value
  unfolding header
  header_holds =
      let r = reads_inode in
      let l = long_inode in
      let f = value_fits in
      let kind : kind_of (get_or b 0 0) ≡ holds.value.kind = kind_at b holds.value.kind (omega arith) r.kind in
      let links : read32 8 b ≡ holds.value.links = read32_is 8 b holds.value.links f.1 r.links in
      let size : read32 12 b ≡ holds.value.size = read32_is 12 b holds.value.size f.2 r.size in
      let form : get_or b 1 0 ≡ holds.value.form = form_at b holds.value.form (omega arith) r.form in
      λ i. record { kind = kind i; form = form i; links = links i; size = size i }

  -- and with a link it is an inode of a log map that is written, in each version that has its form
  pub is_inode : (version : ℕ) → IsForm version (header b).kind (header b).form → 1 ≤ (header b).links → IsInode version n b
  is_inode version formed linked =
      let few = holds.links in
      let l = ap (λ (h : Header). h.links) header_holds in
      let fits : FitsInode holds.value = record {
        number = holds.fits.number;
        links = (omega arith, omega arith);
        form = holds.fits.form;
        size = holds.fits.size;
        direct_length = holds.fits.direct_length;
        direct_fits = holds.fits.direct_fits;
        single_fits = holds.fits.single_fits;
        double_fits = holds.fits.double_fits;
      } in
      record {
        value = holds.value;
        spelt = inode_some b holds.value fits holds.spelt;
        form = subst (λ (h : Header). IsForm version h.kind h.form) header_holds formed;
        own = holds.own;
      }

-- ---- an inode in a sector is one that memory may hold
le32_bytes : (n : ℕ) → IsBytes (le32 n)
unfolding le32
le32_bytes n zero = omega arith
le32_bytes n (suc zero) = omega arith
le32_bytes n (suc (suc zero)) = omega arith
le32_bytes n (suc (suc (suc zero))) = omega arith
le32_bytes n (suc (suc (suc (suc i)))) = omega arith

append_bytes : (xs ys : List ℕ) → IsBytes xs → IsBytes ys → IsBytes (xs ++ ys)
append_bytes [] ys p q i = q i
append_bytes (x ∷ xs) ys p q zero = p zero
append_bytes (x ∷ xs) ys p q (suc i) = append_bytes xs ys (λ k. p (suc k)) q i

words_bytes : (ns : List ℕ) → IsBytes (words ns)
unfolding words
words_bytes [] i = omega arith
words_bytes (n ∷ ns) i = append_bytes (le32 n) (words ns) (le32_bytes n) (words_bytes ns) i

zeros_bytes : (n : ℕ) → IsBytes (zeros n)
unfolding zeros
zeros_bytes zero i = omega arith
zeros_bytes (suc n) zero = omega arith
zeros_bytes (suc n) (suc i) = zeros_bytes n i

kind_bytes : (k : Kind) → IsBytes (kind_byte k ∷ [])
unfolding kind_byte
kind_bytes File zero = omega arith
kind_bytes File (suc i) = omega arith
kind_bytes Directory zero = omega arith
kind_bytes Directory (suc i) = omega arith
kind_bytes Link zero = omega arith
kind_bytes Link (suc i) = omega arith

-- what follows the kind and the form
abbrev after_form : InodeValue → List ℕ
after_form i =
    join (zeros 2 ∷ le32 i.number ∷ le32 i.links ∷ le32 i.size ∷ zeros 16 ∷ words i.direct ∷ le32 i.single ∷ le32 i.double ∷ zeros 24 ∷ [])

form_bytes : (form : ℕ) → form ≤ 1 → IsBytes (form ∷ [])
form_bytes form few zero = omega arith
form_bytes form few (suc i) = omega arith

inode_bytes : (i : InodeValue) → i.form ≤ 1 → IsBytes (inode_sector i)
unfolding inode_sector
inode_bytes i few =
    append_bytes (kind_byte i.kind ∷ []) ((i.form ∷ []) ++ after_form i) (kind_bytes i.kind)
    (append_bytes (i.form ∷ []) (after_form i) (form_bytes i.form few)
    (append_bytes (zeros 2) _ (zeros_bytes 2)
    (append_bytes (le32 i.number) _ (le32_bytes i.number)
    (append_bytes (le32 i.links) _ (le32_bytes i.links)
    (append_bytes (le32 i.size) _ (le32_bytes i.size)
    (append_bytes (zeros 16) _ (zeros_bytes 16)
    (append_bytes (words i.direct) _ (words_bytes i.direct)
    (append_bytes (le32 i.single) _ (le32_bytes i.single)
    (append_bytes (le32 i.double) _ (le32_bytes i.double)
    (append_bytes (zeros 24) [] (zeros_bytes 24) (λ k. omega arith)))))))))))

pub holds_inode : (version n : ℕ) (b : List ℕ) → IsInode version n b → HoldsInode n b
unfolding inode_in
holds_inode version n b is =
    let found = value_found inode_of may_be_inode inode_sector b is.value is.spelt in
    let count : length is.value.direct ≡ 112 = ap (λ (v : InodeValue). length v.direct) (sym found.0) ∙ length-run read32 4 112 32 b in
    let long : length b ≡ 512 = ap length found.2 ∙ long_value is.value count in
    let tests = and_parts _ _ (and_parts _ _ (and_parts _ _ found.1).1).1 in
    let few : is.value.form ≤ 1 = subst (λ (v : InodeValue). v.form ≤ 1) found.0 (form_small _ _ (form_from _ _ tests.0)) in
    let fits = (inode_found b is.value (subst IsBytes (sym found.2) (inode_bytes is.value few)) long is.spelt).0 in
    record {
      value = is.value;
      spelt = found.2;
      fits = record {
        number = fits.number;
        links = (omega arith, omega arith);
        form = fits.form;
        size = fits.size;
        direct_length = fits.direct_length;
        direct_fits = fits.direct_fits;
        single_fits = fits.single_fits;
        double_fits = fits.double_fits;
      };
      links = fits.links.1;
      own = is.own;
    }

-- ---- an inode with another pointer
-- numbers that stand one after the other, each at its own place
pieces : (s ns : List ℕ) (at : ℕ) → ((i : ℕ) → i < length ns → part (at + 4 * i) 4 s ≡ le32 (get_or ns i 0))
    → part at (4 * length ns) s ≡ words ns
unfolding words part
pieces s [] at each = refl
pieces s (n ∷ ns) at each =
    let more : 4 * suc (length ns) ≡ 4 + 4 * length ns = omega arith in
    let here : at + 4 * 0 ≡ at = omega arith in
    let first : part at 4 s ≡ le32 n = ap (λ (k : ℕ). part k 4 s) (sym here) ∙ each 0 (omega arith) in
    let rest = pieces s ns (at + 4)
    (λ i lt. let e : at + 4 + 4 * i ≡ at + 4 * suc i = omega arith in ap (λ (k : ℕ). part k 4 s) e ∙ each (suc i) (omega arith)) in
    ap (λ (m : ℕ). part at m s) more ∙ sym (part_add at 4 (4 * length ns) s)
    ∙ ap (λ (r : List ℕ). r ++ part (at + 4) (4 * length ns) s) first ∙ ap (λ (r : List ℕ). le32 n ++ r) rest

module _ (n w v : ℕ) (b : List ℕ) (holds : HoldsInode n b) (above : 8 ≤ w) (below : w < 122) (small : v < 2 ^ 32) where
  before : (at k : ℕ) → at + k ≤ 4 * w → part at k (patched w v b) ≡ part at k b
  before at k le = part_before w v b (long_inode n holds) (omega arith) at k le

  past : (at k : ℕ) → 4 * w + 4 ≤ at → at + k ≤ 512 → part at k (patched w v b) ≡ part at k b
  past at k le fits = part_past w v b (long_inode n holds) (omega arith) at k le fits

  -- the inode with other pointers, at the places of the patched block
  other_value : List ℕ → ℕ → ℕ → InodeValue
  other_value ns s d = record holds.value { direct = ns; single = s; double = d }

  other_fits : (ns : List ℕ) (s d : ℕ) → length ns ≡ 112 → Are32 ns → s < 2 ^ 32 → d < 2 ^ 32
      → part 32 448 (patched w v b) ≡ words ns → part 480 4 (patched w v b) ≡ le32 s → part 484 4 (patched w v b) ≡ le32 d
      → HoldsInode n (patched w v b)
  unfolding other_value
  other_fits ns s d count fits fits_s fits_d is_direct is_single is_double =
      let r = reads_inode n holds in
      let reads : ReadsAs (patched w v b) (other_value ns s d) = record {
        kind = before 0 1 (omega arith) ∙ r.kind;
        form = before 1 1 (omega arith) ∙ r.form;
        gap = before 2 2 (omega arith) ∙ r.gap;
        number = before 4 4 (omega arith) ∙ r.number;
        links = before 8 4 (omega arith) ∙ r.links;
        size = before 12 4 (omega arith) ∙ r.size;
        gap2 = before 16 16 (omega arith) ∙ r.gap2;
        direct = is_direct;
        single = is_single;
        double = is_double;
        rest = past 488 24 (omega arith) (omega arith) ∙ r.rest;
      } in
      record {
        value = other_value ns s d;
        spelt = reads_to (patched w v b) (other_value ns s d) (long_patched w v b (long_inode n holds) (omega arith)) reads;
        fits = record {
          number = holds.fits.number;
          links = (omega arith, omega arith);
          form = holds.fits.form;
          size = holds.fits.size;
          direct_length = count;
          direct_fits = fits;
          single_fits = fits_s;
          double_fits = fits_d;
        };
        links = holds.links;
        own = holds.own;
      }

  all_set : (ns : List ℕ) (k : ℕ) → Are32 ns → Are32 (set ns k v)
  unfolding Are32
  all_set ns k fits i =
      ⊎_elim
      (λ (here : i ≡ k).
      ⊎_elim
      (λ (inside : k < length ns).
      subst (λ (x : ℕ). x < 2 ^ 32) (sym (ap (λ (j : ℕ). get_or (set ns k v) j 0) here ∙ get_or-set_same ns k v 0 inside)) small)
      (λ (outside : length ns ≤ k).
      let z : get_or (set ns k v) i 0 ≡ 0 = get_or_past (set ns k v) i 0 (omega (arith, length-set ns k v)) in
      subst (λ (x : ℕ). x < 2 ^ 32) (sym z) (omega arith))
      (cases_lt k (length ns)))
      (λ (ne : i ≡ k → ⊥). subst (λ (x : ℕ). x < 2 ^ 32) (sym (get_or-set_other ns k i v 0 ne)) (fits i))
      (cases_eq i k)

  direct_words : w < 120 → part 32 448 (patched w v b) ≡ words (set holds.value.direct (w - 8) v)
  unfolding words
  direct_words low =
      let ns = holds.value.direct in
      let count = holds.fits.direct_length in
      let l = length-set holds.value.direct (w - 8) v in
      let long = long_inode n holds in
      let whole : part 32 (4 * length holds.value.direct) b ≡ words holds.value.direct = ap (λ (m : ℕ). part 32 (4 * m) b) count
      ∙ (reads_inode n holds).direct in
      let each : (i : ℕ) → i < length (set holds.value.direct (w - 8) v)
      → part (32 + 4 * i) 4 (patched w v b) ≡ le32 (get_or (set holds.value.direct (w - 8) v) i 0) = λ i lt.
      ⊎_elim
      (λ (here : i ≡ w - 8).
      let e : 32 + 4 * i ≡ 4 * w = omega arith in
      ap (λ (k : ℕ). part k 4 (patched w v b)) e ∙ part_at w v b long (omega arith)
      ∙ ap le32 (sym (ap (λ (j : ℕ). get_or (set holds.value.direct (w - 8) v) j 0) here
      ∙ get_or-set_same holds.value.direct (w - 8) v 0 (omega arith))))
      (λ (ne : i ≡ w - 8 → ⊥).
      ⊎_elim
      (λ (low : i < w - 8). before (32 + 4 * i) 4 (omega arith))
      (λ (high : w - 8 ≤ i). past (32 + 4 * i) 4 (omega arith) (omega arith))
      (cases_lt i (w - 8))
      ∙ piece_at le32 4 length-le32 b holds.value.direct 32 (omega arith) whole i 0 (omega arith)
      ∙ ap le32 (sym (get_or-set_other holds.value.direct (w - 8) i v 0 ne)))
      (cases_eq i (w - 8)) in
      let m : 448 ≡ 4 * length (set holds.value.direct (w - 8) v) = omega arith in
      ap (λ (k : ℕ). part 32 k (patched w v b)) m ∙ pieces (patched w v b) (set holds.value.direct (w - 8) v) 32 each

  here_words : (k : ℕ) → 4 * w ≡ k → part k 4 (patched w v b) ≡ le32 v
  here_words k is = ap (λ (j : ℕ). part j 4 (patched w v b)) (sym is) ∙ part_at w v b (long_inode n holds) (omega arith)

  pub holds_patched : HoldsInode n (patched w v b)
  holds_patched =
      let r = reads_inode n holds in
      let i = holds.value in
      ⊎_elim
      (λ (direct : w < 120).
      other_fits (set holds.value.direct (w - 8) v) holds.value.single holds.value.double
      (length-set holds.value.direct (w - 8) v ∙ holds.fits.direct_length)
      (all_set holds.value.direct (w - 8) holds.fits.direct_fits) holds.fits.single_fits holds.fits.double_fits
      (direct_words direct) (past 480 4 (omega arith) (omega arith) ∙ r.single) (past 484 4 (omega arith) (omega arith) ∙ r.double))
      (λ (not_direct : 120 ≤ w).
      ⊎_elim
      (λ (single : w ≡ 120).
      other_fits holds.value.direct v holds.value.double holds.fits.direct_length holds.fits.direct_fits small holds.fits.double_fits
      (before 32 448 (omega arith) ∙ r.direct) (here_words 480 (omega arith)) (past 484 4 (omega arith) (omega arith) ∙ r.double))
      (λ (not_single : w ≡ 120 → ⊥).
      other_fits holds.value.direct holds.value.single v holds.fits.direct_length holds.fits.direct_fits holds.fits.single_fits small
      (before 32 448 (omega arith) ∙ r.direct) (before 480 4 (omega arith) ∙ r.single) (here_words 484 (omega arith)))
      (cases_eq w 120))
      (cases_lt w 120)
