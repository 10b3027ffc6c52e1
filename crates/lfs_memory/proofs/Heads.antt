-- Inodes with another header.
use Rattle.std.proofs.Common.{◌≡◌, ◌<◌, ◌≤◌, ◌+◌, ◌*◌, ◌-◌, ℕ, zero, suc, List, [], ◌∷◌, ◌++◌, length, drop, get_or, refl, sym, ◌∙◌}
use Rattle.std.proofs.Common.{ap, arith}
use Rattle.std.specs.Prelude.{replicate}
use Rattle.std.proofs.lemmas.List.{append-nil}
use Rattle.lfs_model.specs.declared.Kind.{Kind}
use Rattle.lfs_model.specs.Entry.{header, word}
use Rattle.lfs_model.specs.Fields.{zeros, le32, words, Are32, read32, part}
use Rattle.lfs_model.specs.Inode.{InodeValue, inode_sector, kind_byte}
use Rattle.lfs_model.specs.Laid.{HoldsInode}
use Rattle.lfs_model.proofs.Numbers.{length-zeros}
use Rattle.lfs_model.proofs.Patching.{header_holds}
use Rattle.lfs_memory.specs.Changing.{headed, header_with, FitsHeader}
use Rattle.lfs_memory.proofs.LogMaps.{word_zeros}

drop_past : (xs ys : List ℕ) (k n : ℕ) → n ≡ length xs + k → drop n (xs ++ ys) ≡ drop k ys
drop_past [] ys k n is = rw (let e : 0 + k ≡ k = omega arith in is ∙ e)
drop_past (x ∷ xs) ys k zero is = absurd (omega arith)
drop_past (x ∷ xs) ys k (suc n) is = drop_past xs ys k n (omega arith)

-- past the header, of 1, 1, 2, 4, 4 and 4 bytes
module _ (a f : ℕ) (l s z : ℕ) (r : List ℕ) where
  past : (n : ℕ) → 16 ≤ n → drop n ((a ∷ []) ++ (f ∷ []) ++ zeros 2 ++ le32 l ++ le32 s ++ le32 z ++ r) ≡ drop (n - 16) r
  unfolding le32 zeros
  past n room =
      drop_past (a ∷ []) ((f ∷ []) ++ zeros 2 ++ le32 l ++ le32 s ++ le32 z ++ r) (n - 1) n (omega arith)
      ∙ drop_past (f ∷ []) (zeros 2 ++ le32 l ++ le32 s ++ le32 z ++ r) (n - 2) (n - 1) (omega arith)
      ∙ drop_past (zeros 2) (le32 l ++ le32 s ++ le32 z ++ r) (n - 4) (n - 2) (omega arith)
      ∙ drop_past (le32 l) (le32 s ++ le32 z ++ r) (n - 8) (n - 4) (omega arith)
      ∙ drop_past (le32 s) (le32 z ++ r) (n - 12) (n - 8) (omega arith)
      ∙ drop_past (le32 z) r (n - 16) (n - 12) (omega arith)

-- the pointers of an inode, as its bytes past the header
abbrev tail : InodeValue → List ℕ
tail i = zeros 16 ++ (words i.direct ++ (le32 i.single ++ (le32 i.double ++ (zeros 24 ++ []))))

sector_is : (i : InodeValue) → inode_sector i ≡ (kind_byte i.kind ∷ []) ++ (i.form ∷ []) ++ zeros 2 ++ le32 i.number ++ le32 i.links
    ++ le32 i.size ++ tail i
unfolding inode_sector zeros le32
sector_is i = refl

tail_is : (i : InodeValue) → drop 16 (inode_sector i) ≡ tail i
tail_is i = ap (drop 16) (sector_is i) ∙ past (kind_byte i.kind) i.form i.number i.links i.size (tail i) 16 (omega arith)

abbrev relabeled : InodeValue → Kind → ℕ → ℕ → ℕ → InodeValue
relabeled i kind form links size = record i { kind = kind; form = form; links = links; size = size }

headed_sector : (i : InodeValue) (kind : Kind) (form n links size : ℕ) (bytes : List ℕ) → i.number ≡ n → drop 16 bytes ≡ tail i
    → headed kind form n links size bytes ≡ inode_sector (relabeled i kind form links size)
headed_sector i kind form n links size bytes own is =
    rw is (ap (λ (l : ℕ). (kind_byte kind ∷ []) ++ (form ∷ []) ++ zeros 2 ++ le32 l ++ le32 links ++ le32 size ++ tail i) (sym own)
    ∙ sym (sector_is (relabeled i kind form links size)))

-- an inode with another header is one
pub holds_headed : (n : ℕ) {old : List ℕ} → HoldsInode n old → {kind : Kind} {form links size : ℕ} → FitsHeader kind form links size
    → HoldsInode n (headed kind form n links size old)
holds_headed n {old} holds {kind} {form} {links} {size} fits = record {
  value = relabeled holds.value kind form links size;
  spelt = headed_sector holds.value kind form n links size old holds.own (ap (drop 16) holds.spelt ∙ tail_is holds.value);
  fits = assumption;
  links = fits.links_few;
  own = holds.own;
}

drop_none : (j : ℕ) → drop {A = ℕ} j [] ≡ []
drop_none zero = refl
drop_none (suc j) = refl

dropped : (k m : ℕ) (bs : List ℕ) → k ≤ m → drop (m - k) (drop k bs) ≡ drop m bs
dropped zero m bs le = rw (let e : m - 0 ≡ m = omega arith in e)
dropped (suc k) zero bs le = absurd (omega arith)
dropped (suc k) (suc m) [] le = drop_none (suc m - suc k)
dropped (suc k) (suc m) (b ∷ bs) le = rw (let e : suc m - suc k ≡ m - k = omega arith in e) (dropped k m bs (omega arith))

-- past its header it is as it was
pub headed_words : (kind : Kind) (form n links size : ℕ) (old : List ℕ) (w : ℕ) → 4 ≤ w
    → word (headed kind form n links size old) w ≡ word old w
unfolding word read32 part
headed_words kind form n links size old w high =
    rw (past (kind_byte kind) form n links size (drop 16 old) (4 * w) (omega arith) ∙ dropped 16 (4 * w) old (omega arith))

pub header_headed : (n : ℕ) {old : List ℕ} → HoldsInode n old → {kind : Kind} {form links size : ℕ} → FitsHeader kind form links size
    → header (headed kind form n links size old) ≡ header_with kind form links size
unfolding holds_headed
header_headed n holds fits =
    header_holds n (holds_headed n holds fits)

-- ---- a new inode, whose pointers are 0
zeros_then : (a b : ℕ) → zeros (a + b) ≡ zeros a ++ zeros b
unfolding zeros
zeros_then zero b = rw (let e : 0 + b ≡ b = omega arith in e)
zeros_then (suc a) b = rw (let e : suc a + b ≡ suc (a + b) = omega arith in e) (ap (λ (l : List ℕ). 0 ∷ l) (zeros_then a b))

four : le32 0 ≡ zeros 4
unfolding le32 zeros
four = refl

no_words : (n : ℕ) → words (replicate n 0) ≡ zeros (4 * n)
unfolding words zeros
no_words zero = refl
no_words (suc n) = ap (λ (l : List ℕ). le32 0 ++ l) (no_words n) ∙ ap (λ (l : List ℕ). l ++ zeros (4 * n)) four ∙ sym (zeros_then 4 (4 * n))
    ∙ ap zeros (let e : 4 + 4 * n ≡ 4 * suc n = omega arith in e)

-- the inode of a new file, but for its header
abbrev new_inode : Kind → ℕ → ℕ → ℕ → ℕ → InodeValue
new_inode kind form n links size =
    record { kind = kind; form = form; number = n; links = links; size = size; direct = replicate 112 0; single = 0; double = 0 }

new_tail : (kind : Kind) (form n links size : ℕ) → drop 16 (zeros 512) ≡ tail (new_inode kind form n links size)
new_tail kind form n links size =
    ap (drop 16) (zeros_then 16 496) ∙ drop_past (zeros 16) (zeros 496) 0 16 (omega (arith, length-zeros 16))
    ∙ zeros_then 16 480 ∙ ap (λ (l : List ℕ). zeros 16 ++ l)
    (zeros_then 448 32 ∙ ap (λ (l : List ℕ). l ++ zeros 32) (sym (no_words 112)) ∙ ap (λ (l : List ℕ). words (replicate 112 0) ++ l)
    (zeros_then 4 28 ∙ ap (λ (l : List ℕ). l ++ zeros 28) (sym four) ∙ ap (λ (l : List ℕ). le32 0 ++ l)
    (zeros_then 4 24 ∙ ap (λ (l : List ℕ). l ++ zeros 24) (sym four) ∙ ap (λ (l : List ℕ). le32 0 ++ l) (sym (append-nil (zeros 24))))))

are_32 : (n i : ℕ) → get_or (replicate n 0) i 0 < 4294967296
are_32 zero i = omega arith
are_32 (suc n) zero = omega arith
are_32 (suc n) (suc i) = are_32 n i

length_same : (n : ℕ) → length {A = ℕ} (replicate n 0) ≡ n
length_same zero = refl
length_same (suc n) = rw (length_same n)

pub holds_new : (n : ℕ) → 1 ≤ n → n ≤ 4095 → {kind : Kind} {form links size : ℕ} → FitsHeader kind form links size
    → HoldsInode n (headed kind form n links size (zeros 512))
unfolding Are32
holds_new n low high {kind} {form} {links} {size} fits = record {
  value = new_inode kind form n links size;
  spelt = headed_sector (new_inode kind form n links size) kind form n links size (zeros 512) refl (new_tail kind form n links size);
  fits = record {
    number = (low, high);
    links = (omega arith, omega arith);
    form = fits.known;
    size = fits.size_fits;
    direct_length = length_same 112;
    direct_fits = are_32 112;
    single_fits = omega arith;
    double_fits = omega arith;
  };
  links = fits.links_few;
  own = refl;
}

pub header_new : (n : ℕ) → 1 ≤ n → n ≤ 4095 → (kind : Kind) (form links size : ℕ) → FitsHeader kind form links size
    → header (headed kind form n links size (zeros 512)) ≡ header_with kind form links size
unfolding holds_new
header_new n low high kind form links size fits =
    header_holds n (holds_new n low high fits)

pub new_words : (kind : Kind) (form n links size w : ℕ) → 4 ≤ w → word (headed kind form n links size (zeros 512)) w ≡ 0
new_words kind form n links size w high = headed_words kind form n links size (zeros 512) w high ∙ word_zeros 512 w
