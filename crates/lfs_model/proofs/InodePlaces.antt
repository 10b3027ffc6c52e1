-- The inode, place by place.
use Rattle.std.proofs.Common.{◌≡◌, ◌<◌, ◌≤◌, ◌*◌, ◌^◌, ℕ, zero, suc, List, [], ◌∷◌, length, get_or, refl, sym, ap, ◌∙◌, arith}
use Rattle.lfs_model.specs.declared.Kind.{Kind}
use Rattle.lfs_model.specs.declared.Kind.TheVariants.{File, Directory, Link}
use Rattle.lfs_model.specs.Fields.{le32, words, zeros, part, read32, numbers}
use Rattle.lfs_model.specs.Inode.{InodeValue, FitsInode, IsSize, inode_of, inode_sector, kind_byte, kind_of}
use Rattle.lfs_model.specs.Tree.{slot_len}
use Rattle.lfs_model.proofs.Numbers.{length-le32, length-words, length-zeros}
use Rattle.lfs_model.proofs.Parts.{one_byte, read32_is}
use Rattle.lfs_model.proofs.Runs.{numbers_is}
use Rattle.lfs_model.proofs.Laid.{Field, Sized, Laid, laid_from, laid_to, length-fields}

unfoldable pub fields : InodeValue → List Field
fields i = (1, kind_byte i.kind ∷ []) ∷ (1, i.form ∷ []) ∷ (2, zeros 2) ∷ (4, le32 i.number) ∷ (4, le32 i.links) ∷ (4, le32 i.size)
    ∷ (16, zeros 16) ∷ (448, words i.direct) ∷ (4, le32 i.single) ∷ (4, le32 i.double) ∷ (24, zeros 24) ∷ []

-- what stands at each place of the sector
pub record ReadsAs (s : List ℕ) (i : InodeValue) : Type 0 where
  pub kind : part 0 1 s ≡ kind_byte i.kind ∷ []
  pub form : part 1 1 s ≡ i.form ∷ []
  pub gap : part 2 2 s ≡ zeros 2
  pub number : part 4 4 s ≡ le32 i.number
  pub links : part 8 4 s ≡ le32 i.links
  pub size : part 12 4 s ≡ le32 i.size
  pub gap2 : part 16 16 s ≡ zeros 16
  pub direct : part 32 448 s ≡ words i.direct
  pub single : part 480 4 s ≡ le32 i.single
  pub double : part 484 4 s ≡ le32 i.double
  pub rest : part 488 24 s ≡ zeros 24

sized : (i : InodeValue) → FitsInode i → Sized (fields i)
unfolding fields
sized i fits =
    let direct : length (words i.direct) ≡ 448 = length-words i.direct ∙ ap (λ (n : ℕ). 4 * n) fits.direct_length in (
      refl,
      (
        refl,
        (
          length-zeros 2,
          (
            length-le32 i.number,
            (
              length-le32 i.links,
              (
                length-le32 i.size,
                (
                  length-zeros 16,
                  (
                    direct,
                    (length-le32 i.single, (length-le32 i.double, (length-zeros 24, tt))),
                  ),
                ),
              ),
            ),
          ),
        ),
      ),
    )

pub length-inode : (i : InodeValue) → FitsInode i → length (inode_sector i) ≡ 512
unfolding fields inode_sector
length-inode i fits = length-fields (fields i) (sized i fits)

pub reads_from : {s : List ℕ} (i : InodeValue) → FitsInode i → s ≡ inode_sector i → ReadsAs s i
unfolding fields inode_sector
reads_from {s} i fits e =
    let laid : Laid s 0 (fields i) = laid_from s 0 (fields i) (sized i fits) e in record {
      kind = laid.0;
      form = laid.1.0;
      gap = laid.1.1.0;
      number = laid.1.1.1.0;
      links = laid.1.1.1.1.0;
      size = laid.1.1.1.1.1.0;
      gap2 = laid.1.1.1.1.1.1.0;
      direct = laid.1.1.1.1.1.1.1.0;
      single = laid.1.1.1.1.1.1.1.1.0;
      double = laid.1.1.1.1.1.1.1.1.1.0;
      rest = laid.1.1.1.1.1.1.1.1.1.1.0;
    }

pub reads_to : (s : List ℕ) (i : InodeValue) → length s ≡ 512 → ReadsAs s i → s ≡ inode_sector i
unfolding fields inode_sector
reads_to s i long r =
    laid_to s 0 (fields i) (sym long)
    (r.kind, (r.form, (r.gap, (r.number, (r.links, (r.size, (r.gap2, (r.direct, (r.single, (r.double, (r.rest, tt)))))))))))

pub kind_of_byte : (k : Kind) → kind_of (kind_byte k) ≡ k
unfolding kind_byte
kind_of_byte File = refl
kind_of_byte Directory = refl
kind_of_byte Link = refl

-- the kind that a sector says
pub kind_at : (s : List ℕ) (k : Kind) → 1 ≤ length s → part 0 1 s ≡ kind_byte k ∷ [] → kind_of (get_or s 0 0) ≡ k
kind_at s k room e =
    let byte : get_or s 0 0 ≡ kind_byte k = ap (λ (b : List ℕ). get_or b 0 0) (sym (one_byte 0 s room) ∙ e) in
    ap kind_of byte ∙ kind_of_byte k

pub same_kind : (a b : Kind) → kind_byte a ∷ [] ≡ kind_byte b ∷ [] → a ≡ b
same_kind a b e = sym (kind_of_byte a) ∙ ap (λ (x : List ℕ). kind_of (get_or x 0 0)) e ∙ kind_of_byte b

-- no other byte is a kind's
pub not_a_kind : {b : ℕ} (k : Kind) → (b ≡ 1 → ⊥) → (b ≡ 2 → ⊥) → (b ≡ 3 → ⊥) → b ≡ kind_byte k → ⊥
unfolding kind_byte
not_a_kind File x y z e = x e
not_a_kind Directory x y z e = y e
not_a_kind Link x y z e = z e

-- the form that a sector says
pub form_at : (s : List ℕ) (form : ℕ) → 2 ≤ length s → part 1 1 s ≡ form ∷ [] → get_or s 1 0 ≡ form
form_at s form room e = ap (λ (b : List ℕ). get_or b 0 0) (sym (one_byte 1 s (omega arith)) ∙ e)

abbrev built : Kind → ℕ → ℕ → ℕ → ℕ → List ℕ → ℕ → ℕ → InodeValue
built k f n l s d x y = record { kind = k; form = f; number = n; links = l; size = s; direct = d; single = x; double = y }

pub widest : (form : ℕ) → slot_len form ≤ 128
widest zero = omega arith
widest (suc form) = omega arith

size_below : (form : ℕ) (k : Kind) (n : ℕ) → IsSize form k n → n < 2 ^ 32
unfolding IsSize
size_below form File n h = omega arith
size_below form Directory n h = omega (arith, widest form, h.1)
size_below form Link n h = omega (arith, h.1)

-- an inode's size fits 32 bits
pub size_fits : (i : InodeValue) → FitsInode i → i.size < 2 ^ 32
size_fits i fits = size_below i.form i.kind i.size fits.size

-- the places of an inode's sector hold the inode
pub inode_back : (i : InodeValue) → FitsInode i → inode_of (inode_sector i) ≡ i
inode_back i p =
    let s = inode_sector i in
    let r = reads_from {s = s} i p refl in
    let long : length s ≡ 512 = length-inode i p in
    let kind : kind_of (get_or s 0 0) ≡ i.kind = kind_at s i.kind (omega arith) r.kind in
    let form : get_or s 1 0 ≡ i.form = form_at s i.form (omega (arith, long)) r.form in
    let number : read32 4 s ≡ i.number = read32_is 4 s i.number (omega (arith, p.number.1)) r.number in
    let links : read32 8 s ≡ i.links = read32_is 8 s i.links (omega (arith, p.links.1)) r.links in
    let size : read32 12 s ≡ i.size = read32_is 12 s i.size (size_fits i p) r.size in
    let direct : numbers 112 32 s ≡ i.direct = numbers_is 112 32 s i.direct p.direct_length p.direct_fits (omega arith) r.direct in
    let single : read32 480 s ≡ i.single = read32_is 480 s i.single p.single_fits r.single in
    let double : read32 484 s ≡ i.double = read32_is 484 s i.double p.double_fits r.double in
    ap (λ (k : Kind). built k (get_or s 1 0) (read32 4 s) (read32 8 s) (read32 12 s) (numbers 112 32 s) (read32 480 s) (read32 484 s)) kind
    ∙ ap (λ (f : ℕ). built i.kind f (read32 4 s) (read32 8 s) (read32 12 s) (numbers 112 32 s) (read32 480 s) (read32 484 s)) form
    ∙ ap (λ (n : ℕ). built i.kind i.form n (read32 8 s) (read32 12 s) (numbers 112 32 s) (read32 480 s) (read32 484 s)) number
    ∙ ap (λ (n : ℕ). built i.kind i.form i.number n (read32 12 s) (numbers 112 32 s) (read32 480 s) (read32 484 s)) links
    ∙ ap (λ (n : ℕ). built i.kind i.form i.number i.links n (numbers 112 32 s) (read32 480 s) (read32 484 s)) size
    ∙ ap (λ (d : List ℕ). built i.kind i.form i.number i.links i.size d (read32 480 s) (read32 484 s)) direct
    ∙ ap (λ (n : ℕ). built i.kind i.form i.number i.links i.size i.direct n (read32 484 s)) single
    ∙ ap (λ (n : ℕ). built i.kind i.form i.number i.links i.size i.direct i.single n) double

-- two inodes of one sector are one
pub one_inode : (a b : InodeValue) → FitsInode a → FitsInode b → inode_sector a ≡ inode_sector b → a ≡ b
one_inode a b p q e = sym (inode_back a p) ∙ ap (λ (s : List ℕ). inode_of s) e ∙ inode_back b q
