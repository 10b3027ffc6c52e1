-- What the decoders give, in the words of the stages: `word`, `half`, `header`.
use Rattle.std.proofs.Common.{◌≡◌, ◌≤◌, ◌<◌, ◌⊎◌, inl, inr, ◌+◌, ◌*◌, ℕ, List, length, get_or, Some, sym, ap, subst, ◌∙◌, arith}
use Rattle.std.proofs.lemmas.Bool.{cases_eq}
use Rattle.lfs_model.specs.Fields.{numbers, read16, read32}
use Rattle.lfs_model.specs.Pointers.{FitsPointers, pointer_sector, pointers_of}
use Rattle.lfs_model.specs.Inode.{InodeValue, inode_in, inode_of, inode_sector, may_be_inode}
use Rattle.lfs_model.specs.Usage.{SegmentUse, FitsUsage, IsUse, IsUnused, may_be_usage, no_use, usage_in, usage_of, usage_sector, use_at}
use Rattle.lfs_model.specs.Entry.{word, half, header, header_of}
use Rattle.lfs_model.proofs.Numbers.{IsBytes}
use Rattle.lfs_model.proofs.Parts.{read32-lt}
use Rattle.lfs_model.proofs.Runs.{get_or-run, length-run}
use Rattle.lfs_model.proofs.PointerPlaces.{pointers_back}
use Rattle.lfs_model.proofs.UsagePlaces.{use_in, usage_spelled}
use Rattle.lfs_model.proofs.Decoding.{value_found, usage_found, usage_some}

-- the numbers from word k on are words
pub number_word : (n at k : ℕ) (s : List ℕ) (i : ℕ) → at ≡ 4 * k → i < n → get_or (numbers n at s) i 0 ≡ word s (k + i)
unfolding word
number_word n at k s i is lt = get_or-run read32 4 n at s i 0 lt ∙ ap (λ (x : ℕ). read32 x s) (omega arith)

pub pointer_word : (s : List ℕ) (i : ℕ) → i < 128 → get_or (pointers_of s) i 0 ≡ word s i
pointer_word s i lt = number_word 128 0 0 s i (omega arith) lt ∙ ap (word s) (omega arith)

-- a block of these addresses has them at its words
pub pointers_are : (s ns : List ℕ) → FitsPointers ns → s ≡ pointer_sector ns → (i : ℕ) → i < 128 → word s i ≡ get_or ns i 0
pointers_are s ns fits is i lt =
    sym (pointer_word s i lt) ∙ ap (λ (b : List ℕ). get_or (pointers_of b) i 0) is
    ∙ ap (λ (l : List ℕ). get_or l i 0) (pointers_back ns fits)

-- what an inode's words are
pub record InodeWords (s : List ℕ) (v : InodeValue) : Type 0 where
  pub header : header s ≡ header_of v
  pub direct : (i : ℕ) → i < 112 → word s (8 + i) ≡ get_or v.direct i 0
  pub single : word s 120 ≡ v.single
  pub double : word s 121 ≡ v.double

pub inode_words : (s : List ℕ) (v : InodeValue) → inode_in s ≡ Some v → InodeWords s v
unfolding inode_in header word
inode_words s v spelt =
    let is = (value_found inode_of may_be_inode inode_sector s v spelt).0 in record {
      header = ap header_of is;
      direct = λ i lt. sym (number_word 112 32 8 s i (omega arith) lt) ∙ ap (λ (x : InodeValue). get_or x.direct i 0) is;
      single = ap (λ (x : InodeValue). x.single) is;
      double = ap (λ (x : InodeValue). x.double) is;
    }

-- what a usage block's words are
pub record UseWords (s : List ℕ) (i : ℕ) (u : SegmentUse) : Type 0 where
  pub used : half s (4 * i) ≡ u.used
  pub live : half s (4 * i + 1) ≡ u.live
  pub age : word s (2 * i + 1) ≡ u.age

pub use_words : (s : List ℕ) (i : ℕ) → UseWords s i (use_at (8 * i) s)
unfolding use_at half word
use_words s i = record {
  used = ap (λ (k : ℕ). read16 k s) (omega arith);
  live = ap (λ (k : ℕ). read16 k s) (omega arith);
  age = ap (λ (k : ℕ). read32 k s) (omega arith);
}

-- a block of these entries has them at its words
pub uses_are : (s : List ℕ) (n : ℕ) (us : List SegmentUse) → IsBytes s → length s ≡ 512 → usage_in n s ≡ Some us → (i : ℕ) → i < 64
    → UseWords s i (get_or us i no_use)
unfolding usage_in
uses_are s n us bytes long spelt i lt =
    let is : usage_of s ≡ us = (value_found usage_of (may_be_usage n) usage_sector s us spelt).0 in
    subst (UseWords s i) (sym (use_in s i lt) ∙ ap (λ (l : List SegmentUse). get_or l i no_use) is) (use_words s i)

-- a usage block in which `count` entries belong to segments, as the first stage says it
pub record IsUsageBlock (count : ℕ) (s : List ℕ) : Type 0 where
  pub fit : (i : ℕ) → i < 64 → half s (4 * i) ≤ 64
  pub less : (i : ℕ) → i < 64 → (half s (4 * i) ≡ 0) ⊎ ((0 < half s (4 * i + 1)) × (half s (4 * i + 1) < half s (4 * i)))
  pub both : (i : ℕ) → i < 64 → half s (4 * i) ≡ 0 → half s (4 * i + 1) ≡ 0
  pub past : (i : ℕ) → count ≤ i → i < 64 → (half s (4 * i) ≡ 0) × (word s (2 * i + 1) ≡ 0)

pub usage_block_found : (s : List ℕ) (n : ℕ) (us : List SegmentUse) → IsBytes s → length s ≡ 512 → usage_in n s ≡ Some us → IsUsageBlock n s
usage_block_found s n us bytes long spelt =
    let fits = (usage_found s n us bytes long spelt).0 in record {
      fit = λ i lt. let w = (uses_are s n us bytes long spelt i lt).used in let f = (fits.each i lt).used in omega arith;
      less = λ i lt. few (uses_are s n us bytes long spelt i lt).used (uses_are s n us bytes long spelt i lt).live (fits.each i lt);
      both = λ i lt none. let w = uses_are s n us bytes long spelt i lt in let f = (fits.each i lt).both in
          w.live ∙ f.0 (sym w.used ∙ none);
      past = λ i le lt. let w = uses_are s n us bytes long spelt i lt in let f = fits.past i le lt in (w.used ∙ f.used, w.age ∙ f.age);
    }
  where
    few : {used live : ℕ} {u : SegmentUse} → used ≡ u.used → live ≡ u.live → IsUse u → (used ≡ 0) ⊎ ((0 < live) × (live < used))
    few {used} {live} {u} a b is = elim (cases_eq used 0) [
      | inl e ↦ inl e
      | inr ne ↦ inr (elim (cases_eq live 0) [
        | inl e ↦ let z = is.both.1 (sym b ∙ e) in absurd (ne (omega arith))
        | inr some ↦ let f = is.fewer (omega arith) in (omega arith, omega arith)
      ])
    ]

use_is : (n : ℕ) (s : List ℕ) → IsBytes s → length s ≡ 512 → IsUsageBlock n s → (i : ℕ) → i < 64 → IsUse (use_at (8 * i) s)
unfolding use_at
use_is n s bytes long b i lt =
    let w = use_words s i in
    let wu = w.used in
    let wl = w.live in
    let fit = b.fit i lt in record {
      used = omega arith;
      both = (
        (λ z. sym wl ∙ b.both i lt (wu ∙ z)),
        (λ z. elim (b.less i lt)
            [ inl e ↦ sym wu ∙ e | inr some ↦ let lt' = some.0 in absurd (omega arith) ]),
      );
      live = elim (b.less i lt) [ inl e ↦ let z = b.both i lt e in omega arith | inr some ↦ let lt' = some.1 in omega arith ];
      fewer = λ some. elim (b.less i lt) [ inl e ↦ absurd (omega arith) | inr f ↦ let lt' = f.1 in omega arith ];
      age = read32-lt (8 * i + 4) s bytes (omega arith);
    }

use_none : (n : ℕ) (s : List ℕ) → IsUsageBlock n s → (i : ℕ) → n ≤ i → i < 64 → IsUnused (use_at (8 * i) s)
use_none n s b i le lt =
    let w = use_words s i in
    let none = b.past i le lt in record {
      used = sym w.used ∙ none.0;
      live = sym w.live ∙ b.both i lt none.0;
      age = sym w.age ∙ none.1;
    }

pub usage_block_some : (s : List ℕ) {n : ℕ} → IsBytes s → length s ≡ 512 → IsUsageBlock n s → usage_in n s ≡ Some (usage_of s)
usage_block_some s {n} bytes long b = usage_some s n (usage_of s) fits (usage_spelled s bytes long)
  where
    fits : FitsUsage n (usage_of s)
    fits = record {
      entries = length-run use_at 8 64 0 s;
      each = λ i lt. subst IsUse (sym (use_in s i lt)) (use_is n s bytes long b i lt);
      past = λ i le lt. subst IsUnused (sym (use_in s i lt)) (use_none n s b i le lt);
    }
