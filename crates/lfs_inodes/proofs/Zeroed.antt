-- Blocks with 0 at some of their words.
use Rattle.std.proofs.Common.{◌≡◌, ◌<◌, ◌≤◌, ⊎_elim, ◌+◌, ℕ, zero, suc, List, Option, Some, None, length, refl, sym, ◌∙◌, ap, subst, arith}
use Rattle.std.specs.Option.{option_map}
use Rattle.std.proofs.lemmas.Bool.{cases_eq}
use Rattle.lfs_model.specs.Entry.{Entry, header, word}
use Rattle.lfs_model.specs.Laid.{HoldsInode}
use Rattle.lfs_model.specs.Memory.{patched}
use Rattle.lfs_model.specs.Running.{Dirty}
use Rattle.lfs_model.specs.Staging.{ChangesTo}
use Rattle.lfs_model.proofs.Patching.{long_patched, word_at, word_other, header_patched, holds_patched}
use Rattle.lfs_inodes.specs.Clearing.{zeroed}

-- ---- one word more
pub zeroed_none : (first : ℕ) (b : List ℕ) → zeroed first 0 b ≡ b
unfolding zeroed
zeroed_none first b = refl

pub zeroed_next : (first n : ℕ) (b : List ℕ) → zeroed first (suc n) b ≡ patched (first + n) 0 (zeroed first n b)
unfolding zeroed
zeroed_next first n b = refl

-- ---- its words
pub long_zeroed : (first n : ℕ) (b : List ℕ) → length b ≡ 512 → first + n ≤ 128 → length (zeroed first n b) ≡ 512
long_zeroed first zero b long room = ap length (zeroed_none first b) ∙ long
long_zeroed first (suc n) b long room =
    ap length (zeroed_next first n b)
    ∙ long_patched (first + n) 0 (zeroed first n b) (long_zeroed first n b long (omega arith)) (omega arith)

pub word_zero : (first n : ℕ) (b : List ℕ) → length b ≡ 512 → first + n ≤ 128 → (w : ℕ) → first ≤ w → w < first + n
    → word (zeroed first n b) w ≡ 0
word_zero first zero b long room w from to = absurd (omega arith)
word_zero first (suc n) b long room w from to =
    let before = long_zeroed first n b long (omega arith) in
    ap (λ c. word c w) (zeroed_next first n b) ∙ ⊎_elim
    (λ last. ap (word (patched (first + n) 0 (zeroed first n b))) last
    ∙ word_at (first + n) 0 (zeroed first n b) before (omega arith) (omega arith))
    (λ ne. word_other (first + n) 0 (zeroed first n b) before (omega arith) w (omega arith) ne
    ∙ word_zero first n b long (omega arith) w from (omega arith))
    (cases_eq w (first + n))

pub word_kept : (first n : ℕ) (b : List ℕ) → length b ≡ 512 → first + n ≤ 128 → (w : ℕ) → w < 128 → (first ≤ w → w < first + n → ⊥)
    → word (zeroed first n b) w ≡ word b w
word_kept first zero b long room w low out = ap (λ c. word c w) (zeroed_none first b)
word_kept first (suc n) b long room w low out =
    let before = long_zeroed first n b long (omega arith) in
    ap (λ c. word c w) (zeroed_next first n b)
    ∙ word_other (first + n) 0 (zeroed first n b) before (omega arith) w low (λ is. out (omega arith) (omega arith))
    ∙ word_kept first n b long (omega arith) w low (λ from to. out from (omega arith))

-- ---- an inode without some of its pointers
pub holds_zeroed : (k first n : ℕ) (b : List ℕ) → HoldsInode k b → 8 ≤ first → first + n ≤ 122 → HoldsInode k (zeroed first n b)
holds_zeroed k first zero b holds from to = subst (HoldsInode k) (sym (zeroed_none first b)) holds
holds_zeroed k first (suc n) b holds from to =
    subst (HoldsInode k) (sym (zeroed_next first n b))
    (holds_patched k (first + n) 0 (zeroed first n b) (holds_zeroed k first n b holds from (omega arith)) (omega arith)
    (omega arith) (omega arith))

pub header_zeroed : (first n : ℕ) (b : List ℕ) → length b ≡ 512 → 8 ≤ first → first + n ≤ 122 → header (zeroed first n b) ≡ header b
header_zeroed first zero b long from to = ap header (zeroed_none first b)
header_zeroed first (suc n) b long from to =
    ap header (zeroed_next first n b)
    ∙ header_patched (first + n) 0 (zeroed first n b) (long_zeroed first n b long (omega arith)) (omega arith)
    (omega arith)
    ∙ header_zeroed first n b long from (omega arith)

-- ---- a block in memory, word by word
module _ (first : ℕ) (x : Entry) where
  none_zeroed : (o : Option (List ℕ)) → o ≡ option_map (zeroed first 0) o
  none_zeroed None = refl
  none_zeroed (Some b) = ap Some (sym (zeroed_none first b))

  pub zeroes_first : {old : Dirty} → ChangesTo old old x (option_map (zeroed first 0) (old x))
  zeroes_first {old} = record { own = none_zeroed (old x); others = λ y ne. refl }

  one_zeroed : (n : ℕ) (o : Option (List ℕ))
      → option_map (patched (first + n) 0) (option_map (zeroed first n) o) ≡ option_map (zeroed first (n + 1)) o
  one_zeroed n None = refl
  one_zeroed n (Some b) = let e : suc n ≡ n + 1 = omega arith in ap Some (sym (zeroed_next first n b) ∙ ap (λ n. zeroed first n b) e)

  pub zeroes_next : {old mid new : Dirty} (n : ℕ) → ChangesTo old mid x (option_map (zeroed first n) (old x))
      → ChangesTo mid new x (option_map (patched (first + n) 0) (mid x))
      → ChangesTo old new x (option_map (zeroed first (n + 1)) (old x))
  zeroes_next {old} n was now = record {
    own = now.own ∙ ap (option_map (patched (first + n) 0)) was.own ∙ one_zeroed n (old x);
    others = λ y ne. now.others y ne ∙ was.others y ne;
  }
