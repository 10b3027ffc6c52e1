-- The two pointer blocks of a file.
use Rattle.std.proofs.Common.{◌≡◌, ◌<◌, ◌+◌, ◌*◌, ℕ, Bool, List, refl, sym, ◌∙◌, ap, arith}
use Rattle.lfs_model.specs.Entry.{Leaf, Double, Inode, word}
use Rattle.lfs_model.specs.Checkpoint.{CheckpointValue}
use Rattle.lfs_model.specs.Content.{Content, block}
use Rattle.lfs_model.specs.Reach.{address, view}
use Rattle.lfs_model.specs.Stands.{Roots}
use Rattle.lfs_model.proofs.Reach.{address_linked}
use Rattle.lfs_verify.specs.Walk.{Walked}
use Rattle.lfs_verify.specs.Take.{Advances, TakesAddress, SomeWord}
use Rattle.lfs_verify.proofs.Steps.{skip}
use Rattle.lfs_verify.proofs.Takes.{walked_as, step_goes, as_it_is}
use Rattle.lfs_verify.proofs.Words.{word_none}

module _ (c : Content) (k : CheckpointValue) (n : ℕ) where
  -- the addresses that the inode has of them
  module _ {inode : List ℕ} (read : block c (address c k (Inode n)) ≡ inode) {p : ℕ} where
    pub first_leaf_at : p ≡ word inode 120 → p ≡ address c k (Leaf n 0)
    first_leaf_at is = is ∙ ap (λ (b : List ℕ). word b 120) (sym read) ∙ sym (address_linked c k (Leaf n 0))

    pub root_at : p ≡ word inode 121 → p ≡ address c k (Double n)
    root_at is = is ∙ ap (λ (b : List ℕ). word b 121) (sym read) ∙ sym (address_linked c k (Double n))

  -- a file that isn't there
  module _ (none : address c k (Inode n) ≡ 0) where
    nothing : (j : ℕ) → word (block c (address c k (Inode n))) j ≡ 0
    nothing j = ap (λ (x : ℕ). word (block c x) j) none ∙ word_none j

    pub single_none : address c k (Leaf n 0) ≡ 0
    single_none = address_linked c k (Leaf n 0) ∙ nothing 120

    pub double_none : address c k (Double n) ≡ 0
    double_none = address_linked c k (Double n) ∙ nothing 121

    pub root_none : n < 4096 → (m : List ℕ) → Walked (view c k) m (4144 + 2 * n) → Walked (view c k) m (4144 + 2 * (n + 1))
    root_none low m w = walked_as (omega arith)
        (skip (walked_as {s = 4145 + 2 * n} (omega arith) (skip w (Leaf n 0) refl low single_none)) (Double n) refl low double_none)

  module _ (low : n < 4096) {inode : List ℕ} (read : block c (address c k (Inode n)) ≡ inode) {p : ℕ} (m m1 : List ℕ) (x : Bool) where
    pub single_goes : p ≡ word inode 120 → TakesAddress SomeWord c m m1 p (4144 + 2 * n) x
        → Advances (view c k) m m1 (4144 + 2 * n) (4145 + 2 * n) (Roots (view c k)) x
    single_goes is = step_goes (view c k) m m1 (Leaf n 0) refl (omega arith) low (first_leaf_at read is) c SomeWord as_it_is
        (Roots (view c k)) (λ roots. roots.fresh) (λ roots. roots.single n) x

    pub double_goes : p ≡ word inode 121 → TakesAddress SomeWord c m m1 p (4145 + 2 * n) x
        → Advances (view c k) m m1 (4145 + 2 * n) (4144 + 2 * (n + 1)) (Roots (view c k)) x
    double_goes is = step_goes (view c k) m m1 (Double n) refl (omega arith) low (root_at read is) c SomeWord as_it_is
        (Roots (view c k)) (λ roots. roots.fresh) (λ roots. roots.double n) x
