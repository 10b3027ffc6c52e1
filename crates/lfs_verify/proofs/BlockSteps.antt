-- The data blocks of a leaf, of a double root, of a whole file.
use Rattle.std.proofs.Common.{◌≡◌, ◌<◌, ◌≤◌, ⊎_elim, ◌+◌, ◌-◌, ◌*◌, ◌/◌, ◌%◌, nat_lt, cond, ℕ, zero, suc, Bool, List, refl, sym}
use Rattle.std.proofs.Common.{◌∙◌, ap, ap₂, arith}
use Rattle.std.proofs.lemmas.Bool.{cases_lt, ltb-true, lt-ltb}
use Rattle.lfs_model.specs.Entry.{Entry, Data, Leaf, Double, Inode, word, header}
use Rattle.lfs_model.specs.Checkpoint.{CheckpointValue}
use Rattle.lfs_model.specs.Content.{Content, block}
use Rattle.lfs_model.specs.Reach.{address, view}
use Rattle.lfs_model.specs.Stands.{Reached}
use Rattle.lfs_model.proofs.Reach.{address_linked}
use Rattle.lfs_verify.specs.Walk.{Walked, InBounds, step_of}
use Rattle.lfs_verify.proofs.Bounds.{cond_not}
use Rattle.lfs_verify.proofs.Steps.{skip_to}
use Rattle.lfs_verify.proofs.RootSteps.{single_none, double_none}
use Rattle.lfs_verify.proofs.Takes.{walked_as}
use Rattle.lfs_verify.proofs.Words.{word_none}

-- blocks of addresses are in bounds, and come before data
pub leaf_before : (n q : ℕ) → n < 4096 → q < 129 → InBounds (Leaf n q) × (step_of (Leaf n q) < 536624)
leaf_before n zero low few = omega arith
leaf_before n (suc q) low few = omega arith

module _ (c : Content) (k : CheckpointValue) (n : ℕ) where
  -- the address of a block to which the inode leads by itself
  pub direct_at : (i : ℕ) → i < 112 → address c k (Data n i) ≡ word (block c (address c k (Inode n))) (8 + i)
  direct_at i lt =
      address_linked c k (Data n i)
      ∙ ap (λ (b : Bool). cond b (word (block c (address c k (Inode n))) (8 + i))
      (word (block c (address c k (Leaf n ((i - 112) / 128)))) ((i - 112) % 128))) (lt-ltb i 112 lt)

  -- the address of a block behind a leaf
  pub behind_at : (q j i : ℕ) → j < 128 → i ≡ 112 + 128 * q + j → address c k (Data n i) ≡ word (block c (address c k (Leaf n q))) j
  behind_at q j i lt is =
      let here : (i - 112) / 128 ≡ q = omega (arith, lt, is) in
      let place : (i - 112) % 128 ≡ j = omega (arith, lt, is) in
      address_linked c k (Data n i)
      ∙ cond_not (nat_lt i 112) (word (block c (address c k (Inode n))) (8 + i))
      (word (block c (address c k (Leaf n ((i - 112) / 128)))) ((i - 112) % 128)) (λ on. omega (arith, ltb-true i 112 on))
      ∙ ap₂ (λ (x y : ℕ). word (block c (address c k (Leaf n x))) y) here place

  module _ (low : n < 4096) (a b : ℕ) (few : b ≤ 16624) (none : (i : ℕ) → a ≤ i → i < b → address c k (Data n i) ≡ 0) where
    none_there : (e : Entry) → InBounds e → 536624 + 16624 * n + a ≤ step_of e → step_of e < 536624 + 16624 * n + b → Reached (view c k) e
        → ⊥
    none_there (Data m i) bounds le lt reached =
        let same : m ≡ n = omega arith in
        let z = ap (λ (x : ℕ). address c k (Data x i)) same ∙ none i (omega arith) (omega arith) in omega arith
    none_there (Leaf m zero) bounds le lt reached = omega arith
    none_there e bounds le lt reached = omega arith

    -- blocks that aren't there are passed by
    pub pass_to : (m : List ℕ) → a ≤ b → Walked (view c k) m (536624 + 16624 * n + a) → Walked (view c k) m (536624 + 16624 * n + b)
    pass_to m le w = skip_to w (omega arith) none_there

  -- no leaf, no blocks behind it
  pub behind_none : (q : ℕ) → address c k (Leaf n q) ≡ 0 → (i : ℕ) → 112 + 128 * q ≤ i → i < 112 + 128 * (q + 1)
      → address c k (Data n i) ≡ 0
  behind_none q none i le lt =
      behind_at q (i - (112 + 128 * q)) i (omega arith) (omega arith)
      ∙ ap (λ (x : ℕ). word (block c x) (i - (112 + 128 * q))) none
      ∙ word_none (i - (112 + 128 * q))

  -- what lies behind a leaf that isn't there is passed by
  pub leaf_passed : n < 4096 → (q : ℕ) → q < 129 → address c k (Leaf n q) ≡ 0 → {m : List ℕ}
      → Walked (view c k) m (536624 + 16624 * n + (112 + 128 * q)) → Walked (view c k) m (536624 + 16624 * n + (112 + 128 * (q + 1)))
  leaf_passed low q few none {m} w = pass_to low (112 + 128 * q) (112 + 128 * (q + 1)) (omega arith) (behind_none q none) m (omega arith) w

  -- the addresses that stand in a leaf
  pub leaf_words : (q : ℕ) {p : ℕ} → p ≡ address c k (Leaf n q) → (words : List ℕ) → block c p ≡ words
      → (j : ℕ) → j < 128 → word words (0 + j) ≡ address c k (Data n (112 + 128 * q + j))
  leaf_words q is words read j lt =
      let e : 0 + j ≡ j = omega arith in
      ap (word words) e ∙ ap (λ (b : List ℕ). word b j) (sym read ∙ ap (block c) is) ∙ sym (behind_at q j (112 + 128 * q + j) lt refl)

  -- ---- the blocks to which the inode leads by itself
  pub direct_words : {inode : List ℕ} → block c (address c k (Inode n)) ≡ inode → (j : ℕ) → j < 112
      → word inode (8 + j) ≡ address c k (Data n (0 + j))
  direct_words read j lt =
      let e : j ≡ 0 + j = omega arith in
      ap (λ (b : List ℕ). word b (8 + j)) (sym read) ∙ sym (direct_at j lt) ∙ ap (λ (x : ℕ). address c k (Data n x)) e

  pub size_there : {inode : List ℕ} → block c (address c k (Inode n)) ≡ inode → {size : ℕ} → size ≡ (header inode).size
      → size ≡ (header (block c (address c k (Inode n)))).size
  size_there read is = is ∙ ap (λ (b : List ℕ). (header b).size) (sym read)

  -- ---- the leaves under the double root
  pub under_at : (root : List ℕ) → block c (address c k (Double n)) ≡ root → (q : ℕ) {p : ℕ} → p ≡ word root q
      → p ≡ address c k (Leaf n (q + 1))
  under_at root read q is =
      let e : suc q ≡ q + 1 = omega arith in
      is ∙ ap (λ (b : List ℕ). word b q) (sym read) ∙ sym (address_linked c k (Leaf n (suc q))) ∙ ap (λ (x : ℕ). address c k (Leaf n x)) e

  under_none : address c k (Double n) ≡ 0 → (q : ℕ) → 1 ≤ q → address c k (Leaf n q) ≡ 0
  under_none none zero some = absurd (omega arith)
  under_none none (suc q) some = address_linked c k (Leaf n (suc q)) ∙ ap (λ (x : ℕ). word (block c x) q) none ∙ word_none q

  -- what lies under a double root that isn't there is passed by
  pub double_passed : n < 4096 → address c k (Double n) ≡ 0 → {m : List ℕ}
      → Walked (view c k) m (536624 + 16624 * n + 240) → Walked (view c k) m (536624 + 16624 * n + 16624)
  double_passed low none {m} w =
      pass_to low 240 16624 (omega arith)
      (λ i le lt.
      behind_none ((i - 112) / 128) (under_none none ((i - 112) / 128) (omega (arith, le))) i (omega (arith, le)) (omega (arith, le)))
      m (omega arith) w

  -- ---- the whole file
  pub inode_word : {at : ℕ} → at ≡ address c k (Inode n) → {inode : List ℕ} → block c at ≡ inode → block c (address c k (Inode n)) ≡ inode
  inode_word is read = ap (block c) (sym is) ∙ read

  any_none : address c k (Inode n) ≡ 0 → (q : ℕ) → address c k (Leaf n q) ≡ 0
  any_none none zero = single_none c k n none
  any_none none (suc q) = under_none (double_none c k n none) (suc q) (omega arith)

  data_none : address c k (Inode n) ≡ 0 → (i : ℕ) → 0 ≤ i → i < 16624 → address c k (Data n i) ≡ 0
  data_none none i le lt = ⊎_elim
      (λ (first : i < 112). direct_at i first ∙ ap (λ (x : ℕ). word (block c x) (8 + i)) none ∙ word_none (8 + i))
      (λ (past : 112 ≤ i). behind_none ((i - 112) / 128) (any_none none ((i - 112) / 128)) i (omega (arith, past)) (omega (arith, past)))
      (cases_lt i 112)

  -- a file that isn't there is passed by
  pub file_passed : n < 4096 → address c k (Inode n) ≡ 0 → (m : List ℕ)
      → Walked (view c k) m (536624 + 16624 * n) → Walked (view c k) m (536624 + 16624 * (n + 1))
  file_passed low none m w =
      walked_as (omega arith) (pass_to low 0 16624 (omega arith) (data_none none) m (omega arith) (walked_as (omega arith) w))
