-- No address stands past the places of its block.
use Rattle.std.proofs.Common.{◌≡◌, ◌<◌, ◌≤◌, ⊎_elim, ◌+◌, ◌-◌, ◌/◌, ◌%◌, nat_lt, cond, ℕ, zero, suc, Bool, true, false, List, length}
use Rattle.std.proofs.Common.{Option, Some, None, refl, ◌∙◌, ap, ap₂, arith}
use Rattle.std.proofs.lemmas.Bool.{cases_lt, ltb-true}
use Rattle.std.proofs.lemmas.List.{get_or_past}
use Rattle.lfs_model.specs.Entry.{Data, Leaf, Double, Inode, Map, Usage, word}
use Rattle.lfs_model.specs.Checkpoint.{CheckpointValue}
use Rattle.lfs_model.specs.Content.{Content, block, bytes_of}
use Rattle.lfs_model.specs.Device.{cell_at}
use Rattle.lfs_model.specs.Reach.{address, view}
use Rattle.lfs_model.specs.Decodes.{IsSized}
use Rattle.lfs_model.proofs.Reach.{address_linked}
use Rattle.lfs_verify.specs.Walk.{IsBounded}
use Rattle.lfs_verify.proofs.Words.{word_past, word_none}

same_cond : (b : Bool) (z : ℕ) → cond b z z ≡ z
same_cond true z = refl
same_cond false z = refl

pub cond_not : (b : Bool) (x y : ℕ) → (b ≡ true → ⊥) → cond b x y ≡ y
cond_not true x y off = absurd (off refl)
cond_not false x y off = refl

bytes_short : (o : Option (List ℕ)) → ((bytes : List ℕ) → o ≡ Some bytes → length bytes ≡ 512) → length (bytes_of o) ≤ 512
bytes_short None sized = omega arith
bytes_short (Some bytes) sized = omega (arith, sized bytes refl)

short : (c : Content) → IsSized c → (a : ℕ) → length (block c a) ≤ 512
short c sized zero = omega arith
short c sized (suc a) = bytes_short (cell_at c (suc a)) (sized (suc a))

module _ (c : Content) (sized : IsSized c) (k : CheckpointValue) (maps : length k.map ≡ 32) (usages : length k.usage ≡ 16) where
  map_none : (j : ℕ) → 32 ≤ j → address c k (Map j) ≡ 0
  map_none j le = address_linked c k (Map j) ∙ get_or_past k.map j 0 (omega arith)

  usage_none : (j : ℕ) → 16 ≤ j → address c k (Usage j) ≡ 0
  usage_none j le = address_linked c k (Usage j) ∙ get_or_past k.usage j 0 (omega arith)

  inode_none : (n : ℕ) → 4096 ≤ n → address c k (Inode n) ≡ 0
  inode_none n le = address_linked c k (Inode n) ∙ ap (λ (a : ℕ). word (block c a) (n % 128)) (map_none (n / 128) (omega arith))
      ∙ word_none (n % 128)

  double_none : (n : ℕ) → 4096 ≤ n → address c k (Double n) ≡ 0
  double_none n le = address_linked c k (Double n) ∙ ap (λ (a : ℕ). word (block c a) 121) (inode_none n le) ∙ word_none 121

  single_none : (n : ℕ) → 4096 ≤ n → address c k (Leaf n 0) ≡ 0
  single_none n le = address_linked c k (Leaf n 0) ∙ ap (λ (a : ℕ). word (block c a) 120) (inode_none n le) ∙ word_none 120

  leaf_file_none : (n q : ℕ) → 4096 ≤ n → address c k (Leaf n (suc q)) ≡ 0
  leaf_file_none n q le = address_linked c k (Leaf n (suc q)) ∙ ap (λ (a : ℕ). word (block c a) q) (double_none n le) ∙ word_none q

  leaf_place_none : (n q : ℕ) → 128 ≤ q → address c k (Leaf n (suc q)) ≡ 0
  leaf_place_none n q le = address_linked c k (Leaf n (suc q))
      ∙ word_past (block c (address c k (Double n))) q (omega (arith, short c sized (address c k (Double n))))

  any_leaf_none : (n q : ℕ) → 4096 ≤ n → address c k (Leaf n q) ≡ 0
  any_leaf_none n zero le = single_none n le
  any_leaf_none n (suc q) le = leaf_file_none n q le

  far_leaf_none : (n q : ℕ) → 129 ≤ q → address c k (Leaf n q) ≡ 0
  far_leaf_none n zero le = absurd (omega arith)
  far_leaf_none n (suc q) le = leaf_place_none n q (omega arith)

  data_file_none : (n i : ℕ) → 4096 ≤ n → address c k (Data n i) ≡ 0
  data_file_none n i le =
      address_linked c k (Data n i)
      ∙ ap₂ (λ (a b : ℕ). cond (nat_lt i 112) (word (block c a) (8 + i)) (word (block c b) ((i - 112) % 128))) (inode_none n le)
      (any_leaf_none n ((i - 112) / 128) le)
      ∙ ap₂ (λ (a b : ℕ). cond (nat_lt i 112) a b) (word_none (8 + i)) (word_none ((i - 112) % 128))
      ∙ same_cond (nat_lt i 112) 0

  data_place_none : (n i : ℕ) → 16624 ≤ i → address c k (Data n i) ≡ 0
  data_place_none n i le =
      address_linked c k (Data n i)
      ∙ cond_not (nat_lt i 112) (word (block c (address c k (Inode n))) (8 + i))
      (word (block c (address c k (Leaf n ((i - 112) / 128)))) ((i - 112) % 128)) (λ on. omega (arith, ltb-true i 112 on))
      ∙ ap (λ (a : ℕ). word (block c a) ((i - 112) % 128)) (far_leaf_none n ((i - 112) / 128) (omega arith))
      ∙ word_none ((i - 112) % 128)

  below : (x n : ℕ) → (n ≤ x → ⊥) → x < n
  below x n no_more = ⊎_elim (λ (lt : x < n). lt) (λ (le : n ≤ x). absurd (no_more le)) (cases_lt x n)

  pub bounded_of : IsBounded (view c k)
  bounded_of (Usage j) reached = below j 16 (λ le. omega (arith, usage_none j le))
  bounded_of (Map j) reached = below j 32 (λ le. omega (arith, map_none j le))
  bounded_of (Inode n) reached = below n 4096 (λ le. omega (arith, inode_none n le))
  bounded_of (Double n) reached = below n 4096 (λ le. omega (arith, double_none n le))
  bounded_of (Leaf n zero) reached = below n 4096 (λ le. omega (arith, single_none n le))
  bounded_of (Leaf n (suc q)) reached =
      (below n 4096 (λ le. omega (arith, leaf_file_none n q le)), below q 128 (λ le. omega (arith, leaf_place_none n q le)))
  bounded_of (Data n i) reached = (
    below n 4096 (λ le. omega (arith, data_file_none n i le)),
    below i 16624 (λ le. omega (arith, data_place_none n i le)),
  )
