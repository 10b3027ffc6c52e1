-- A file with a block is there.
use Rattle.std.proofs.Common.{◌≡◌, ◌<◌, ℕ, zero, suc, Some, None, refl, ◌∙◌, subst}
use Rattle.lfs_model.specs.Entry.{Entry, Data, Leaf, Double, Inode, Map, Usage}
use Rattle.lfs_model.specs.Memory.{Memory, parent, file_of}
use Rattle.lfs_model.proofs.Entries.{file_of_parent, no_data_parent}

module _ (M : Memory) (down : (x : Entry) → 0 < M.at x → 0 < M.at (parent x)) where
  -- a file with a block is there
  pub file_there : (x : Entry) (n : ℕ) → file_of x ≡ Some n → 0 < M.at x → 0 < M.at (Inode n)
  file_there x n is lt = climb x n is lt
    where
      leaf : (n q : ℕ) → 0 < M.at (Leaf n q) → 0 < M.at (Inode n)
      leaf n zero lt = down (Leaf n zero) lt
      leaf n (suc q) lt = down (Double n) (down (Leaf n (suc q)) lt)

      above : (p : Entry) (a : ℕ) → file_of p ≡ Some a → ((n i : ℕ) → p ≡ Data n i → ⊥) → 0 < M.at p → 0 < M.at (Inode a)
      above (Data n i) a is none lt = absurd (none n i refl)
      above (Leaf n q) a is none lt = let same : n ≡ a = cc in subst (λ (k : ℕ). 0 < M.at (Inode k)) same (leaf n q lt)
      above (Double n) a is none lt = let same : n ≡ a = cc in subst (λ (k : ℕ). 0 < M.at (Inode k)) same (down (Double n) lt)
      above (Inode n) a is none lt = let same : n ≡ a = cc in subst (λ (k : ℕ). 0 < M.at (Inode k)) same lt
      above (Map j) a is none lt = let bad : None ≡ Some a = is in absurd (cc)
      above (Usage j) a is none lt = let bad : None ≡ Some a = is in absurd (cc)

      climb : (x : Entry) (n : ℕ) → file_of x ≡ Some n → 0 < M.at x → 0 < M.at (Inode n)
      climb (Data n i) a is lt =
          above (parent (Data n i)) a (file_of_parent (Data n i) ∙ is) (λ k l h. no_data_parent k l (Data n i) h) (down (Data n i) lt)
      climb (Leaf n q) a is lt = above (Leaf n q) a is (λ k l h. let bad : Leaf n q ≡ Data k l = h in absurd (cc)) lt
      climb (Double n) a is lt = above (Double n) a is (λ k l h. let bad : Double n ≡ Data k l = h in absurd (cc)) lt
      climb (Inode n) a is lt = above (Inode n) a is (λ k l h. let bad : Inode n ≡ Data k l = h in absurd (cc)) lt
      climb (Map j) a is lt = let bad : None ≡ Some a = is in absurd (cc)
      climb (Usage j) a is lt = let bad : None ≡ Some a = is in absurd (cc)
