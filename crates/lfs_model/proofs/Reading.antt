-- What memory says of the log map.
use Rattle.std.proofs.Common.{◌≡◌, ⊎_elim, ℕ, length, Option, Some, None, refl, arith}
use Rattle.std.proofs.lemmas.Bool.{cases_eq}
use Rattle.std.proofs.lemmas.List.{nil_from_length}
use Rattle.lfs_model.specs.Entry.{Data, Inode, Header}
use Rattle.lfs_model.specs.Memory.{parent}
use Rattle.lfs_model.specs.Changing.{Reading}
use Rattle.lfs_model.proofs.Spelling.{pointer_spelled}

pub reading : Reading
reading e m M o laid = record {
  block = λ n i lt. laid.spells (Data n i) lt;
  no_block = λ n i none. nil_from_length (m.block n i) (no_length n i none);
  header = λ n lt. (laid.spells (Inode n) lt).header;
  no_header = λ n none. no_header n none (m.header n) refl;
  pointer = λ x ne low lt. pointer_spelled m M.at M.bytes x ne low (laid.spells (parent x) lt);
  no_pointer = λ x none. ⊎_elim
      (λ (z : M.at x ≡ 0). z)
      (λ (some : M.at x ≡ 0 → ⊥). let d = laid.down x (omega arith) in absurd (omega arith))
      (cases_eq (M.at x) 0);
}
  where
    no_length : (n i : ℕ) → M.at (Data n i) ≡ 0 → length (m.block n i) ≡ 0
    no_length n i none = ⊎_elim
        (λ (z : length (m.block n i) ≡ 0). z)
        (λ (some : length (m.block n i) ≡ 0 → ⊥). let lt = (laid.blocks n i).0 (omega arith) in absurd (omega arith))
        (cases_eq (length (m.block n i)) 0)

    no_header : (n : ℕ) → M.at (Inode n) ≡ 0 → (h : Option Header) → m.header n ≡ h → m.header n ≡ None
    no_header n none None is = is
    no_header n none (Some h) is = let lt = (laid.inodes n).0 (h, is) in absurd (omega arith)
