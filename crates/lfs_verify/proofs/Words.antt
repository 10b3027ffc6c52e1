-- Words of blocks, where the block or the word is missing.
use Rattle.std.proofs.Common.{◌≡◌, ◌≤◌, ◌*◌, ℕ, List, [], length, take, ap, arith}
use Rattle.std.proofs.lemmas.List.{drop_all}
use Rattle.lfs_model.specs.Entry.{word}
use Rattle.lfs_model.specs.Fields.{number_of, part, read32}

-- a word past the end is 0
pub word_past : (b : List ℕ) (k : ℕ) → length b ≤ 4 * k → word b k ≡ 0
unfolding word read32 part
word_past b k past = ap (λ (x : List ℕ). number_of (take 4 x)) (drop_all (4 * k) b past)

pub word_none : (k : ℕ) → word [] k ≡ 0
word_none k = word_past [] k (omega arith)
