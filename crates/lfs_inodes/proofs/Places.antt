-- Words of blocks, where the block or the word is missing.
use Rattle.std.proofs.Common.{◌≡◌, ◌≤◌, ◌*◌, ℕ, List, [], ◌∷◌, length, take, drop, refl, ap, arith, length-drop}
use Rattle.lfs_model.specs.Fields.{read32, part, number_of}
use Rattle.lfs_model.specs.Entry.{word}

none_left : (b : List ℕ) → length b ≡ 0 → b ≡ []
none_left [] e = refl
none_left (x ∷ b) e = absurd (omega arith)

-- a word past the end is 0
pub word_past : (b : List ℕ) (k : ℕ) → length b ≤ 4 * k → word b k ≡ 0
unfolding word read32 part
word_past b k past =
    let e : drop (4 * k) b ≡ [] = none_left (drop (4 * k) b) (omega (arith, length-drop (4 * k) b)) in
    ap (λ x. number_of (take 4 x)) e

pub word_none : (k : ℕ) → word [] k ≡ 0
word_none k = word_past [] k (omega arith)

pub ruleset places = (word_past, word_none)
