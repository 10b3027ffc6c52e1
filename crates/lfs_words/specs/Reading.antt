-- Words that are read as bytes or as numbers.
use Rattle.std.specs.Prelude.{◌≡◌, ◌≢◌, ◌<◌, ℕ, List, Result, Err, IfOk, OnErr, IsErrOf, Vec, decimal}
use Rattle.lfs_model.specs.Bytes.{AreBytes}
use Rattle.lfs_words.specs.declared.word.WordFault.{WordFault}
use Rattle.lfs_words.specs.declared.word.WordFault.TheVariants.{Memory, Spelling}

-- A word is read as the bytes that are spelt so. Else no bytes are; or some are, and memory for them was refused.
pub record IsRead {A : Type 0} (spell : List ℕ → List ℕ) (word : List ℕ) (r : Result (Vec ℕ A) WordFault) : Type 0 where
  pub ok : IfOk r (λ bytes. spell bytes.items ≡ word)
  pub bytes : IfOk r (λ bytes. AreBytes bytes.items)
  pub spelling : r ≡ Err Spelling → (bytes : List ℕ) → AreBytes bytes → spell bytes ≢ word
  pub memory : r ≡ Err Memory → (bytes : List ℕ) × AreBytes bytes × (spell bytes ≡ word)

-- A word is read as the number that it spells. Else it spells none below this one.
pub record IsNumber (limit : ℕ) (word : List ℕ) (r : Result ℕ WordFault) : Type 0 where
  pub ok : IfOk r (λ n. decimal n ≡ word)
  pub err : OnErr r ((n : ℕ) → n < limit → decimal n ≢ word)
  pub fault : OnErr r (IsErrOf r Spelling)
