-- How a number of bytes is spelt on a command line. The command line is an own choice.
use Rattle.std.specs.Prelude.{◌≡◌, ◌⊎◌, ◌*◌, ◌^◌, ◌++◌, ◌∷◌, [], ℕ, List, decimal}

-- so many units of so many bytes: the number stands there
pub record IsTimes (unit bytes : ℕ) (word : List ℕ) : Type 0 where
  pub number : ℕ
  pub spelt : decimal number ≡ word
  pub is : bytes ≡ number * unit

-- the same with a letter behind the number, which stands for the unit
pub record IsCounted (letter unit bytes : ℕ) (word : List ℕ) : Type 0 where
  pub digits : List ℕ
  pub last : word ≡ digits ++ (letter ∷ [])
  pub times : IsTimes unit bytes digits

-- a decimal number alone, or one before K, M or G
abbrev pub IsAmount : ℕ → List ℕ → Type 0
IsAmount bytes word = (decimal bytes ≡ word)
    ⊎ (IsCounted 75 (2 ^ 10) bytes word ⊎ (IsCounted 77 (2 ^ 20) bytes word ⊎ IsCounted 71 (2 ^ 30) bytes word))
