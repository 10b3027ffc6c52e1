-- How a line is cut into words.
use Rattle.std.specs.Prelude.{ℕ, ◌==◌, if◌then◌else◌, List, [], ◌∷◌, Option, Some, None}
use Rattle.lfs_model.specs.Script.{line_of}

-- words with one space between two
abbrev pub spaced : List (List ℕ) → List ℕ
spaced [] = []
spaced (first ∷ rest) = line_of first rest

-- a text cut at each space
abbrev pub onto : ℕ → List (List ℕ) → List (List ℕ)
onto c [] = (c ∷ []) ∷ []
onto c (word ∷ words) = (c ∷ word) ∷ words

abbrev pub cut : List ℕ → List (List ℕ)
cut [] = [] ∷ []
cut (c ∷ text) = if c == 32 then [] ∷ cut text else onto c (cut text)

-- the words that are left
abbrev pub words_left : Option (List ℕ) → List (List ℕ)
words_left None = []
words_left (Some text) = cut text
