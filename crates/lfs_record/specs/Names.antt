-- The names of a recorder's files: eight digits, a hyphen and a day, as 00000001-2026-11-27. They are an own choice.
use Rattle.std.specs.Prelude.{◌≡◌, ◌<◌, ◌≤◌, ℕ, ◌+◌, ◌-◌, ◌*◌, ◌/◌, ◌%◌, ◌==◌, ◌&&◌, Bool, true, false, cond, nat_le, List, [], ◌∷◌}
use Rattle.std.specs.Prelude.{◌++◌, codes, take, drop}
use Rattle.std.specs.declared.cmp.Ordering.TheVariants.{Less}
use Rattle.lfs_model.specs.Tree.{byte_cmp}
use Rattle.lfs_record.specs.declared.names.TheConstants.{LAST}

-- it is a digit
abbrev pub is_digit : ℕ → Bool
is_digit byte = nat_le 48 byte && nat_le byte 57

-- a byte is like that of a pattern: a hyphen where that is one, and else a digit
abbrev pub is_like : ℕ → ℕ → Bool
is_like pattern byte = cond (pattern == 45) (byte == 45) (is_digit byte)

-- a text is as long as a pattern, and each of its bytes is like that one's
abbrev pub fits : List ℕ → List ℕ → Bool
fits [] [] = true
fits (p ∷ pattern) (b ∷ text) = is_like p b && fits pattern text
fits _ _ = false

-- ten bytes that may be a day
abbrev pub is_day : List ℕ → Bool
is_day = fits (codes "0000-00-00")

-- a name that a recorder's file may have
abbrev pub is_name : List ℕ → Bool
is_name = fits (codes "00000000-0000-00-00")

-- the number that digits spell, behind those of a number
abbrev pub value : ℕ → List ℕ → ℕ
value number [] = number
value number (b ∷ digits) = value (10 * number + (b - 48)) digits

-- the number of a name, and its day
abbrev pub number_of : List ℕ → ℕ
number_of name = value 0 (take 8 name)

abbrev pub day_of : List ℕ → List ℕ
day_of name = drop 9 name

-- the digit of a number that counts so much
abbrev pub digit : ℕ → ℕ → ℕ
digit unit number = 48 + number / unit % 10

-- the eight digits of a number
abbrev pub eight_digits : ℕ → List ℕ
eight_digits n = digit 10000000 n ∷ digit 1000000 n ∷ digit 100000 n ∷ digit 10000 n ∷ digit 1000 n ∷ digit 100 n ∷ digit 10 n
    ∷ digit 1 n ∷ []

-- the name of a number and a day
abbrev pub name_of : ℕ → List ℕ → List ℕ
name_of number day = eight_digits number ++ 45 ∷ day

-- the path of a name in the root
abbrev pub path_of : List ℕ → List ℕ
path_of name = 47 ∷ name

-- The name of a number and a day is a recorder's, and has both.
abbrev pub NamesAreNumbered : Type 0
NamesAreNumbered = (number : ℕ) (day : List ℕ) → number ≤ LAST → is_day day ≡ true
    → (is_name (name_of number day) ≡ true) × (number_of (name_of number day) ≡ number) × (day_of (name_of number day) ≡ day)

-- A name with a smaller number is before one with a greater.
abbrev pub NamesAreOrdered : Type 0
NamesAreOrdered = (a b : List ℕ) → is_name a ≡ true → is_name b ≡ true → number_of a < number_of b → byte_cmp a b ≡ Less
