-- How the bytes of a word are read and written: in the words of the functions that do it, which are shown to be the model's.
use Rattle.std.specs.Prelude.{◌≡◌, ◌≢◌, ℕ, ◌<◌, ◌%◌, ◌==◌, ◌&&◌, ◌||◌, not, nat_le, Bool, if◌then◌else◌, List, [], ◌∷◌, ◌++◌, length}
use Rattle.std.specs.Prelude.{slice_index}
use Rattle.std.specs.List.{list_all}
use Rattle.hex.specs.Hex.{encode_lower}

-- a word with no sign (43) and no leading zero (48)
abbrev pub IsBare : List ℕ → Type 0
IsBare word = (0 < length word) × (slice_index word 0 ≢ 43) × (slice_index word 0 ≡ 48 → length word ≡ 1)

-- bytes as lower case digits, or a dash for no bytes
abbrev pub hex_word : List ℕ → List ℕ
hex_word [] = 45 ∷ []
hex_word (b ∷ bytes) = encode_lower (b ∷ bytes)

-- 0 to 9, a to f
abbrev pub is_lower_digit : ℕ → Bool
is_lower_digit c = (nat_le 48 c && nat_le c 57) || (nat_le 97 c && nat_le c 102)

-- pairs of lower case digits, at least one
abbrev pub is_pairs : List ℕ → Bool
is_pairs word = not (length word == 0) && (length word % 2 == 0) && list_all is_lower_digit word

-- whether a byte stands for itself: 0x21 to 0x7e but the backslash
abbrev pub is_plain : ℕ → Bool
is_plain b = nat_le 33 b && nat_le b 126 && not (b == 92)

-- a byte, or a backslash and the byte's two digits
unfoldable pub escaped_byte : ℕ → List ℕ
escaped_byte b = if is_plain b then b ∷ [] else 92 ∷ encode_lower (b ∷ [])

unfoldable pub escaped_bytes : List ℕ → List ℕ
escaped_bytes [] = []
escaped_bytes (b ∷ bytes) = escaped_byte b ++ escaped_bytes bytes

-- bytes one after the other, or a backslash alone for no bytes
abbrev pub escaped_word : List ℕ → List ℕ
escaped_word [] = 92 ∷ []
escaped_word (b ∷ bytes) = escaped_bytes (b ∷ bytes)
