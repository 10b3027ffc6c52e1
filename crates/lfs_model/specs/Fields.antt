-- How the fields of a sector are spelled and read. A sector is a list of 512 bytes, each a number below 256.
-- All of it is an own choice: the lowest byte first, as most machines keep numbers.
use Rattle.std.specs.Prelude.{◌<◌, ◌+◌, ◌*◌, ◌^◌, ◌&&◌, Bool, cond, ℕ, zero, suc, Option, Some, None, List, ◌++◌, [], ◌∷◌, take, drop}
use Rattle.std.specs.Prelude.{replicate, get_or}
use Rattle.std.specs.Int.{bytes_low_first}
use Rattle.std.specs.List.{flat_map}
use Rattle.std.specs.Str.{bytes_eq}

-- a number in 2, 4 or 8 bytes, the lowest first
unfoldable pub le16 : ℕ → List ℕ
le16 n = bytes_low_first 0 2 n

unfoldable pub le32 : ℕ → List ℕ
le32 n = bytes_low_first 0 4 n

unfoldable pub le64 : ℕ → List ℕ
le64 n = bytes_low_first 0 8 n

-- numbers of 4 bytes each, one after the other
unfoldable pub words : List ℕ → List ℕ
words ns = flat_map le32 ns

-- n bytes that are 0
unfoldable pub zeros : ℕ → List ℕ
zeros n = replicate n 0

-- fields, one after the other
abbrev pub join : List (List ℕ) → List ℕ
join [] = []
join (field ∷ fields) = field ++ join fields

-- each number of a list has 4 bytes
unfoldable pub Are32 : List ℕ → Type 0
Are32 ns = (i : ℕ) → get_or ns i 0 < 2 ^ 32

-- the n bytes from place `at` on
unfoldable pub part : ℕ → ℕ → List ℕ → List ℕ
part at n bytes = take n (drop at bytes)

-- the number that bytes spell, the lowest first
abbrev pub number_of : List ℕ → ℕ
number_of [] = 0
number_of (b ∷ bytes) = b + 256 * number_of bytes

-- the number of 2, 4 or 8 bytes at a place
unfoldable pub read16 : ℕ → List ℕ → ℕ
read16 at bytes = number_of (part at 2 bytes)

unfoldable pub read32 : ℕ → List ℕ → ℕ
read32 at bytes = number_of (part at 4 bytes)

unfoldable pub read64 : ℕ → List ℕ → ℕ
read64 at bytes = number_of (part at 8 bytes)

-- the n values that stand one after the other from a place on, each in w bytes
unfoldable pub run : {X : Type 0} → (ℕ → List ℕ → X) → ℕ → ℕ → ℕ → List ℕ → List X
run read w zero at bytes = []
run read w (suc n) at bytes = read at bytes ∷ run read w n (at + w) bytes

-- the n numbers of 4 bytes each from a place on
abbrev pub numbers : ℕ → ℕ → List ℕ → List ℕ
numbers n at bytes = run read32 4 n at bytes

-- the value that bytes spell, if they spell one: what stands at its places, where that fits and the bytes are its spelling
abbrev pub value_in : {X : Type 0} → (List ℕ → X) → (X → Bool) → (X → List ℕ) → List ℕ → Option X
value_in of fits spell bytes = cond (fits (of bytes) && bytes_eq bytes (spell (of bytes))) (Some (of bytes)) None
