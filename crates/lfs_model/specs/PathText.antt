-- The text of a path (POSIX.1-2017, 4.13 Pathname Resolution).
use Rattle.std.specs.Prelude.{ℕ, ◌-◌, Bool, false, List, [], ◌∷◌, ◌==◌, if◌then◌else◌, Option, Some, None, nat_lt, length, take, filter}
use Rattle.std.specs.List.{last_or, list_any}
use Rattle.lfs_model.specs.Refusal.{Refusal, NoEntry, NameTooLong, Inval}
use Rattle.lfs_model.specs.declared.limits.TheConstants.{LONGEST_PATH}

-- a byte before the first part; a slash (47) begins a part
abbrev pub before_parts : ℕ → List (List ℕ) → List (List ℕ)
before_parts c [] = if c == 47 then [] ∷ [] else (c ∷ []) ∷ []
before_parts c (p ∷ ps) = if c == 47 then [] ∷ p ∷ ps else (c ∷ p) ∷ ps

-- the parts between slashes, empty ones too
abbrev pub parts : List ℕ → List (List ℕ)
parts [] = [] ∷ []
parts (c ∷ rest) = before_parts c (parts rest)

-- the pieces: the parts that aren't empty (POSIX.1-2017, 4.13: several slashes count as one; two leading ones too, an own choice)
abbrev pub comps : List ℕ → List (List ℕ)
comps p = filter (λ piece. nat_lt 0 (length piece)) (parts p)

-- whether the last byte is a slash
abbrev pub slash : List ℕ → Bool
slash [] = false
slash (c ∷ []) = c == 47
slash (c ∷ d ∷ rest) = slash (d ∷ rest)

-- whether the first byte is a slash
abbrev pub from_root : List ℕ → Bool
from_root [] = false
from_root (c ∷ rest) = c == 47

-- all pieces but the last
abbrev pub but_last : List (List ℕ) → List (List ℕ)
but_last ps = take (length ps - 1) ps

-- the last piece, where there is one
abbrev pub last : List (List ℕ) → Option (List ℕ)
last ps = last_or None ps

-- what refuses a path's text, or a link's: empty (POSIX.1-2017, 4.13), more than 1,023 bytes (PATH_MAX), a zero byte (own choice)
abbrev pub text_refusal : List ℕ → Option Refusal
text_refusal p = if nat_lt 0 (length p) then (if nat_lt LONGEST_PATH (length p) then Some NameTooLong
    else (if list_any (λ c. nat_lt c 1) p then Some Inval else None)) else Some NoEntry
