-- The bytes of a file: what pread, pwrite and ftruncate make of them (POSIX.1-2017: pread, pwrite, ftruncate).
use Rattle.std.specs.Prelude.{ℕ, ◌+◌, ◌-◌, ◌<◌, List, [], ◌∷◌, ◌++◌, length, take, drop, replicate}
use Rattle.std.specs.List.{AllByRecursion}

-- each is a byte (POSIX.1-2017, Definitions: Byte)
abbrev pub AreBytes : List ℕ → Type 0
AreBytes = AllByRecursion (λ c. c < 256)

-- the first n bytes, filled with zeros up to n (POSIX.1-2017, ftruncate: the extended area appears as if it were zero-filled)
abbrev pub cut : List ℕ → ℕ → List ℕ
cut b n = take n b ++ replicate (n - length b) 0

-- w stands at o; a gap before it reads as zeros, and an empty w changes nothing (POSIX.1-2017: pwrite, and lseek on gaps)
abbrev pub put : List ℕ → ℕ → List ℕ → List ℕ
put b o [] = b
put b o (x ∷ w) = cut b o ++ (x ∷ w) ++ drop (o + length (x ∷ w)) b

-- the bytes from o on, at most n of them, none at or past the end (POSIX.1-2017, pread)
abbrev pub part : List ℕ → ℕ → ℕ → List ℕ
part b o n = take n (drop o b)
