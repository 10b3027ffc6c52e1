-- The length of the bytes that a write leaves, and that they are bytes.
use Rattle.std.proofs.Common.{◌≡◌, ℕ, zero, suc, ◌+◌, ◌-◌, ◌<◌, ◌≤◌, List, [], ◌∷◌, ◌++◌, arith, length, length-append}
use Rattle.std.specs.Prelude.{take, drop, replicate}
use Rattle.std.specs.List.{AllByRecursion}
use Rattle.std.proofs.lemmas.List.{length-take, length-drop, length-replicate}
use Rattle.lfs_model.specs.Bytes.{AreBytes, cut, put}

pub all_append : {X : Type 0} (P : X → Type 0) (xs ys : List X) → AllByRecursion P xs → AllByRecursion P ys → AllByRecursion P (xs ++ ys)
all_append P [] ys h k = k
all_append P (x ∷ xs) ys h k = (h.0, all_append P xs ys h.1 k)

pub all_take : {X : Type 0} (P : X → Type 0) (n : ℕ) (xs : List X) → AllByRecursion P xs → AllByRecursion P (take n xs)
all_take P zero xs h = tt
all_take P (suc n) [] h = tt
all_take P (suc n) (x ∷ xs) h = (h.0, all_take P n xs h.1)

pub all_drop : {X : Type 0} (P : X → Type 0) (n : ℕ) (xs : List X) → AllByRecursion P xs → AllByRecursion P (drop n xs)
all_drop P zero xs h = h
all_drop P (suc n) [] h = tt
all_drop P (suc n) (x ∷ xs) h = all_drop P n xs h.1

all_zeros : (n : ℕ) → AreBytes (replicate n 0)
all_zeros zero = tt
all_zeros (suc n) = (omega arith, all_zeros n)

pub cut_bytes : (b : List ℕ) (n : ℕ) → AreBytes b → AreBytes (cut b n)
cut_bytes b n h =
    all_append (λ c. c < 256) (take n b) (replicate (n - length b) 0) (all_take (λ c. c < 256) n b h) (all_zeros (n - length b))

pub put_bytes : (b : List ℕ) (o : ℕ) (w : List ℕ) → AreBytes b → AreBytes w → AreBytes (put b o w)
put_bytes b o [] h k = h
put_bytes b o (x ∷ w) h k = all_append (λ c. c < 256) (cut b o ++ (x ∷ w)) (drop (o + length (x ∷ w)) b)
    (all_append (λ c. c < 256) (cut b o) (x ∷ w) (cut_bytes b o h) k) (all_drop (λ c. c < 256) (o + length (x ∷ w)) b h)

pub length-cut : (b : List ℕ) (n : ℕ) → length (cut b n) ≡ n
length-cut b n =
    omega (arith, length-append (take n b) (replicate (n - length b) 0), length-take n b, length-replicate {A = ℕ} (n - length b) 0)

-- at most the greater of what was there and what is written
pub put_length : (b : List ℕ) (o : ℕ) (w : List ℕ) (most : ℕ) → length b ≤ most → o + length w ≤ most → length (put b o w) ≤ most
put_length b o [] most h k = h
put_length b o (x ∷ w) most h k =
    omega (
      arith,
      h,
      k,
      length-append (cut b o ++ (x ∷ w)) (drop (o + length (x ∷ w)) b),
      length-append (cut b o) (x ∷ w),
      length-cut b o,
      length-drop (o + length (x ∷ w)) b,
    )
