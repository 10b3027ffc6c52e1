-- The name of an unfinished file, beside a path.
use Rattle.std.proofs.Common.{◌≡◌, ◌≢◌, ◌==◌, ◌⊎◌, ◌<◌, ◌≤◌, ◌+◌, ◌-◌, ℕ, zero, suc, List, [], ◌∷◌, ◌++◌, All, length, take, drop}
use Rattle.std.proofs.Common.{get_or, nat_lt, true, false, None, slice_index, refl, sym, ◌∙◌, ap, subst, inl, inr, append_assoc}
use Rattle.std.proofs.Common.{take-append-drop, length-drop, arith}
use Rattle.std.proofs.Math.Seq.{take-suc}
use Rattle.std.proofs.lemmas.Bool.Decides.{nat_tests}
use Rattle.std.proofs.lemmas.Grind.{get_or_default_zero}
use Rattle.std.proofs.lemmas.List.{get_or-drop, length-take-le, take_all}
use Rattle.lfs_model.specs.PathText.{text_refusal}
use Rattle.lfs_fs.specs.declared.error.FsError.TheVariants as error
use Rattle.lfs_put.specs.Placing.{IsAbove, IsBeside, IsLast, IsTextCause, NamesNone, unfinished}
use Rattle.lfs_put.specs.declared.putting.PutFault.{PutFault}
use Rattle.lfs_put.specs.declared.putting.PutFault.TheVariants as why

not_less : (a b : ℕ) → nat_lt a b ≡ false → b ≤ a
not_less a b e = grind (arith, nat_tests)

-- no slash ends a path
pub whole_of : (path : List ℕ) (n : ℕ) → n ≤ length path → nat_lt (length (take n path)) (length path) ≡ false → take n path ≡ path
whole_of path n few ends =
    let long = length-take-le n path few in
    let all = not_less (length (take n path)) (length path) ends in
    take_all n path (omega (arith, long, all))

-- no slash stands in a path from here on
name_is_plain : (path : List ℕ) (k : ℕ) → k ≤ length path → ((i : ℕ) → k ≤ i → i < length path → slice_index path i ≢ 47)
    → All (λ b. b ≢ 47) (drop k path)
name_is_plain path k few plain = λ j d low same. (
    let long = length-drop k path in
    let at : k + j < length path = omega (arith, low, long, few) in
    plain (k + j) (omega arith) at (sym (get_or_default_zero path (k + j) d at) ∙ sym (get_or-drop k path j d) ∙ same))

-- what stands before it is empty, or ends with a slash
above_ends : (path : List ℕ) (k : ℕ) → k ≤ length path → ((k ≡ 0) ⊎ (slice_index path (k - 1) ≡ 47))
    → (take k path ≡ []) ⊎ ((front : List ℕ) × (take k path ≡ front ++ 47 ∷ []))
above_ends path zero few at = inl refl
above_ends path (suc j) few (inl none) = absurd (omega (arith, none))
above_ends path (suc j) few (inr is) =
    let back : j ≡ suc j - 1 = omega arith in
    let here : get_or path j 0 ≡ 47 = ap (λ (n : ℕ). get_or path n 0) back ∙ is in
    inr (take j path, take-suc path j 0 (omega (arith, few)) ∙ ap (λ (b : ℕ). take j path ++ b ∷ []) here)

pub above_of : (path : List ℕ) (k : ℕ) → k ≤ length path → ((i : ℕ) → k ≤ i → i < length path → slice_index path i ≢ 47)
    → ((k ≡ 0) ⊎ (slice_index path (k - 1) ≡ 47)) → IsAbove path (take k path)
above_of path k few plain place = record {
  name = drop k path;
  path_is = sym (take-append-drop k path);
  plain = name_is_plain path k few plain;
  place = above_ends path k few place;
}

pub beside_of : {path : List ℕ} (whole : List ℕ) {name : List ℕ} (beside : List ℕ) (k : ℕ) → whole ≡ path → k ≤ length whole
    → ((i : ℕ) → k ≤ i → i < length whole → slice_index whole i ≢ 47)
    → ((k ≡ 0) ⊎ (slice_index whole (k - 1) ≡ 47)) → name ≡ drop k whole → name ≢ unfinished → beside ≡ take k path ++ unfinished
    → IsBeside path beside
beside_of whole {name} beside k same few plain place is other put =
    subst (λ (p : List ℕ). beside ≡ take k p ++ unfinished → IsBeside p beside) same of put
  where
    of : beside ≡ take k whole ++ unfinished → IsBeside whole beside
    of made = record {
      above = take k whole;
      name = drop k whole;
      path_is = sym (take-append-drop k whole);
      beside_is = made;
      plain = name_is_plain whole k few plain;
      place = above_ends whole k few place;
      other = λ eq. other (is ∙ eq);
    }

-- ---- why a path gives no file's name

-- all from here on are slashes
ends_are_slashes : (path : List ℕ) (n : ℕ) → n ≤ length path → ((i : ℕ) → n ≤ i → i < length path → slice_index path i ≡ 47)
    → All (λ b. b ≡ 47) (drop n path)
ends_are_slashes path n few slashes = λ j d low. (
    let long = length-drop n path in
    let at : n + j < length path = omega (arith, low, long, few) in
    get_or-drop n path j d ∙ get_or_default_zero path (n + j) d at ∙ slashes (n + j) (omega arith) at)

is_zero : (m : ℕ) → true ≡ (m == 0) → m ≡ 0
is_zero m e = grind (arith, nat_tests)

-- what has no byte is empty
pub empty_is_none : (bytes : List ℕ) → true ≡ (length bytes == 0) → bytes ≡ []
empty_is_none [] is = refl
empty_is_none (b ∷ bytes) is =
    let none : suc (length bytes) ≡ 0 = is_zero (suc (length bytes)) is in
    absurd (omega (arith, none))

-- a beginning that is empty has no byte
pub none_taken : (path : List ℕ) (n : ℕ) → n ≤ length path → true ≡ (length (take n path) == 0) → n ≡ 0
none_taken path n few empty =
    let long = length-take-le n path few in
    let none : length (take n path) ≡ 0 = is_zero (length (take n path)) empty in
    omega (arith, long, none)

-- nothing else is there
pub all_slashes : (path : List ℕ) (n : ℕ) → n ≡ 0 → ((i : ℕ) → n ≤ i → i < length path → slice_index path i ≡ 47)
    → All (λ b. b ≡ 47) path
all_slashes path n none slashes = λ j d low.
    get_or_default_zero path j d low ∙ slashes j (omega (arith, none)) low

less : (a b : ℕ) → nat_lt a b ≡ true → a < b
less a b e = grind (arith, nat_tests)

abbrev last_of : (path name : List ℕ) (n k : ℕ) → name ≡ drop k (take n path) → n ≤ length path
    → ((i : ℕ) → n ≤ i → i < length path → slice_index path i ≡ 47) → k ≤ length (take n path)
    → ((i : ℕ) → k ≤ i → i < length (take n path) → slice_index (take n path) i ≢ 47)
    → ((k ≡ 0) ⊎ (slice_index (take n path) (k - 1) ≡ 47)) → IsLast path name
last_of path name n k is few slashes within plain place =
    let whole = take n path in
    let cut : whole ++ drop n path ≡ path = take-append-drop n path in
    let parts : take k whole ++ drop k whole ≡ whole = take-append-drop k whole in
    record {
      above = take k whole;
      slashes = drop n path;
      path_is = sym cut ∙ ap (λ (p : List ℕ). p ++ drop n path) (sym parts) ∙ append_assoc (take k whole) (drop k whole) (drop n path)
          ∙ ap (λ (p : List ℕ). take k whole ++ (p ++ drop n path)) (sym is);
      plain = subst (λ (p : List ℕ). All (λ b. b ≢ 47) p) (sym is) (name_is_plain whole k within plain);
      place = above_ends whole k within place;
      ends = ends_are_slashes path n few slashes;
    }

-- a last piece, or the slashes behind it, give no file's name
pub text_cause : (path : List ℕ) {name : List ℕ} (n k : ℕ) (fault : PutFault) → name ≡ drop k (take n path) → n ≤ length path
    → ((i : ℕ) → n ≤ i → i < length path → slice_index path i ≡ 47) → k ≤ length (take n path)
    → ((i : ℕ) → k ≤ i → i < length (take n path) → slice_index (take n path) i ≢ 47)
    → ((k ≡ 0) ⊎ (slice_index (take n path) (k - 1) ≡ 47)) → text_refusal path ≡ None
    → NamesNone name (nat_lt (length (take n path)) (length path)) fault → IsTextCause path fault
text_cause path {name} n k (why.Call error.Inval) is few slashes within plain place well dots =
    inr (well, (name, last_of path name n k is few slashes within plain place, dots))
text_cause path {name} n k (why.Call error.NotDir) is few slashes within plain place well ends =
    let shorter = less (length (take n path)) (length path) ends in
    let front = length-take-le n path few in
    let rest = length-drop n path in
    let behind : 0 < length (drop n path) = omega (arith, shorter, front, rest) in
    inr (well, (name, last_of path name n k is few slashes within plain place, behind))
text_cause path {name} n k why.Unfinished is few slashes within plain place well same =
    (well, subst (IsLast path) same (last_of path name n k is few slashes within plain place))
text_cause path n k fault is few slashes within plain place well none = absurd none
