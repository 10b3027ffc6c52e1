-- Names by their pattern, and the numbers that their digits spell.
use Rattle.std.proofs.Common.{◌≡◌, ◌≢◌, ◌<◌, ◌≤◌, ℕ, zero, suc, ◌+◌, ◌-◌, ◌*◌, Bool, true, false, List, [], ◌∷◌, refl, sym, ap, ◌∙◌}
use Rattle.std.proofs.Common.{length, drop, arith, add-one, drop-cons}
use Rattle.std.proofs.Common.{nat_le}
use Rattle.std.specs.Prelude.{◌&&◌, slice_index, codes}
use Rattle.std.proofs.lemmas.List.{drop_all}
use Rattle.std.proofs.lemmas.Bool.{false≢true}
use Rattle.std.proofs.lemmas.Bool.Decides.{nat_tests}
use Rattle.lfs_record.specs.Names.{fits, is_digit, is_like, is_name, number_of}

both : (a b : Bool) → a && b ≡ true → (a ≡ true) × (b ≡ true)
both true b is = (refl, is)
both false b is = absurd (false≢true is)

pub unlike_lengths : (pattern text : List ℕ) → length pattern ≢ length text → false ≡ fits pattern text
unlike_lengths [] [] other = absurd (other refl)
unlike_lengths [] (b ∷ text) other = refl
unlike_lengths (p ∷ pattern) [] other = refl
unlike_lengths (p ∷ pattern) (b ∷ text) other = rest (is_like p b) (unlike_lengths pattern text (λ same. other (ap suc same)))
  where
    rest : (x : Bool) → false ≡ fits pattern text → false ≡ x && fits pattern text
    rest true is = is
    rest false is = refl

pub same_lengths : (pattern text : List ℕ) → fits pattern text ≡ true → length text ≡ length pattern
same_lengths [] [] is = refl
same_lengths [] (b ∷ text) is = absurd (false≢true is)
same_lengths (p ∷ pattern) [] is = absurd (false≢true is)
same_lengths (p ∷ pattern) (b ∷ text) is = ap suc (same_lengths pattern text (both (is_like p b) _ is).1)

pub like_at : (pattern text : List ℕ) (i : ℕ) → fits pattern text ≡ true → i < length pattern
    → is_like (slice_index pattern i) (slice_index text i) ≡ true
like_at [] [] i is low = absurd (omega (arith, low))
like_at [] (b ∷ text) i is low = absurd (false≢true is)
like_at (p ∷ pattern) [] i is low = absurd (false≢true is)
like_at (p ∷ pattern) (b ∷ text) zero is low = (both (is_like p b) _ is).0
like_at (p ∷ pattern) (b ∷ text) (suc i) is low = like_at pattern text i (both (is_like p b) _ is).1 (omega (arith, low))

pub digit_bounds : (b : ℕ) → is_digit b ≡ true → (48 ≤ b) × (b ≤ 57)
digit_bounds b is = let p = both (nat_le 48 b) (nat_le b 57) is in (grind (arith, nat_tests, p.0), grind (arith, nat_tests, p.1))

abbrev pub name_pattern : List ℕ
name_pattern = codes "00000000-0000-00-00"

pub digit_in : (name : List ℕ) (i : ℕ) → is_name name ≡ true → i < 8 → is_digit (slice_index name i) ≡ true
digit_in name zero is low = like_at name_pattern name 0 is (omega arith)
digit_in name (suc zero) is low = like_at name_pattern name 1 is (omega arith)
digit_in name (suc (suc zero)) is low = like_at name_pattern name 2 is (omega arith)
digit_in name (suc (suc (suc zero))) is low = like_at name_pattern name 3 is (omega arith)
digit_in name (suc (suc (suc (suc zero)))) is low = like_at name_pattern name 4 is (omega arith)
digit_in name (suc (suc (suc (suc (suc zero))))) is low = like_at name_pattern name 5 is (omega arith)
digit_in name (suc (suc (suc (suc (suc (suc zero)))))) is low = like_at name_pattern name 6 is (omega arith)
digit_in name (suc (suc (suc (suc (suc (suc (suc zero))))))) is low = like_at name_pattern name 7 is (omega arith)
digit_in name (suc (suc (suc (suc (suc (suc (suc (suc i)))))))) is low = absurd (omega (arith, low))

abbrev d : List ℕ → ℕ → ℕ
d name i = slice_index name i - 48

pub number_is : (name : List ℕ) → 8 ≤ length name
    → number_of name ≡ 10000000 * d name 0 + 1000000 * d name 1 + 100000 * d name 2 + 10000 * d name 3 + 1000 * d name 4 + 100 * d name 5
    + 10 * d name 6 + d name 7
number_is (a ∷ b ∷ c ∷ e ∷ f ∷ g ∷ h ∷ i ∷ rest) long = omega arith
number_is [] long = absurd (omega (arith, long))
number_is (a ∷ []) long = absurd (omega (arith, long))
number_is (a ∷ b ∷ []) long = absurd (omega (arith, long))
number_is (a ∷ b ∷ c ∷ []) long = absurd (omega (arith, long))
number_is (a ∷ b ∷ c ∷ e ∷ []) long = absurd (omega (arith, long))
number_is (a ∷ b ∷ c ∷ e ∷ f ∷ []) long = absurd (omega (arith, long))
number_is (a ∷ b ∷ c ∷ e ∷ f ∷ g ∷ []) long = absurd (omega (arith, long))
number_is (a ∷ b ∷ c ∷ e ∷ f ∷ g ∷ h ∷ []) long = absurd (omega (arith, long))

-- the rest of a text is compared from a place on
fits_from : (pattern text : List ℕ) (i : ℕ) → i < length pattern → i < length text
    → fits (drop i pattern) (drop i text) ≡ is_like (slice_index pattern i) (slice_index text i) && fits (drop (i + 1) pattern) (drop
    (i + 1) text)
fits_from pattern text i low low' =
    ap (λ (l : List ℕ). fits l (drop i text)) (drop-cons pattern i 0 low)
    ∙ ap (λ (l : List ℕ). fits (slice_index pattern i ∷ drop (suc i) pattern) l) (drop-cons text i 0 low')
    ∙ ap (λ (j : ℕ). is_like (slice_index pattern i) (slice_index text i) && fits (drop j pattern) (drop j text)) (sym (add-one i))

pub unlike_at : (pattern text : List ℕ) (i : ℕ) {a b : ℕ} → i < length pattern → i < length text → a ≡ slice_index pattern i
    → b ≡ slice_index text i → is_like a b ≡ false → fits pattern text ≡ fits (drop i pattern) (drop i text) → false ≡ fits pattern text
unlike_at pattern text i {a} {b} low low' is is' unlike so =
    let here : is_like (slice_index pattern i) (slice_index text i) ≡ false = ap (λ (x : ℕ). is_like x (slice_index text i)) (sym is)
    ∙ ap (is_like a) (sym is') ∙ unlike in
    sym (so ∙ fits_from pattern text i low low' ∙ ap (λ (x : Bool). x && fits (drop (i + 1) pattern) (drop (i + 1) text)) here)

pub like_on : (pattern text : List ℕ) (i : ℕ) {a b : ℕ} → i < length pattern → i < length text → a ≡ slice_index pattern i
    → b ≡ slice_index text i → is_like a b ≡ true → fits pattern text ≡ fits (drop i pattern) (drop i text)
    → fits pattern text ≡ fits (drop (i + 1) pattern) (drop (i + 1) text)
like_on pattern text i {a} {b} low low' is is' like so =
    let here : is_like (slice_index pattern i) (slice_index text i) ≡ true = ap (λ (x : ℕ). is_like x (slice_index text i)) (sym is)
    ∙ ap (is_like a) (sym is') ∙ like in
    so ∙ fits_from pattern text i low low' ∙ ap (λ (x : Bool). x && fits (drop (i + 1) pattern) (drop (i + 1) text)) here

pub like_all : (pattern text : List ℕ) (i : ℕ) → length pattern ≡ length text → length pattern ≤ i
    → fits pattern text ≡ fits (drop i pattern) (drop i text) → true ≡ fits pattern text
like_all pattern text i same high so =
    sym (so ∙ ap (λ (l : List ℕ). fits l (drop i text)) (drop_all i pattern high)
    ∙ ap (fits []) (drop_all i text (omega (arith, same, high))))

-- what stands behind the ninth byte
pub day_is : (name : List ℕ) → is_name name ≡ true
    → slice_index name 9 ∷ slice_index name 10 ∷ slice_index name 11 ∷ slice_index name 12 ∷ slice_index name 13 ∷ slice_index name 14
    ∷ slice_index name 15 ∷ slice_index name 16 ∷ slice_index name 17 ∷ slice_index name 18 ∷ [] ≡ drop 9 name
day_is name named =
    let l : length name ≡ 19 = same_lengths name_pattern name named in
    let at : (i : ℕ) → i < 19 → drop i name ≡ slice_index name i ∷ drop (suc i) name = λ (i : ℕ) (low : i < 19). drop-cons name i 0
    (omega (arith, low, l)) in
    sym (at 9 (omega arith)
    ∙ ap (λ (x : List ℕ). slice_index name 9 ∷ x) (at 10 (omega arith)
    ∙ ap (λ (x : List ℕ). slice_index name 10 ∷ x) (at 11 (omega arith)
    ∙ ap (λ (x : List ℕ). slice_index name 11 ∷ x) (at 12 (omega arith)
    ∙ ap (λ (x : List ℕ). slice_index name 12 ∷ x) (at 13 (omega arith)
    ∙ ap (λ (x : List ℕ). slice_index name 13 ∷ x) (at 14 (omega arith)
    ∙ ap (λ (x : List ℕ). slice_index name 14 ∷ x) (at 15 (omega arith)
    ∙ ap (λ (x : List ℕ). slice_index name 15 ∷ x) (at 16 (omega arith)
    ∙ ap (λ (x : List ℕ). slice_index name 16 ∷ x) (at 17 (omega arith)
    ∙ ap (λ (x : List ℕ). slice_index name 17 ∷ x) (at 18 (omega arith)
    ∙ ap (λ (x : List ℕ). slice_index name 18 ∷ x) (drop_all 19 name (omega (arith, l)))))))))))))
